-- Sets as masks by their members: comprehension, inclusion, emptiness. Assumes nothing.
use Rattle.std.specs.Prelude.{◌≡◌, ℕ, zero, suc, ◌^◌, ◌<◌, ◌≤◌, Bool, true, false, cond, ◌&&◌, ◌||◌, ◌⊎◌, ◌==◌, ◌≢◌, bit_and, nat_lt, refl}
use Rattle.std.proofs.Common.{inl, inr, ⊎_elim, sym, ap, ap₂, subst, ◌∙◌, pow-suc, arith, pow_pos}
use Rattle.std.proofs.lemmas.Nat.{and_le_r, or_lt}
use Rattle.std.proofs.lemmas.Bool.{both_ways, cases_lt, cases_Bool, cond_both, lt-ltb, ltb-true, eqb-true, eq-eqb, and_parts, and_from}
use Rattle.std.proofs.lemmas.Bool.Decides.{nat_tests}
use Rattle.formula.specs.Sets.{has, Within}
use Rattle.formula.proofs.Sets.{has_zero, has_or, has_and, has_pow, has_past, same_sets}
use Rattle.rule_graph.specs.RuleGraph.{those, part}

pub those_small : (n : ℕ) (f : ℕ → Bool) → those n f < 2 ^ n
unfolding those
those_small zero f = omega arith
those_small (suc n) f =
    or_lt (suc n) (cond (f n) (2 ^ n) 0) (those n f) (cond_both (f n) (2 ^ n) 0 (λ x. x < 2 ^ suc n) (λ _. omega (arith, pow_pos n, pow-suc 2 n)) (λ _. omega (arith, pow_pos n, pow-suc 2 n)))
    (omega (arith, those_small n f, pow_pos n, pow-suc 2 n))

-- the member that is put in, or nothing
has_put : (b : Bool) (n i : ℕ) → has (cond b (2 ^ n) 0) i ≡ (b && i == n)
has_put true n i = has_pow n i
has_put false n i = has_zero i

one_more : (f : ℕ → Bool) (n i : ℕ) → ((f n && i == n) || (nat_lt i n && f i)) ≡ (nat_lt i (suc n) && f i)
one_more f n i = grind (arith, nat_tests)

pub has_those : (n : ℕ) (f : ℕ → Bool) (i : ℕ) → has (those n f) i ≡ (nat_lt i n && f i)
unfolding those
has_those zero f i = has_zero i ∙ grind (arith, nat_tests)
has_those (suc n) f i =
    has_or (cond (f n) (2 ^ n) 0) (those n f) i ∙ ap₂ (λ a b. a || b) (has_put (f n) n i) (has_those n f i) ∙ one_more f n i

pub in_those : (n : ℕ) (f : ℕ → Bool) (i : ℕ) → has (those n f) i ≡ true → (i < n) × (f i ≡ true)
in_those n f i h = let r = and_parts (nat_lt i n) (f i) (sym (has_those n f i) ∙ h) in (ltb-true i n r.0, r.1)

pub those_in : (n : ℕ) (f : ℕ → Bool) (i : ℕ) → i < n → f i ≡ true → has (those n f) i ≡ true
those_in n f i l h = has_those n f i ∙ and_from (nat_lt i n) (f i) (lt-ltb i n l) h

-- a member of a set of n is below n
pub in_small : (n s i : ℕ) → s < 2 ^ n → has s i ≡ true → i < n
in_small n s i small h = ⊎_elim (λ l. l) (λ past. absurd (both_ways _ (has_past s n i small past) h)) (cases_lt i n)

same_truth : (a b : Bool) → (a ≡ true → b ≡ true) → (b ≡ true → a ≡ true) → a ≡ b
same_truth true b p q = sym (p refl)
same_truth false true p q = q refl
same_truth false false p q = refl

pub same_set : (a b : ℕ) → Within a b → Within b a → a ≡ b
same_set a b p q = same_sets a b (λ i. same_truth (has a i) (has b i) (p i) (q i))

pub part_within : (a b : ℕ) → part a b ≡ true → Within a b
part_within a b h i e =
    let is : bit_and a b ≡ a = eqb-true (bit_and a b) a h in
    (and_parts (has a i) (has b i) (sym (has_and a b i) ∙ ap (λ s. has s i) is ∙ e)).1

-- a part is no larger as a number
pub part_le : (a b : ℕ) → part a b ≡ true → a ≤ b
part_le a b h = omega (arith, and_le_r a b, eqb-true (bit_and a b) a h)

pub within_part : (a b : ℕ) → Within a b → part a b ≡ true
within_part a b w = eq-eqb (bit_and a b) a (same_set (bit_and a b) a (λ i e. (and_parts (has a i) (has b i) (sym (has_and a b i) ∙ e)).0) (λ i e. has_and a b i ∙ and_from (has a i) (has b i) e (w i e)))

-- a set has a member, or it is empty
pub some_or_none : (n s : ℕ) → s < 2 ^ n → ((i : ℕ) × (has s i ≡ true)) ⊎ (s ≡ 0)
some_or_none n s small = ⊎_elim inl (λ none. inr (same_set s 0 (λ i e. absurd (both_ways _ (none i (in_small n s i small e)) e)) (λ i e. absurd (both_ways _ (has_zero i) e)))) (search_below n)
  where
    grow : (k : ℕ) → ((i : ℕ) × (has s i ≡ true)) ⊎ ((i : ℕ) → i < k → has s i ≡ false) → (has s k ≡ true) ⊎ (has s k ≡ false) → ((i : ℕ) × (has s i ≡ true)) ⊎ ((i : ℕ) → i < suc k → has s i ≡ false)
    grow k (inl some) here = inl some
    grow k (inr none) (inl here) = inl (k, here)
    grow k (inr none) (inr here) = inr (λ i l. ⊎_elim (none i) (λ ge. let e : k ≡ i = omega arith in subst (λ j. has s j ≡ false) e here) (cases_lt i k))

    search_below : (k : ℕ) → ((i : ℕ) × (has s i ≡ true)) ⊎ ((i : ℕ) → i < k → has s i ≡ false)
    search_below zero = inr (λ i l. absurd (omega arith))
    search_below (suc k) = grow k (search_below k) (cases_Bool (has s k))

pub member_some : (s i : ℕ) → has s i ≡ true → s ≢ 0
member_some s i h e = both_ways _ (has_zero i) (subst (λ x. has x i ≡ true) e h)
