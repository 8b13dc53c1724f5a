-- Operations on words meet the sets that they stand for, and a rule's content is sound. Assumes nothing.
use Rattle.std.specs.Prelude.{◌≡◌, ℕ, suc, ◌-◌, ◌*◌, ◌%◌, ◌^◌, ◌<◌, ◌≤◌, Bool, true, false, cond, not, ◌&&◌, ◌||◌, bit_and, bit_or}
use Rattle.std.proofs.Common.{refl, sym, ap, ap₂, subst, ◌∙◌, arith, pow_pos, pow_mono}
use Rattle.std.proofs.lemmas.Nat.{and_le_l, and_le_r, or_lt, or_comm, one_shl}
use Rattle.std.proofs.Math.Bool.{and-true}
use Rattle.std.proofs.lemmas.Bool.{lt-ltb}
use Rattle.formula.specs.Sets.{has}
use Rattle.formula.proofs.Sets.{has_zero, has_or, has_and, has_flip, has_not, same_members}
use Rattle.inspect.specs.Denotes.{Content}
use Rattle.layout.specs.Valid.{Valid}
use Rattle.layout.proofs.Valids.{test_valid}
use Rattle.sheet.specs.Rules.{Rule, rule_content, formula_of}
use Rattle.sheet.proofs.Satisfied.{holds_monotone}
use Rattle.rule_graph.specs.Alternating.{Alternating, Sound, alternating}
use Rattle.rule_graph.specs.RuleGraph.{those, pair, all, unsettled, settling}
use Rattle.rule_graph.specs.Sets.{those_small, has_those, those_in}

pub valid : (r : Rule) → Valid (rule_content r)
valid r = test_valid (rule_content r) r.valid

pub content_sound : (c : Content) → Valid c → Sound (alternating c)
content_sound c v =
    record {
      some_letter = v.fields.some_letter;
      few_letters = v.fields.letters;
      initial = v.fields.initial;
      accepting = v.accepting;
      monotone = λ x l s larger w h. holds_monotone (formula_of c l x) s larger w h;
    }

-- a mask with the right members is the comprehension
pub those_is : (n s : ℕ) (f : ℕ → Bool) → s < 2 ^ n → ((i : ℕ) → i < n → has s i ≡ f i) → s ≡ those n f
those_is n s f small members = same_members n s (those n f) small (those_small n f) (λ i l. members i l ∙ sym (has_those n f i ∙ ap (λ b. b && f i) (lt-ltb i n l)))

pub all_ones : (n : ℕ) → 2 ^ n - 1 ≡ those n (λ _. true)
all_ones n =
    let e : 2 ^ n - 1 - 0 ≡ 2 ^ n - 1 = omega arith in
    those_is n (2 ^ n - 1) (λ _. true) (omega (arith, pow_pos n)) (λ i l. ap (λ s. has s i) (sym e) ∙ has_flip n 0 i (pow_pos n) l ∙ ap not (has_zero i))

module _ (r : Alternating) (few : r.locations ≤ 32) (accepting : r.accepting < 2 ^ r.locations) where
  narrow : r.accepting < 2 ^ 32
  narrow = omega (arith, accepting, pow_mono few)

  pub unsettled_word : (s : ℕ) → s < 2 ^ r.locations → bit_and s (4294967295 - r.accepting) ≡ unsettled r s
  unsettled_word s small =
      those_is r.locations (bit_and s (4294967295 - r.accepting)) (λ l. has s l && not (has r.accepting l)) (omega (arith, and_le_l s (4294967295 - r.accepting)))
      (λ i l. has_and s (4294967295 - r.accepting) i ∙ ap (λ b. has s i && b) (has_not r.accepting i narrow (omega arith)))

  -- of any mask, without the bits past the locations
  pub known_unsettled_word : (s : ℕ) → bit_and (bit_and s (all r)) (4294967295 - r.accepting) ≡ unsettled r s
  known_unsettled_word s =
      let known = bit_and s (all r) in
      those_is r.locations (bit_and known (4294967295 - r.accepting)) (λ l. has s l && not (has r.accepting l))
      (omega (arith, and_le_l known (4294967295 - r.accepting), and_le_r s (all r), those_small r.locations (λ _. true)))
      (λ i l. has_and known (4294967295 - r.accepting) i ∙ ap₂ (λ a b. a && b) (has_and s (all r) i ∙ ap (λ b. has s i && b) (those_in r.locations (λ _. true) i l refl) ∙ and-true (has s i)) (has_not r.accepting i narrow (omega arith)))

pub settling_word : (r : Alternating) (held owed : ℕ) → held < 2 ^ r.locations → owed < 2 ^ r.locations → bit_or owed (bit_and held r.accepting) ≡ settling r (pair held owed)
settling_word r held owed h o =
    those_is r.locations (bit_or owed (bit_and held r.accepting)) (λ l. has owed l || (has held l && has r.accepting l)) (or_lt r.locations owed (bit_and held r.accepting) o (omega (arith, and_le_l held r.accepting)))
    (λ i l. has_or owed (bit_and held r.accepting) i ∙ ap (λ b. has owed i || b) (has_and held r.accepting i))

-- one location more
pub those_more : (n : ℕ) (f : ℕ → Bool) → n < 32 → f n ≡ true → bit_or (those n f) ((1 * 2 ^ n) % 2 ^ 32) ≡ those (suc n) f
unfolding those
those_more n f l h = ap (bit_or (those n f)) (one_shl n 32 l) ∙ or_comm (those n f) (2 ^ n) ∙ ap (λ b. bit_or (cond b (2 ^ n) 0) (those n f)) (sym h)

pub those_less : (n : ℕ) (f : ℕ → Bool) → f n ≡ false → those n f ≡ those (suc n) f
unfolding those
those_less n f h = ap (λ b. bit_or (cond b (2 ^ n) 0) (those n f)) (sym h)

pub all_below : (c : Content) (s : ℕ) → s ≡ all (alternating c) → s < 2 ^ c.head.locations
all_below c s e = subst (λ k. k < 2 ^ c.head.locations) (sym e) (those_small c.head.locations (λ _. true))
