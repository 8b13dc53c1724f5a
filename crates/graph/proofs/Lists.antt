-- Members of lists: a list of distinct members is no longer, and a long enough row of members meets one twice. Assumes nothing.
use Rattle.std.proofs.Common.{◌≡◌, ℕ, zero, suc, ◌<◌, ◌≤◌, Bool, true, ◌⊎◌, List, [], ◌∷◌, length, sym, refl, ap, ◌∙◌, subst, inl, inr, ⊎_elim, arith}
use Rattle.std.specs.List.{AllByRecursion}
use Rattle.std.proofs.lemmas.Bool.{cases_lt}
use Rattle.graph.specs.Lists.{In, Distinct, Covered}

pub all_in : {S : Type 0} (P : S → Type 0) (xs : List S) (a : S) → AllByRecursion P xs → In a xs → P a
all_in P [] a ps i = elim i [ ]
all_in P (x ∷ xs) a ps (inl e) = subst P (sym e) ps.0
all_in P (x ∷ xs) a ps (inr i) = all_in P xs a ps.1 i

pub all_from_in : {S : Type 0} (P : S → Type 0) (xs : List S) → ((a : S) → In a xs → P a) → AllByRecursion P xs
all_from_in P [] h = tt
all_from_in P (x ∷ xs) h = (h x (inl refl), all_from_in P xs (λ a i. h a (inr i)))

-- what a is below
pub covering : {S : Type 0} (below : S → S → Bool) (xs : List S) (a : S) → Covered below xs a → (x : S) × In x xs × (below a x ≡ true)
covering below [] a h = elim h [ ]
covering below (x ∷ xs) a (inl e) = (x, inl refl, e)
covering below (x ∷ xs) a (inr h) = let r = covering below xs a h in (r.0, inr r.1, r.2)

pub covered_by : {S : Type 0} (below : S → S → Bool) (xs : List S) (a x : S) → In x xs → below a x ≡ true → Covered below xs a
covered_by below [] a x i e = elim i [ ]
covered_by below (y ∷ ys) a x (inl p) e = inl (subst (λ z. below a z ≡ true) p e)
covered_by below (y ∷ ys) a x (inr i) e = inr (covered_by below ys a x i e)

-- the list without the member at its place
without : {S : Type 0} (x : S) (xs : List S) → In x xs → List S
without x [] i = elim i [ ]
without x (y ∷ ys) (inl e) = ys
without x (y ∷ ys) (inr i) = y ∷ without x ys i

without_length : {S : Type 0} (x : S) (xs : List S) (i : In x xs) → suc (length (without x xs i)) ≡ length xs
unfolding without
without_length x [] i = elim i [ ]
without_length x (y ∷ ys) (inl e) = refl
without_length x (y ∷ ys) (inr i) = ap suc (without_length x ys i)

in_without : {S : Type 0} (x y : S) (xs : List S) (i : In x xs) → In y xs → (x ≡ y) ⊎ In y (without x xs i)
unfolding without
in_without x y [] i j = elim i [ ]
in_without x y (z ∷ zs) (inl e) (inl p) = inl (e ∙ sym p)
in_without x y (z ∷ zs) (inl e) (inr j) = inr j
in_without x y (z ∷ zs) (inr i) (inl p) = inr (inl p)
in_without x y (z ∷ zs) (inr i) (inr j) = ⊎_elim inl (λ k. inr (inr k)) (in_without x y zs i j)

pub distinct_length : {S : Type 0} (xs ys : List S) → Distinct xs → AllByRecursion (λ x. In x ys) xs → length xs ≤ length ys
distinct_length [] ys d h = omega arith
distinct_length (x ∷ xs) ys d h =
    let rest = all_from_in (λ y. In y (without x ys h.0)) xs (λ y i. ⊎_elim (λ e. absurd (d.0 (subst (λ z. In z xs) (sym e) i))) (λ j. j) (in_without x y ys h.0 (all_in (λ z. In z ys) xs y h.1 i))) in
    omega (arith, distinct_length xs (without x ys h.0) d.1 rest, without_length x ys h.0)

-- one of the first n has it, or all have the other
one_or_all : (A B : ℕ → Type 0) (n : ℕ) → ((i : ℕ) → i < n → A i ⊎ B i) → ((i : ℕ) × (i < n) × A i) ⊎ ((i : ℕ) → i < n → B i)
one_or_all A B zero h = inr (λ i l. absurd (omega arith))
one_or_all A B (suc n) h = go (one_or_all A B n (λ i l. h i (omega arith))) (h n (omega arith))
  where
    go : ((i : ℕ) × (i < n) × A i) ⊎ ((i : ℕ) → i < n → B i) → A n ⊎ B n → ((i : ℕ) × (i < suc n) × A i) ⊎ ((i : ℕ) → i < suc n → B i)
    go (inl one) last = inl (one.0, omega (arith, one.1), one.2)
    go (inr all) (inl here) = inl (n, omega arith, here)
    go (inr all) (inr here) = inr (λ i l. ⊎_elim (all i) (λ ge. let e : n ≡ i = omega arith in subst B e here) (cases_lt i n))

-- one of the first n + 1 comes again among them
abbrev pub Twice : {S : Type 0} → ℕ → (ℕ → S) → Type 0
Twice n f = (i : ℕ) × (j : ℕ) × (i < j) × (j ≤ n) × (f i ≡ f j)

pub twice : {S : Type 0} (n : ℕ) (xs : List S) (f : ℕ → S) → length xs ≤ n → ((i : ℕ) → i ≤ n → In (f i) xs) → Twice n f
twice zero [] f l h = elim (h 0 (omega arith)) [ ]
twice zero (x ∷ xs) f l h = absurd (omega arith)
twice (suc n) xs f l h =
    let i : In (f 0) xs = h 0 (omega arith) in
    let ys = without (f 0) xs i in
    let short : length ys ≤ n = omega (arith, without_length (f 0) xs i) in
    ⊎_elim (λ r. (0, suc r.0, omega arith, omega (arith, r.1), r.2)) (λ all. let r = twice n ys (λ k. f (suc k)) short (λ k le. all k (omega arith)) in (suc r.0, suc r.1, omega arith, omega arith, r.4))
    (one_or_all (λ k. f 0 ≡ f (suc k)) (λ k. In (f (suc k)) ys) (suc n) (λ k lt. in_without (f 0) (f (suc k)) xs i (h (suc k) (omega arith))))
