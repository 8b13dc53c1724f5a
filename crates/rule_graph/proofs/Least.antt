-- The number below a bound that passes a test and has the least measure of those that do. Assumes nothing.
use Rattle.std.proofs.Common.{◌≡◌, ℕ, zero, suc, ◌-◌, ◌<◌, ◌≤◌, Bool, true, false, cond, not, ◌&&◌, ◌||◌, ltb, ◌⊎◌, ap, subst, inl, inr, ⊎_elim, arith}
use Rattle.std.proofs.lemmas.Bool.{both_ways, cases_lt, cond_both, ltb-true, ltb-false, and_parts, and_cases, or_cases, or_parts, not-true, not-false}

-- n passes, and k does not or has more
abbrev better : (ℕ → Bool) → (ℕ → ℕ) → ℕ → ℕ → Bool
better f size n k = f n && (not (f k) || ltb (size n) (size k))

-- the last that was better; 0 if none passes
pub least : ℕ → (ℕ → Bool) → (ℕ → ℕ) → ℕ
least zero f size = 0
least (suc n) f size = let k : ℕ = least n f size in cond (better f size n k) n k

pub record Least (n : ℕ) (f : ℕ → Bool) (size : ℕ → ℕ) (i : ℕ) : Type 0 where
  pub below : least n f size < n
  pub passes : f (least n f size) ≡ true
  pub least : size (least n f size) ≤ size i

module _ (f : ℕ → Bool) (size : ℕ → ℕ) where
  under : (n : ℕ) → least n f size ≤ n - 1
  unfolding least
  under zero = omega arith
  under (suc n) = cond_both (better f size n (least n f size)) n (least n f size) (λ k. k ≤ suc n - 1) (λ _. omega arith) (λ _. omega (arith, under n))

  -- what is kept of n and of the k found before it
  grow : (n k i : ℕ) → (i < n → (f k ≡ true) × (size k ≤ size i)) → i < suc n → f i ≡ true → (f (cond (better f size n k) n k) ≡ true) × (size (cond (better f size n k) n k) ≤ size i)
  grow n k i before l p = cond_both (better f size n k) n k (λ j. (f j ≡ true) × (size j ≤ size i)) takes keeps
    where
      here : n ≤ i → i ≡ n
      here ge = omega arith

      takes : better f size n k ≡ true → (f n ≡ true) × (size n ≤ size i)
      takes e =
          let b = and_parts (f n) (not (f k) || ltb (size n) (size k)) e in
          (b.0, ⊎_elim (λ lt. ⊎_elim (λ none. absurd (both_ways _ (not-true _ none) (before lt).0)) (λ less. omega (arith, ltb-true _ _ less, (before lt).1)) (or_cases _ _ b.1)) (λ ge. omega (arith, ap size (here ge))) (cases_lt i n))

      keeps : better f size n k ≡ false → (f k ≡ true) × (size k ≤ size i)
      keeps e = ⊎_elim before (λ ge. now (here ge) (and_cases (f n) (not (f k) || ltb (size n) (size k)) e)) (cases_lt i n)
        where
          now : i ≡ n → (f n ≡ false) ⊎ ((not (f k) || ltb (size n) (size k)) ≡ false) → (f k ≡ true) × (size k ≤ size i)
          now same (inl no-pass) = absurd (both_ways _ no-pass (subst (λ j. f j ≡ true) same p))
          now same (inr worse) = let o = or_parts (not (f k)) (ltb (size n) (size k)) worse in (not-false _ o.0, omega (arith, ltb-false _ _ o.1, ap size same))

  pub least_of : (n i : ℕ) → i < n → f i ≡ true → Least n f size i
  unfolding least
  least_of zero i l p = absurd (omega arith)
  least_of (suc n) i l p =
      let g = grow n (least n f size) i (λ lt. let r = least_of n i lt p in (r.passes, r.least)) l p in
      record { below = omega (arith, under (suc n)); passes = g.0; least = g.1 }
