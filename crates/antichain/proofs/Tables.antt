-- A table from which nothing goes. Assumes nothing.
use Rattle.std.proofs.Common.{◌≡◌, ℕ, suc, ◌≤◌, Bool, List, [], ◌∷◌, length, filter, sym, refl, ap, ◌∙◌, arith}
use Rattle.std.proofs.lemmas.List.Filters.{FiltersInPlace, FiltersInPlace-all}
use Rattle.std.proofs.lemmas.List.{take_all}
use Rattle.std.proofs.lemmas.Bool.{cond_both}

module _ {S : Type 0} (p : S → Bool) where
  kept_short : (xs : List S) → length (filter p xs) ≤ length xs
  kept_short [] = omega arith
  kept_short (x ∷ xs) = cond_both (p x) (x ∷ filter p xs) (filter p xs) (λ l. length l ≤ suc (length xs)) (λ e. omega (arith, kept_short xs)) (λ e. omega (arith, kept_short xs))

  -- where as many stay as were held, all stay
  pub kept_all : (xs : List S) → length xs ≤ length (filter p xs) → filter p xs ≡ xs
  kept_all [] h = refl
  kept_all (x ∷ xs) h =
      cond_both (p x) (x ∷ filter p xs) (filter p xs) (λ l. suc (length xs) ≤ length l → l ≡ x ∷ xs) (λ e k. ap (λ l. x ∷ l) (kept_all xs (omega arith))) (λ e k. absurd (omega (arith, kept_short xs))) h

  -- where as many stay in front as there are places, nothing has changed
  pub keeping_whole : (xs ys : List S) (k i : ℕ) → FiltersInPlace p xs ys k i → length xs ≤ i → length xs ≤ k → ys ≡ xs
  keeping_whole xs ys k i q all full =
      let whole : ys ≡ filter p xs = sym (take_all k ys (omega (arith, q.long))) ∙ FiltersInPlace-all q all in
      whole ∙ kept_all xs (omega (arith, ap length whole, q.long))
