-- The weighted sum of a block's bytes, a turn at a time, and how large it gets.
use Rattle.std.proofs.Common.{◌≡◌, ℕ, suc, ◌+◌, ◌*◌, ◌<◌, ◌≤◌, List, length, get_or, take, drop, ap, ◌∙◌, add-one, arith, length-take, w8, Fits}
use Rattle.std.proofs.lemmas.Nat.{mul-le}
use Rattle.std.proofs.lemmas.List.{get_or-take, at_drop_more}
use Rattle.inspect.specs.Format.{weighted}

-- ys are the bytes before the check of the block xs
module _ (xs ys : List ℕ) (i : ℕ) (front : ys ≡ take 510 xs) (bytes : (j : ℕ) → Fits w8 (get_or xs j 0)) (inside : i < length ys) where
  pub early : i < 510
  early = omega (arith, ap length front, length-take 510 xs)

  pub small : get_or ys i 0 ≤ 255
  small = omega (arith, ap (λ l. get_or l i 0) front ∙ get_or-take 510 xs i 0 early, bytes i)

  pub product : (i + 1) * get_or ys i 0 ≤ 130050
  product = omega (arith, mul-le (i + 1) (get_or ys i 0) 510 255 (omega (arith, early)) small)

  pub more : (sum : ℕ) → sum + weighted i (drop i ys) ≡ weighted 0 ys → (sum + (i + 1) * get_or ys i 0) + weighted (i + 1) (drop (i + 1) ys) ≡ weighted 0 ys
  more sum so =
      let step : weighted i (drop i ys) ≡ suc i * get_or ys i 0 + weighted (suc i) (drop (i + 1) ys) = at_drop_more (weighted i) ys i 0 inside in
      rw add-one (omega (arith, so, rw add-one at step))
