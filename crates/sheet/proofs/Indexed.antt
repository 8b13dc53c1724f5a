-- Lists read by the numbers of their elements: mapped and compared.
use Rattle.std.proofs.Common.{◌≡◌, ℕ, zero, suc, ◌+◌, ◌<◌, Bool, true, false, ◌&&◌, List, [], ◌∷◌, map, length, get_or, sym, refl, ap, ap₂, ◌∙◌, subst, arith}
use Rattle.std.specs.Bool.{MatchBool}
use Rattle.std.specs.Cmp.Lexicographic.{pointwise}
use Rattle.std.specs.List.{range_with_len, AllWithin, HoldsAt}
use Rattle.std.proofs.lemmas.List.FromFn.{length-range_with_len, get_or-range_with_len}

from_zero : (k : ℕ) → 0 + k ≡ k
from_zero k = omega arith

map_from : {X Y : Type 0} (f : X → Y) (read : ℕ → X) (d : X) (a : ℕ) (xs : List X) → ((i : ℕ) → i < length xs → read (a + i) ≡ get_or xs i d) → map (λ i. f (read i)) (range_with_len a (length xs)) ≡ map f xs
map_from f read d a [] reads = refl
map_from f read d a (x ∷ xs) reads =
    let here : a + 0 ≡ a = omega arith in
    let on : (i : ℕ) → i < length xs → read (a + 1 + i) ≡ get_or xs i d =
    λ i inside. let next : a + 1 + i ≡ a + suc i = omega arith in ap read next ∙ reads (suc i) (omega arith) in
    ap₂ (λ y ys. y ∷ ys) (ap (λ j. f (read j)) (sym here) ∙ ap f (reads 0 (omega arith))) (map_from f read d (a + 1) xs on)

pub map_read : {X Y : Type 0} (f : X → Y) (d : X) (xs : List X) → map (λ i. f (get_or xs i d)) (range_with_len 0 (length xs)) ≡ map f xs
map_read f d xs = map_from f (λ i. get_or xs i d) d 0 xs (λ i inside. ap (λ j. get_or xs j d) (from_zero i))

module _ {X : Type 0} (E : X → X → Bool) (d : X) where
  pub all_alike : (xs ys : List X) → length xs ≡ length ys → ((k : ℕ) → k < length xs → E (get_or xs k d) (get_or ys k d) ≡ true) → pointwise E xs ys ≡ true
  all_alike [] [] long alike = refl
  all_alike [] (y ∷ ys) long alike = absurd (omega arith)
  all_alike (x ∷ xs) [] long alike = absurd (omega arith)
  all_alike (x ∷ xs) (y ∷ ys) long alike = ap₂ (λ a b. a && b) (alike 0 (omega arith)) (all_alike xs ys (omega arith) (λ k inside. alike (suc k) (omega arith)))

  pub one_unlike : (xs ys : List X) (k : ℕ) → k < length xs → k < length ys → E (get_or xs k d) (get_or ys k d) ≡ false → pointwise E xs ys ≡ false
  one_unlike [] ys k inside also unlike = absurd (omega arith)
  one_unlike (x ∷ xs) [] k inside also unlike = absurd (omega arith)
  one_unlike (x ∷ xs) (y ∷ ys) zero inside also unlike = ap (λ a. a && pointwise E xs ys) unlike
  one_unlike (x ∷ xs) (y ∷ ys) (suc k) inside also unlike = ap (λ b. E x y && b) (one_unlike xs ys k (omega arith) (omega arith) unlike) ∙ and_no (E x y)
    where
      and_no : (a : Bool) → a && false ≡ false
      and_no true = refl
      and_no false = refl

  -- what a run over the numbers tells
  pub told : (xs ys : List X) (r : Bool) → length xs ≡ length ys → MatchBool r (AllWithin (λ k. E (get_or xs k d) (get_or ys k d) ≡ true) (range_with_len 0 (length xs)) 0 (length (range_with_len 0 (length xs)))) ((k : ℕ) × (k < length (range_with_len 0 (length xs))) × HoldsAt (λ k. E (get_or xs k d) (get_or ys k d) ≡ false) (range_with_len 0 (length xs)) k) → r ≡ pointwise E xs ys
  told xs ys true long alike =
      let n = length xs in
      sym (all_alike xs ys long (λ k inside. subst (λ j. E (get_or xs j d) (get_or ys j d) ≡ true) (get_or-range_with_len 0 n k 0 inside ∙ from_zero k) (alike k 0 (omega arith) (omega (arith, length-range_with_len 0 n)))))
  told xs ys false long (k, inside, unlike) =
      let n = length xs in
      let here : k < n = omega (arith, inside, length-range_with_len 0 n) in
      sym (one_unlike xs ys k here (omega (arith, here, long)) (subst (λ j. E (get_or xs j d) (get_or ys j d) ≡ false) (get_or-range_with_len 0 n k 0 here ∙ from_zero k) (unlike 0)))
