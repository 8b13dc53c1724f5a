-- The numbers from a on, n of them: which they are, and that each stands once. Assumes nothing.
use Rattle.std.proofs.Common.{◌≡◌, ℕ, zero, suc, ◌+◌, ◌<◌, ◌≤◌, sym, inl, inr, ⊎_elim, arith}
use Rattle.std.specs.List.{range_with_len}
use Rattle.std.proofs.lemmas.Bool.{cases_eq}
use Rattle.graph.specs.Lists.{In, Distinct}

pub in_counting : (a n x : ℕ) → In x (range_with_len a n) → (a ≤ x) × (x < a + n)
in_counting a zero x i = elim i [ ]
in_counting a (suc n) x (inl e) = (omega arith, omega arith)
in_counting a (suc n) x (inr i) = let r = in_counting (a + 1) n x i in (omega arith, omega arith)

pub counting_in : (a n x : ℕ) → a ≤ x → x < a + n → In x (range_with_len a n)
counting_in a zero x l u = absurd (omega arith)
counting_in a (suc n) x l u = ⊎_elim (λ e. inl (sym e)) (λ ne. inr (counting_in (a + 1) n x (above ne) (omega arith))) (cases_eq a x)
  where
    above : (a ≡ x → ⊥) → a + 1 ≤ x
    above ne = omega arith

pub counting_once : (a n : ℕ) → Distinct (range_with_len a n)
counting_once a zero = tt
counting_once a (suc n) = (λ i. let r = in_counting (a + 1) n a i in omega arith, counting_once (a + 1) n)
