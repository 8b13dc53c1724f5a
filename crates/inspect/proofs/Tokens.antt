-- Checks of an entry's tokens, with more entries behind.
use Rattle.std.proofs.Common.{◌≡◌, ℕ, ◌+◌, true, List, ◌∷◌, Some, None}
use Rattle.inspect.specs.declared.fault.Refusal.{Refusal}
use Rattle.inspect.specs.declared.head.Head.{Head}
use Rattle.inspect.specs.Checks.{first, formula_checks, token_checks}
use Rattle.inspect.specs.Entries.{Placed, placed}
use Rattle.inspect.proofs.FirstOf.{first_append, first_append_some}

module _ (h : Head) (k at l a : ℕ) (ts : List ℕ) (fs : List Placed) where
  pub formula_passes : first (formula_checks h k at (at + 3) 0 ts) ≡ None → first (token_checks h (placed k at l a ts true ∷ fs)) ≡ first (token_checks h fs)
  formula_passes = first_append (formula_checks h k at (at + 3) 0 ts) (token_checks h fs)

  pub formula_fails : (r : Refusal) → first (formula_checks h k at (at + 3) 0 ts) ≡ Some r → first (token_checks h (placed k at l a ts true ∷ fs)) ≡ Some r
  formula_fails r = first_append_some (formula_checks h k at (at + 3) 0 ts) (token_checks h fs) r
