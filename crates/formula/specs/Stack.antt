-- The values that wait, as the low bits of a number, newest lowest. Assumes nothing.
use Rattle.std.specs.Prelude.{◌≡◌, ℕ, zero, suc, ◌/◌, ◌%◌, Bool, List, [], ◌∷◌, Some, None, Option, MatchOption, ◌==◌}

abbrev pub values : ℕ → ℕ → List Bool
values zero bits = []
values (suc count) bits = (bits % 2 == 1) ∷ values count (bits / 2)

-- r is nothing where nothing is due, and else what is due waits in it
abbrev pub Waits : {S : Type 0} → Option S → (S → List Bool) → Option (List Bool) → Type 0
Waits r held due = MatchOption r (due ≡ None) (λ s. due ≡ Some (held s))
