-- Sets of locations as masks: location i is a member if bit i is one. Assumes nothing.
use Rattle.std.specs.Prelude.{◌≡◌, ℕ, ◌/◌, ◌%◌, ◌^◌, Bool, true, ◌==◌}

abbrev pub has : ℕ → ℕ → Bool
has mask i = mask / 2 ^ i % 2 == 1

-- each member of the first set is one of the second
abbrev pub Within : ℕ → ℕ → Type 0
Within small large = (i : ℕ) → has small i ≡ true → has large i ≡ true
