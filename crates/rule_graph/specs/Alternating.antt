-- An alternating automaton as its runs need it, and the one that a rule sheet's content is. Assumes nothing.
use Rattle.std.specs.Prelude.{◌≡◌, ℕ, ◌^◌, ◌<◌, ◌≤◌, Bool, true}
use Rattle.formula.specs.Sets.{Within}
use Rattle.inspect.specs.Denotes.{Content}
use Rattle.sheet.specs.Rules.{formula_of, holds}

pub record Alternating : Type 0 where
  pub locations : ℕ
  pub letters : ℕ
  pub initial : ℕ
  -- a mask
  pub accepting : ℕ
  -- whether, under a letter, a location's formula is satisfied by a set
  pub satisfies : ℕ → ℕ → ℕ → Bool

pub record Sound (r : Alternating) : Type 0 where
  pub some_letter : 1 ≤ r.letters
  pub few_letters : r.letters ≤ 8
  pub initial : r.initial < r.locations
  pub accepting : r.accepting < 2 ^ r.locations
  -- a larger set satisfies what a smaller one does
  pub monotone : (x l s larger : ℕ) → Within s larger → r.satisfies x l s ≡ true → r.satisfies x l larger ≡ true

abbrev pub alternating : Content → Alternating
alternating c =
    record { locations = c.head.locations; letters = c.head.letters; initial = c.head.initial; accepting = c.head.accepting; satisfies = λ x l s. holds (formula_of c l x) s }
