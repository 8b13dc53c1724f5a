-- Formulas that are an or of locations, as a model has them: the set that they name, and the rising spelling of a set.
-- Assumes nothing.
use Rattle.std.specs.Prelude.{ℕ, ◌^◌, ◌<◌, Bool, true, false, List, [], ◌∷◌, filter, bit_or}
use Rattle.std.specs.List.{range_with_len}
use Rattle.formula.specs.declared.token.Token.{Token}
use Rattle.formula.specs.declared.token.Token.TheVariants.{Location, True, False, And, Or}
use Rattle.formula.specs.Sets.{has}

-- the set of the locations that the tokens name
abbrev pub named : List Token → ℕ
named [] = 0
named (Location l ∷ ts) = bit_or (2 ^ l) (named ts)
named (True ∷ ts) = named ts
named (False ∷ ts) = named ts
named (And ∷ ts) = named ts
named (Or ∷ ts) = named ts

-- a location is below n, and any other token may stand
abbrev pub Below : ℕ → Token → Type 0
Below n (Location l) = l < n
Below n True = Unit {0}
Below n False = Unit {0}
Below n And = Unit {0}
Below n Or = Unit {0}

-- the tokens that an or of locations may have
abbrev pub InUnion : Token → Type 0
InUnion (Location l) = Unit {0}
InUnion True = ⊥
InUnion False = Unit {0}
InUnion And = ⊥
InUnion Or = Unit {0}

-- the members of a set below n, rising
abbrev pub members : ℕ → ℕ → List ℕ
members n mask = filter (has mask) (range_with_len 0 n)

abbrev pub ors : List ℕ → List Token
ors [] = []
ors (l ∷ ls) = Location l ∷ Or ∷ ors ls

-- locations joined by or: each after the first is followed by its connective
abbrev pub listed : List ℕ → List Token
listed [] = []
listed (l ∷ ls) = Location l ∷ ors ls

-- the spelling of a set: no tokens for the empty one
abbrev pub spelling : ℕ → ℕ → List Token
spelling n mask = listed (members n mask)

-- nothing is listed yet
abbrev pub isNil : {X : Type 0} → List X → Bool
isNil [] = true
isNil (x ∷ xs) = false
