-- The members of a set, in words. Assumes nothing.
use Rattle.std.specs.Prelude.{ℕ, List, [], ◌∷◌, codes, decimal}
use Rattle.std.specs.List.{join_by}
use Rattle.formula.specs.Unions.{members}

-- the locations, with single spaces between
abbrev pub spaced : List ℕ → List ℕ
spaced ls = join_by decimal (codes " ") ls

abbrev pub or_none : List ℕ → List ℕ
or_none [] = codes "none"
or_none (l ∷ ls) = spaced (l ∷ ls)

-- the members of a set below n, rising, or `none`
abbrev pub set_words : ℕ → ℕ → List ℕ
set_words n mask = or_none (members n mask)
