-- Which token strings spell a formula: how many values wait as they are read. Assumes nothing.
use Rattle.std.specs.Prelude.{ℕ, suc, pred, Bool, ◌&&◌, List, [], ◌∷◌, ◌==◌, nat_lt}
use Rattle.formula.specs.declared.token.Token.{Token}
use Rattle.formula.specs.declared.token.Token.TheVariants.{Location, True, False, And, Or}

-- a value needs a place among 32, a connective needs two waiting values
abbrev pub room : Token → ℕ → Bool
room (Location l) w = nat_lt w 32
room True w = nat_lt w 32
room False w = nat_lt w 32
room And w = nat_lt 1 w
room Or w = nat_lt 1 w

-- how many wait after a token
abbrev pub moved : Token → ℕ → ℕ
moved (Location l) w = suc w
moved True w = suc w
moved False w = suc w
moved And w = pred w
moved Or w = pred w

-- with w values waiting, the tokens can be read, and one value is left
abbrev pub shaped : ℕ → List Token → Bool
shaped w [] = w == 1
shaped w (t ∷ ts) = room t w && shaped (moved t w) ts
