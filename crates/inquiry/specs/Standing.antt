-- The number of each standing in the order in which they are named, its name, and those that may still go on. Assumes nothing.
use Rattle.std.specs.Prelude.{ℕ, Bool, true, false, List, codes}
use Rattle.inquiry.specs.declared.standing.Standing.{Standing}
use Rattle.inquiry.specs.declared.standing.Standing.TheVariants.{Running, Possible, Impossible, Full, Spent}

abbrev pub standing_number : Standing → ℕ
standing_number Running = 0
standing_number Possible = 1
standing_number Impossible = 2
standing_number Full = 3
standing_number Spent = 4

-- as it is printed
abbrev pub standing_name : Standing → List ℕ
standing_name Running = codes "running"
standing_name Possible = codes "possible"
standing_name Impossible = codes "impossible"
standing_name Full = codes "full"
standing_name Spent = codes "spent"

abbrev pub running : Standing → Bool
running Running = true
running Possible = false
running Impossible = false
running Full = false
running Spent = false

abbrev pub full : Standing → Bool
full Running = false
full Possible = false
full Impossible = false
full Full = true
full Spent = false

-- running, or full until it is widened
abbrev pub going : Standing → Bool
going Running = true
going Possible = false
going Impossible = false
going Full = true
going Spent = false
