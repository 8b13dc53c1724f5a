-- The parts that wait while tokens are read, newest first, each as its text and whether it is joined. Assumes nothing.
use Rattle.std.specs.Prelude.{ℕ, Bool, true, false, List, [], ◌∷◌, ◌++◌, map, reverse, string_bytes, codes, decimal}
use Rattle.formula.specs.declared.token.Token.{Token}
use Rattle.formula.specs.declared.token.Token.TheVariants.{Location, True, False, And, Or}
use Rattle.words.specs.declared.infix.Part.{Part}
use Rattle.words.specs.declared.infix.Part.TheVariants.{Single, Joined}
use Rattle.words.specs.Infix.{inside}

abbrev pub Shown : Type 0
Shown = List ℕ × Bool

abbrev pub shown : Part → Shown
shown (Single s) = (string_bytes s, false)
shown (Joined s) = (string_bytes s, true)

abbrev pub waiting : List Part → List Shown
waiting ps = reverse (map shown ps)

abbrev pub join : List ℕ → Shown → Shown → Shown
join c x y = (inside x.1 x.0 ++ (codes " " ++ (c ++ (codes " " ++ inside y.1 y.0))), true)

-- the two newest parts joined: too few are lost
abbrev pub newest_joined : List ℕ → List Shown → List Shown
newest_joined c [] = []
newest_joined c (y ∷ []) = []
newest_joined c (y ∷ x ∷ ps) = join c x y ∷ ps

abbrev pub read_part : Token → List Shown → List Shown
read_part (Location l) ps = (decimal l, false) ∷ ps
read_part True ps = (codes "true", false) ∷ ps
read_part False ps = (codes "false", false) ∷ ps
read_part And ps = newest_joined (codes "and") ps
read_part Or ps = newest_joined (codes "or") ps

abbrev pub read_parts : List Token → List Shown → List Shown
read_parts [] ps = ps
read_parts (t ∷ ts) ps = read_parts ts (read_part t ps)
