-- Where entries lie in a block. Assumes nothing.
use Rattle.std.specs.Prelude.{ℕ, zero, suc, ◌+◌, Bool, true, false, cond, List, [], ◌∷◌, ◌++◌, length, take, drop, ◌==◌, nat_le}
use Rattle.inspect.specs.Format.{block, body}

-- what begins here: no entry any more (FF, or byte 510), an entry that would pass byte 509, or an entry
pub data Begins : Type 0 where
  nothing : Begins
  past : ℕ → Begins
  an_entry : ℕ → ℕ → List ℕ → Begins

abbrev pub opened : ℕ → List ℕ → Begins
opened l [] = past l
opened l (a ∷ []) = past l
opened l (a ∷ n ∷ rest) = cond (nat_le n (length rest)) (an_entry l a (take n rest)) (past l)

-- what begins at the first of these bytes, which end with byte 509
abbrev pub begins : List ℕ → Begins
begins [] = nothing
begins (l ∷ rest) = cond (l == 0xff) nothing (opened l rest)

-- an entry, or one that does not fit, with the block and the byte where it begins
pub record Placed : Type 0 where
  pub block : ℕ
  pub byte : ℕ
  pub location : ℕ
  pub letter : ℕ
  pub tokens : List ℕ
  pub fits : Bool

abbrev pub placed : ℕ → ℕ → ℕ → ℕ → List ℕ → Bool → Placed
placed k at l a ts fits = record { block = k; byte = at; location = l; letter = a; tokens = ts; fits = fits }

-- what begins here and all that follows it; one that does not fit is the last
abbrev pub onward : (ℕ → List ℕ → List Placed) → ℕ → ℕ → List ℕ → Begins → List Placed
onward go k at rest nothing = []
onward go k at rest (past l) = placed k at l 0 [] false ∷ []
onward go k at rest (an_entry l a ts) = placed k at l a ts true ∷ go (at + (3 + length ts)) (drop (3 + length ts) rest)

-- at most n entries of block k, from byte `at` on
abbrev pub walk : ℕ → ℕ → ℕ → List ℕ → List Placed
walk zero k at rest = []
walk (suc n) k at rest = onward (walk n k) k at rest (begins rest)

-- all of them: an entry takes three bytes or more, so there are fewer than bytes
unfoldable pub entries : ℕ → ℕ → List ℕ → List Placed
entries k at rest = walk (suc (length rest)) k at rest

-- the entries of n blocks from block k on
abbrev pub all_entries : List ℕ → ℕ → ℕ → List Placed
all_entries xs k zero = []
all_entries xs k (suc n) = entries k 2 (body (block xs k)) ++ all_entries xs (suc k) n
