-- What is asked of blocks, and the entries that they hold. Assumes nothing.
use Rattle.std.specs.Prelude.{ℕ, suc, List, [], ◌∷◌, ◌++◌}
use Rattle.inspect.specs.Checks.{Check, block_checks}
use Rattle.inspect.specs.Entries.{Placed, entries}
use Rattle.inspect.specs.Format.{body}

-- each of these blocks states its check, its kind and its number; the first is block k
abbrev pub each_block_checks : ℕ → List (List ℕ) → List Check
each_block_checks k [] = []
each_block_checks k (b ∷ bs) = block_checks k b ++ each_block_checks (suc k) bs

-- the entries of these blocks, of which the first is block k
abbrev pub each_entries : ℕ → List (List ℕ) → List Placed
each_entries k [] = []
each_entries k (b ∷ bs) = entries k 2 (body b) ++ each_entries (suc k) bs
