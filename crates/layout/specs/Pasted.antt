-- Bytes laid over others. Assumes nothing.
use Rattle.std.specs.Prelude.{ℕ, ◌+◌, List, ◌++◌, length, take, drop}

-- xs with bs in the place of what it holds from `at` on
unfoldable pub pasted : List ℕ → ℕ → List ℕ → List ℕ
pasted xs at bs = take at xs ++ (bs ++ drop (at + length bs) xs)
