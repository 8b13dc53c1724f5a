-- How a block is ended and the next one opened. Assumes nothing.
use Rattle.std.specs.Prelude.{ℕ, ◌+◌, ◌-◌, ◌*◌, ◌/◌, ◌%◌, ◌≤◌, cond, List, [], ◌∷◌, length, nat_le, nat_lt}
use Rattle.inspect.specs.Format.{block, check_of, kind}
use Rattle.layout.specs.Pasted.{pasted}
use Rattle.layout.specs.Written.{zeros}

-- what a cursor says: the block that is open, and how many bytes its body holds
pub record Spot : Type 0 where
  pub block : ℕ
  pub used : ℕ

-- where the body's next byte lies in the sheet
abbrev pub position : Spot → ℕ
position c = c.block * 512 + (2 + c.used)

-- behind an entry of n bytes
abbrev pub advanced : Spot → ℕ → Spot
advanced c n = cond (nat_le (c.used + n) 508) (record { block = c.block; used = c.used + n }) (record { block = c.block + 1; used = n })

-- what follows a body of this many bytes: FF if a byte is left, then zeros
abbrev pub closing : ℕ → List ℕ
closing used = cond (nat_lt used 508) (0xff ∷ zeros (507 - used)) []

abbrev pub check_bytes : ℕ → List ℕ
check_bytes check = (check % 256) ∷ (check / 256) ∷ []

-- the block that is open, closed and with its check
unfoldable pub ended : List ℕ → Spot → List ℕ
ended xs c =
    let closed = pasted xs (position c) (closing c.used) in
    pasted closed (c.block * 512 + 510) (check_bytes (check_of (block closed c.block)))

-- these bytes reach to the end of block k
abbrev pub Reaches : List ℕ → ℕ → Type 0
Reaches xs k = k * 512 + 512 ≤ length xs

abbrev pub next_block : Spot → Spot
next_block c = record { block = c.block + 1; used = 0 }

abbrev pub next_opened : List ℕ → Spot → List ℕ
next_opened xs c = pasted (ended xs c) ((c.block + 1) * 512) (kind (c.block + 1) ∷ (c.block + 1) ∷ [])

-- with room for an entry of n bytes, in the next block if it does not fit into this one
abbrev pub roomy : Spot → ℕ → Spot
roomy c n = cond (nat_le (c.used + n) 508) c (next_block c)

abbrev pub room_made : List ℕ → Spot → ℕ → List ℕ
room_made xs c n = cond (nat_le (c.used + n) 508) xs (next_opened xs c)
