-- What an inspection answers. Assumes nothing.
use Rattle.std.specs.Prelude.{◌≡◌, ℕ, List, Ok, Err, Result}
use Rattle.inspect.specs.declared.fault.BlockFault.{BlockFault}
use Rattle.inspect.specs.declared.head.Asked.{Asked}
use Rattle.inspect.specs.declared.head.Head.{Head}
use Rattle.inspect.specs.Checks.{FirstFault}
use Rattle.inspect.specs.Denotes.{Content, Denotes}
use Rattle.inspect.specs.Refusals.{block_refusal}

-- the head of what the sheet denotes, or its first fault
abbrev pub Inspected : Asked → List ℕ → Result Head BlockFault → Type 0
Inspected asked xs (Ok h) = (c : Content) × Denotes asked xs c × (h ≡ c.head)
Inspected asked xs (Err f) = FirstFault asked xs (block_refusal f)
