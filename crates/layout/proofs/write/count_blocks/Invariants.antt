-- The blocks so far and those that the other cells take are as many as the sheet has.
use Rattle.std.proofs.Common.{◌≡◌, ◌+◌}
use Rattle.layout.specs.Standing.{entries_at}
use Rattle.layout.proofs.Cells.{tally}
use Rattle.layout.proofs.write.count_blocks.Given as goal

abbrev pub invariant-loop-cell : goal.invariant-loop-cell
invariant-loop-cell g l =
    l.cursor.block + tally l.cursor.used (entries_at (g.S.Source.content l.source) l.cell) ≡ tally 508 (entries_at (g.S.Source.content l.source) 0)
