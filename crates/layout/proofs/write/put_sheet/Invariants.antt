-- What the cells so far hold stands in the sheet.
use Rattle.layout.specs.Standing.{entries_at, Stands}
use Rattle.layout.proofs.write.put_sheet.Given as goal

abbrev pub invariant-loop-cell : goal.invariant-loop-cell
invariant-loop-cell g l = Stands (g.S.Source.content l.source) l.out l.cursor (entries_at (g.S.Source.content l.source) l.cell)
