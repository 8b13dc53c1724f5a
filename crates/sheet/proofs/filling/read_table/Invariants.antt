use Rattle.std.proofs.Common.{◌≡◌, ◌+◌, map, drop}
use Rattle.inspect.specs.Blocks.{each_entries}
use Rattle.inspect.specs.Contents.{entry_of}
use Rattle.inspect.specs.Denotes.{laid}
use Rattle.inspect.proofs.Passing.{Fitting}
use Rattle.sheet.specs.Tables.{formulas}
use Rattle.sheet.proofs.filling.read_table.Given as goal

abbrev pub invariant-loop-i : goal.invariant-loop-i
invariant-loop-i l =
    Fitting (each_entries (l.i + 1) (drop l.i l.entries))
    × (laid l.sheet.head.letters (formulas l.initial.table) (map entry_of (each_entries 1 l.entries)) ≡ laid l.sheet.head.letters (formulas l.table) (map entry_of (each_entries (l.i + 1) (drop l.i l.entries))))
