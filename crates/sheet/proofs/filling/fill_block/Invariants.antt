use Rattle.std.proofs.Common.{◌≡◌, List, ◌++◌, map}
use Rattle.inspect.specs.Contents.{entry_of}
use Rattle.inspect.specs.Denotes.{laid}
use Rattle.inspect.specs.Entries.{Placed, entries}
use Rattle.inspect.specs.Format.{body}
use Rattle.inspect.proofs.Passing.{Fitting}
use Rattle.sheet.specs.Tables.{formulas}
use Rattle.sheet.proofs.filling.fill_block.Given as goal

-- what is left of the block's entries makes of the table what all of them made of it before
abbrev pub invariant-loop-entry : goal.invariant-loop-entry
invariant-loop-entry l =
    goal.iterator-loop-entry.can_next l.entry-iterator
    × goal.iterator-loop-entry.is_finite l.entry-iterator
    × Fitting l.entry-iterator
    × ((fs : List Placed) → laid l.initial.letters (formulas l.initial.table) (map entry_of (entries l.block.number 2 (body l.block.bytes.now) ++ fs)) ≡ laid l.initial.letters (formulas l.table) (map entry_of (l.entry-iterator ++ fs)))
