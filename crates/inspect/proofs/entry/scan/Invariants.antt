use Rattle.std.proofs.Common.{◌≡◌, List, ◌++◌}
use Rattle.inspect.specs.Checks.{first, entry_checks}
use Rattle.inspect.specs.Entries.{Placed, entries}
use Rattle.inspect.specs.Format.{body}
use Rattle.inspect.proofs.entry.scan.Given as goal

-- what is left of the block's entries decides as all of them did
abbrev pub invariant-loop-entry : goal.invariant-loop-entry
invariant-loop-entry l =
    goal.iterator-loop-entry.can_next l.entry-iterator
    × goal.iterator-loop-entry.is_finite l.entry-iterator
    × ((fs : List Placed) → first (entry_checks l.head l.fn.before.least l.fn.before.total (entries l.block.number 2 (body l.block.bytes.now) ++ fs)) ≡ first (entry_checks l.head l.progress.least l.progress.total (l.entry-iterator ++ fs)))
