use Rattle.std.proofs.Common.{◌≡◌, ◌+◌, drop}
use Rattle.inspect.specs.Blocks.{each_entries}
use Rattle.inspect.specs.Checks.{first, entry_checks}
use Rattle.inspect.proofs.entry.check_entries.Given as goal

abbrev pub invariant-loop-i : goal.invariant-loop-i
invariant-loop-i l =
    first (entry_checks l.head 0 0 (each_entries 1 l.blocks.entries.now)) ≡ first (entry_checks l.head l.progress.least l.progress.total (each_entries (l.i + 1) (drop l.i l.blocks.entries.now)))
