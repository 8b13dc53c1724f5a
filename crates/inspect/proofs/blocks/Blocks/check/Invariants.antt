use Rattle.std.proofs.Common.{◌≡◌, ◌+◌, drop}
use Rattle.inspect.specs.Blocks.{each_block_checks}
use Rattle.inspect.specs.Checks.{first}
use Rattle.inspect.proofs.blocks.Blocks.check.Given as goal

abbrev pub invariant-loop-i : goal.invariant-loop-i
invariant-loop-i l =
    first (each_block_checks 1 l.self.entries.now) ≡ first (each_block_checks (l.i + 1) (drop l.i l.self.entries.now))
