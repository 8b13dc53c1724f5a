use Rattle.std.proofs.Common.{◌≡◌, ◌+◌, ◌*◌, ◌≤◌, drop}
use Rattle.inspect.specs.Format.{weighted}
use Rattle.inspect.proofs.block.check_sum.Given as goal

abbrev pub invariant-loop-i : goal.invariant-loop-i
invariant-loop-i l = (l.sum + weighted l.i (drop l.i l.b-items) ≡ weighted 0 l.b-items) × (l.sum ≤ 130050 * l.i)
