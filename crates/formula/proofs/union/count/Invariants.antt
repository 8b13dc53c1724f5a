-- The count is that of the members below the location that comes next.
use Rattle.std.proofs.Common.{◌≡◌, ◌≤◌, length}
use Rattle.formula.specs.Unions.{members}
use Rattle.formula.proofs.union.count.Given as goal

abbrev pub invariant-loop-l : goal.invariant-loop-l
invariant-loop-l l = (l.count ≡ length (members l.l l.set)) × (l.count ≤ l.l)
