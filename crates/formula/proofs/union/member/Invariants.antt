-- The members below the location that comes next are counted, and member j is not among them.
use Rattle.std.proofs.Common.{◌≡◌, ◌≤◌, length}
use Rattle.formula.specs.Unions.{members}
use Rattle.formula.proofs.union.member.Given as goal

abbrev pub invariant-loop-l : goal.invariant-loop-l
invariant-loop-l l = (l.before ≡ length (members l.l l.set)) × (l.before ≤ l.j)
