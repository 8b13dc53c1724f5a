-- With one value less, fewer than 32 wait.
use Rattle.std.proofs.Common.{arith}
use Rattle.formula.proofs.Waiting.{length_values}
use Rattle.formula.proofs.stack.Stack.pop.Goals as goal

pub returns-clause-room : goal.returns-clause-room
returns-clause-room c = rw length_values (omega (arith, c.self.invariant))
