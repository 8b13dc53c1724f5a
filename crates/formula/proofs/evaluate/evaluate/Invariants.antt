-- What is left of the tokens, read over what waits, gives what all of them give.
use Rattle.std.proofs.Common.{◌≡◌, [], drop}
use Rattle.formula.specs.Machine.{run}
use Rattle.formula.specs.Sets.{has}
use Rattle.formula.proofs.evaluate.evaluate.Given as goal

abbrev pub invariant-loop-token : goal.invariant-loop-token
invariant-loop-token l = run (has l.set) (drop l.token-index l.tokens) l.stack ≡ run (has l.set) l.tokens []
