-- What is left of the tokens, read over the parts that wait, gives what all of them give.
use Rattle.std.proofs.Common.{vec_items}
use Rattle.words.specs.Parts.{waiting}
use Rattle.words.proofs.Reading.{Sofar}
use Rattle.words.proofs.infix.infix.Given as goal

abbrev pub invariant-loop-token : goal.invariant-loop-token
invariant-loop-token l = Sofar l.tokens l.token-index (waiting (vec_items l.parts))
