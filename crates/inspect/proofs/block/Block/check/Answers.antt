use Rattle.std.proofs.Common.{arith}
use Rattle.std.proofs.lemmas.Bool.Decides.{nat_tests}
use Rattle.inspect.proofs.block.Block.check.Goals as goal

pub returns-then-stated-check_sum : goal.returns-then-stated-check_sum
returns-then-stated-check_sum c = grind (arith, nat_tests)

pub returns-then-bytes-from : goal.returns-then-bytes-from
returns-then-bytes-from c = grind (arith, nat_tests)

pub returns-then-bytes-block : goal.returns-then-bytes-block
returns-then-bytes-block c = grind (arith, nat_tests)

pub returns : goal.returns
returns c = (grind (arith, nat_tests), tt)
