-- The next location counts if it is a member.
use Rattle.std.proofs.Common.{arith}
use Rattle.std.proofs.lemmas.Bool.Decides.{nat_tests}
use Rattle.formula.proofs.Unions.{length_members_more}
use Rattle.formula.proofs.union.count.Goals as goal

pub loop-l-preserved : goal.loop-l-preserved
loop-l-preserved c =
    let one = length_members_more c.loop-l.l c.args.set in
    (grind (arith, nat_tests), grind (arith, nat_tests))
