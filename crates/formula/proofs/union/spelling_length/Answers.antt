-- Each member has a token, and each but the first a connective.
use Rattle.std.proofs.Common.{arith}
use Rattle.formula.proofs.Unions.{length_spelling, members_few}
use Rattle.formula.proofs.union.spelling_length.Goals as goal

pub overflow_mul-count : goal.overflow_mul-count
overflow_mul-count c = omega (arith, members_few c.args.locations c.args.set)

pub returns : goal.returns
returns c = omega (arith, length_spelling c.args.locations c.args.set)
