use Rattle.sheet.proofs.Denoteds.{denoted_valid}
use Rattle.sheet.proofs.faultless.Faultless.of.Goals as goal

pub invariant_of-result-clause-valid : goal.invariant_of-result-clause-valid
invariant_of-result-clause-valid c =
    let found = c.in_ok-head.ensures.answers in
    denoted_valid c.args.sheet.now c.in_ok-head.head (c.args.asked, found.0, found.1, found.2) c.type_inv.sheet
