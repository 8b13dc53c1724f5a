use Rattle.std.proofs.Common.{false, unwrap_or, ap, ◌∙◌}
use Rattle.formula.specs.Machine.{evaluated}
use Rattle.formula.specs.Sets.{has}
use Rattle.layout.proofs.Valids.{test_valid}
use Rattle.sheet.specs.Rules.{rule_content}
use Rattle.sheet.proofs.Satisfied.{satisfies}
use Rattle.sheet.proofs.rules.Rule.satisfied.Goals as goal

pub returns : goal.returns
returns c =
    let self = c.args.self.now in
    let found = satisfies (rule_content self) (test_valid (rule_content self) self.valid) c.args.location c.args.letter c.args.set in
    let is = c.unwrap_or.ensures ∙ ap (λ o. unwrap_or o false) (c.evaluate.ensures.value ∙ ap (evaluated (has c.args.set)) c.formula.ensures) in
    record { value = is; means = (found.0, found.1, is ∙ found.2) }
