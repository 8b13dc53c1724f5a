-- Where not one value waits, none waits alone.
use Rattle.std.proofs.Common.{Some, ap, ◌∙◌}
use Rattle.formula.specs.Machine.{only}
use Rattle.formula.proofs.Waiting.{only_one}
use Rattle.formula.proofs.stack.Stack.only.Goals as goal

pub returns-else-self-eq1 : goal.returns-else-self-eq1
returns-else-self-eq1 c = only_one c.self.inside.count c.self.inside.bits c.if-self-eq1.false ∙ ap (λ vs. only (Some vs)) c.self.view_is
