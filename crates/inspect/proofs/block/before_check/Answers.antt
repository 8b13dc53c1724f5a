use Rattle.std.proofs.Common.{refl, ap, ◌∙◌}
use Rattle.inspect.proofs.Cuts.{front_or_all}
use Rattle.inspect.proofs.block.before_check.Goals as goal

pub returns : goal.returns
returns c = ap (λ b. b.now) c.unwrap_or.ensures ∙ front_or_all c.args.block.now 510 _ _ c.get.ensures.lookup refl
