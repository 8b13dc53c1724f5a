use Rattle.std.proofs.Common.{◌*◌, take, drop, refl, ap, ◌∙◌}
use Rattle.inspect.proofs.Cuts.{front_or_all, rest_or_none}
use Rattle.inspect.proofs.block.block_at.Goals as goal

pub returns : goal.returns
returns c =
    let xs = c.args.sheet.now in
    let rest = ap (λ b. b.now) c.unwrap_or-rest.ensures ∙ rest_or_none xs _ _ _ c.get.ensures.lookup refl ∙ ap (λ k. drop (k * 512) xs) c.from.ensures in
    ap (λ b. b.now) c.unwrap_or.ensures ∙ front_or_all _ 512 _ _ c.get-2.ensures.lookup refl ∙ ap (take 512) rest
