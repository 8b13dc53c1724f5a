-- What lies behind a place of a block, before its check.
use Rattle.std.proofs.Common.{length, ap, ◌∙◌, arith, length-drop, length-take}
use Rattle.std.proofs.lemmas.List.{take_rest}
use Rattle.inspect.proofs.item.entry_at.Goals as goal

pub opened-requires : goal.opened-requires
opened-requires c =
    let front = c.before_check.result.now in
    let few = ap length c.before_check.ensures in
    let found = c.in-Some.ensures.lookup in
    let rest = ap length (found.0.2 ∙ take_rest front c.from.result) in
    omega (arith, few, length-take 510 c.args.block.now, rest, length-drop c.from.result front, found.0.0, found.0.1, c.from.ensures)
