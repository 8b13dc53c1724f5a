use Rattle.std.proofs.Common.{[], ◌∙◌}
use Rattle.inspect.proofs.Cuts.{blocks_pass}
use Rattle.inspect.proofs.blocks.Blocks.check.Goals as goal

pub loop-i-preserved : goal.loop-i-preserved
loop-i-preserved c =
    c.loop-i.invariant ∙ blocks_pass c.args.self.now.entries.now c.loop-i.i [] c.loop-i-test.true (rw (c.behind_head.ensures.number, c.behind_head.ensures.bytes) at c.in_ok-check-2.ensures.0)
