use Rattle.std.proofs.Common.{arith}
use Rattle.std.proofs.KnownBytes.{Consumes-nil}
use Rattle.stream.proofs.Fillings.{filled_more, filled_whole, filled_out}
use Rattle.stream.proofs.fill.Goals as goal

pub loop-filled-init : goal.loop-filled-init
loop-filled-init g c = (omega arith, Consumes-nil _)

pub loop-filled-preserved : goal.loop-filled-preserved
loop-filled-preserved g c =
    let before = c.loop-filled.invariant in
    let read = c.in_ok-more.ensures in
    (read.fits, filled_more _ _ _ _ _ c.loop-filled.filled c.in_ok-more.more read.front before.1 read.consumes)

pub returns-after-loop-filled-clause-fits : goal.returns-after-loop-filled-clause-fits
returns-after-loop-filled-clause-fits g c = c.loop-filled.invariant.0

pub returns-after-loop-filled-clause-front : goal.returns-after-loop-filled-clause-front
returns-after-loop-filled-clause-front g c =
    let before = c.loop-filled.invariant in
    filled_whole _ _ _ _ (omega (arith, before.0, c.loop-filled-test.false)) before.1

pub returns-then-more-eq0-clause-front : goal.returns-then-more-eq0-clause-front
returns-then-more-eq0-clause-front g c =
    let before = c.loop-filled.invariant in
    let read = c.in_ok-more.ensures in
    let filled = filled_more _ _ _ _ _ c.loop-filled.filled c.in_ok-more.more read.front before.1 read.consumes in
    filled_out _ _ _ _ _ read.fits c.if-more-eq0.true filled (read.end c.if-more-eq0.true)
