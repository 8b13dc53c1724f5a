-- A run is turned down with nothing changed, or each turn leaves the rest of it, until the budget is used or nothing runs.
use Rattle.std.proofs.Common.{rules, ◌∙◌}
use Rattle.inquiry.specs.Position.{ran}
use Rattle.inquiry.specs.Record.{reported, position}
use Rattle.inquiry.proofs.Calls.{steps_more, steps_stop, steps_all, ran_all, ran_onward, stays}
use Rattle.inquiry.proofs.record.Inquiry.run.Goals as goal

pub returns-then-outer-places-clause-onward : goal.returns-then-outer-places-clause-onward
returns-then-outer-places-clause-onward g c = stays (g.G.Graph.means c.args.graph.now) (g.met.G.Graph.lawful c.args.graph.now) (position (reported c.args.self.now) c.args.outer.now c.args.inner.now)

pub returns-in_default-clause-onward : goal.returns-in_default-clause-onward
returns-in_default-clause-onward g c = stays (g.G.Graph.means c.args.graph.now) (g.met.G.Graph.lawful c.args.graph.now) (position (reported c.args.self.now) c.args.outer.now c.args.inner.now)

pub loop-done-preserved : goal.loop-done-preserved
loop-done-preserved g c =
    let m = g.G.Graph.means c.args.graph.now in
    let p = position (reported c.loop-done.self) c.loop-done.outer c.loop-done.inner in
    let q = position (reported c.step.new.self) c.step.new.outer c.step.new.inner in
    let end = ran m c.args.budget (position (reported c.args.self.now) c.args.outer.now c.args.inner.now) in
    record {
      left = steps_more m c.args.budget c.loop-done._done p q end c.loop-done.invariant.left c.loop-done-test.true c.in-Running-standing.is c.step.ensures.sweeps;
      long = c.step.ensures.long ∙ c.loop-done.invariant.long;
    }

pub returns-after-loop-done : goal.returns-after-loop-done
returns-after-loop-done g c =
    let m = g.G.Graph.means c.args.graph.now in
    let p = position (reported c.args.self.now) c.args.outer.now c.args.inner.now in
    let q = position (reported c.loop-done.self) c.loop-done.outer c.loop-done.inner in
    let is = steps_all m c.args.budget c.loop-done._done q (ran m c.args.budget p) c.loop-done.invariant.left c.loop-done-test.false in
    let held = ran_all m c.args.budget p q is c.in-Running.is c.args.self.now.left in
    record { steps = search rules; onward = ran_onward m (g.met.G.Graph.lawful c.args.graph.now) c.args.budget p q is c.in-Running.is }

pub returns-in_default-standing : goal.returns-in_default-standing
returns-in_default-standing g c =
    let m = g.G.Graph.means c.args.graph.now in
    let p = position (reported c.args.self.now) c.args.outer.now c.args.inner.now in
    let q = position (reported c.loop-done.self) c.loop-done.outer c.loop-done.inner in
    let is = steps_stop m c.args.budget c.loop-done._done q (ran m c.args.budget p) c.loop-done.invariant.left c.in_default-standing.not-Running in
    let held = ran_all m c.args.budget p q is c.in-Running.is c.args.self.now.left in
    record { steps = search rules; onward = ran_onward m (g.met.G.Graph.lawful c.args.graph.now) c.args.budget p q is c.in-Running.is }
