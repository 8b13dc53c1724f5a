-- A widening is turned down with nothing changed, or a full inquiry goes on in the longer tables.
use Rattle.std.proofs.Common.{rules, length}
use Rattle.inquiry.specs.Record.{reported, position}
use Rattle.inquiry.proofs.Calls.{widened_onward, stays}
use Rattle.inquiry.proofs.record.Inquiry.widen.Goals as goal

pub returns-then-outer-self-clause-onward : goal.returns-then-outer-self-clause-onward
returns-then-outer-self-clause-onward g c = λ graph. stays (g.G.Graph.means graph) (g.met.G.Graph.lawful graph) (position (reported c.args.self.now) c.args.outer.now c.args.inner.now)

pub returns-in_default-clause-onward : goal.returns-in_default-clause-onward
returns-in_default-clause-onward g c = λ graph. stays (g.G.Graph.means graph) (g.met.G.Graph.lawful graph) (position (reported c.args.self.now) c.args.outer.now c.args.inner.now)

pub returns-then-new_inner-places-clause-onward : goal.returns-then-new_inner-places-clause-onward
returns-then-new_inner-places-clause-onward g c = λ graph. stays (g.G.Graph.means graph) (g.met.G.Graph.lawful graph) (position (reported c.args.self.now) c.args.outer.now c.args.inner.now)

pub returns-clause-onward : goal.returns-clause-onward
returns-clause-onward g c = λ graph.
    let m = g.G.Graph.means graph in
    let p = position (reported c.args.self.now) c.args.outer.now c.args.inner.now in
    let q = position (reported c.turn.new.self) c.copy.new.to c.copy-2.new.to in
    widened_onward m (g.met.G.Graph.lawful graph) (length c.args.new_outer.now) p q (search rules) c.in-Full.is c.if-places-self.false c.if-places-gt-MOST_PLACES.false
