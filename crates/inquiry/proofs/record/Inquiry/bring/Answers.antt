-- Where nothing was new the round ends.
use Rattle.std.proofs.Common.{◌-◌, length, refl, arith}
use native.Mathlib.Nat.{sub-zero}
use Rattle.antichain.specs.Fill.{table_of}
use Rattle.inquiry.proofs.Turns.{ended_brings}
use Rattle.inquiry.proofs.record.Inquiry.bring.Goals as goal

pub returns : goal.returns
returns g c =
    let r = c.args.self.now.report in
    ended_brings (g.G.Graph.means c.args.graph.now) (length c.args.work.now) r.inner c.args.outer.now c.args.inner.now c.copy-2.new.to c.args.inner.now r.outer (r.outer - 0) (r.inner - 0) (table_of c.in-Some.field-0 c.sweep.new.work) c.verdict-ended.result (sub-zero r.outer) (sub-zero r.inner) (omega arith) c.in-Some.ensures.fills c.if-changed.false c.copy-2.ensures refl c.verdict-ended.ensures
