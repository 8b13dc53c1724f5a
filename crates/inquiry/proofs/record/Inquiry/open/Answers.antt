-- The tops are held, and a course begins.
use Rattle.std.proofs.Common.{rules, length, arith}
use Rattle.inquiry.specs.Record.{position}
use Rattle.inquiry.specs.declared.standing.Standing.TheVariants.{Running}
use Rattle.inquiry.proofs.Calls.{opened_onward, tops_fit}
use Rattle.inquiry.proofs.record.Inquiry.open.Goals as goal

pub unreachable-requires : goal.unreachable-requires
unreachable-requires g c = tops_fit (g.G.Graph.means c.args.graph.now) (g.met.G.Graph.lawful c.args.graph.now) (length c.args.outer.now) (omega arith) c.in_default.ensures.fills

pub returns-clause-onward : goal.returns-clause-onward
returns-clause-onward g c =
    let m = g.G.Graph.means c.args.graph.now in
    let places = length c.args.outer.now in
    let q = position (record { standing = Running; round = 0; sweep = 0; count = 0; limit = c.args.limit; places = places; outer = c.in-Some.field-0.held; inner = 0 }) c.tops-2.new.outer c.args.inner.now in
    opened_onward m (g.met.G.Graph.lawful c.args.graph.now) c.args.limit places q (search rules) (omega arith) (omega arith) (omega arith) (omega arith)
