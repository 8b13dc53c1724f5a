-- The states found from inner, then the accepting ones from outer, into a copy of inner.
use Rattle.std.proofs.Common.{true, length, take, rules, arith}
use Rattle.graph.specs.Candidates.{found_from}
use Rattle.antichain.specs.Fill.{table_of, tabled}
use Rattle.inquiry.proofs.Steps.{first_full, both_parts}
use Rattle.inquiry.proofs.sweep.sweep.Goals as goal

pub returns-in_err-fill : goal.returns-in_err-fill
returns-in_err-fill g c =
    let m = g.G.Graph.means c.args.graph.now in
    rw c.from_residual.ensures (record {
      fills = first_full m.below (length c.args.work.now) (found_from m (λ x. true) c.args.inner.now) (found_from m m.accepts c.args.outer.now) c.args.inner.now (take (length c.args.inner.now) c.copy.new.to) (length c.copy.new.to) c.copy.ensures c.copy.auto.to (c.in_err-fill.ensures.fills (λ x. true) (λ x b k. search rules));
      fits = tt;
    })

pub returns : goal.returns
returns g c =
    let m = g.G.Graph.means c.args.graph.now in
    record {
      fills = both_parts m.below (length c.args.work.now) (found_from m (λ x. true) c.args.inner.now) (found_from m m.accepts c.args.outer.now) c.args.inner.now (take (length c.args.inner.now) c.copy.new.to) (length c.copy.new.to) c.copy.ensures c.copy.auto.to (table_of c.in_ok-fill.fill c.add_found.new.work) (tabled c.add_found-2.result c.add_found-2.new.work) (length c.add_found.new.work) (omega arith) (c.in_ok-fill.ensures.fills (λ x. true) (λ x b k. search rules)) (c.add_found-2.ensures.fills m.accepts (λ x b k. search rules));
      fits = c.add_found-2.ensures.fits;
    }
