-- One top more, or no place.
use Rattle.std.proofs.Common.{[], ◌∷◌, length, Some, None, sym, ap, ◌∙◌, arith}
use Rattle.graph.specs.Adding.{unchanged, filled}
use Rattle.antichain.specs.Fill.{table_of}
use Rattle.inquiry.proofs.Steps.{put_in, filled_one, number_more, number_full}
use Rattle.inquiry.proofs.sweep.tops.Goals as goal

pub returns-in_err-fill : goal.returns-in_err-fill
returns-in_err-fill g c =
    let m = g.G.Graph.means c.args.graph.now in
    let n = length c.args.outer.now in
    let u = table_of c.loop-i.fill c.loop-i.outer in
    let none = put_in m.below n (length c.loop-i.outer) c.top.result u None c.loop-i.auto.outer c.in_err-fill.ensures.put ∙ sym (filled_one m.below n c.top.result u) ∙ ap (λ x. filled m.below n (x ∷ []) u) c.top.ensures in
    rw c.from_residual.ensures (record {
      fills = number_full m.below n (λ i. m.top i ∷ []) (unchanged []) u c.loop-i.i m.tops c.loop-i.invariant.0 none (omega arith);
      fits = tt;
    })

pub loop-i-preserved : goal.loop-i-preserved
loop-i-preserved g c =
    let m = g.G.Graph.means c.args.graph.now in
    let n = length c.args.outer.now in
    let u = table_of c.loop-i.fill c.loop-i.outer in
    let v = table_of c.in_ok-fill.fill c.add.new.table in
    let put = put_in m.below n (length c.loop-i.outer) c.top.result u (Some v) c.loop-i.auto.outer c.in_ok-fill.ensures.put ∙ sym (filled_one m.below n c.top.result u) ∙ ap (λ x. filled m.below n (x ∷ []) u) c.top.ensures in
    (number_more m.below n (λ i. m.top i ∷ []) (unchanged []) u (Some v) c.loop-i.i c.loop-i.invariant.0 put, c.in_ok-fill.ensures.fits)
