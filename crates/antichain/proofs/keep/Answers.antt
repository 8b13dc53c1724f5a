-- What stays is what passes among the first held states; where as many stay as there are places, nothing was moved.
use Rattle.std.proofs.Common.{not, sym, arith}
use Rattle.std.proofs.lemmas.List.Filters.{FiltersInPlace-more_set, FiltersInPlace-more_no}
use Rattle.std.proofs.lemmas.Bool.{not_from_true, not_from_false}
use Rattle.antichain.proofs.Tables.{keeping_whole}
use Rattle.antichain.proofs.keep.Goals as goal
use Rattle.antichain.proofs.keep.Goals.{then-not-below, else-not-below}

pub loop-i-preserved : goal.loop-i-preserved
loop-i-preserved g c =
    elim c.if-not-below.branch [
      | then-not-below w ↦ rw (w.table-is, w.front-is) (FiltersInPlace-more_set c.loop-i.invariant (omega (arith, c.loop-i.invariant.long)) (not_from_false ((g.G.Graph.means c.args.graph.now).below c.index-table-i.result c.args.c) (sym w.if-not-below.ensures)) c.index-table-i.is)
      | else-not-below w ↦ rw (w.table-is, w.front-is) (FiltersInPlace-more_no c.loop-i.invariant (omega (arith, c.loop-i.invariant.long)) (not_from_true ((g.G.Graph.means c.args.graph.now).below c.index-table-i.result c.args.c) (sym w.if-not-below.ensures)) c.index-table-i.is)
    ]

pub returns-clause-whole : goal.returns-clause-whole
returns-clause-whole g c = λ full. keeping_whole (λ y. not ((g.G.Graph.means c.args.graph.now).below y c.args.c)) c.args.table.now c.loop-i.table c.loop-i.front c.loop-i.i c.loop-i.invariant (omega arith) full
