use Rattle.std.proofs.Common.{◌≡◌, ◌≤◌, [], ◌∷◌, length, Some}
use Rattle.graph.specs.Adding.{unchanged, filled}
use Rattle.graph.specs.Candidates.{by_number}
use Rattle.antichain.specs.Fill.{table_of}
use Rattle.inquiry.proofs.sweep.tops.Given as goal

abbrev pub invariant-loop-i : goal.invariant-loop-i
invariant-loop-i g l =
    (filled (g.G.Graph.means l.graph).below (length l.initial.outer) (by_number (λ i. (g.G.Graph.means l.graph).top i ∷ []) l.i) (unchanged []) ≡ Some (table_of l.fill l.outer))
    × (l.fill.held ≤ length l.outer)
