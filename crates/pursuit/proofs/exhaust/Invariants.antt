-- The inquiry keeps its places and its limit, and stays on its course. Each run counts a sweep or stops.
use Rattle.std.proofs.Common.{◌≡◌, ◌-◌, cond}
use Rattle.inquiry.specs.Standing.{running}
use Rattle.tables.specs.Search.{place, Placed}
use Rattle.pursuit.proofs.exhaust.Given as goal

abbrev pub invariant-loop-report : goal.invariant-loop-report
invariant-loop-report g l = record {
  places_are : (place l.search).places ≡ (place l.initial.search).places;
  limit_is : (place l.search).limit ≡ (place l.initial.search).limit;
  placed : Placed (g.G.Graph.means l.initial.search.graph.now) l.search;
  graph_is : l.search.graph ≡ l.initial.search.graph;
}

abbrev pub decreases-loop-report : goal.decreases-loop-report
decreases-loop-report g l = cond (running (place l.search).standing) ((place l.search).limit - (place l.search).count) 0
