-- The inquiry is placed in its tables, with its limit. Each turn makes them longer.
use Rattle.std.proofs.Common.{◌≡◌, ◌-◌, None}
use Rattle.inquiry.specs.Calls.{open_refusal}
use Rattle.tables.specs.Search.{place, Placed}
use Rattle.pursuit.specs.Pursued.{Doubled}
use Rattle.pursuit.proofs.pursue.Given as goal

abbrev pub invariant-loop-search : goal.invariant-loop-search
invariant-loop-search g l = record {
  placed : Placed (g.G.Graph.means l.graph) l.search;
  graph_is : l.search.graph.now ≡ l.graph;
  limit_is : (place l.search).limit ≡ 100000;
  doubled : Doubled (place l.search).places;
  opens : open_refusal 512 512 512 100000 (g.G.Graph.means l.graph).tops ≡ None;
}

abbrev pub decreases-loop-search : goal.decreases-loop-search
decreases-loop-search g l = 4096 - (place l.search).places
