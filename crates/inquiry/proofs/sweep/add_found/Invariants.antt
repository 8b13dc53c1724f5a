use Rattle.std.proofs.Common.{◌≡◌, ◌≤◌, Bool, length, drop, Some}
use Rattle.graph.specs.Adding.{filled}
use Rattle.graph.specs.Candidates.{by_number, by_state}
use Rattle.antichain.specs.Fill.{table_of}
use Rattle.inquiry.specs.Pass.{Decided}
use Rattle.inquiry.proofs.Steps.{in_slot, in_slots, in_states}
use Rattle.inquiry.proofs.sweep.add_found.Given as goal

abbrev pub invariant-loop-letter : goal.invariant-loop-letter
invariant-loop-letter g l =
    let m = g.G.Graph.means l.graph in
    record {
      so_far : (test : g.row.G-State.Denot → Bool) → Decided (goal.F-post g l.pass) test → filled m.below (length l.fn.work) (by_number (λ x. in_states m test x l.from) l.letter) (table_of l.initial.fill l.initial.work) ≡ Some (table_of l.fill l.work);
      long : length l.work ≡ length l.fn.work;
      fits : l.fill.held ≤ length l.work;
    }

abbrev pub invariant-loop-b : goal.invariant-loop-b
invariant-loop-b g l =
    let m = g.G.Graph.means l.graph in
    record {
      left : (test : g.row.G-State.Denot → Bool) → Decided (goal.F-post g l.pass) test → filled m.below (length l.fn.work) (by_state (in_slots m test l.letter) (drop l.b-index l.from)) (table_of l.fill l.work) ≡ filled m.below (length l.fn.work) (in_states m test l.letter l.from) (table_of l.initial.fill l.initial.work);
      long : length l.work ≡ length l.fn.work;
      fits : l.fill.held ≤ length l.work;
    }

abbrev pub invariant-loop-i : goal.invariant-loop-i
invariant-loop-i g l =
    let m = g.G.Graph.means l.graph in
    record {
      so_far : (test : g.row.G-State.Denot → Bool) → Decided (goal.F-post g l.pass) test → filled m.below (length l.fn.work) (by_number (in_slot m test l.letter l.b) l.i) (table_of l.initial.fill l.initial.work) ≡ Some (table_of l.fill l.work);
      long : length l.work ≡ length l.fn.work;
      fits : l.fill.held ≤ length l.work;
    }
