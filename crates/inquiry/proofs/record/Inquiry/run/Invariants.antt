use Rattle.std.proofs.Common.{◌≡◌, ◌-◌}
use Rattle.inquiry.specs.Position.{ran}
use Rattle.inquiry.specs.Record.{reported, position}
use Rattle.inquiry.proofs.record.Inquiry.run.Given as goal

abbrev pub invariant-loop-done : goal.invariant-loop-done
invariant-loop-done g l =
    let m = g.G.Graph.means l.graph in
    record {
      left : ran m (l.budget - l._done) (position (reported l.self) l.outer l.inner) ≡ ran m l.budget (position (reported l.initial.self) l.initial.outer l.initial.inner);
      long : l.self.report.places ≡ l.initial.self.report.places;
    }
