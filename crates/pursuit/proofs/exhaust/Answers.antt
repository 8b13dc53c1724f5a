-- A run goes on with the course, and counts a sweep or stops.
use Rattle.std.proofs.Common.{◌≡◌, IfOk, sym, ap, ◌∙◌, subst}
use Rattle.inquiry.specs.declared.standing.Standing.TheVariants.{Running}
use Rattle.inquiry.specs.Course.{Onward}
use Rattle.inquiry.specs.Standing.{going}
use Rattle.tables.specs.Search.{place, halted, halting}
use Rattle.tables.proofs.Runs.{done, follows, run_keeps, placed}
use Rattle.pursuit.proofs.Pursuits.{run_falls}
use Rattle.pursuit.proofs.exhaust.Goals as goal

pub loop-report-smaller : goal.loop-report-smaller
loop-report-smaller g c =
    let before = c.loop-report.search in
    let runs : (place before).standing ≡ Running = sym (ap (λ r. r.standing) c.report-report.ensures.is) ∙ c.in-Running.is in
    let ran = done (halted before) c.run.result _ _ (ap halting runs) c.run.ensures.steps in
    run_falls (g.G.Graph.means before.graph.now) (place before) (place c.run.new.self) ran runs (before.inquiry.left (ap going runs))

pub loop-report-preserved : goal.loop-report-preserved
loop-report-preserved g c =
    let before = c.loop-report.search in
    let after = c.run.new.self in
    let so_far = c.loop-report.invariant in
    let runs : (place before).standing ≡ Running = sym (ap (λ r. r.standing) c.report-report.ensures.is) ∙ c.in-Running.is in
    let ran = done (halted before) c.run.result _ _ (ap halting runs) c.run.ensures.steps in
    let kept = run_keeps (g.G.Graph.means before.graph.now) 1000 (place before) (place after) ran in
    let onward = subst (λ h. IfOk c.run.result (λ _. Onward (g.G.Graph.means h.now) (place before) (place after))) so_far.graph_is c.run.ensures.onward in
    record {
      places_are = kept.0 ∙ so_far.places_are;
      limit_is = kept.1 ∙ so_far.limit_is;
      placed = placed (g.G.Graph.means c.args.search.now.graph.now) after (follows (halted before) c.run.result _ _ _ (ap halting runs) c.run.ensures.steps onward so_far.placed.course).0;
      graph_is = c.run.ensures.graph ∙ so_far.graph_is;
    }
