-- What is not widened was pursued.
use Rattle.std.proofs.Common.{vec_items, subst}
use Rattle.inquiry.specs.Record.{reported}
use Rattle.pursuit.specs.Pursued.{Exhausted}
use Rattle.pursuit.proofs.Pursuits.{pursued}
use Rattle.pursuit.proofs.pursue.Goals as goal

pub returns-in_default : goal.returns-in_default
returns-in_default g c =
    let tables = c.exhaust-report.new.search.tables in
    let so_far = c.loop-search.invariant in
    let from = reported c.loop-search.search.inquiry in
    let report = c.exhaust-report.result in
    let outer = vec_items tables.outer in
    let inner = vec_items tables.inner in
    let stops = subst (λ h. Exhausted (g.G.Graph.means h) from report outer inner) so_far.graph_is c.exhaust-report.ensures.stops in
    pursued (g.G.Graph.means c.args.graph.now) (g.met.G.Graph.lawful c.args.graph.now) from report outer inner stops so_far.opens so_far.limit_is so_far.doubled
    (λ full. absurd (c.in_default.not-Full full))

pub returns-then-report-ge-MOST : goal.returns-then-report-ge-MOST
returns-then-report-ge-MOST g c =
    let tables = c.exhaust-report.new.search.tables in
    let so_far = c.loop-search.invariant in
    let from = reported c.loop-search.search.inquiry in
    let report = c.exhaust-report.result in
    let outer = vec_items tables.outer in
    let inner = vec_items tables.inner in
    let stops = subst (λ h. Exhausted (g.G.Graph.means h) from report outer inner) so_far.graph_is c.exhaust-report.ensures.stops in
    pursued (g.G.Graph.means c.args.graph.now) (g.met.G.Graph.lawful c.args.graph.now) from report outer inner stops so_far.opens so_far.limit_is so_far.doubled
    (λ _. c.if-report-ge-MOST.true)
