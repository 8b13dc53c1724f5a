-- What the inquiry reports is what its record says.
use Rattle.std.proofs.Common.{vec_items, sym, subst}
use Rattle.inquiry.specs.Course.{Course, Promise}
use Rattle.inquiry.specs.Record.{position}
use Rattle.tables.proofs.search.Search.report.Goals as goal

pub returns-clause-onward : goal.returns-clause-onward
returns-clause-onward g c = λ course.
    let h = c.args.self.now.graph.now in
    let m = g.G.Graph.means h in
    let outer = vec_items c.args.self.now.tables.outer in
    let inner = vec_items c.args.self.now.tables.inner in
    let is = c.report.ensures.is in
    subst (λ r. Promise m (position r outer inner)) is (c.report.ensures.onward h outer inner (subst (λ r. Course m (position r outer inner)) (sym is) course))
