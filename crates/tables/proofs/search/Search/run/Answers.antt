-- Nothing turns the inquiry's run down, and it keeps the places.
use Rattle.std.proofs.Common.{◌≡◌, length, sym, ap, ◌∙◌}
use Rattle.inquiry.specs.Calls.{run_refusal}
use Rattle.inquiry.specs.Record.{reported, position}
use Rattle.tables.proofs.Runs.{either_way, run_keeps}
use Rattle.tables.proofs.search.Search.run.Goals as goal

pub invariant_of-self : goal.invariant_of-self
invariant_of-self g c =
    let i = c.args.self.now.inquiry in
    let j = c.run.new.self in
    let a = c.deref_mut.result.now in
    let b = c.deref_mut-2.result.now in
    let p = position (reported i) a b in
    let q = position (reported j) c.run.new.outer c.run.new.inner in
    let kept : q.places ≡ p.places =
    either_way (run_refusal (reported i) (length a) (length b) (length c.deref_mut-3.result.now)) c.run.result _ _ (λ same. ap (λ v. (reported v).places) same.0) (λ _ ran. (run_keeps (g.G.Graph.means c.args.self.now.graph.now) c.args.budget p q ran).0) c.run.ensures.steps in
    record { long = c.args.self.now.long ∙ sym kept }
