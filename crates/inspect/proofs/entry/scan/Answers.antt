use Rattle.std.proofs.Common.{◌≡◌, ◌∷◌, ◌++◌, List, Option, ap, ◌∙◌}
use Rattle.std.proofs.lemmas.Result.{err_from_is_err_and}
use Rattle.inspect.specs.declared.fault.Refusal.{Refusal}
use Rattle.inspect.specs.Checks.{first, entry_checks}
use Rattle.inspect.specs.Entries.{Placed}
use Rattle.inspect.specs.Yielded.{placed_entry}
use Rattle.inspect.proofs.Yielding.{next_entry, next_fault}
use Rattle.inspect.proofs.entry.scan.Goals as goal
use Rattle.inspect.proofs.entry.scan.Goals.{At-loop-entry, In_ok-entry}

-- the entry that came
came : (c : In_ok-entry) → c.loop-entry.entry-iterator ≡ placed_entry c.in_ok-entry.field-0 ∷ c.next.new.self
came c = next_entry _ _ _ c.in-Some.ensures.steps _ c.in_ok-entry.was

-- what is asked of entries from here on
asks : (c : At-loop-entry) → List Placed → List Placed → Option Refusal
asks c fs es = first (entry_checks c.args.head.now c.loop-entry.progress.least c.loop-entry.progress.total (es ++ fs))

pub returns-in_err-entry : goal.returns-in_err-entry
unfolding asks
returns-in_err-entry c =
    let p = err_from_is_err_and c.from_residual.result c.from_residual.ensures.1 in
    let out = (next_fault _ _ _ c.in-Some.ensures.steps _ c.in_err-entry.was).0 in
    rw (p.1, p.2, out.3) (λ fs. c.loop-entry.invariant.2 fs ∙ ap (asks (goal.at.returns-in_err-entry c).At-loop-entry fs) out.2)

pub returns-in_err-progress : goal.returns-in_err-progress
unfolding asks
returns-in_err-progress c =
    let p = err_from_is_err_and c.from_residual-in_err-progress.result c.from_residual-in_err-progress.ensures.1 in
    let at = goal.at.returns-in_err-progress c in
    rw (p.1, p.2) (λ fs. c.loop-entry.invariant.2 fs ∙ ap (asks at.At-loop-entry fs) (came at.In_ok-entry) ∙ c.in_err-progress.ensures _)

pub loop-entry-preserved : goal.loop-entry-preserved
unfolding asks
loop-entry-preserved c =
    let at = goal.at.loop-entry-preserved c in
    (tt, tt, λ fs. c.loop-entry.invariant.2 fs ∙ ap (asks at.At-loop-entry fs) (came at.In_ok-entry) ∙ c.in_ok-progress.ensures _)

pub returns : goal.returns
unfolding asks
returns c fs = c.loop-entry.invariant.2 fs ∙ ap (asks (goal.at.returns c).At-loop-entry fs) c.in-None.ensures.steps.0
