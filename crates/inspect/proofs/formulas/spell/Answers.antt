use Rattle.std.proofs.Common.{◌≡◌, ◌∷◌, ◌++◌, ap, ◌∙◌, subst}
use Rattle.std.proofs.lemmas.Result.{err_from_is_err_and}
use Rattle.inspect.specs.Checks.{first, token_checks}
use Rattle.inspect.specs.Yielded.{placed_entry}
use Rattle.inspect.proofs.Passing.{Fitting}
use Rattle.inspect.proofs.Tokens.{formula_passes, formula_fails}
use Rattle.inspect.proofs.Yielding.{next_entry}
use Rattle.inspect.proofs.formulas.spell.Goals as goal
use Rattle.inspect.proofs.formulas.spell.Goals.{In_ok-entry}

-- the entry that came
came : (c : In_ok-entry) → c.loop-entry.entry-iterator ≡ placed_entry c.in_ok-entry.field-0 ∷ c.next.new.self
came c = next_entry _ _ _ c.in-Some.ensures.steps _ c.in_ok-entry.was

pub returns-in_err-check_formula : goal.returns-in_err-check_formula
returns-in_err-check_formula c =
    let p = err_from_is_err_and c.from_residual-in_err-check_formula.result c.from_residual-in_err-check_formula.ensures.1 in
    let e = c.in_ok-entry.field-0 in
    let is = came (goal.at.returns-in_err-check_formula c).In_ok-entry in
    rw (p.1, p.2)
    (λ fs. c.loop-entry.invariant.3 fs ∙ ap (λ es. first (token_checks c.args.head.now (es ++ fs))) is
    ∙ formula_fails c.args.head.now e.place.block e.place.byte e.location e.letter e.tokens.now (c.next.new.self ++ fs) _ c.in_err-check_formula.ensures)

pub loop-entry-preserved : goal.loop-entry-preserved
loop-entry-preserved c =
    let e = c.in_ok-entry.field-0 in
    let is = came (goal.at.loop-entry-preserved c).In_ok-entry in (
      tt,
      tt,
      (subst Fitting is c.loop-entry.invariant.2).1,
      λ fs. c.loop-entry.invariant.3 fs ∙ ap (λ es. first (token_checks c.args.head.now (es ++ fs))) is
          ∙ formula_passes c.args.head.now e.place.block e.place.byte e.location e.letter e.tokens.now (c.next.new.self ++ fs) c.in_ok-check_formula.ensures.0,
    )

pub returns : goal.returns
returns c fs = c.loop-entry.invariant.3 fs ∙ ap (λ es. first (token_checks c.args.head.now (es ++ fs))) c.in-None.ensures.steps.0
