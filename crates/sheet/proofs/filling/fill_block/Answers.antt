use Rattle.std.proofs.Common.{◌++◌, map, set, sym, ap, ◌∙◌, subst}
use Rattle.inspect.specs.Contents.{read, entry_of}
use Rattle.inspect.specs.Denotes.{laid}
use Rattle.inspect.proofs.Passing.{Fitting}
use Rattle.inspect.proofs.Yielding.{next_entry}
use Rattle.sheet.specs.Tables.{formulas}
use Rattle.sheet.proofs.filling.fill_block.Goals as goal

pub loop-entry-preserved : goal.loop-entry-preserved
loop-entry-preserved c =
    let came = next_entry _ _ _ c.in-Some.ensures.steps _ c.in-Ok.is in
    let told = c.in_ok-put.ensures ∙ ap (λ n. set (formulas c.loop-entry.table) n (map read c.in-Ok.entry.tokens.now)) c.cell_number-cell.ensures in (
      tt,
      tt,
      (subst Fitting came c.loop-entry.invariant.2).1,
      λ fs. c.loop-entry.invariant.3 fs ∙ ap (λ es. laid c.args.letters (formulas c.loop-entry.table) (map entry_of (es ++ fs))) came
          ∙ ap (λ t. laid c.args.letters t (map entry_of (c.next.new.self ++ fs))) (sym told),
    )

pub returns : goal.returns
returns c fs =
    c.loop-entry.invariant.3 fs ∙ ap (λ es. laid c.args.letters (formulas c.loop-entry.table) (map entry_of (es ++ fs))) c.in-None.ensures.steps.0
