use Rattle.std.proofs.Common.{sym, ap, ◌∙◌, subst}
use Rattle.inspect.specs.Contents.{contents}
use Rattle.inspect.specs.Denotes.{Denotes}
use Rattle.inspect.proofs.Meaning.{denotes_sound}
use Rattle.inspect.specs.Format.{asked_for}
use Rattle.sheet.proofs.headed.Headed.from_sheet.Goals as goal

pub returns : goal.returns
returns g c =
    let xs = c.args.sheet.now in
    let told = c.in_ok-sheet.ensures in
    let found = told.1 in
    let asked = c.from.ensures ∙ ap asked_for c.sort.ensures in
    let is = (denotes_sound c.from.result xs found.0 found.1).1 in
    let read = c.in_ok-read.field-0 in
    (found.0, subst (λ a. Denotes a xs found.0) asked found.1, subst (g.C.Cells.Holds read.head read.cells) (ap contents told.0 ∙ sym is) c.in_ok-read.ensures)
