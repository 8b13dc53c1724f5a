use Rattle.std.proofs.Common.{sym, ap, ◌∙◌, subst}
use Rattle.inspect.specs.declared.head.Asked.TheVariants as asked
use Rattle.inspect.specs.Contents.{contents}
use Rattle.inspect.proofs.Meaning.{denotes_sound}
use Rattle.sheet.specs.Models.{IsModel}
use Rattle.sheet.specs.Rules.{IsRule}
use Rattle.sheet.proofs.automaton.load.Goals as goal

pub returns-in_ok-read-in-Rule : goal.returns-in_ok-read-in-Rule
returns-in_ok-read-in-Rule c =
    let told = c.in_ok-sheet.ensures in
    let found = told.1 in
    let is = sym (denotes_sound asked.Either c.args.sheet.now found.0 found.1).1 in
    (found.0, found.1, subst (IsRule c.in_ok-read-in-Rule.field-0) (ap contents told.0 ∙ is) c.in_ok-read-in-Rule.ensures)

pub returns-in_ok-read-in-Model : goal.returns-in_ok-read-in-Model
returns-in_ok-read-in-Model c =
    let told = c.in_ok-sheet.ensures in
    let found = told.1 in
    let is = sym (denotes_sound asked.Either c.args.sheet.now found.0 found.1).1 in
    (found.0, found.1, subst (IsModel c.in_ok-read-in-Model.field-0) (ap contents told.0 ∙ is) c.in_ok-read-in-Model.ensures)
