use Rattle.std.proofs.Common.{◌≡◌, map, vec_items, ap, ◌∙◌}
use Rattle.std.proofs.lemmas.Result.{IfOk-weaker}
use Rattle.formula.specs.Unions.{named}
use Rattle.inspect.specs.Contents.{contents}
use Rattle.layout.proofs.Valids.{test_valid}
use Rattle.sheet.specs.Models.{named_mask}
use Rattle.sheet.proofs.Denoteds.{denoted_head}
use Rattle.sheet.proofs.Modelled.{masks_named}
use Rattle.sheet.proofs.model.SetsCells.read.Goals as goal

pub returns : goal.returns
returns c =
    let sheet = c.args.sheet in
    let says = contents sheet.bytes.now in
    IfOk-weaker c.named_sets.result _ (λ sets. (sheet.head ≡ says.head) × (vec_items sets ≡ map named says.formulas)) (λ sets is. (
      denoted_head sheet.bytes.now sheet.head sheet.denoted,
      is ∙ ap (map named_mask) c.in_ok-table.ensures ∙ masks_named says (test_valid says sheet.valid),
    )) c.named_sets.ensures
