use Rattle.std.proofs.Common.{vec_items, sym, ◌∙◌}
use Rattle.std.proofs.lemmas.List.{length-map}
use Rattle.sheet.specs.Spans.{part}
use Rattle.sheet.proofs.strings.cells.Goals as goal

pub returns : goal.returns
returns c =
    let table = c.args.table.now in
    c.len.ensures ∙ table.spans.ok.0 ∙ sym (length-map (vec_items table.spans) (part (vec_items table.tokens)))
