use Rattle.std.proofs.Common.{vec_items, vec_len, ap, ◌∙◌, arith}
use Rattle.std.proofs.lemmas.Bool.{le-leb}
use Rattle.layout.specs.Valid.{every}
use Rattle.sheet.specs.Spans.{within, parts}
use Rattle.sheet.proofs.Stored.{nowhere, every_replicate, parts_blank}
use Rattle.sheet.proofs.strings.blank.Goals as goal

pub invariant_of-result : goal.invariant_of-result
invariant_of-result c = record { inside = ap (every (within (vec_len c.new.result))) (c.in_ok-spans.ensures.items_if_clones_equal (λ y e. e)) ∙ every_replicate (within (vec_len c.new.result)) c.args.cells nowhere (le-leb 0 _ (omega arith)) }

pub returns : goal.returns
returns c =
    ap (λ ss. parts ss (vec_items c.new.result)) (c.in_ok-spans.ensures.items_if_clones_equal (λ y e. e)) ∙ parts_blank c.args.cells (vec_items c.new.result)
