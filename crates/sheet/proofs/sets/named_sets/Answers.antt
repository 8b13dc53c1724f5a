use Rattle.std.proofs.Common.{◌≡◌, [], get_or, vec_items, length, subst, rules, arith}
use Rattle.std.specs.Result.{IfOk}
use Rattle.std.proofs.lemmas.Iterator.{YieldsList-from_map, YieldsList-from_range, items_from_collect}
use Rattle.sheet.specs.Models.{named_mask}
use Rattle.sheet.specs.Tables.{formulas}
use Rattle.sheet.proofs.Indexed.{map_read}
use Rattle.sheet.proofs.sets.named_sets.Goals as goal

pub returns : goal.returns
returns c =
    let fs = formulas c.args.table.now in
    let cells = YieldsList-from_range 0 c.cells.result (length fs) (cc) (omega (arith, c.cells.ensures)) in
    let made = items_from_collect _ c.collect.ensures.ran (YieldsList-from_map _ (λ i. named_mask (get_or fs i [])) cells c.map.ensures.closure (λ x r q k. search rules)) in
    subst (λ all. IfOk c.collect.result (λ v. vec_items v ≡ all)) (map_read named_mask [] fs) made
