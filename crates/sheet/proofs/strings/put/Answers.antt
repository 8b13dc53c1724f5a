use Rattle.std.proofs.Common.{◌≡◌, ◌<◌, true, map, length, vec_items, vec_len, sym, ap, ◌∙◌, subst, arith}
use Rattle.std.proofs.lemmas.List.{length-map}
use Rattle.std.proofs.lemmas.Bool.{false≢true}
use Rattle.inspect.specs.Contents.{read}
use Rattle.layout.specs.Valid.{every}
use Rattle.sheet.specs.Spans.{within, parts}
use Rattle.sheet.proofs.Stored.{within_more, within_put, parts_put, parts_past}
use Rattle.sheet.proofs.strings.put.Goals as goal
use Rattle.sheet.proofs.strings.put.Goals.{Start}

-- the spans lie in the store as it was, by its items
inside : (c : Start) → every (within (length (vec_items c.args.table.now.tokens))) (vec_items c.args.table.now.spans) ≡ true
inside c =
    let table = c.args.table.now in
    subst (λ n. every (within n) (vec_items table.spans) ≡ true) table.tokens.ok.0 table.inside

pub invariant_of-table : goal.invariant_of-table
invariant_of-table c = record { inside = within_more _ _ c.in_err-append.ensures.longer _ c.args.table.now.inside }

pub invariant_of-table-in-Some : goal.invariant_of-table-in-Some
invariant_of-table-in-Some c =
    let table = c.args.table.now in
    let bytes = c.args.bytes.now in
    let long : length bytes ≡ length (map read bytes) = sym (length-map bytes read) in
    record { inside = within_put (vec_items table.tokens) (map read bytes) (vec_items table.spans) c.args.cell _ _ _ (c.len-start.ensures ∙ table.tokens.ok.0) long (c.append.new.tokens.ok.0 ∙ ap length c.in_ok-append.ensures.items) (inside (goal.at.invariant_of-table-in-Some c).Start) }

pub invariant_of-table-in_default : goal.invariant_of-table-in_default
invariant_of-table-in_default c = record { inside = within_more _ _ c.in_ok-append.ensures.longer _ c.args.table.now.inside }

pub returns-in-Some : goal.returns-in-Some
returns-in-Some c =
    let table = c.args.table.now in
    let bytes = c.args.bytes.now in
    ap (parts _) c.in_ok-append.ensures.items
    ∙ parts_put (vec_items table.tokens) (map read bytes) (vec_items table.spans) c.args.cell _ _ (c.len-start.ensures ∙ table.tokens.ok.0) (sym (length-map bytes read)) (inside (goal.at.returns-in-Some c).Start)

pub returns-in_default : goal.returns-in_default
returns-in_default c =
    let table = c.args.table.now in
    let bytes = c.args.bytes.now in
    let past : c.args.cell < vec_len table.spans → ⊥ = λ inside. false≢true (c.in_default.ensures.variant.1 inside) in
    ap (parts (vec_items table.spans)) c.in_ok-append.ensures.items
    ∙ parts_past (vec_items table.tokens) (map read bytes) (vec_items table.spans) c.args.cell (omega (arith, past, table.spans.ok.0)) (inside (goal.at.returns-in_default c).Start)
