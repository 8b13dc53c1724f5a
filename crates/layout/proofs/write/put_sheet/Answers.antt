-- The head stands before the first cell, and after the last one the end of the open block ends the sheet.
use Rattle.std.proofs.Common.{◌*◌, ◌∷◌, refl, ap, ◌∙◌, subst, arith}
use Rattle.inspect.specs.Format.{kind}
use Rattle.layout.specs.Pasted.{pasted}
use Rattle.layout.specs.Standing.{entries_at, Stands}
use Rattle.layout.specs.Written.{head_payload}
use Rattle.layout.proofs.Cells.{entries_end}
use Rattle.layout.proofs.Sheets.{written_length}
use Rattle.layout.proofs.Standing.{stands_same, stands_start, stands_fit, stands_end}
use Rattle.layout.proofs.write.put_sheet.Goals as goal

pub put_head-requires : goal.put_head-requires
put_head-requires g c =
    let x = c.args.source.now in omega (arith, c.requires, written_length (g.S.Source.content x) (g.met.S.Source.valid x))

pub loop-cell-init : goal.loop-cell-init
loop-cell-init g c =
    let x = c.args.source.now in
    let s = g.S.Source.content x in
    let laid = c.put_head.ensures ∙ ap (λ h. pasted c.args.out.now 0 (kind 0 ∷ 0 ∷ head_payload h)) c.head-head.ensures in
    stands_same s (entries_at s 0) laid refl (stands_start s (g.met.S.Source.valid x) c.args.out.now (omega (arith, c.requires)))

pub put_end-requires : goal.put_end-requires
put_end-requires g c =
    let stands = c.loop-cell.invariant in omega (arith, stands_fit (g.S.Source.content c.args.source.now) _ _ _ stands, stands.room)

pub returns : goal.returns
returns g c =
    let x = c.args.source.now in
    let s = g.S.Source.content x in
    let ends = ap (λ h. h.locations * h.letters) c.head-head.ensures in
    let past = entries_end s c.loop-cell.cell (omega (arith, (g.met.S.Source.valid x).long, c.cells-cell-end.ensures, c.loop-cell-test.false)) in
    c.put_end.ensures ∙ stands_end s _ _ (omega (arith, c.requires, c.loop-cell.auto.out)) (subst (Stands s c.loop-cell.out c.loop-cell.cursor) past c.loop-cell.invariant)
