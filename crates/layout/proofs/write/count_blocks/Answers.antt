-- Each cell with tokens moves the cursor as its entry does.
use Rattle.std.proofs.Common.{◌≡◌, ◌+◌, ◌*◌, ◌<◌, length, sym, ap, ◌∙◌, arith}
use Rattle.layout.specs.Cursors.{advanced}
use Rattle.layout.specs.Standing.{entry_at, entries_at}
use Rattle.layout.proofs.Cells.{tally, tally_some, tally_step, tally_all, entries_skip, entries_take, entries_end}
use Rattle.layout.proofs.Sheets.{written_few}
use Rattle.layout.proofs.write.count_blocks.Goals as goal
use Rattle.layout.proofs.write.count_blocks.Goals.{then-tokens-gt0, else-tokens-gt0}

pub after-cursor-requires-clause-few : goal.after-cursor-requires-clause-few
after-cursor-requires-clause-few g c =
    let x = c.args.source.now in
    let s = g.S.Source.content x in
    let left = tally_some c.loop-cell.cursor.used (entries_at s c.loop-cell.cell) in
    omega (arith, c.loop-cell.invariant, left, tally_all s, written_few s (g.met.S.Source.valid x))

pub loop-cell-preserved : goal.loop-cell-preserved
loop-cell-preserved g c =
    let x = c.args.source.now in
    let s = g.S.Source.content x in
    let q = c.loop-cell.cell in
    let d = c.loop-cell.cursor in
    let valid = g.met.S.Source.valid x in
    let ends = ap (λ h. h.locations * h.letters) c.head.ensures in
    let inside : q < length s.formulas = omega (arith, valid.long, c.cells-cell-end.ensures, c.loop-cell-test.true) in
    elim c.if-tokens-gt0.branch [
      | then-tokens-gt0 w ↦
          let n = 3 + c.length-tokens.result in
          let some = entries_take s q inside (omega (arith, c.length-tokens.ensures, w.if-tokens-gt0.true)) in
          let moved : c.if-tokens-gt0.cursor ≡ advanced d n = w.cursor-is ∙ w.after-cursor.ensures in
          ap (λ e. e.block + tally e.used (entries_at s (q + 1))) moved
          ∙ sym (tally_step d n (entry_at s q) (entries_at s (q + 1)) (ap (λ m. 3 + m) c.length-tokens.ensures))
          ∙ ap (λ es. d.block + tally d.used es) (sym some) ∙ c.loop-cell.invariant
      | else-tokens-gt0 w ↦
          let none = entries_skip s q inside (omega (arith, c.length-tokens.ensures, w.if-tokens-gt0.false)) in
          ap (λ e. e.block + tally e.used (entries_at s (q + 1))) w.cursor-is ∙ ap (λ es. d.block + tally d.used es) (sym none) ∙ c.loop-cell.invariant
    ]

pub returns : goal.returns
returns g c =
    let x = c.args.source.now in
    let s = g.S.Source.content x in
    let q = c.loop-cell.cell in
    let d = c.loop-cell.cursor in
    let ends = ap (λ h. h.locations * h.letters) c.head.ensures in
    let past = entries_end s q (omega (arith, (g.met.S.Source.valid x).long, c.cells-cell-end.ensures, c.loop-cell-test.false)) in
    let block = c.from.ensures ∙ ap (λ e. e.block) c.cursor.view_is in
    ap (λ k. k + 1) block ∙ ap (λ es. d.block + tally d.used es) (sym past) ∙ c.loop-cell.invariant ∙ tally_all s
