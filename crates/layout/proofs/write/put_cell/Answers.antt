-- A cell's entry is laid where there is room for it.
use Rattle.std.proofs.Common.{◌≡◌, ◌+◌, length, sym, ap, ◌∙◌, ap₂, arith}
use Rattle.inspect.specs.Denotes.{entry_bytes}
use Rattle.layout.specs.Cursors.{position, advanced, roomy}
use Rattle.layout.specs.Pasted.{pasted}
use Rattle.layout.specs.Standing.{entry_at, entries_at}
use Rattle.layout.proofs.Packing.{length_entry}
use Rattle.layout.proofs.Pastes.{pasted_part}
use Rattle.layout.proofs.Standing.{stands_same, Laid, cell_laid}
use Rattle.layout.proofs.write.put_cell.Given as given
use Rattle.layout.proofs.write.put_cell.Goals as goal
use Rattle.layout.proofs.write.put_cell.Goals.{Else-tokens-eq0}

laid : (g : given.Over) (c : Else-tokens-eq0 g) → Laid (g.S.Source.content c.args.source.now) c.args.out.now c.args.cursor c.args.cell (3 + c.length-tokens.result)
laid g c = cell_laid _ _ _ _ _ c.requires.inside c.length-tokens.ensures c.if-tokens-eq0.false c.requires.begun

pub make_room-room-requires-clause-room : goal.make_room-room-requires-clause-room
make_room-room-requires-clause-room g c = (laid g (goal.at.make_room-room-requires-clause-room g c).Else-tokens-eq0).fit

pub slice_bounds-put_entry-end : goal.slice_bounds-put_entry-end
slice_bounds-put_entry-end g c =
    let l = laid g (goal.at.slice_bounds-put_entry-end g c).Else-tokens-eq0 in
    let long = length_entry (entry_at (g.S.Source.content c.args.source.now) c.args.cell) in
    let at = c.at-at.ensures ∙ ap position c.make_room-room.ensures.cursor in
    omega (arith, l.entry, long, c.length-tokens.ensures, at, ap length c.make_room-room.ensures.bytes)

pub returns : goal.returns
returns g c =
    let l = laid g (goal.at.returns g c).Else-tokens-eq0 in
    let s = g.S.Source.content c.args.source.now in
    let n = 3 + c.length-tokens.result in
    let e = entry_at s c.args.cell in
    let room = c.make_room-room.ensures.cursor in
    let moved : c.after.result ≡ advanced (roomy c.args.cursor n) n = c.after.ensures ∙ ap (λ f. advanced f n) room in
    let long : length (entry_bytes e) ≡ n = length_entry e ∙ ap (λ m. 3 + m) (sym c.length-tokens.ensures) in
    let out = pasted_part c.make_room-room.new.out c.put_entry.new.out (entry_bytes e) c.at-at.result n c.put_entry.ensures long
    ∙ ap₂ (λ ys p. pasted ys p (entry_bytes e)) c.make_room-room.ensures.bytes (c.at-at.ensures ∙ ap position room) in
    stands_same s (entries_at s (c.args.cell + 1)) out moved l.stands
