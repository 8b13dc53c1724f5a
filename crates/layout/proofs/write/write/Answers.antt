-- The blocks that are counted are those of the sheet, so it is refused exactly where it does not fit.
use Rattle.std.proofs.Common.{◌*◌, ◌++◌, drop, sym, refl, ap, ◌∙◌, arith}
use Rattle.std.proofs.lemmas.List.{length-take-le}
use Rattle.inspect.specs.Denotes.{Content}
use Rattle.layout.specs.Valid.{Valid}
use Rattle.layout.specs.Writes.{ReadsBack}
use Rattle.layout.proofs.Sheets.{written_length, written_few, written_denotes}
use Rattle.layout.proofs.write.write.Goals as goal

reads_back_lem : (c : Content) → Valid c → ReadsBack c
reads_back_lem c valid = record {
  denotes = λ asked taken. written_denotes asked c valid taken;
  few = omega (arith, written_length c valid, written_few c valid);
}

pub overflow_mul-length : goal.overflow_mul-length
overflow_mul-length g c =
    let x = c.args.source.now in omega (arith, c.count_blocks-length.ensures, written_few (g.S.Source.content x) (g.met.S.Source.valid x))

pub returns-then-out-length : goal.returns-then-out-length
returns-then-out-length g c =
    let x = c.args.source.now in
    let s = g.S.Source.content x in
    let valid = g.met.S.Source.valid x in
    record {
      writes = (refl, omega (arith, c.count_blocks-length.ensures, written_length s valid, c.if-out-length.true), refl);
      reads_back = reads_back_lem s valid;
    }

pub put_sheet-requires : goal.put_sheet-requires
put_sheet-requires g c =
    let x = c.args.source.now in
    length-take-le (c.count_blocks-length.result * 512) c.args.out.now c.if-out-length.false
    ∙ ap (λ n. n * 512) c.count_blocks-length.ensures ∙ sym (written_length (g.S.Source.content x) (g.met.S.Source.valid x))

pub returns : goal.returns
returns g c =
    let x = c.args.source.now in
    let s = g.S.Source.content x in
    let valid = g.met.S.Source.valid x in
    let long = ap (λ n. n * 512) c.count_blocks-length.ensures ∙ sym (written_length s valid) in
    record { writes = (long, c.if-out-length.false, ap (λ ys. ys ++ drop (c.count_blocks-length.result * 512) c.args.out.now) c.put_sheet.ensures); reads_back = reads_back_lem s valid }
