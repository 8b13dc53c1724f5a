use Rattle.inspect.specs.Contents.{contents}
use Rattle.layout.proofs.Valids.{test_valid}
use Rattle.sheet.proofs.headed.Headed.read.Goals as goal

pub invariant_of-result : goal.invariant_of-result
invariant_of-result g c =
    let laws = g.met.C.Cells in
    let says = contents c.args.sheet.bytes.now in
    let valid = test_valid says c.args.sheet.valid in
    record {
      sort = c.requires;
      valid = laws.written _ _ says c.in_ok-cells.ensures valid;
      fits = laws.fitting _ _ says c.in_ok-cells.ensures valid;
    }
