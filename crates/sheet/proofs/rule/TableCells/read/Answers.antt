use Rattle.std.proofs.Common.{◌≡◌, ap₂}
use Rattle.std.proofs.lemmas.Result.{IfOk-weaker}
use Rattle.inspect.specs.Contents.{contents}
use Rattle.sheet.specs.Automata.{with_formulas}
use Rattle.sheet.specs.Tables.{formulas}
use Rattle.sheet.proofs.Denoteds.{denoted_head}
use Rattle.sheet.proofs.rule.TableCells.read.Goals as goal

pub returns : goal.returns
returns c =
    let sheet = c.args.sheet in
    let says = contents sheet.bytes.now in
    IfOk-weaker c.read_table.result (λ table. formulas table ≡ says.formulas) (λ table. with_formulas sheet.head (formulas table) ≡ says) (λ table same. ap₂ with_formulas (denoted_head sheet.bytes.now sheet.head sheet.denoted) same) c.read_table.ensures
