use Rattle.std.proofs.Common.{◌≡◌, true, false, [], length, get_or, sym, ◌∙◌, rules, arith}
use Rattle.std.proofs.lemmas.Iterator.{YieldsList-from_range, cases_from_all}
use Rattle.std.specs.Cmp.Lexicographic.{pointwise}
use Rattle.formula.specs.contracts.token.TokenPartialEq.TheImpl.{ghosts}
use Rattle.sheet.specs.Tables.{formulas}
use Rattle.sheet.proofs.Indexed.{told}
use Rattle.sheet.proofs.strings.TablePartialEq.eq.Goals as goal

pub returns-then-cells : goal.returns-then-cells
returns-then-cells c =
    let fs = formulas c.args.self.now in
    let gs = formulas c.args.other.now in
    let E = pointwise ghosts.eq in
    let n = length fs in
    told E [] fs gs c.all.result (sym c.cells.ensures ∙ c.if-cells.true ∙ c.cells-2.ensures) (cases_from_all _ _ c.all.result (λ k. E (get_or fs k []) (get_or gs k []) ≡ true) (λ k. E (get_or fs k []) (get_or gs k []) ≡ false) c.all.ensures.ran (YieldsList-from_range 0 c.cells-then-cells.result n (cc) (omega (arith, c.cells-then-cells.ensures))) (λ x q k. search rules) (λ x q k. search rules))
