-- A location joins the set, and no other token names one.
use Rattle.std.proofs.Common.{◌≡◌, ◌%◌, ◌^◌, [], ◌∷◌, sym, ap, ◌∙◌, ⊎_elim, mod-eq_of_lt}
use lib.Bits.{bit_or, or_zero_r}
use Rattle.formula.specs.declared.token.Token.{Token}
use Rattle.formula.specs.Unions.{named}
use Rattle.formula.proofs.union.joined.Goals as goal

pub returns-in-Location : goal.returns-in-Location
returns-in-Location c =
    let alone = ap (λ t. named (t ∷ [])) c.in-Location.is ∙ or_zero_r _ in
    c.with.ensures ∙ sym (ap (λ m. bit_or c.args.set m % 2 ^ 32) alone)

pub returns-in-True : goal.returns-in-True
returns-in-True c =
    let name = λ (t : Token). named (t ∷ []) in
    let none : named (c.args.token ∷ []) ≡ 0 = ⊎_elim (ap name) (⊎_elim (ap name) (⊎_elim (ap name) (ap name))) c.in-True.is in
    sym (ap (λ m. bit_or c.args.set m % 2 ^ 32) none ∙ ap (λ m. m % 2 ^ 32) (or_zero_r _) ∙ mod-eq_of_lt c.ranges.set.fits)
