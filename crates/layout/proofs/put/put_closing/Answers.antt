-- FF and the zeros behind it are laid as one, and nothing where no byte is left.
use Rattle.std.proofs.Common.{◌≡◌, ◌+◌, ◌-◌, [], ◌∷◌, sym, refl, ap, ◌∙◌, ap₂, arith}
use Rattle.std.proofs.lemmas.Bool.{cond-true, cond-false, lt-ltb, le-ltb}
use Rattle.layout.specs.Cursors.{position, closing}
use Rattle.layout.specs.Pasted.{pasted}
use Rattle.layout.specs.Written.{zeros}
use Rattle.layout.proofs.Pastes.{pasted_pasted, pasted_none}
use Rattle.layout.proofs.put.put_closing.Goals as goal

pub returns-then-cursor-lt-BODY : goal.returns-then-cursor-lt-BODY
returns-then-cursor-lt-BODY c =
    let d = c.args.cursor in
    let at = position d in
    let used = ap (λ e. e.used) c.cursor.view_is in
    let left = ap (λ e. zeros (507 - e.used)) c.cursor-then-cursor-lt-BODY.view_is in
    let closes : closing d.used ≡ 0xff ∷ zeros (507 - d.used) = cond-true _ _ _ (lt-ltb d.used 508 (omega (arith, used))) in
    let first = c.put.ensures ∙ ap (λ p. pasted c.args.out.now p (0xff ∷ [])) c.at-at.ensures in
    c.put_zeros.ensures ∙ ap (pasted c.put.new.out _) left
    ∙ ap₂ (λ ys p. pasted ys (p + 1) (zeros (507 - d.used))) first c.at-at.ensures
    ∙ pasted_pasted c.args.out.now (0xff ∷ []) at (omega (arith, used)) (zeros (507 - d.used)) (at + 1) refl ∙ ap (pasted c.args.out.now at) (sym closes)

pub returns-else-cursor-lt-BODY : goal.returns-else-cursor-lt-BODY
returns-else-cursor-lt-BODY c =
    let used = ap (λ e. e.used) c.cursor.view_is in
    let closes : closing c.args.cursor.used ≡ [] = cond-false _ _ _ (le-ltb c.args.cursor.used 508 (omega (arith, used))) in
    pasted_none c.args.out.now _ ∙ ap (pasted c.args.out.now _) (sym closes)
