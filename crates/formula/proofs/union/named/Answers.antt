-- Each token joins the set of those before it.
use Rattle.std.proofs.Common.{◌≡◌, ◌%◌, ◌^◌, [], ◌∷◌, rules, tests, ◌∙◌, ap, refl}
use lib.Bits.{bit_or}
use Rattle.std.proofs.lemmas.Fn.{fold_over, fronts, slice_gives}
use Rattle.formula.specs.declared.token.Token.{Token}
use Rattle.formula.specs.Unions.{named}
use Rattle.formula.proofs.Unions.{named_mod_push}
use Rattle.formula.proofs.union.named.Goals as goal

pub returns : goal.returns
returns c =
    let same : c.iter.result.rest.now ≡ c.args.tokens.now = search rules in
    let all = fold_over (fronts {A = Token}) (λ y. y.now) _ (λ ts set. set ≡ named ts % 2 ^ 32) _
    (λ ts a x b q held k.
    let joins : (b ≡ bit_or a (named (x.now ∷ [])) % 2 ^ 32) × (q ≡ _) = search (rules, tests) in
    (joins.0 ∙ ap (λ m. bit_or m (named (x.now ∷ [])) % 2 ^ 32) held ∙ named_mod_push 32 ts x.now, joins.1))
    c.iter.result c.iter.result.rest.now 0 _ (slice_gives c.iter.result) refl c.fold.ensures.ran in
    all ∙ ap (λ ts. named ts % 2 ^ 32) same
