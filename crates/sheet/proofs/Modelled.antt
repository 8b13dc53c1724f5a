-- Models: the sets that a table names.
use Rattle.std.proofs.Common.{◌≡◌, ℕ, ◌^◌, ◌≤◌, true, List, [], ◌∷◌, map, refl, ap₂, mod-eq_of_lt, arith, pow_mono}
use Rattle.std.proofs.lemmas.Bool.{and_parts, ltb-true}
use Rattle.formula.specs.declared.token.Token.{Token}
use Rattle.formula.specs.Unions.{named}
use Rattle.inspect.specs.Denotes.{Content}
use Rattle.layout.specs.Valid.{Valid}
use Rattle.layout.proofs.Successors.{named_small}
use Rattle.sheet.specs.Automata.{small}
use Rattle.sheet.specs.Models.{named_mask}

-- no set that a content names has a bit past the mask
fit_masks : (n : ℕ) → n ≤ 32 → (fs : List (List Token)) → small n (map named fs) ≡ true → map named_mask fs ≡ map named fs
fit_masks n few [] all = refl
fit_masks n few (ts ∷ fs) all =
    let here = ltb-true (named ts) (2 ^ n) (and_parts _ _ all).0 in
    let wide : 2 ^ n ≤ 2 ^ 32 = pow_mono few in
    ap₂ (λ m ms. m ∷ ms) (mod-eq_of_lt (omega arith)) (fit_masks n few fs (and_parts _ _ all).1)

pub masks_named : (c : Content) → Valid c → map named_mask c.formulas ≡ map named c.formulas
masks_named c v = fit_masks c.head.locations v.fields.locations c.formulas (named_small c v)
