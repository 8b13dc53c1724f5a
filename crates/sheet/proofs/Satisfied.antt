-- The formula for a location and a letter, and its value against a set.
use Rattle.std.proofs.Common.{◌≡◌, ℕ, zero, suc, ◌+◌, ◌*◌, Bool, true, false, ◌&&◌, ltb, List, [], ◌∷◌, get_or, Some, None, Option, unwrap_or, refl, ap}
use Rattle.std.proofs.lemmas.Bool.{and_parts, cond_both, false≢true}
use Rattle.formula.specs.declared.token.Token.{Token}
use Rattle.formula.specs.Formulas.{Formula, never, value}
use Rattle.formula.specs.Machine.{evaluated}
use Rattle.formula.specs.Sets.{has, Within}
use Rattle.formula.proofs.Spelling.{shaped_spells, spells_evaluated, evaluated_values}
use Rattle.inspect.specs.declared.head.Head.{Head}
use Rattle.inspect.specs.Denotes.{Content}
use Rattle.layout.specs.Valid.{Valid, every, proper}
use Rattle.sheet.specs.Rules.{formula_of, holds, Means}

every_getD : {X : Type 0} (test : X → Bool) (xs : List X) (i : ℕ) (d : X) → test d ≡ true → every test xs ≡ true → test (get_or xs i d) ≡ true
every_getD test [] i d h all = h
every_getD test (x ∷ xs) zero d h all = (and_parts _ _ all).0
every_getD test (x ∷ xs) (suc i) d h all = every_getD test xs i d h (and_parts _ _ all).1

-- every formula of a content is proper, where it is missing too
proper_at : (c : Content) → Valid c → (l a : ℕ) → proper c.head (formula_of c l a) ≡ true
proper_at c v l a =
    cond_both (ltb l c.head.locations && ltb a c.head.letters) (get_or c.formulas (l * c.head.letters + a) []) [] (λ ts. proper c.head ts ≡ true) (λ _. every_getD (proper c.head) c.formulas (l * c.head.letters + a) [] refl v.formulas) (λ _. refl)

meant : (h : Head) (ts : List Token) (set : ℕ) → proper h ts ≡ true → (f : Formula) × Means ts f × (holds ts set ≡ value (has set) f)
meant h [] set is = (never, refl, refl)
meant h (t ∷ ts) set is =
    let spelled = shaped_spells (t ∷ ts) (and_parts _ _ is).0 in
    (spelled.0, spelled.1, ap (λ o. unwrap_or o false) (spells_evaluated (has set) spelled.0 (t ∷ ts) spelled.1))

pub satisfies : (c : Content) → Valid c → (l a set : ℕ) → (f : Formula) × Means (formula_of c l a) f × (holds (formula_of c l a) set ≡ value (has set) f)
satisfies c v l a set = meant c.head (formula_of c l a) set (proper_at c v l a)

-- a larger set satisfies what a smaller one does
pub holds_monotone : (ts : List Token) (set larger : ℕ) → Within set larger → holds ts set ≡ true → holds ts larger ≡ true
holds_monotone ts set larger within = go (evaluated (has set) ts) refl
  where
    go : (o : Option Bool) → evaluated (has set) ts ≡ o → unwrap_or o false ≡ true → holds ts larger ≡ true
    go (Some true) e h = ap (λ p. unwrap_or p false) ((evaluated_values ts set).monotone larger within e)
    go (Some false) e h = absurd (false≢true h)
    go None e h = absurd (false≢true h)
