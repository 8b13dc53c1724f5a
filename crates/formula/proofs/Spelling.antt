-- What it means that tokens spell a formula: they can be read, and their value is the formula's.
use Rattle.std.proofs.Common.{◌≡◌, ℕ, suc, ◌+◌, ◌≤◌, Bool, true, false, cond, ◌&&◌, ◌||◌, ltb, List, [], ◌∷◌, ◌++◌, length, is_some, Some, None, Option, sym, refl, ap, ◌∙◌, subst, ⊎_elim, append_assoc, append-nil, arith}
use Rattle.std.proofs.lemmas.Bool.{false≢true, lt-ltb, ltb-true, eqb-true, ne_eqb, cond-true, and_parts, and_from, or_cases, or_left, or_right}
use Rattle.formula.specs.declared.token.Token.{Token}
use Rattle.formula.specs.declared.token.Token.TheVariants.{Location, True, False, And, Or}
use Rattle.formula.specs.Formulas.{Formula, at, always, never, both, either, value, postfix, waiting}
use Rattle.formula.specs.Machine.{pushed, then_run, run, only, evaluated, Spells, Values}
use Rattle.formula.specs.Sets.{has}
use Rattle.formula.specs.Shape.{shaped}

-- a formula's tokens leave its value over those that waited
module _ (s : ℕ → Bool) where
  push_one : (v : Bool) (ts : List Token) (vs : List Bool) → length vs + 1 ≤ 32 → then_run (run s ts) (pushed v vs) ≡ run s ts (v ∷ vs)
  push_one v ts vs h = ap (then_run (run s ts)) (cond-true _ (Some (v ∷ vs)) None (lt-ltb (length vs) 32 (omega arith)))

  run_postfix : (f : Formula) (ts : List Token) (vs : List Bool) → length vs + waiting f ≤ 32 → run s (postfix f ++ ts) vs ≡ run s ts (value s f ∷ vs)
  run_postfix (at l) ts vs h = push_one (s l) ts vs h
  run_postfix always ts vs h = push_one true ts vs h
  run_postfix never ts vs h = push_one false ts vs h
  run_postfix (both f g) ts vs h =
      simp append_assoc (run_postfix f (postfix g ++ And ∷ ts) vs (omega arith) ∙ run_postfix g (And ∷ ts) (value s f ∷ vs) (omega arith))
  run_postfix (either f g) ts vs h =
      simp append_assoc (run_postfix f (postfix g ++ Or ∷ ts) vs (omega arith) ∙ run_postfix g (Or ∷ ts) (value s f ∷ vs) (omega arith))

pub spells_evaluated : (s : ℕ → Bool) (f : Formula) (ts : List Token) → Spells f ts → evaluated s ts ≡ Some (value s f)
spells_evaluated s f ts sp =
    ap (evaluated s) (sym (append-nil (postfix f) ∙ sp.spelled)) ∙ ap only (run_postfix s f [] [] (omega arith))

-- with two values waiting a connective can be read
two_wait : (n : ℕ) → ltb 1 (suc (suc n)) ≡ true
two_wait n = lt-ltb 1 (suc (suc n)) (omega arith)

-- a value is pushed where there is room
when_room : (b r : Bool) (go : List Bool → Option (List Bool)) (vs : List Bool) → is_some (only (go vs)) ≡ r → is_some (only (then_run go (cond b (Some vs) None))) ≡ (b && r)
when_room true r go vs h = h
when_room false r go vs h = refl

-- whether one value is left depends on how many wait, and not on which
left_shaped : (s : ℕ → Bool) (ts : List Token) (vs : List Bool) → is_some (only (run s ts vs)) ≡ shaped (length vs) ts
left_shaped s [] [] = refl
left_shaped s [] (v ∷ []) = refl
left_shaped s [] (v ∷ w ∷ vs) = sym (ne_eqb (suc (suc (length vs))) 1 (λ e. omega arith))
left_shaped s (Location l ∷ ts) vs = when_room _ _ (run s ts) (s l ∷ vs) (left_shaped s ts (s l ∷ vs))
left_shaped s (True ∷ ts) vs = when_room _ _ (run s ts) (true ∷ vs) (left_shaped s ts (true ∷ vs))
left_shaped s (False ∷ ts) vs = when_room _ _ (run s ts) (false ∷ vs) (left_shaped s ts (false ∷ vs))
left_shaped s (And ∷ ts) [] = refl
left_shaped s (And ∷ ts) (y ∷ []) = refl
left_shaped s (And ∷ ts) (y ∷ x ∷ vs) = rw (two_wait (length vs)) (left_shaped s ts ((x && y) ∷ vs))
left_shaped s (Or ∷ ts) [] = refl
left_shaped s (Or ∷ ts) (y ∷ []) = refl
left_shaped s (Or ∷ ts) (y ∷ x ∷ vs) = rw (two_wait (length vs)) (left_shaped s ts ((x || y) ∷ vs))

pub evaluated_shaped : (s : ℕ → Bool) (ts : List Token) (v : Bool) → evaluated s ts ≡ Some v → shaped 0 ts ≡ true
evaluated_shaped s ts v e = sym (left_shaped s ts []) ∙ ap is_some e

pub spells_shaped : (f : Formula) (ts : List Token) → Spells f ts → shaped 0 ts ≡ true
spells_shaped f ts sp = evaluated_shaped (λ _. true) ts _ (spells_evaluated (λ _. true) f ts sp)

-- the tokens of the formulas that wait, newest first
abbrev read : List Formula → List Token
read [] = []
read (f ∷ fs) = read fs ++ postfix f

-- each formula can be read over those below it
abbrev Fit : List Formula → Type 0
Fit [] = Unit {0}
Fit (f ∷ fs) = (length fs + waiting f ≤ 32) × Fit fs

abbrev Spelled : List Token → Type 0
Spelled ts = (f : Formula) × Spells f ts

-- a token that is a formula waits with the others
one_waits : (f : Formula) (ts : List Token) (fs : List Formula) → waiting f ≡ 1 → (Fit (f ∷ fs) → shaped (suc (length fs)) ts ≡ true → Spelled (read (f ∷ fs) ++ ts)) → Fit fs → (ltb (length fs) 32 && shaped (suc (length fs)) ts) ≡ true → Spelled (read fs ++ (postfix f ++ ts))
one_waits f ts fs e rest fit h =
    let parts = and_parts _ _ h in
    let below = ltb-true (length fs) 32 parts.0 in
    subst Spelled (append_assoc (read fs) (postfix f) ts) (rest (omega arith, fit) parts.1)

-- tokens that can be read join the formulas that wait into one
rest_spells : (ts : List Token) (fs : List Formula) → Fit fs → shaped (length fs) ts ≡ true → Spelled (read fs ++ ts)
rest_spells [] [] fit h = absurd (false≢true h)
rest_spells [] (f ∷ []) fit h = (f, record { spelled = sym (append-nil (postfix f)); few = omega arith })
rest_spells [] (f ∷ g ∷ fs) fit h = let e = eqb-true _ 1 h in absurd (omega arith)
rest_spells (Location l ∷ ts) fs fit h = one_waits (at l) ts fs refl (rest_spells ts (at l ∷ fs)) fit h
rest_spells (True ∷ ts) fs fit h = one_waits always ts fs refl (rest_spells ts (always ∷ fs)) fit h
rest_spells (False ∷ ts) fs fit h = one_waits never ts fs refl (rest_spells ts (never ∷ fs)) fit h
rest_spells (And ∷ ts) [] fit h = absurd (false≢true h)
rest_spells (And ∷ ts) (g ∷ []) fit h = absurd (false≢true h)
rest_spells (And ∷ ts) (g ∷ f ∷ fs) fit h = subst Spelled (simp append_assoc) (rest_spells ts (both f g ∷ fs) (omega arith, fit.1.1) (and_parts _ _ h).1)
rest_spells (Or ∷ ts) [] fit h = absurd (false≢true h)
rest_spells (Or ∷ ts) (g ∷ []) fit h = absurd (false≢true h)
rest_spells (Or ∷ ts) (g ∷ f ∷ fs) fit h = subst Spelled (simp append_assoc) (rest_spells ts (either f g ∷ fs) (omega arith, fit.1.1) (and_parts _ _ h).1)

pub shaped_spells : (ts : List Token) → shaped 0 ts ≡ true → (f : Formula) × Spells f ts
shaped_spells ts h = rest_spells ts [] tt h

pub value_monotone : (s t : ℕ → Bool) (f : Formula) → ((i : ℕ) → s i ≡ true → t i ≡ true) → value s f ≡ true → value t f ≡ true
value_monotone s t (at l) up h = up l h
value_monotone s t always up h = refl
value_monotone s t never up h = h
value_monotone s t (both f g) up h =
    let parts = and_parts _ _ h in and_from _ _ (value_monotone s t f up parts.0) (value_monotone s t g up parts.1)
value_monotone s t (either f g) up h =
    ⊎_elim (λ k. or_left _ _ (value_monotone s t f up k)) (λ k. or_right _ _ (value_monotone s t g up k)) (or_cases (value s f) (value s g) h)

-- what the tokens' value means
pub evaluated_values : (ts : List Token) (set : ℕ) → Values ts set (evaluated (has set) ts)
evaluated_values ts set = record {
  right = λ f sp. spells_evaluated (has set) f ts sp;
  spelled = λ v e. shaped_spells ts (evaluated_shaped (has set) ts v e);
  monotone = λ larger within e.
      let formula = shaped_spells ts (evaluated_shaped (has set) ts true e) in
      let before = spells_evaluated (has set) formula.0 ts formula.1 in
      let holds : value (has set) formula.0 ≡ true = cc in
      spells_evaluated (has larger) formula.0 ts formula.1 ∙ ap Some (value_monotone (has set) (has larger) formula.0 within holds);
}
