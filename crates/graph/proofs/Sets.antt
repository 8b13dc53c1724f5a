-- The sets Y and X: closed downwards, Y falling, X rising, Y of the next round the union of X, and X settled where it stays once. Assumes nothing.
use Rattle.std.proofs.Common.{◌≡◌, ℕ, zero, suc, ◌≤◌, true, sym, refl, ◌∙◌, subst, ⊎_elim, arith}
use Rattle.std.proofs.lemmas.Bool.{cases_lt}
use Rattle.graph.specs.Meaning.{Meaning, Lawful, State}
use Rattle.graph.specs.Sets.{Enters, Y, X, Within, Same}
use Rattle.graph.specs.Walks.{Step}
use Rattle.graph.proofs.Walks.{step_state, step_follows}

-- a walk of k steps to an accepting state that steps into P, step by step
abbrev pub Hits : {S : Type 0} → Meaning S → (S → Type 0) → ℕ → S → Type 0
Hits {S} m P zero a = (m.accepts a ≡ true) × ((b : S) × Step m a b × P b)
Hits {S} m P (suc k) a = (b : S) × Step m a b × Hits m P k b

module _ {S : Type 0} (m : Meaning S) where
  pub hits : (P : S → Type 0) (k : ℕ) (a : S) → Enters m P k a → Hits m P k a
  hits P zero a e = (subst (λ s. m.accepts s ≡ true) (sym e.walk) e.accepts, (e.next, subst (λ s. Step m s e.next) (sym e.walk) e.steps, e.into))
  hits P (suc k) a e =
      let w = e.walk in
      (w.0, w.1, hits P k w.0 (record { accepting = e.accepting; next = e.next; walk = w.2; accepts = e.accepts; steps = e.steps; into = e.into }))

  pub enters_step : (P : S → Type 0) (k : ℕ) (a b : S) → Step m a b → Enters m P k b → Enters m P (suc k) a
  enters_step P k a b s e = record { accepting = e.accepting; next = e.next; walk = (b, s, e.walk); accepts = e.accepts; steps = e.steps; into = e.into }

  pub enters : (P : S → Type 0) (k : ℕ) (a : S) → Hits m P k a → Enters m P k a
  enters P zero a h = record { accepting = a; next = h.1.0; walk = refl; accepts = h.0; steps = h.1.1; into = h.1.2 }
  enters P (suc k) a h = enters_step P k a h.0 h.1 (enters P k h.0 h.2)

  pub enters_more : (P Q : S → Type 0) (k : ℕ) (a : S) → Within P Q → Enters m P k a → Enters m Q k a
  enters_more P Q k a in-q e = record { accepting = e.accepting; next = e.next; walk = e.walk; accepts = e.accepts; steps = e.steps; into = in-q e.next e.into }

  pub y_state : (n : ℕ) → Within (Y m n) (State m)
  y_state zero a y = y
  y_state (suc n) a y = y.0

  pub y_falls : (n : ℕ) → Within (Y m (suc n)) (Y m n)
  y_falls zero a y = y.0
  y_falls (suc n) a y = (y.0, (y.1.0, enters_more (Y m (suc n)) (Y m n) y.1.0 a (y_falls n) y.1.1))

  pub y_falls_to : (i n : ℕ) → i ≤ n → Within (Y m n) (Y m i)
  y_falls_to i zero le a y = let e : 0 ≡ i = omega arith in subst (λ k. Y m k a) e y
  y_falls_to i (suc n) le a y = ⊎_elim (λ lt. y_falls_to i n (omega arith) a (y_falls n a y)) (λ ge. let e : suc n ≡ i = omega arith in subst (λ k. Y m k a) e y) (cases_lt i (suc n))

  pub x_rises : (n i j : ℕ) → i ≤ j → Within (X m n i) (X m n j)
  x_rises n i j le a x = (x.0, (x.1.0, omega (arith, x.1.1), x.1.2))

  pub x_none : (n : ℕ) (a : S) → X m n 0 a → ⊥
  x_none n a x = omega (arith, x.1.1)

  pub x_in_y : (n j : ℕ) → Within (X m n j) (Y m (suc n))
  x_in_y n j a x = (x.0, (x.1.0, x.1.2))

  pub y_in_x : (n : ℕ) (a : S) → Y m (suc n) a → (j : ℕ) × X m n j a
  y_in_x n a y = (suc y.1.0, (y.0, (y.1.0, omega arith, y.1.1)))

  -- a step into X
  pub x_step : (n j : ℕ) (a b : S) → State m a → Step m a b → X m n j b → X m n (suc j) a
  x_step n j a b s t x = (s, (suc x.1.0, omega (arith, x.1.1), enters_step (Y m n) x.1.0 a b t x.1.2))

  pub x_first : (n j : ℕ) (a b : S) → State m a → m.accepts a ≡ true → Step m a b → Y m n b → X m n (suc j) a
  x_first n j a b s e t y = (s, (0, omega arith, enters (Y m n) 0 a (e, (b, t, y))))

module _ {S : Type 0} (m : Meaning S) (l : Lawful m) where
  abbrev Down : (S → Type 0) → Type 0
  Down P = (a b : S) → State m a → m.below a b ≡ true → P b → P a

  hits_down : (P : S → Type 0) → Within P (State m) → Down P → (k : ℕ) (a b : S) → State m a → State m b → m.below a b ≡ true → Hits m P k b → Hits m P k a
  hits_down P s d zero a b sa sb e h =
      let r = step_follows m l a b h.1.0 sa sb e h.1.1 in
      (l.alike a b sa sb e ∙ h.0, (r.0, r.1, d r.0 h.1.0 (step_state m l a r.0 sa r.1) r.2 h.1.2))
  hits_down P s d (suc k) a b sa sb e h =
      let r = step_follows m l a b h.0 sa sb e h.1 in
      (r.0, r.1, hits_down P s d k r.0 h.0 (step_state m l a r.0 sa r.1) (step_state m l b h.0 sb h.1) r.2 h.2)

  enters_down : (P : S → Type 0) → Within P (State m) → Down P → (k : ℕ) (a b : S) → State m a → State m b → m.below a b ≡ true → Enters m P k b → Enters m P k a
  enters_down P s d k a b sa sb e h = enters m P k a (hits_down P s d k a b sa sb e (hits m P k b h))

  pub y_down : (n : ℕ) (a b : S) → State m a → m.below a b ≡ true → Y m n b → Y m n a
  y_down zero a b s e y = s
  y_down (suc n) a b s e y = (s, (y.1.0, enters_down (Y m n) (y_state m n) (y_down n) y.1.0 a b s y.0 e y.1.1))

  pub x_down : (n j : ℕ) (a b : S) → State m a → m.below a b ≡ true → X m n j b → X m n j a
  x_down n j a b s e x = (s, (x.1.0, x.1.1, enters_down (Y m n) (y_state m n) (y_down n) x.1.0 a b s x.0 e x.1.2))

  hits_stay : (n j : ℕ) → Within (X m n (suc j)) (X m n j) → (k : ℕ) (a : S) → State m a → Hits m (Y m n) k a → X m n j a
  hits_stay n j stays zero a s h = stays a (s, (0, omega arith, enters m (Y m n) 0 a h))
  hits_stay n j stays (suc k) a s h =
      stays a (x_step m n j a h.0 s h.1 (hits_stay n j stays k h.0 (step_state m l a h.0 s h.1) h.2))

  -- where X stays once, it is the next Y
  pub y_settled : (n j : ℕ) → Within (X m n (suc j)) (X m n j) → Within (Y m (suc n)) (X m n j)
  y_settled n j stays a y = hits_stay n j stays y.1.0 a y.0 (hits m (Y m n) y.1.0 a y.1.1)

  pub settled : (n j : ℕ) → Same (X m n (suc j)) (X m n j) → Same (X m n j) (Y m (suc n))
  settled n j stays = (x_in_y m n j, y_settled n j stays.0)

  pub x_settled : (n j i : ℕ) → Same (X m n (suc j)) (X m n j) → j ≤ i → Same (X m n i) (X m n j)
  x_settled n j i stays le = (λ a x. y_settled n j stays.0 a (x_in_y m n i a x), x_rises m n j i le)
