-- How the phase turns over time: it waits above again and again exactly when both accept again and again. Assumes nothing.
use Rattle.std.proofs.Common.{◌≡◌, ℕ, zero, suc, ◌+◌, ◌<◌, Bool, true, false, ◌&&◌, sym, refl, ◌∙◌, subst, ⊎_elim, add-zero, arith}
use Rattle.std.proofs.lemmas.Bool.{and_parts, cases_Bool}
use Rattle.layer.specs.declared.layered.Phase.{Phase}
use Rattle.layer.specs.declared.layered.Phase.TheVariants.{Above, Below}
use Rattle.layer.specs.Phases.{awaits, phase_after}
use Rattle.layer.specs.PhasesLemmas.{apart, awaiting}

here : (P : ℕ → Type 0) (t : ℕ) → P t → P (t + 0)
here P t = subst P (sym (add-zero t))

onward : (P : ℕ → Type 0) (t d : ℕ) → P (suc t + d) → P (t + suc d)
onward P t d = let e : suc t + d ≡ t + suc d = omega arith in subst P e

back : (P : ℕ → Type 0) (t d : ℕ) → P (t + suc d) → P (suc t + d)
back P t d = let e : t + suc d ≡ suc t + d = omega arith in subst P e

-- again and again
abbrev pub Again : (ℕ → Bool) → Type 0
Again f = (t : ℕ) → (d : ℕ) × (f (t + d) ≡ true)

module _ (location state : ℕ → Bool) (phase : ℕ → Phase) (turns : (t : ℕ) → phase (suc t) ≡ phase_after (location t) (state t) (phase t)) where
  abbrev Waits : Phase → ℕ → Type 0
  Waits p t = phase t ≡ p

  stays_above : (t : ℕ) → phase t ≡ Above → location t ≡ false → phase (suc t) ≡ Above
  stays_above t p e = turns t ∙ λ i. phase_after (e i) (state t) (p i)

  turns_below : (t : ℕ) → phase t ≡ Above → location t ≡ true → phase (suc t) ≡ Below
  turns_below t p e = turns t ∙ λ i. phase_after (e i) (state t) (p i)

  stays_below : (t : ℕ) → phase t ≡ Below → state t ≡ false → phase (suc t) ≡ Below
  stays_below t p e = turns t ∙ λ i. phase_after (location t) (e i) (p i)

  turns_above : (t : ℕ) → phase t ≡ Below → state t ≡ true → phase (suc t) ≡ Above
  turns_above t p e = turns t ∙ λ i. phase_after (location t) (e i) (p i)

  -- from waiting above to waiting below, a location accepted on the way
  pub crossed : (d t : ℕ) → phase t ≡ Above → phase (t + d) ≡ Below → (e : ℕ) × (e < d) × (location (t + e) ≡ true)
  crossed zero t p q = absurd (apart (sym p ∙ subst (Waits Below) (add-zero t) q))
  crossed (suc d) t p q =
      ⊎_elim (λ yes. (0, omega arith, here (λ n. location n ≡ true) t yes))
      (λ no. let r = crossed d (suc t) (stays_above t p no) (back (Waits Below) t d q) in (suc r.0, omega arith, onward (λ n. location n ≡ true) t r.0 r.2))
      (cases_Bool (location t))

  crosses : (d t : ℕ) → phase t ≡ Above → location (t + d) ≡ true → (e : ℕ) × (phase (t + e) ≡ Below)
  crosses zero t p q = (1, onward (Waits Below) t 0 (here (Waits Below) (suc t) (turns_below t p (subst (λ n. location n ≡ true) (add-zero t) q))))
  crosses (suc d) t p q =
      ⊎_elim (λ yes. (1, onward (Waits Below) t 0 (here (Waits Below) (suc t) (turns_below t p yes))))
      (λ no. let r = crosses d (suc t) (stays_above t p no) (back (λ n. location n ≡ true) t d q) in (suc r.0, onward (Waits Below) t r.0 r.1))
      (cases_Bool (location t))

  abbrev Settled : ℕ → Type 0
  Settled t = (awaits (phase t) && state t) ≡ true

  settled : (t : ℕ) → phase t ≡ Below → state t ≡ true → Settled t
  settled t p e = λ i. awaits (p i) && e i

  settles : (d t : ℕ) → phase t ≡ Below → state (t + d) ≡ true → (e : ℕ) × Settled (t + e)
  settles zero t p q = (0, settled (t + 0) (here (Waits Below) t p) q)
  settles (suc d) t p q =
      ⊎_elim (λ yes. (0, here Settled t (settled t p yes)))
      (λ no. let r = settles d (suc t) (stays_below t p no) (back (λ n. state n ≡ true) t d q) in (suc r.0, onward Settled t r.0 r.1))
      (cases_Bool (state t))

  pub settles_again : Again location → Again state → Again (λ t. awaits (phase t) && state t)
  settles_again above below t = go (phase t) refl
    where
      from_below : (d : ℕ) → phase (t + d) ≡ Below → (e : ℕ) × Settled (t + e)
      from_below d p =
          let r = below (t + d) in
          let q = settles r.0 (t + d) p r.1 in
          let e : t + d + q.0 ≡ t + (d + q.0) = omega arith in
          (d + q.0, subst Settled e q.1)

      go : (p : Phase) → phase t ≡ p → (e : ℕ) × Settled (t + e)
      go Above p = let r = crosses (above t).0 t p (above t).1 in from_below r.0 r.1
      go Below p = from_below 0 (here (Waits Below) t p)

  pub parts : (t : ℕ) → Settled t → (phase t ≡ Below) × (state t ≡ true)
  parts t s = let r = and_parts (awaits (phase t)) (state t) s in (awaiting (phase t) r.0, r.1)

  -- after a settled step, and before it comes again
  pub between : (t d : ℕ) → Settled t → Settled (suc t + d) → (e : ℕ) × (e < d) × (location (suc t + e) ≡ true)
  between t d s r = let p = parts t s in crossed d (suc t) (turns_above t p.0 p.1) (parts (suc t + d) r).0

  pub crosses_again : Again (λ t. awaits (phase t) && state t) → Again location
  crosses_again again t =
      let r = again t in
      let u = t + r.0 in
      let q = again (suc u) in
      let w = between u q.0 r.1 q.1 in
      let e : suc u + w.0 ≡ t + suc (r.0 + w.0) = omega arith in
      (suc (r.0 + w.0), subst (λ n. location n ≡ true) e w.2)
