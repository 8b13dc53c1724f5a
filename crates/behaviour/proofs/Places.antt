-- Every step of a behaviour is at one of its places, and the first of those that repeat comes again. Assumes nothing.
use Rattle.std.proofs.Common.{◌≡◌, ℕ, zero, suc, ◌+◌, ◌-◌, ◌<◌, ◌≤◌, ltb, ap, ◌∙◌, add-zero, add_assoc, add-suc, arith}
use Rattle.std.proofs.lemmas.Bool.{ltb-true, lt-ltb, le-ltb, cond_both, cond-true, cond-false}
use Rattle.behaviour.specs.Behaviours.{Behaviour, Proper, places, next, place}

module _ (w : Behaviour) (repeats : 1 ≤ w.again) where
  pub place_in : (t : ℕ) → place w t < places w
  place_in zero = omega arith
  place_in (suc t) = let i = place w t in cond_both (ltb (suc i) (places w)) (suc i) w.before (λ x. x < places w) (ltb-true (suc i) (places w)) (λ e. omega arith)

  place_on : (t d : ℕ) → place w t + d < places w → place w (t + d) ≡ place w t + d
  place_on t zero lt = simp add-zero
  place_on t (suc d) lt =
      let i = place w t + d in
      let more : suc i < places w = omega arith in
      simp add-suc (ap (next w) (place_on t d (omega arith)) ∙ cond-true (ltb (suc i) (places w)) (suc i) w.before (lt-ltb (suc i) (places w) more))

  -- by the last place
  pub place_back : (t : ℕ) → (d : ℕ) × (place w (t + d) ≡ w.before)
  place_back t =
      let here = place_in t in
      let d = places w - suc (place w t) in
      let i = place w t + d in
      (suc d, rw add-suc (ap (next w) (place_on t d (omega arith)) ∙ cond-false (ltb (suc i) (places w)) (suc i) w.before (le-ltb (suc i) (places w) (omega arith))))

  pub place_again : (t i : ℕ) → w.before ≤ i → i < places w → (d : ℕ) × (place w (t + d) ≡ i)
  place_again t i from to =
      let r = place_back t in
      let d = i - w.before in
      let on = place_on (t + r.0) d (omega (arith, r.1)) in
      (r.0 + d, rw (← add_assoc) (omega (arith, on, r.1)))

pub letter_in : (letters : ℕ) (w : Behaviour) → Proper letters w → (t : ℕ) → w.letter (place w t) < letters
letter_in letters w p t = p.known (place w t) (place_in w p.repeats t)
