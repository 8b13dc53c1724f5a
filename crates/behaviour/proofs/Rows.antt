-- A row of states that spells a behaviour once, closes and accepts on its closed part makes the behaviour. Assumes nothing.
use Rattle.std.proofs.Common.{◌≡◌, ℕ, suc, ◌<◌, ◌≤◌, true, ltb, ap, ◌∙◌, subst, arith}
use Rattle.std.proofs.lemmas.Bool.{ltb-false, cond_both}
use Rattle.graph.specs.Meaning.{Meaning}
use Rattle.behaviour.specs.Behaviours.{Behaviour, places, next, place, Makes}
use Rattle.behaviour.proofs.Places.{place_in, place_again}

module _ {S : Type 0} (m : Meaning S) (w : Behaviour) (repeats : 1 ≤ w.again) (state : ℕ → S) (closes : state (places w) ≡ state w.before) (steps : (i : ℕ) → i < places w → m.step (w.letter i) (state i) (state (suc i))) where
  row_step : (i : ℕ) → i < places w → m.step (w.letter i) (state i) (state (next w i))
  row_step i lt =
      cond_both (ltb (suc i) (places w)) (suc i) w.before (λ x. m.step (w.letter i) (state i) (state x)) (λ e. steps i lt)
      (λ e. let last : suc i ≡ places w = omega (arith, ltb-false (suc i) (places w) e) in subst (m.step (w.letter i) (state i)) (ap state last ∙ closes) (steps i lt))

  pub row_makes : state 0 ≡ m.start → (i : ℕ) → w.before ≤ i → i < places w → m.accepts (state i) ≡ true → Makes m w
  row_makes starts i from to accepts =
      record {
        at = λ k. state (place w k);
        starts = starts;
        steps = λ k. row_step (place w k) (place_in w repeats k);
        accepts = λ k. let r = place_again w repeats k i from to in (r.0, ap (λ j. m.accepts (state j)) r.1 ∙ accepts);
      }
