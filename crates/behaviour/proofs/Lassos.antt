-- An endless walk that spells a behaviour comes back to an accepting state at the same place. Assumes nothing.
use Rattle.std.proofs.Common.{◌≡◌, ℕ, zero, suc, ◌+◌, ◌-◌, ◌<◌, ◌≤◌, true, length, sym, ap, subst, ⊎_elim, arith}
use Rattle.std.proofs.lemmas.Bool.{cases_lt}
use Rattle.std.specs.List.{range_with_len}
use Rattle.graph.specs.Lists.{products}
use Rattle.graph.specs.Meaning.{Meaning, Lawful, State}
use Rattle.graph.proofs.Counting.{counting_in}
use Rattle.graph.proofs.Lists.{twice}
use Rattle.graph.proofs.Members.{products_in}
use Rattle.behaviour.specs.Behaviours.{Behaviour, Proper, Makes, places, place}
use Rattle.behaviour.proofs.Places.{place_in, letter_in}

pub record Lasso {S : Type 0} (m : Meaning S) (w : Behaviour) (g : Makes m w) : Type 0 where
  -- after so many steps, and again so many steps later
  pub turn : ℕ
  pub round : ℕ
  pub some : 1 ≤ round
  pub accepts : m.accepts (g.at turn) ≡ true
  pub same : g.at (turn + round) ≡ g.at turn
  pub there : place w (turn + round) ≡ place w turn

module _ {S : Type 0} (m : Meaning S) (w : Behaviour) (g : Makes m w) where
  -- rising numbers of steps after which the state accepts
  abbrev turns : ℕ → ℕ
  turns zero = 0 + (g.accepts 0).0
  turns (suc i) = suc (turns i) + (g.accepts (suc (turns i))).0

  turns_accept : (i : ℕ) → m.accepts (g.at (turns i)) ≡ true
  turns_accept zero = (g.accepts 0).1
  turns_accept (suc i) = (g.accepts (suc (turns i))).1

  turns_rise : (i j : ℕ) → i < j → turns i < turns j
  turns_rise i zero lt = absurd (omega arith)
  turns_rise i (suc j) lt = ⊎_elim (λ below. omega (arith, turns_rise i j below)) (λ ge. let e : i ≡ j = omega arith in omega (arith, ap turns e)) (cases_lt i j)

module _ {S : Type 0} (m : Meaning S) (l : Lawful m) (w : Behaviour) (p : Proper m.letters w) (g : Makes m w) where
  makes_state : (t : ℕ) → State m (g.at t)
  makes_state zero = subst (State m) (sym g.starts) l.start_state
  makes_state (suc t) = l.step_state (w.letter (place w t)) (g.at t) (g.at (suc t)) (letter_in m.letters w p t) (makes_state t) (g.steps t)

  -- the state and the place after so many steps
  abbrev pair : S → ℕ → S × ℕ
  pair a i = (a, i)

  abbrev both : ℕ → S × ℕ
  both t = pair (g.at t) (place w t)

  pub lasso : Lasso m w g
  lasso =
      let spots = range_with_len 0 (places w) in
      let all = products pair m.states spots in
      let time = turns m w g in
      let r = twice (length all) all (λ i. both (time i)) (omega arith) (λ i le. products_in pair (g.at (time i)) (place w (time i)) m.states spots (makes_state (time i)) (counting_in 0 (places w) (place w (time i)) (omega arith) (omega (arith, place_in w p.repeats (time i))))) in
      let t = time r.0 in
      let u = time r.1 in
      let rises : t < u = turns_rise m w g r.0 r.1 r.2 in
      let e : u ≡ t + (u - t) = omega arith in
      let again : both (t + (u - t)) ≡ both t = rw e at (sym r.4) in
      record { turn = t; round = u - t; some = omega arith; accepts = turns_accept m w g r.0; same = ap (λ q. q.0) again; there = ap (λ q. q.1) again }
