-- A model laid over a graph makes exactly what both make, and loops where a walk of both meets accepting states of both. Assumes nothing.
use Rattle.std.proofs.Common.{◌≡◌, ℕ, zero, suc, ◌+◌, ◌-◌, Bool, true, ◌↔◌, List, sym, refl, ap, subst, arith}
use Rattle.behaviour.specs.Behaviours.{Behaviour, Proper, Makes, place}
use Rattle.behaviour.proofs.Lassos.{Lasso, lasso}
use Rattle.behaviour.proofs.Places.{letter_in}
use Rattle.behaviour.proofs.Repeats.{makes_loop, loop_makes}
use Rattle.behaviour.proofs.Rows.{row_makes}
use Rattle.graph.specs.Meaning.{Meaning, Lawful}
use Rattle.graph.specs.Walks.{Loop}
use Rattle.inspect.specs.declared.head.Head.{Head}
use Rattle.model_graph.specs.ModelGraph.{graph_of}
use Rattle.layer.specs.declared.layered.Layered.{Layered}
use Rattle.layer.specs.declared.layered.Phase.{Phase}
use Rattle.layer.specs.declared.layered.Phase.TheVariants.{Above}
use Rattle.layer.specs.Both.{MeetsBoth, MakeOne}
use Rattle.layer.specs.Layers.{layered, fitted}
use Rattle.layer.specs.Phases.{phase_after}
use Rattle.layer.proofs.Turns.{settles_again, crosses_again, between, parts}

-- the phase after so many steps
phase_at : (ℕ → Bool) → (ℕ → Bool) → ℕ → Phase
phase_at location state zero = Above
phase_at location state (suc t) = phase_after (location t) (state t) (phase_at location state t)

module _ {S : Type 0} (h : Head) (sets : List ℕ) (m : Meaning S) (w : Behaviour) where
  abbrev upper : Meaning ℕ
  upper = graph_of h sets

  abbrev both : Meaning (Layered S)
  both = fitted h sets m

  module _ (g : Makes both w) where
    abbrev location : ℕ → Bool
    location t = upper.accepts (g.at t).location

    abbrev state : ℕ → Bool
    state t = m.accepts (g.at t).state

    abbrev phase : ℕ → Phase
    phase t = (g.at t).phase

    turns : (t : ℕ) → phase (suc t) ≡ phase_after (location t) (state t) (phase t)
    turns t = (g.steps t).phase

    makes_above : Makes upper w
    makes_above =
        record {
          at = λ t. (g.at t).location;
          starts = ap (λ (a : Layered S). a.location) g.starts;
          steps = λ t. (g.steps t).above;
          accepts = crosses_again location state phase turns g.accepts;
        }

    makes_below : Makes m w
    makes_below =
        record {
          at = λ t. (g.at t).state;
          starts = ap (λ (a : Layered S). a.state) g.starts;
          steps = λ t. (g.steps t).below;
          accepts = λ t. let r = g.accepts t in (r.0, (parts location state phase turns (t + r.0) r.1).1);
        }

  makes_both : Makes upper w → Makes m w → Makes both w
  unfolding phase_at
  makes_both a b =
      let location : ℕ → Bool = λ t. upper.accepts (a.at t) in
      let state : ℕ → Bool = λ t. m.accepts (b.at t) in
      let phase : ℕ → Phase = phase_at location state in
      record {
        at = λ t. layered (a.at t) (phase t) (b.at t);
        starts = λ i. layered (a.starts i) Above (b.starts i);
        steps = λ t. record { above = a.steps t; below = b.steps t; phase = refl };
        accepts = settles_again location state phase (λ t. refl) a.accepts b.accepts;
      }

  pub makes_the_same_lem : Makes both w ↔ (Makes upper w × Makes m w)
  makes_the_same_lem = (λ g. (makes_above g, makes_below g), λ p. makes_both p.0 p.1)

  -- the walk up to where the layer comes back
  lasso_meets : Proper m.letters w → (g : Makes both w) → Lasso both w g → MeetsBoth upper m
  unfolding makes_above makes_below
  lasso_meets p g r =
      let t = r.turn in
      let d = r.round - 1 in
      let e : t + r.round ≡ suc t + d = omega (arith, r.some) in
      let again : both.accepts (g.at (suc t + d)) ≡ true = subst (λ n. both.accepts (g.at n) ≡ true) e (subst (λ z. both.accepts z ≡ true) (sym r.same) r.accepts) in
      let q = between (location g) (state g) (phase g) (turns g) t d r.accepts again in
      record {
        lead = t;
        round = r.round;
        some = r.some;
        letter = λ i. w.letter (place w i);
        above = (makes_above g).at;
        below = (makes_below g).at;
        starts_above = (makes_above g).starts;
        starts_below = (makes_below g).starts;
        known = λ i _. letter_in m.letters w p i;
        steps_above = λ i _. (makes_above g).steps i;
        steps_below = λ i _. (makes_below g).steps i;
        closes_above = ap (λ (a : Layered S). a.location) r.same;
        closes_below = ap (λ (a : Layered S). a.state) r.same;
        accepts_above = (suc t + q.0, omega arith, omega (arith, q.1, r.some), q.2);
        accepts_below = (t, omega arith, omega (arith, r.some), (parts (location g) (state g) (phase g) (turns g) t r.accepts).1);
      }

meets_make : {A S : Type 0} (upper : Meaning A) (lower : Meaning S) → MeetsBoth upper lower → MakeOne upper lower
meets_make upper lower b =
    let w : Behaviour = record { before = b.lead; again = b.round; letter = b.letter } in
    let i = b.accepts_above in
    let j = b.accepts_below in (
      w,
      record { repeats = b.some; known = b.known },
      row_makes upper w b.some b.above b.closes_above b.steps_above b.starts_above i.0 i.1 i.2 i.3,
      row_makes lower w b.some b.below b.closes_below b.steps_below b.starts_below j.0 j.1 j.2 j.3,
    )

module _ {S : Type 0} (h : Head) (sets : List ℕ) (m : Meaning S) (l : Lawful (fitted h sets m)) where
  shared_loop : MakeOne (graph_of h sets) m → Loop (fitted h sets m)
  shared_loop s = makes_loop (fitted h sets m) l ((s.0, s.1, (makes_the_same_lem h sets m s.0).1 ((s.2, s.3))))

  pub loops_meet_lem : Loop (fitted h sets m) ↔ MeetsBoth (graph_of h sets) m
  loops_meet_lem = (λ p. let s = loop_makes (fitted h sets m) l p in lasso_meets h sets m s.0 s.1 s.2 (lasso (fitted h sets m) l s.0 s.1 s.2), λ b. shared_loop (meets_make (graph_of h sets) m b))

  pub loops_shared : Loop (fitted h sets m) ↔ MakeOne (graph_of h sets) m
  loops_shared = (λ p. let s = loop_makes (fitted h sets m) l p in let r = (makes_the_same_lem h sets m s.0).0 s.2 in (s.0, s.1, r.0, r.1), shared_loop)
