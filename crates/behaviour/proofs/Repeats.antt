-- A graph that makes a repeating behaviour has an accepting loop, and an accepting loop spells a repeating behaviour. Assumes nothing.
use Rattle.std.proofs.Common.{ℕ, zero, suc, ◌+◌, ◌≤◌, sym, refl, ap, ◌∙◌, add-zero, add-suc, suc-add, zero-add, arith}
use Rattle.graph.specs.Meaning.{Meaning, Lawful}
use Rattle.graph.specs.Walks.{Walk, Loop}
use Rattle.graph.proofs.Walks.{walk_join}
use Rattle.behaviour.specs.Behaviours.{Behaviour, place, Proper, Makes, MakesSome}
use Rattle.behaviour.proofs.Lassos.{lasso}
use Rattle.behaviour.proofs.Places.{letter_in}
use Rattle.behaviour.proofs.Rows.{row_makes}
use Rattle.behaviour.proofs.Trails.{trail_through}

-- the part of an endless walk from step t on
makes_walk : {S : Type 0} (m : Meaning S) (w : Behaviour) (p : Proper m.letters w) (g : Makes m w) (t d : ℕ) → Walk m d (g.at t) (g.at (t + d))
makes_walk m w p g t zero = ap g.at (sym (add-zero t))
makes_walk m w p g t (suc d) =
    rw (add-suc, ← suc-add) ((g.at (suc t), (w.letter (place w t), letter_in m.letters w p t, g.steps t), makes_walk m w p g (suc t) d))

pub makes_loop : {S : Type 0} (m : Meaning S) → Lawful m → MakesSome m → Loop m
makes_loop m l s =
    let g = s.2 in
    let r = lasso m l s.0 s.1 g in
    let walk = makes_walk m s.0 s.1 g in
    record {
      met = g.at r.turn;
      accepting = g.at r.turn;
      lead = r.turn;
      out = 0;
      back = r.round;
      reaches = rw (zero-add, g.starts) at (walk 0 r.turn);
      there = refl;
      again = rw r.same at (walk r.turn r.round);
      closed = omega arith;
      accepts = r.accepts;
    }

pub loop_makes : {S : Type 0} (m : Meaning S) → Lawful m → Loop m → MakesSome m
loop_makes m l p =
    let n = p.lead + p.out in
    let c = p.back + p.out in
    let way = walk_join m p.lead p.out m.start p.met p.accepting p.reaches p.there in
    let round = walk_join m p.back p.out p.accepting p.met p.accepting p.again p.there in
    let r = trail_through m n c m.start p.accepting p.accepting way round in
    let t = r.0 in
    let w : Behaviour = record { before = n; again = c; letter = t.letter } in
    let some : 1 ≤ c = omega arith in (
      w,
      record { repeats = some; known = λ i lt. (t.steps i lt).0 },
      row_makes m w some t.state (t.ends ∙ sym r.1) (λ i lt. (t.steps i lt).1) t.starts n (omega arith) (omega arith) (ap m.accepts r.1 ∙ p.accepts),
    )
