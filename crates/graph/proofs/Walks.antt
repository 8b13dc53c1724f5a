-- Walks: they keep to states, join, and are followed from below. Assumes nothing.
use Rattle.std.proofs.Common.{◌≡◌, ℕ, zero, suc, ◌+◌, true, sym, subst, suc-add, zero-add}
use Rattle.graph.specs.Meaning.{Meaning, Lawful, State}
use Rattle.graph.specs.Walks.{Step, Walk}

pub walk_join : {S : Type 0} (m : Meaning S) (i j : ℕ) (a b c : S) → Walk m i a b → Walk m j b c → Walk m (i + j) a c
walk_join m zero j a b c w v = rw zero-add (subst (λ x. Walk m j x c) (sym w) v)
walk_join m (suc i) j a b c w v = rw suc-add ((w.0, w.1, walk_join m i j w.0 b c w.2 v))

module _ {S : Type 0} (m : Meaning S) (l : Lawful m) where
  pub step_state : (a b : S) → State m a → Step m a b → State m b
  step_state a b s t = l.step_state t.0 a b t.1 s t.2

  pub walk_state : (n : ℕ) (a b : S) → State m a → Walk m n a b → State m b
  walk_state zero a b s w = subst (State m) w s
  walk_state (suc n) a b s w = walk_state n w.0 b (step_state a w.0 s w.1) w.2

  pub step_follows : (a b c : S) → State m a → State m b → m.below a b ≡ true → Step m b c → (d : S) × Step m a d × (m.below d c ≡ true)
  step_follows a b c sa sb e t =
      let r = l.follows t.0 a b c t.1 sa sb e t.2 in
      (r.0, (t.0, t.1, r.1), r.2)
