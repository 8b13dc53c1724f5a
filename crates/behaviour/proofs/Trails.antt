-- A walk by its states and letters in their order. Assumes nothing.
use Rattle.std.proofs.Common.{◌≡◌, ℕ, zero, suc, ◌+◌, ◌<◌, sym, refl, ◌∙◌, subst, suc-add, zero-add, arith}
use Rattle.graph.specs.Meaning.{Meaning}
use Rattle.graph.specs.Walks.{Step, Walk}

pub record Trail {S : Type 0} (m : Meaning S) (n : ℕ) (a c : S) : Type 0 where
  pub state : ℕ → S
  pub letter : ℕ → ℕ
  pub starts : state 0 ≡ a
  pub ends : state n ≡ c
  pub steps : (k : ℕ) → k < n → (letter k < m.letters) × m.step (letter k) (state k) (state (suc k))

abbrev ahead : {A : Type 0} → A → (ℕ → A) → ℕ → A
ahead x f zero = x
ahead x f (suc k) = f k

module _ {S : Type 0} (m : Meaning S) where
  abbrev prepend : (n : ℕ) (a b c : S) → Step m a b → Trail m n b c → Trail m (suc n) a c
  prepend n a b c s t = record { state = ahead a t.state; letter = ahead s.0 t.letter; starts = refl; ends = t.ends; steps = onward }
    where
      onward : (k : ℕ) → k < suc n → (ahead s.0 t.letter k < m.letters) × m.step (ahead s.0 t.letter k) (ahead a t.state k) (t.state k)
      onward zero lt = (s.1, subst (m.step s.0 a) (sym t.starts) s.2)
      onward (suc k) lt = t.steps k (omega arith)

  trail : (n : ℕ) (a c : S) → Walk m n a c → Trail m n a c
  trail zero a c w = record { state = λ k. a; letter = λ k. 0; starts = refl; ends = w; steps = λ k lt. absurd (omega arith) }
  trail (suc n) a c w = prepend n a w.0 c w.1 (trail n w.0 c w.2)

  pub trail_through : (i j : ℕ) (a b c : S) → Walk m i a b → Walk m j b c → (t : Trail m (i + j) a c) × (t.state i ≡ b)
  trail_through zero j a b c w v = rw zero-add (let t = trail j a c (subst (λ x. Walk m j x c) (sym w) v) in (t, t.starts ∙ w))
  trail_through (suc i) j a b c w v = rw suc-add (let r = trail_through i j w.0 b c w.2 v in (prepend (i + j) a w.0 c w.1 r.0, r.1))
