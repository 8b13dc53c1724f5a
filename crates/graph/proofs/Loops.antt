-- The start is in every Y if there is an accepting loop, and there is one if it is in a Y that stays. Assumes nothing.
use Rattle.std.proofs.Common.{◌≡◌, ℕ, zero, suc, ◌+◌, ◌<◌, ◌≤◌, true, length, sym, refl, subst, ⊎_elim, suc-add, arith}
use Rattle.std.proofs.lemmas.Bool.{cases_lt}
use Rattle.graph.specs.Meaning.{Meaning, Lawful, State}
use Rattle.graph.specs.Sets.{Y, Within}
use Rattle.graph.specs.Walks.{Step, Walk, Loop}
use Rattle.graph.proofs.Lists.{twice}
use Rattle.graph.proofs.Sets.{enters, enters_step}
use Rattle.graph.proofs.Walks.{step_state, walk_state, walk_join}

module _ {S : Type 0} (m : Meaning S) (l : Lawful m) where
  pub y_before : (n k : ℕ) (a b : S) → State m a → Walk m k a b → Y m n b → Y m n a
  y_before zero k a b s w y = s
  y_before (suc n) zero a b s w y = subst (Y m (suc n)) (sym w) y
  y_before (suc n) (suc k) a b s w y =
      let z = y_before (suc n) k w.0 b (step_state m l a w.0 s w.1) w.2 y in
      (s, (suc z.1.0, enters_step m (Y m n) z.1.0 a w.0 w.1 z.1.1))

  -- an accepting state of a closed walk is in every Y
  y_round : (n k : ℕ) (t : S) → State m t → m.accepts t ≡ true → Walk m (suc k) t t → Y m n t
  y_round zero k t s e w = s
  y_round (suc n) k t s e w =
      (s, (0, enters m (Y m n) 0 t (e, (w.0, w.1, y_before n k w.0 t (step_state m l t w.0 s w.1) w.2 (y_round n k t s e w)))))

  pub loop_stays : Loop m → (n : ℕ) → Y m n m.start
  loop_stays p n = go (p.back + p.out) (omega (arith, p.closed)) (walk_join m p.back p.out p.accepting p.met p.accepting p.again p.there)
    where
      way : Walk m (p.lead + p.out) m.start p.accepting
      way = walk_join m p.lead p.out m.start p.met p.accepting p.reaches p.there

      go : (k : ℕ) → 1 ≤ k → Walk m k p.accepting p.accepting → Y m n m.start
      go zero h w = absurd (omega arith)
      go (suc k) h w =
          y_before n (p.lead + p.out) m.start p.accepting l.start_state way (y_round n k p.accepting (walk_state m l (p.lead + p.out) m.start p.accepting l.start_state way) p.accepts w)

-- a state reached from the start that accepts and steps into P
record Hop {S : Type 0} (m : Meaning S) (P : S → Type 0) : Type 0 where
  at : S
  lead : ℕ
  reached : Walk m lead m.start at
  accepts : m.accepts at ≡ true
  next : S
  steps : Step m at next
  into : P next

module _ {S : Type 0} (m : Meaning S) (l : Lawful m) (n : ℕ) (stays : Within (Y m n) (Y m (suc n))) where
  abbrev P : S → Type 0
  P = Y m n

  -- from what is reached and in P
  hop_from : (k : ℕ) (a : S) → Walk m k m.start a → P a → Hop m P
  hop_from k a w y =
      let e = (stays a y).1.1 in
      let j = (stays a y).1.0 in
      record { at = e.accepting; lead = k + j; reached = walk_join m k j m.start a e.accepting w e.walk; accepts = e.accepts; next = e.next; steps = e.steps; into = e.into }

  one : (h : Hop m P) → Walk m 1 h.at h.next
  one h = (h.next, h.steps, refl)

  onward : Hop m P → Hop m P
  onward h = hop_from (h.lead + 1) h.next (walk_join m h.lead 1 m.start h.at h.next h.reached (one h)) h.into

  onward_walk : (h : Hop m P) → (k : ℕ) × Walk m (suc k) h.at (onward h).at
  unfolding onward hop_from
  onward_walk h = let y = stays h.next h.into in (y.1.0, (h.next, h.steps, y.1.1.walk))

  abbrev after : Hop m P → ℕ → Hop m P
  after h zero = h
  after h (suc i) = onward (after h i)

  after_walk : (h : Hop m P) (i j : ℕ) → i < j → (k : ℕ) × Walk m (suc k) (after h i).at (after h j).at
  after_walk h i zero lt = absurd (omega arith)
  after_walk h i (suc j) lt = ⊎_elim (λ below. go (after_walk h i j below)) (λ ge. let e : j ≡ i = omega arith in subst Goal e (onward_walk (after h j))) (cases_lt i j)
    where
      Goal : ℕ → Type 0
      Goal v = (k : ℕ) × Walk m (suc k) (after h v).at (onward (after h j)).at

      go : (k : ℕ) × Walk m (suc k) (after h i).at (after h j).at → Goal i
      go w =
          let v = onward_walk (after h j) in
          (w.0 + suc v.0, rw suc-add at (walk_join m (suc w.0) (suc v.0) (after h i).at (after h j).at (onward (after h j)).at w.1 v.1))

  after_state : (h : Hop m P) (i : ℕ) → State m (after h i).at
  after_state h i = let r = after h i in walk_state m l r.lead m.start r.at l.start_state r.reached

  pub loop_found : P m.start → Loop m
  loop_found y =
      let h = hop_from 0 m.start refl y in
      let r = twice (length m.states) m.states (λ i. (after h i).at) (omega arith) (λ i le. after_state h i) in
      let w = after_walk h r.0 r.1 r.2 in
      let a = after h r.0 in
      record {
        met = a.at;
        accepting = a.at;
        lead = a.lead;
        out = 0;
        back = suc w.0;
        reaches = a.reached;
        there = refl;
        again = subst (λ b. Walk m (suc w.0) a.at b) (sym r.4) w.1;
        closed = omega arith;
        accepts = a.accepts;
      }
