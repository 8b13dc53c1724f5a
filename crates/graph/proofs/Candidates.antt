-- A sweep makes X with one more step, tells whether it gained, and is full only with a crowd; the tops are Y of 0. Assumes nothing.
use Rattle.std.proofs.Common.{◌≡◌, ℕ, zero, suc, ◌<◌, ◌≤◌, Bool, true, false, cond, ◌⊎◌, List, [], ◌∷◌, ◌++◌, length, Some, None, Option, sym, refl, ap, subst, inl, inr, ⊎_elim, arith}
use Rattle.std.specs.List.{AllByRecursion}
use Rattle.std.proofs.ByRecursion.{All-weaker}
use Rattle.std.proofs.lemmas.List.{length-append}
use Rattle.std.proofs.lemmas.Bool.{cases_lt, both_ways}
use Rattle.graph.specs.Adding.{Table, unchanged, filled}
use Rattle.graph.specs.Candidates.{found, by_number, by_state, found_from, all_tops, candidates}
use Rattle.graph.specs.Lists.{In, Covered, Apart}
use Rattle.graph.specs.Meaning.{Meaning, Lawful, State}
use Rattle.graph.specs.Sets.{Y, X, Same, Represents, Crowded}
use Rattle.graph.proofs.Adding.{Joined, Filling, Filled, fills, filled_room}
use Rattle.graph.proofs.Bound.{Beyond}
use Rattle.graph.proofs.Lists.{all_from_in, covering, covered_by}
use Rattle.graph.proofs.Sets.{x_none, x_rises}
use Rattle.graph.proofs.Sweep.{Slot, BelowSlot, BelowAccepting, slot_state, sweep_adds, sweep_only}

module _ {S : Type 0} where
  in_append : (c : S) (xs ys : List S) → In c (xs ++ ys) → In c xs ⊎ In c ys
  in_append c [] ys i = inr i
  in_append c (x ∷ xs) ys (inl e) = inl (inl e)
  in_append c (x ∷ xs) ys (inr i) = ⊎_elim (λ k. inl (inr k)) inr (in_append c xs ys i)

  in_left : (c : S) (xs ys : List S) → In c xs → In c (xs ++ ys)
  in_left c [] ys i = elim i [ ]
  in_left c (x ∷ xs) ys (inl e) = inl e
  in_left c (x ∷ xs) ys (inr i) = inr (in_left c xs ys i)

  in_right : (c : S) (xs ys : List S) → In c ys → In c (xs ++ ys)
  in_right c [] ys i = i
  in_right c (x ∷ xs) ys i = inr (in_right c xs ys i)

  number_from : (f : ℕ → List S) (n : ℕ) (c : S) → In c (by_number f n) → (i : ℕ) × (i < n) × In c (f i)
  number_from f zero c h = elim h [ ]
  number_from f (suc n) c h = ⊎_elim (λ k. let r = number_from f n c k in (r.0, omega (arith, r.1), r.2)) (λ k. (n, omega arith, k)) (in_append c (by_number f n) (f n) h)

  number_in : (f : ℕ → List S) (n i : ℕ) (c : S) → i < n → In c (f i) → In c (by_number f n)
  number_in f zero i c lt h = absurd (omega arith)
  number_in f (suc n) i c lt h =
      ⊎_elim (λ less. in_left c (by_number f n) (f n) (number_in f n i c less h)) (λ ge. let e : i ≡ n = omega arith in in_right c (by_number f n) (f n) (subst (λ k. In c (f k)) e h)) (cases_lt i n)

  state_from : (f : S → List S) (held : List S) (c : S) → In c (by_state f held) → (b : S) × In b held × In c (f b)
  state_from f [] c h = elim h [ ]
  state_from f (b ∷ bs) c h = ⊎_elim (λ k. (b, inl refl, k)) (λ k. let r = state_from f bs c k in (r.0, inr r.1, r.2)) (in_append c (f b) (by_state f bs) h)

  state_in : (f : S → List S) (held : List S) (b c : S) → In b held → In c (f b) → In c (by_state f held)
  state_in f [] b c i h = elim i [ ]
  state_in f (x ∷ xs) b c (inl e) h = in_left c (f x) (by_state f xs) (subst (λ y. In c (f y)) e h)
  state_in f (x ∷ xs) b c (inr i) h = in_right c (f x) (by_state f xs) (state_in f xs b c i h)

  found_is : (pass : S → Bool) (o : Option S) (c : S) → In c (found pass o) → (o ≡ Some c) × (pass c ≡ true)
  found_is pass None c h = elim h [ ]
  found_is pass (Some d) c h = go (pass d) refl h
    where
      go : (b : Bool) → pass d ≡ b → In c (cond b (d ∷ []) []) → (Some d ≡ Some c) × (pass c ≡ true)
      go true e (inl p) = (ap Some (sym p), subst (λ x. pass x ≡ true) (sym p) e)
      go true e (inr k) = elim k [ ]
      go false e k = elim k [ ]

  found_in : (pass : S → Bool) (o : Option S) (c : S) → o ≡ Some c → pass c ≡ true → In c (found pass o)
  found_in pass o c e p = rw e (rw p (inl refl))

  number_length : (f : ℕ → S) (n : ℕ) → length (by_number (λ i. f i ∷ []) n) ≡ n
  number_length f zero = refl
  number_length f (suc n) = omega (arith, length-append (by_number (λ i. f i ∷ []) n) (f n ∷ []), number_length f n)

module _ {S : Type 0} (m : Meaning S) where
  from_slot : (pass : S → Bool) (held : List S) (c : S) → In c (found_from m pass held) → Slot m held c × (pass c ≡ true)
  from_slot pass held c h =
      let x = number_from (λ x. by_state (λ b. by_number (λ i. found pass (m.slot x b i)) m.slots) held) m.letters c h in
      let b = state_from (λ b. by_number (λ i. found pass (m.slot x.0 b i)) m.slots) held c x.2 in
      let i = number_from (λ i. found pass (m.slot x.0 b.0 i)) m.slots c b.2 in
      let r = found_is pass (m.slot x.0 b.0 i.0) c i.2 in
      (record { letter = x.0; to = b.0; place = i.0; a_letter = x.1; member = b.1; a_slot = i.1; holds = r.0 }, r.1)

  slot_from : (pass : S → Bool) (held : List S) (c : S) → Slot m held c → pass c ≡ true → In c (found_from m pass held)
  slot_from pass held c t p =
      number_in (λ x. by_state (λ b. by_number (λ i. found pass (m.slot x b i)) m.slots) held) m.letters t.letter c t.a_letter
      (state_in (λ b. by_number (λ i. found pass (m.slot t.letter b i)) m.slots) held t.to c t.member
      (number_in (λ i. found pass (m.slot t.letter t.to i)) m.slots t.place c t.a_slot (found_in pass (m.slot t.letter t.to t.place) c t.holds p)))

-- a sweep that found its places
pub record Sweeps {S : Type 0} (m : Meaning S) (places n j : ℕ) (inner : List S) (t : Table S) : Type 0 where
  pub is : Represents m t.held (X m n (suc j))
  pub apart : Apart m.below t.held
  pub fits : length t.held ≤ places
  pub same : t.changed ≡ false → (t.held ≡ inner) × Same (X m n (suc j)) (X m n j)
  pub gains : t.changed ≡ true → Beyond (X m n (suc j)) (X m n j)

-- what a sweep brings
abbrev pub Brought : {S : Type 0} → Meaning S → ℕ → ℕ → ℕ → List S → Option (Table S) → Type 0
Brought m places n j inner (Some t) = Sweeps m places n j inner t
Brought m places n j inner None = Crowded m places (X m n (suc j))

-- a table with the tops
pub record Opens {S : Type 0} (m : Meaning S) (places : ℕ) (t : Table S) : Type 0 where
  pub is : Represents m t.held (Y m 0)
  pub apart : Apart m.below t.held
  pub fits : length t.held ≤ places

abbrev pub Opened : {S : Type 0} → Meaning S → ℕ → Option (Table S) → Type 0
Opened m places (Some t) = Opens m places t
Opened m places None = ⊥

module _ {S : Type 0} (m : Meaning S) (l : Lawful m) where
  pub x_empty : (n : ℕ) → Represents m [] (X m n 0)
  x_empty n = record { members = tt; covers = λ a x. absurd (x_none m n a x); only = λ a s h. elim h [ ] }

  module _ (n j : ℕ) (inner outer : List S) (xs : Represents m inner (X m n j)) (ys : Represents m outer (Y m n)) where
    abbrev cs : List S
    cs = candidates m inner outer

    candidate : (c : S) → In c cs → Slot m inner c ⊎ (Slot m outer c × (m.accepts c ≡ true))
    candidate c i = ⊎_elim (λ k. inl (from_slot m (λ d. true) inner c k).0) (λ k. inr (from_slot m m.accepts outer c k)) (in_append c (found_from m (λ d. true) inner) (found_from m m.accepts outer) i)

    candidate_state : (c : S) → In c cs → State m c
    candidate_state c i = ⊎_elim (slot_state m l inner c xs.members) (λ k. slot_state m l outer c ys.members k.0) (candidate c i)

    pub joined_x : (a : S) → Joined m inner (candidates m inner outer) a → X m n (suc j) a
    joined_x a h = sweep_only m l n j inner outer xs ys a h.0 (⊎_elim inl (λ k. inr (go (covering m.below cs a k))) h.1)
      where
        go : (c : S) × In c cs × (m.below a c ≡ true) → BelowSlot m inner a ⊎ BelowAccepting m outer a
        go k = ⊎_elim (λ s. inl (k.0, s, k.2)) (λ s. inr (k.0, s.0, s.1, k.2)) (candidate k.0 k.1)

    pub x_joined : (a : S) → X m n (suc j) a → Joined m inner (candidates m inner outer) a
    x_joined a x = (x.0, ⊎_elim inl (λ h. inr (go h)) (sweep_adds m l n j inner outer xs ys a x))
      where
        go : BelowSlot m inner a ⊎ BelowAccepting m outer a → Covered m.below cs a
        go (inl h) = covered_by m.below cs a h.0 (in_left h.0 (found_from m (λ d. true) inner) (found_from m m.accepts outer) (slot_from m (λ d. true) inner h.0 h.1 refl)) h.2
        go (inr h) = covered_by m.below cs a h.0 (in_right h.0 (found_from m (λ d. true) inner) (found_from m m.accepts outer) (slot_from m m.accepts outer h.0 h.1 h.2)) h.3

    filling_sweeps : (places : ℕ) (t : Table S) → Filling m places cs (unchanged inner) t → Sweeps m places n j inner t
    filling_sweeps places t f = record {
      is = record { members = f.members; covers = λ a x. (x.0, f.covers a (x_joined a x)); only = λ a s h. joined_x a (s, f.only a s h) };
      apart = f.apart;
      fits = f.fits;
      same = λ e. ⊎_elim same (λ r. absurd (both_ways t.changed e r.0)) f.changes;
      gains = λ e. ⊎_elim (λ p. absurd (both_ways t.changed (ap (λ u. u.changed) p) e)) gains f.changes;
    }
      where
        same : t ≡ unchanged inner → (t.held ≡ inner) × Same (X m n (suc j)) (X m n j)
        same p =
            let held : t.held ≡ inner = ap (λ u. u.held) p in
            (held, ((λ a x. xs.only a x.0 (subst (λ u. Covered m.below u a) held (f.covers a (x_joined a x)))), x_rises m n j (suc j) (omega arith)))

        gains : (t.changed ≡ true) × ((c : S) × In c cs × (Covered m.below inner c → ⊥)) → Beyond (X m n (suc j)) (X m n j)
        gains r =
            let c = r.1.0 in
            let s = candidate_state c r.1.1 in
            (c, joined_x c (s, inr (covered_by m.below cs c c r.1.1 (l.reflexive c s))), λ x. r.1.2 (xs.covers c x).1)

    pub sweeps : (places : ℕ) → Apart m.below inner → length inner ≤ places → Brought m places n j inner (filled m.below places (candidates m inner outer) (unchanged inner))
    sweeps places p fits = go (filled m.below places cs (unchanged inner)) (fills m l places cs (unchanged inner) (all_from_in (State m) cs candidate_state) xs.members p fits)
      where
        go : (o : Option (Table S)) → Filled m places cs (unchanged inner) o → Brought m places n j inner o
        go (Some t) f = filling_sweeps places t f
        go None f = record { crowd = f.crowd; many = f.many; members = All-weaker (Joined m inner cs) (X m n (suc j)) joined_x f.crowd f.members; apart = f.apart }

  top_in : (i : ℕ) → i < m.tops → In (m.top i) (all_tops m)
  top_in i lt = number_in (λ k. m.top k ∷ []) m.tops i (m.top i) lt (inl refl)

  top_states : AllByRecursion (State m) (all_tops m)
  top_states = all_from_in (State m) (all_tops m) go
    where
      here : (c : S) (i : ℕ) → i < m.tops → In c (m.top i ∷ []) → State m c
      here c i lt (inl e) = subst (State m) (sym e) (l.top_state i lt)
      here c i lt (inr k) = elim k [ ]

      go : (c : S) → In c (all_tops m) → State m c
      go c h = let r = number_from (λ k. m.top k ∷ []) m.tops c h in here c r.0 r.1 r.2

  pub opens : (places : ℕ) → m.tops ≤ places → Opened m places (filled m.below places (all_tops m) (unchanged []))
  opens places room =
      let u = filled_room m.below places (all_tops m) (unchanged []) (omega (arith, number_length m.top m.tops)) in
      go (filled m.below places (all_tops m) (unchanged [])) u.0 u.1 (fills m l places (all_tops m) (unchanged []) top_states tt tt (omega arith))
    where
      below_top : (a : S) → State m a → Covered m.below (all_tops m) a
      below_top a s = let r = l.topped a s in covered_by m.below (all_tops m) a (m.top r.0) (top_in r.0 r.1) r.2

      go : (o : Option (Table S)) (t : Table S) → o ≡ Some t → Filled m places (all_tops m) (unchanged []) o → Opened m places o
      go None t e f = let z : ◌≡◌ {A = ℕ} 0 1 = cc in absurd (omega arith)
      go (Some t) u e f = record {
        is = record { members = f.members; covers = λ a s. (s, f.covers a (s, inr (below_top a s))); only = λ a s h. s };
        apart = f.apart;
        fits = f.fits;
      }
