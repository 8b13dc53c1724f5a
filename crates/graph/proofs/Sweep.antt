-- One sweep: X with one more step is what is below inner, below its slots, or below the accepting slots of outer. Assumes nothing.
use Rattle.std.proofs.Common.{◌≡◌, ℕ, zero, suc, ◌<◌, true, ◌⊎◌, List, Some, sym, ◌∙◌, inl, inr, arith}
use Rattle.std.specs.List.{AllByRecursion}
use Rattle.graph.specs.Lists.{In, Covered}
use Rattle.graph.specs.Meaning.{Meaning, Lawful, State}
use Rattle.graph.specs.Sets.{Y, X, Represents}
use Rattle.graph.proofs.Lists.{all_in, covering, covered_by}
use Rattle.graph.proofs.Sets.{Hits, hits, enters, x_rises, x_step, x_first}
use Rattle.graph.proofs.Walks.{step_state}

-- c is the state of some slot, for some letter and some member of the list
pub record Slot {S : Type 0} (m : Meaning S) (held : List S) (c : S) : Type 0 where
  pub letter : ℕ
  pub to : S
  pub place : ℕ
  pub a_letter : letter < m.letters
  pub member : In to held
  pub a_slot : place < m.slots
  pub holds : m.slot letter to place ≡ Some c

abbrev pub BelowSlot : {S : Type 0} → Meaning S → List S → S → Type 0
BelowSlot {S} m held a = (c : S) × Slot m held c × (m.below a c ≡ true)

abbrev pub BelowAccepting : {S : Type 0} → Meaning S → List S → S → Type 0
BelowAccepting {S} m held a = (c : S) × Slot m held c × (m.accepts c ≡ true) × (m.below a c ≡ true)

module _ {S : Type 0} (m : Meaning S) (l : Lawful m) where
  pub slot_state : (held : List S) (c : S) → AllByRecursion (State m) held → Slot m held c → State m c
  slot_state held c s t = l.slot_state t.letter t.to t.place c t.a_letter (all_in (State m) held t.to s t.member) t.a_slot t.holds

  -- a state that steps to below a member is below a slot's state
  slot_above : (held : List S) (P : S → Type 0) → Represents m held P → (x : ℕ) (a d : S) → x < m.letters → State m a → m.step x a d → P d → BelowSlot m held a
  slot_above held P r x a d lt s t p =
      let b = covering m.below held d (r.covers d p).1 in
      let h = l.leads_held x b.0 a lt (all_in (State m) held b.0 r.members b.1) s (d, t, b.2) in
      (h.2.0, record { letter = x; to = b.0; place = h.0; a_letter = lt; member = b.1; a_slot = h.1; holds = h.2.1 }, h.2.2)

  -- a state below a slot's state steps into what is represented
  slot_below : (held : List S) (P : S → Type 0) → Represents m held P → (a c : S) → State m a → Slot m held c → m.below a c ≡ true → (x : ℕ) × (x < m.letters) × ((d : S) × m.step x a d × P d)
  slot_below held P r a c s t e =
      let h = l.held_leads t.letter t.to a t.a_letter (all_in (State m) held t.to r.members t.member) s (t.place, t.a_slot, (c, t.holds, e)) in
      let sd = l.step_state t.letter a h.0 t.a_letter s h.1 in
      (t.letter, t.a_letter, (h.0, h.1, r.only h.0 sd (covered_by m.below held h.0 t.to t.member h.2)))

  module _ (n j : ℕ) (inner outer : List S) (xs : Represents m inner (X m n j)) (ys : Represents m outer (Y m n)) where
    pub sweep_adds : (a : S) → X m n (suc j) a → Covered m.below inner a ⊎ BelowSlot m inner a ⊎ BelowAccepting m outer a
    sweep_adds a x = go x.1.0 x.1.1 (hits m (Y m n) x.1.0 a x.1.2)
      where
        go : (k : ℕ) → k < suc j → Hits m (Y m n) k a → Covered m.below inner a ⊎ BelowSlot m inner a ⊎ BelowAccepting m outer a
        go zero lt h =
            let t = h.1.1 in
            let r = slot_above outer (Y m n) ys t.0 a h.1.0 t.1 x.0 t.2 h.1.2 in
            let sc = slot_state outer r.0 ys.members r.1 in
            inr (inr (r.0, r.1, sym (l.alike a r.0 x.0 sc r.2) ∙ h.0, r.2))
        go (suc k) lt h =
            let t = h.1 in
            let next : X m n j h.0 = (step_state m l a h.0 x.0 t, (k, omega arith, enters m (Y m n) k h.0 h.2)) in
            inr (inl (slot_above inner (X m n j) xs t.0 a h.0 t.1 x.0 t.2 next))

    pub sweep_only : (a : S) → State m a → Covered m.below inner a ⊎ BelowSlot m inner a ⊎ BelowAccepting m outer a → X m n (suc j) a
    sweep_only a s (inl h) = x_rises m n j (suc j) (omega arith) a (xs.only a s h)
    sweep_only a s (inr (inl h)) =
        let r = slot_below inner (X m n j) xs a h.0 s h.1 h.2 in
        x_step m n j a r.2.0 s (r.0, r.1, r.2.1) r.2.2
    sweep_only a s (inr (inr h)) =
        let r = slot_below outer (Y m n) ys a h.0 s h.1 h.3 in
        let sc = slot_state outer h.0 ys.members h.1 in
        x_first m n j a r.2.0 s (l.alike a h.0 s sc h.3 ∙ h.2) (r.0, r.1, r.2.1) r.2.2
