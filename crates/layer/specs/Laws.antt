-- A layer keeps the laws, with a model that fits and without. Assumes nothing.
use Rattle.std.specs.Prelude.{◌≡◌, ℕ, ◌*◌, ◌<◌, ◌≤◌, Bool, true, false, ◌&&◌, List, [], ◌∷◌, Some, None, vec_items, Option, ◌==◌, nat_le, refl}
use Rattle.std.proofs.Common.{inl, inr, sym, ap, subst, ◌∙◌, arith}
use Rattle.std.specs.List.{range_with_len}
use Rattle.std.proofs.lemmas.Bool.{and_from, and_parts, cond-true, eqb-true, eq-eqb, leb-true}
use Rattle.std.proofs.lemmas.Option.{cond_some, none-some}
use denote.Enum.Bare.{same_true, true_same}
use Rattle.graph.specs.Lists.{In, products}
use Rattle.graph.specs.Meaning.{Meaning, Lawful, State}
use Rattle.graph.proofs.Counting.{in_counting, counting_in, counting_once}
use Rattle.graph.proofs.Members.{in_products, products_in, products_once}
use Rattle.inspect.specs.declared.head.Head.{Head}
use Rattle.formula.specs.Sets.{has}
use Rattle.layout.proofs.Valids.{test_valid}
use Rattle.model_graph.specs.ModelGraph.{graph_of, model_means, steps}
use Rattle.model_graph.specs.Laws.{graph_lawful}
use Rattle.sheet.specs.Models.{Model, model_content}
use Rattle.layer.specs.contracts.layered.Phase.{the_type}
use Rattle.layer.specs.declared.layered.Layered.{Layered}
use Rattle.layer.specs.declared.layered.Phase.{Phase}
use Rattle.layer.specs.declared.layered.Phase.TheVariants.{Above}
use Rattle.layer.specs.declared.spot.Spot.{Spot}
use Rattle.layer.specs.Layers.{layered, side, at_side, accepts_in, below_in, unfitted, left, all_states, top_for, held, slot_for, slot_in, fitted, same_letters, few, fits, model_head, laid, layer_means}
use Rattle.layer.specs.Phases.{same, awaits, phase_after}
use Rattle.layer.specs.Spots.{spot_at}
use Rattle.layer.specs.PhasesLemmas.{phases, phase_in, phases_once}
use Rattle.layer.specs.SpotsLemmas.{spot_number, spot_in}

module _ {S : Type 0} (m : Meaning S) where
  below_parts : (a b : Layered S) → below_in m a b ≡ true → (a.location ≡ b.location) × (a.phase ≡ b.phase) × (m.below a.state b.state ≡ true)
  below_parts a b e =
      let r = and_parts (a.location == b.location) (same a.phase b.phase && m.below a.state b.state) e in
      let q = and_parts (same a.phase b.phase) (m.below a.state b.state) r.1 in
      (eqb-true a.location b.location r.0, same_true the_type tt a.phase b.phase q.0, q.1)

  below_from : (a b : Layered S) → a.location ≡ b.location → a.phase ≡ b.phase → m.below a.state b.state ≡ true → below_in m a b ≡ true
  below_from a b p q r =
      and_from (a.location == b.location) (same a.phase b.phase && m.below a.state b.state) (eq-eqb a.location b.location p)
      (and_from (same a.phase b.phase) (m.below a.state b.state) (true_same the_type a.phase b.phase q) r)

module _ {S : Type 0} (m : Meaning S) (l : Lawful m) where
  abbrev only : Layered S
  only = layered 0 Above m.start

  only_below : below_in m only only ≡ true
  only_below = below_from m only only refl refl (l.reflexive m.start l.start_state)

  is_only : (a : Layered S) → In a (only ∷ []) → a ≡ only
  is_only a (inl e) = e
  is_only a (inr i) = elim i [ ]

  pub unfitted_lawful : (slot : ℕ → Layered S → ℕ → Option (Layered S)) → Lawful (unfitted m slot)
  unfitted_lawful slot =
      record {
        some_letter = l.some_letter;
        few_letters = l.few_letters;
        few_tops = omega arith;
        few_slots = omega arith;
        once = (λ i. i, tt);
        start_state = inl refl;
        top_state = λ i _. inl refl;
        slot_state = λ x b i c _ _ lt _. absurd (omega arith);
        step_state = λ x a b _ _ s. elim s [ ];
        reflexive = λ a s. subst (λ z. below_in m z z ≡ true) (sym (is_only a s)) only_below;
        transitive = λ a b c sa sb sc _ _. rw (is_only a sa, is_only c sc) only_below;
        antisymmetric = λ a b sa sb _ _. is_only a sa ∙ sym (is_only b sb);
        topped = λ a s. (0, omega arith, subst (λ z. below_in m z only ≡ true) (sym (is_only a s)) only_below);
        alike = λ a b sa sb _. ap (accepts_in m) (is_only a sa ∙ sym (is_only b sb));
        follows = λ x a b c _ _ _ _ s. elim s [ ];
        held_leads = λ x b a _ _ _ r. absurd (omega (arith, r.1));
        leads_held = λ x b a _ _ _ r. elim r.1 [ ];
      }

abbrev places : Head → List ℕ
places h = range_with_len 0 h.locations

module _ {S : Type 0} (h : Head) (sets : List ℕ) (m : Meaning S) where
  sides : (a : Layered S) → In a (all_states h sets m) → In a.location (places h) × State m a.state
  sides a i =
      let r = in_products at_side a (products side (places h) phases) m.states i in
      let q = in_products side r.0 (places h) phases r.2 in
      (subst (λ (z : Layered S). In z.location (places h)) (sym r.4) (subst (λ (w : ℕ × Phase). In w.0 (places h)) (sym q.4) q.2), subst (λ (z : Layered S). State m z.state) (sym r.4) r.3)

  sided : (a : Layered S) → In a.location (places h) → State m a.state → In a (all_states h sets m)
  sided a i s =
      products_in at_side (side a.location a.phase) a.state (products side (places h) phases) m.states
      (products_in side a.location a.phase (places h) phases i (phase_in a.phase)) s

  -- what is above is left alike by states that accept alike
  left_alike : (a b : Layered S) → a.location ≡ b.location → a.phase ≡ b.phase → m.accepts a.state ≡ m.accepts b.state → left h sets m a ≡ left h sets m b
  left_alike a b p q r = λ i. phase_after (has h.accepting (p i)) (r i) (q i)

  -- what a slot holds, and why
  record Slot (x : ℕ) (b : Layered S) (i : ℕ) (c : Layered S) : Type 0 where
    inner : ℕ
    state : S
    few : inner < m.slots
    place : c.location < h.locations
    holds : m.slot x b.state inner ≡ Some state
    same_state : c.state ≡ state
    above : steps h sets x c.location b.location ≡ true
    phase : left h sets m c ≡ b.phase

  slot_holds : (x : ℕ) (b : Layered S) (i : ℕ) (c : Layered S) → slot_in h sets m x b i ≡ Some c → Slot x b i c
  slot_holds x b i c = at_spot (spot_at h.locations m.slots i) refl
    where
      at_held : (s : Spot) → (s.location < h.locations) × (s.inner < m.slots) → (d : Option S) → m.slot x b.state s.inner ≡ d → held h sets m x b s d ≡ Some c → Slot x b i c
      at_held s lt (Some d) is e =
          let a = layered s.location s.phase d in
          let r = cond_some (steps h sets x s.location b.location && same (left h sets m a) b.phase) a c e in
          let q = and_parts (steps h sets x s.location b.location) (same (left h sets m a) b.phase) r.0 in
          record {
            inner = s.inner;
            state = d;
            few = lt.1;
            place = subst (λ (z : Layered S). z.location < h.locations) r.1 lt.0;
            holds = is;
            same_state = ap (λ (z : Layered S). z.state) (sym r.1);
            above = subst (λ (z : Layered S). steps h sets x z.location b.location ≡ true) r.1 q.0;
            phase = subst (λ (z : Layered S). left h sets m z ≡ b.phase) r.1 (same_true the_type tt (left h sets m a) b.phase q.1);
          }
      at_held s lt None is e = absurd (none-some c e)

      at_spot : (o : Option Spot) → spot_at h.locations m.slots i ≡ o → slot_for h sets m x b o ≡ Some c → Slot x b i c
      at_spot (Some s) is e = at_held s (spot_in h.locations m.slots i s is) (m.slot x b.state s.inner) refl e
      at_spot None is e = absurd (none-some c e)

  holds_slot : (x : ℕ) (b : Layered S) (c : Layered S) (j : ℕ) → j < m.slots → c.location < h.locations → m.slot x b.state j ≡ Some c.state → steps h sets x c.location b.location ≡ true → left h sets m c ≡ b.phase → (i : ℕ) × (i < 2 * h.locations * m.slots) × (slot_in h sets m x b i ≡ Some c)
  holds_slot x b c j lt place is above phase =
      let r = spot_number h.locations m.slots c.location j c.phase place lt in
      let s : Spot = record { location = c.location; phase = c.phase; inner = j } in (
        r.0,
        r.1,
        ap (slot_for h sets m x b) r.2
            ∙ ap (held h sets m x b s) is
            ∙ cond-true (steps h sets x c.location b.location && same (left h sets m c) b.phase) (Some c) None (and_from (steps h sets x c.location b.location) (same (left h sets m c) b.phase) above (true_same the_type (left h sets m c) b.phase phase)),
      )

module _ {S : Type 0} (h : Head) (sets : List ℕ) (t : Lawful (graph_of h sets)) (m : Meaning S) (l : Lawful m) (letters : h.letters ≡ m.letters) (tops : 2 * h.locations * m.tops ≤ 65536) (slots : 2 * h.locations * m.slots ≤ 65536) where
  abbrev g : Meaning (Layered S)
  g = fitted h sets m

  place_of : (a : Layered S) → State g a → a.location < h.locations
  place_of a s = let r = in_counting 0 h.locations a.location (sides h sets m a s).0 in omega arith

  in_place : (n : ℕ) → n < h.locations → In n (range_with_len 0 h.locations)
  in_place n lt = counting_in 0 h.locations n (omega arith) (omega arith)

  held_state : (x : ℕ) (b c : Layered S) (i : ℕ) → x < m.letters → State g b → Slot h sets m x b i c → State m c.state
  held_state x b c i lt sb r =
      subst (State m) (sym r.same_state) (l.slot_state x b.state r.inner r.state lt (sides h sets m b sb).1 r.few r.holds)

  top_state : (o : Option Spot) → ((s : Spot) → o ≡ Some s → (s.location < h.locations) × (s.inner < m.tops)) → State g (top_for h sets m o)
  top_state (Some s) inside =
      let lt = inside s refl in
      sided h sets m (layered s.location s.phase (m.top s.inner)) (in_place s.location lt.0) (l.top_state s.inner lt.1)
  top_state None inside = sided h sets m (layered h.initial Above m.start) t.start_state l.start_state

  topped : (a : Layered S) → State g a → (i : ℕ) × (i < g.tops) × (g.below a (g.top i) ≡ true)
  topped a s =
      let r = l.topped a.state (sides h sets m a s).1 in
      let q = spot_number h.locations m.tops a.location r.0 a.phase (place_of a s) r.1 in
      (q.0, q.1, subst (λ z. g.below a (top_for h sets m z) ≡ true) (sym q.2) (below_from m a (layered a.location a.phase (m.top r.0)) refl refl r.2))

  follows : (x : ℕ) (a b c : Layered S) → x < m.letters → State g a → State g b → g.below a b ≡ true → g.step x b c → (d : Layered S) × g.step x a d × (g.below d c ≡ true)
  follows x a b c lt sa sb e s =
      let q = below_parts m a b e in
      let sta = (sides h sets m a sa).1 in
      let stb = (sides h sets m b sb).1 in
      let r = l.follows x a.state b.state c.state lt sta stb q.2 s.below in
      let d = layered c.location c.phase r.0 in (
        d,
        record {
          above = subst (λ z. steps h sets x z c.location ≡ true) (sym q.0) s.above;
          below = r.1;
          phase = s.phase ∙ sym (left_alike h sets m a b q.0 q.1 (l.alike a.state b.state sta stb q.2));
        },
        below_from m d c refl refl r.2,
      )

  held_leads : (x : ℕ) (b a : Layered S) → x < m.letters → State g b → State g a → (i : ℕ) (c : Layered S) → g.slot x b i ≡ Some c → g.below a c ≡ true → (d : Layered S) × g.step x a d × (g.below d b ≡ true)
  held_leads x b a lt sb sa i c is e =
      let w = slot_holds h sets m x b i c is in
      let q = below_parts m a c e in
      let sta = (sides h sets m a sa).1 in
      let r = l.held_leads x b.state a.state lt (sides h sets m b sb).1 sta ((w.inner, w.few, (w.state, w.holds, subst (λ z. m.below a.state z ≡ true) w.same_state q.2))) in
      let d = layered b.location b.phase r.0 in (
        d,
        record {
          above = subst (λ z. steps h sets x z b.location ≡ true) (sym q.0) w.above;
          below = r.1;
          phase = sym w.phase ∙ sym (left_alike h sets m a c q.0 q.1 (l.alike a.state c.state sta (held_state x b c i lt sb w) q.2));
        },
        below_from m d b refl refl r.2,
      )

  leads_held : (x : ℕ) (b a : Layered S) → x < m.letters → State g b → State g a → (c : Layered S) → g.step x a c → g.below c b ≡ true → (i : ℕ) × (i < g.slots) × ((d : Layered S) × (g.slot x b i ≡ Some d) × (g.below a d ≡ true))
  leads_held x b a lt sb sa c s e =
      let q = below_parts m c b e in
      let sta = (sides h sets m a sa).1 in
      let stb = (sides h sets m b sb).1 in
      let r = l.leads_held x b.state a.state lt stb sta ((c.state, s.below, q.2)) in
      let d = layered a.location a.phase r.2.0 in
      let std = l.slot_state x b.state r.0 r.2.0 lt stb r.1 r.2.1 in
      let phase = left_alike h sets m d a refl refl (sym (l.alike a.state r.2.0 sta std r.2.2)) ∙ sym s.phase ∙ q.1 in
      let w = holds_slot h sets m x b d r.0 r.1 (place_of a sa) r.2.1 (subst (λ z. steps h sets x a.location z ≡ true) q.0 s.above) phase in
      (w.0, w.1, (d, w.2, below_from m a d refl refl r.2.2))

  pub fitted_lawful : Lawful g
  fitted_lawful =
      record {
        some_letter = l.some_letter;
        few_letters = l.few_letters;
        few_tops = tops;
        few_slots = slots;
        once = products_once at_side (products side (places h) phases) m.states (λ a c b d e. (λ i. ((e i).location, (e i).phase), ap (λ (z : Layered S). z.state) e)) (products_once side (places h) phases (λ a c b d e. (ap (λ (w : ℕ × Phase). w.0) e, ap (λ (w : ℕ × Phase). w.1) e)) (counting_once 0 h.locations) phases_once) l.once;
        start_state = sided h sets m (layered h.initial Above m.start) t.start_state l.start_state;
        top_state = λ i _. top_state (spot_at h.locations m.tops i) (λ s e. spot_in h.locations m.tops i s e);
        slot_state = λ x b i c lt sb _ e. let r = slot_holds h sets m x b i c e in sided h sets m c (in_place c.location r.place) (held_state x b c i lt sb r);
        step_state = λ x a b lt sa s. sided h sets m b (t.step_state x a.location b.location (omega arith) (sides h sets m a sa).0 s.above) (l.step_state x a.state b.state lt (sides h sets m a sa).1 s.below);
        reflexive = λ a s. below_from m a a refl refl (l.reflexive a.state (sides h sets m a s).1);
        transitive = λ a b c sa sb sc e f. let p = below_parts m a b e in let q = below_parts m b c f in below_from m a c (p.0 ∙ q.0) (p.1 ∙ q.1) (l.transitive a.state b.state c.state (sides h sets m a sa).1 (sides h sets m b sb).1 (sides h sets m c sc).1 p.2 q.2);
        antisymmetric = λ a b sa sb e f. let p = below_parts m a b e in let r = l.antisymmetric a.state b.state (sides h sets m a sa).1 (sides h sets m b sb).1 p.2 (below_parts m b a f).2 in λ i. layered (p.0 i) (p.1 i) (r i);
        topped = topped;
        alike = λ a b sa sb e. let p = below_parts m a b e in let r = l.alike a.state b.state (sides h sets m a sa).1 (sides h sets m b sb).1 p.2 in λ i. awaits (p.1 i) && r i;
        follows = follows;
        held_leads = λ x b a lt sb sa r. held_leads x b a lt sb sa r.0 r.2.0 r.2.1 r.2.2;
        leads_held = λ x b a lt sb sa r. leads_held x b a lt sb sa r.0 r.1 r.2;
      }

pub model_lawful : (t : Model) → Lawful (model_means t)
model_lawful t = graph_lawful (model_head t) (vec_items t.cells) (test_valid (model_content t) t.valid).fields t.fits

-- what a model that fits has
pub record Fitting {S : Type 0} (t : Model) (m : Meaning S) : Type 0 where
  pub letters : t.head.letters ≡ m.letters
  pub tops : 2 * t.head.locations * m.tops ≤ 65536
  pub slots : 2 * t.head.locations * m.slots ≤ 65536

fits_fitting : {S : Type 0} (t : Model) (m : Meaning S) → fits t m ≡ true → Fitting t m
fits_fitting t m e =
    let p = and_parts (same_letters t m) (few t m) e in
    let q = and_parts (nat_le (2 * t.head.locations * m.tops) 65536) (nat_le (2 * t.head.locations * m.slots) 65536) p.1 in
    record { letters = eqb-true t.head.letters m.letters p.0; tops = leb-true (2 * t.head.locations * m.tops) 65536 q.0; slots = leb-true (2 * t.head.locations * m.slots) 65536 q.1 }

pub laid_lawful : {S : Type 0} (t : Model) (m : Meaning S) → Lawful m → fits t m ≡ true → Lawful (laid true t m)
laid_lawful t m l e =
    let f = fits_fitting t m e in
    fitted_lawful (model_head t) (vec_items t.cells) (model_lawful t) m l f.letters f.tops f.slots

pub layer_lawful : {S : Type 0} (o : Option Model) (m : Meaning S) → Lawful m → Lawful (layer_means o m)
layer_lawful None m l = unfitted_lawful m l (λ x b i. None)
layer_lawful (Some t) m l = go (fits t m) refl
  where
    go : (b : Bool) → fits t m ≡ b → Lawful (laid b t m)
    go true e = laid_lawful t m l e
    go false e = unfitted_lawful m l (slot_in (model_head t) (vec_items t.cells) m)
