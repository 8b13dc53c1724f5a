-- The graph of a model laid over a graph, and of a layer without a model that fits. Assumes nothing.
use Rattle.std.specs.Prelude.{◌≡◌, ℕ, ◌*◌, Bool, true, false, cond, ◌&&◌, List, [], ◌∷◌, Some, None, vec_items, Option, option_and_then, ◌==◌, nat_le}
use Rattle.std.specs.List.{range_with_len}
use Rattle.formula.specs.Sets.{has}
use Rattle.graph.specs.Lists.{products}
use Rattle.graph.specs.Meaning.{Meaning}
use Rattle.inspect.specs.declared.head.Head.{Head}
use Rattle.model_graph.specs.ModelGraph.{steps}
use Rattle.sheet.specs.Models.{Model, model_content}
use Rattle.layer.specs.declared.layered.Layered.{Layered}
use Rattle.layer.specs.declared.layered.Phase.{Phase}
use Rattle.layer.specs.declared.layered.Phase.TheVariants.{Above, Below}
use Rattle.layer.specs.declared.spot.Spot.{Spot}
use Rattle.layer.specs.Phases.{same, awaits, phase_after}
use Rattle.layer.specs.Spots.{spot_at, count_of}

abbrev pub layered : {S : Type 0} → ℕ → Phase → S → Layered S
layered l p s = record { location = l; phase = p; state = s }

abbrev pub accepts_in : {S : Type 0} → Meaning S → Layered S → Bool
accepts_in m a = awaits a.phase && m.accepts a.state

abbrev pub below_in : {S : Type 0} → Meaning S → Layered S → Layered S → Bool
below_in m a b = a.location == b.location && (same a.phase b.phase && m.below a.state b.state)

-- a location and a phase
abbrev pub side : ℕ → Phase → ℕ × Phase
side l p = (l, p)

abbrev pub at_side : {S : Type 0} → ℕ × Phase → S → Layered S
at_side w s = layered w.0 w.1 s

-- one state that is not accepting, and no steps; with no slots, what a slot holds is free
abbrev pub unfitted : {S : Type 0} → Meaning S → (ℕ → Layered S → ℕ → Option (Layered S)) → Meaning (Layered S)
unfitted m slot =
    record {
      letters = m.letters;
      states = layered 0 Above m.start ∷ [];
      start = layered 0 Above m.start;
      accepts = accepts_in m;
      below = below_in m;
      step = λ x a b. ⊥;
      tops = 1;
      top = λ i. layered 0 Above m.start;
      slots = 0;
      slot = slot;
    }

module _ {S : Type 0} (h : Head) (sets : List ℕ) (m : Meaning S) where
  -- the phase after a is left
  abbrev pub left : Layered S → Phase
  left a = phase_after (has h.accepting a.location) (m.accepts a.state) a.phase

  -- both parts move under one letter
  pub record Moves (x : ℕ) (a b : Layered S) : Type 0 where
    pub above : steps h sets x a.location b.location ≡ true
    pub below : m.step x a.state b.state
    pub phase : b.phase ≡ left a

  abbrev pub all_states : List (Layered S)
  all_states = products at_side (products side (range_with_len 0 h.locations) (Above ∷ Below ∷ [])) m.states

  -- past the last, a top is the start
  abbrev pub top_for : Option Spot → Layered S
  top_for (Some s) = layered s.location s.phase (m.top s.inner)
  top_for None = layered h.initial Above m.start

  -- a, if it steps to a state at b's location and phase
  abbrev pub leading : ℕ → Layered S → Layered S → Option (Layered S)
  leading x b a = cond (steps h sets x a.location b.location && same (left a) b.phase) (Some a) None

  abbrev pub held : ℕ → Layered S → Spot → Option S → Option (Layered S)
  held x b s (Some c) = leading x b (layered s.location s.phase c)
  held x b s None = None

  abbrev pub slot_for : ℕ → Layered S → Option Spot → Option (Layered S)
  slot_for x b (Some s) = held x b s (m.slot x b.state s.inner)
  slot_for x b None = None

  abbrev pub slot_in : ℕ → Layered S → ℕ → Option (Layered S)
  slot_in x b i = slot_for x b (spot_at h.locations m.slots i)

  abbrev pub fitted : Meaning (Layered S)
  fitted =
      record {
        letters = m.letters;
        states = all_states;
        start = layered h.initial Above m.start;
        accepts = accepts_in m;
        below = below_in m;
        step = Moves;
        tops = 2 * h.locations * m.tops;
        top = λ i. top_for (spot_at h.locations m.tops i);
        slots = 2 * h.locations * m.slots;
        slot = slot_in;
      }

-- the model has the letters below
abbrev pub same_letters : {S : Type 0} → Model → Meaning S → Bool
same_letters t m = t.head.letters == m.letters

-- neither count passes 65,536
abbrev pub few : {S : Type 0} → Model → Meaning S → Bool
few t m = nat_le (2 * t.head.locations * m.tops) 65536 && nat_le (2 * t.head.locations * m.slots) 65536

abbrev pub fits : {S : Type 0} → Model → Meaning S → Bool
fits t m = same_letters t m && few t m

abbrev pub model_head : Model → Head
model_head t = (model_content t).head

abbrev pub laid : {S : Type 0} → Bool → Model → Meaning S → Meaning (Layered S)
laid true t m = fitted (model_head t) (vec_items t.cells) m
laid false t m = unfitted m (slot_in (model_head t) (vec_items t.cells) m)

-- a model that does not fit is laid as none
abbrev pub layer_means : {S : Type 0} → Option Model → Meaning S → Meaning (Layered S)
layer_means (Some t) m = laid (fits t m) t m
layer_means None m = unfitted m (λ x b i. None)

-- the model that is laid, if it fits
abbrev pub fitted_model : {S : Type 0} → Option Model → Meaning S → Option Model
fitted_model (Some t) m = cond (fits t m) (Some t) None
fitted_model None m = None

-- how many numbers the model that is laid has over so many below
abbrev pub count_over : {S : Type 0} → Option Model → Meaning S → ℕ → Option ℕ
count_over o m below = option_and_then (λ t. count_of t.head.locations below) (fitted_model o m)
