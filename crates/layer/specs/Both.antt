-- What a fitted layer does, phases left out: what the model and the graph below do under the same letters. Assumes nothing.
use Rattle.std.specs.Prelude.{◌≡◌, ℕ, suc, ◌+◌, ◌<◌, ◌≤◌, true, ◌↔◌, Some, Option}
use Rattle.behaviour.specs.Behaviours.{Behaviour, Proper, Makes}
use Rattle.graph.specs.Meaning.{Meaning}
use Rattle.graph.specs.Walks.{Loop}
use Rattle.model_graph.specs.ModelGraph.{model_means}
use Rattle.sheet.specs.Models.{Model}
use Rattle.layer.specs.Layers.{layer_means, fitted_model}

-- a walk of two graphs under the same letters, from both starts to a closed walk that meets an accepting state of each
pub record MeetsBoth {A S : Type 0} (upper : Meaning A) (lower : Meaning S) : Type 0 where
  -- the steps before the closed walk, and its own
  pub lead : ℕ
  pub round : ℕ
  pub some : 1 ≤ round
  -- the letter of each step, and where both are after so many steps
  pub letter : ℕ → ℕ
  pub above : ℕ → A
  pub below : ℕ → S
  pub starts_above : above 0 ≡ upper.start
  pub starts_below : below 0 ≡ lower.start
  pub known : (i : ℕ) → i < lead + round → letter i < lower.letters
  pub steps_above : (i : ℕ) → i < lead + round → upper.step (letter i) (above i) (above (suc i))
  pub steps_below : (i : ℕ) → i < lead + round → lower.step (letter i) (below i) (below (suc i))
  pub closes_above : above (lead + round) ≡ above lead
  pub closes_below : below (lead + round) ≡ below lead
  pub accepts_above : (i : ℕ) × (lead ≤ i) × (i < lead + round) × (upper.accepts (above i) ≡ true)
  pub accepts_below : (i : ℕ) × (lead ≤ i) × (i < lead + round) × (lower.accepts (below i) ≡ true)

-- some repeating behaviour that both make
abbrev pub MakeOne : {A S : Type 0} → Meaning A → Meaning S → Type 0
MakeOne upper lower = (w : Behaviour) × Proper lower.letters w × Makes upper w × Makes lower w

module _ {S : Type 0} (o : Option Model) (m : Meaning S) where
  -- of the model that is laid
  abbrev pub Fitted : (Meaning ℕ → Type 0) → Type 0
  Fitted P = (t : Model) → fitted_model o m ≡ Some t → P (model_means t)

  abbrev pub MakesTheSame : Type 0
  MakesTheSame = Fitted (λ above. (w : Behaviour) → Makes (layer_means o m) w ↔ (Makes above w × Makes m w))

  abbrev pub LoopsMeet : Type 0
  LoopsMeet = Fitted (λ above. Loop (layer_means o m) ↔ MeetsBoth above m)

  abbrev pub LoopsShared : Type 0
  LoopsShared = Fitted (λ above. Loop (layer_means o m) ↔ MakeOne above m)
