-- Plans for a behaviour, and the behaviours that a rule admits. Assumes nothing.
use Rattle.std.specs.Prelude.{◌≡◌, ℕ, zero, suc, ◌^◌, ◌<◌, true, ◌⊎◌}
use Rattle.behaviour.specs.Behaviours.{Behaviour, Proper, next}
use Rattle.formula.specs.Sets.{has}
use Rattle.rule_graph.specs.Alternating.{Alternating}

-- a location at a place of a behaviour
pub record Spot : Type 0 where
  pub location : ℕ
  pub place : ℕ

abbrev pub spot : ℕ → ℕ → Spot
spot l i = record { location = l; place = i }

-- a plan gives each location and place a set of locations: those at the next place that follow
abbrev pub Plan : Type 0
Plan = ℕ → ℕ → ℕ

abbrev pub Follows : Behaviour → Plan → Spot → Spot → Type 0
Follows w plan a b = (has (plan a.location a.place) b.location ≡ true) × (b.place ≡ next w a.place)

pub data Reached (r : Alternating) (w : Behaviour) (plan : Plan) : Spot → Type 0 where
  first : Reached r w plan (spot r.initial 0)
  onward : (a b : Spot) → Reached r w plan a → Follows w plan a b → Reached r w plan b

-- a walk of n steps from a to b
abbrev pub Trail : Behaviour → Plan → ℕ → Spot → Spot → Type 0
Trail w plan zero a b = a ≡ b
Trail w plan (suc n) a b = (c : Spot) × Follows w plan a c × Trail w plan n c b

-- a spot of the walk, its last aside, has an accepting location
abbrev pub Meets : (r : Alternating) (w : Behaviour) (plan : Plan) (n : ℕ) (a b : Spot) → Trail w plan n a b → Type 0
Meets r w plan zero a b t = ⊥
Meets r w plan (suc n) a b t = (has r.accepting a.location ≡ true) ⊎ Meets r w plan n t.0 b t.2

pub record Accepting (r : Alternating) (w : Behaviour) (plan : Plan) : Type 0 where
  -- the set of each reached spot is one of locations, and satisfies the location's formula for the letter there
  pub locations : (a : Spot) → Reached r w plan a → plan a.location a.place < 2 ^ r.locations
  pub satisfies : (a : Spot) → Reached r w plan a → r.satisfies (w.letter a.place) a.location (plan a.location a.place) ≡ true
  -- each closed walk among reached spots meets an accepting location
  pub accepts : (n : ℕ) (a : Spot) → Reached r w plan a → (t : Trail w plan (suc n) a a) → Meets r w plan (suc n) a a t

abbrev pub Admits : Alternating → Behaviour → Type 0
Admits r w = (plan : Plan) × Accepting r w plan

abbrev pub AdmitsSome : Alternating → Type 0
AdmitsSome r = (w : Behaviour) × Proper r.letters w × Admits r w
