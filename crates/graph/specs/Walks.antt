-- Walks in a graph, and its accepting loops. Assumes nothing.
use Rattle.std.specs.Prelude.{◌≡◌, ℕ, zero, suc, ◌+◌, ◌<◌, ◌≤◌, true}
use Rattle.graph.specs.Meaning.{Meaning}

-- a step under some letter
abbrev pub Step : {S : Type 0} → Meaning S → S → S → Type 0
Step m a b = (x : ℕ) × (x < m.letters) × m.step x a b

-- a walk of n steps from a to b
abbrev pub Walk : {S : Type 0} → Meaning S → ℕ → S → S → Type 0
Walk m zero a b = a ≡ b
Walk {S} m (suc n) a b = (c : S) × Step m a c × Walk m n c b

-- a walk from the start to a state of a closed walk through an accepting state
pub record Loop {S : Type 0} (m : Meaning S) : Type 0 where
  pub met : S
  pub accepting : S
  pub lead : ℕ
  pub out : ℕ
  pub back : ℕ
  pub reaches : Walk m lead m.start met
  pub there : Walk m out met accepting
  pub again : Walk m back accepting met
  pub closed : 1 ≤ out + back
  pub accepts : m.accepts accepting ≡ true
