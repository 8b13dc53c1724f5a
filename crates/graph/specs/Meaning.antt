-- What a graph means, as it answers its questions, and the laws that it keeps. Assumes nothing.
use Rattle.std.specs.Prelude.{◌≡◌, ℕ, ◌<◌, ◌≤◌, Bool, true, List, length, Some, Option}
use Rattle.graph.specs.Lists.{In, Distinct}

pub record Meaning (S : Type 0) : Type 1 where
  pub letters : ℕ
  pub states : List S
  pub start : S
  pub accepts : S → Bool
  pub below : S → S → Bool
  -- under a letter
  pub step : ℕ → S → S → Type 0
  pub tops : ℕ
  pub top : ℕ → S
  pub slots : ℕ
  -- of a letter and a state
  pub slot : ℕ → S → ℕ → Option S

abbrev pub State : {S : Type 0} → Meaning S → S → Type 0
State m a = In a m.states

-- the number of states
abbrev pub K : {S : Type 0} → Meaning S → ℕ
K m = length m.states

-- a is below the state that some slot of the letter and b holds
abbrev pub Held : {S : Type 0} → Meaning S → ℕ → S → S → Type 0
Held {S} m x b a = (i : ℕ) × (i < m.slots) × ((c : S) × (m.slot x b i ≡ Some c) × (m.below a c ≡ true))

-- a steps under the letter to a state below b, as b itself is
abbrev pub Leads : {S : Type 0} → Meaning S → ℕ → S → S → Type 0
Leads {S} m x b a = (c : S) × m.step x a c × (m.below c b ≡ true)

-- the laws speak of states only
pub record Lawful {S : Type 0} (m : Meaning S) : Type 0 where
  pub some_letter : 1 ≤ m.letters
  pub few_letters : m.letters ≤ 8
  pub few_tops : m.tops ≤ 65536
  pub few_slots : m.slots ≤ 65536
  pub once : Distinct m.states
  pub start_state : State m m.start
  pub top_state : (i : ℕ) → i < m.tops → State m (m.top i)
  pub slot_state : (x : ℕ) (b : S) (i : ℕ) (c : S) → x < m.letters → State m b → i < m.slots → m.slot x b i ≡ Some c → State m c
  pub step_state : (x : ℕ) (a b : S) → x < m.letters → State m a → m.step x a b → State m b
  pub reflexive : (a : S) → State m a → m.below a a ≡ true
  pub transitive : (a b c : S) → State m a → State m b → State m c → m.below a b ≡ true → m.below b c ≡ true → m.below a c ≡ true
  pub antisymmetric : (a b : S) → State m a → State m b → m.below a b ≡ true → m.below b a ≡ true → a ≡ b
  pub topped : (a : S) → State m a → (i : ℕ) × (i < m.tops) × (m.below a (m.top i) ≡ true)
  pub alike : (a b : S) → State m a → State m b → m.below a b ≡ true → m.accepts a ≡ m.accepts b
  pub follows : (x : ℕ) (a b c : S) → x < m.letters → State m a → State m b → m.below a b ≡ true → m.step x b c → (d : S) × m.step x a d × (m.below d c ≡ true)
  pub held_leads : (x : ℕ) (b a : S) → x < m.letters → State m b → State m a → Held m x b a → Leads m x b a
  pub leads_held : (x : ℕ) (b a : S) → x < m.letters → State m b → State m a → Leads m x b a → Held m x b a
