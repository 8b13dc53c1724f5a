-- The sets Y and X of a graph, when a list of states represents a set, and the sum for n and m. Assumes nothing.
use Rattle.std.specs.Prelude.{◌≡◌, ℕ, zero, suc, ◌+◌, ◌<◌, true, List, length}
use Rattle.std.specs.List.{AllByRecursion}
use Rattle.graph.specs.Lists.{Covered, Apart}
use Rattle.graph.specs.Meaning.{Meaning, State}
use Rattle.graph.specs.Walks.{Step, Walk}

-- a walk of k steps from a to an accepting state that steps into P
pub record Enters {S : Type 0} (m : Meaning S) (P : S → Type 0) (k : ℕ) (a : S) : Type 0 where
  pub accepting : S
  pub next : S
  pub walk : Walk m k a accepting
  pub accepts : m.accepts accepting ≡ true
  pub steps : Step m accepting next
  pub into : P next

abbrev pub Y : {S : Type 0} → Meaning S → ℕ → S → Type 0
Y m zero a = State m a
Y m (suc n) a = State m a × ((k : ℕ) × Enters m (Y m n) k a)

-- at most j - 1 steps of the walk, so X of 0 is empty
abbrev pub X : {S : Type 0} → Meaning S → ℕ → ℕ → S → Type 0
X m n j a = State m a × ((k : ℕ) × (k < j) × Enters m (Y m n) k a)

abbrev pub Within : {S : Type 0} → (S → Type 0) → (S → Type 0) → Type 0
Within {S} P Q = (a : S) → P a → Q a

abbrev pub Same : {S : Type 0} → (S → Type 0) → (S → Type 0) → Type 0
Same P Q = Within P Q × Within Q P

-- P holds of exactly the states below some member of the list
pub record Represents {S : Type 0} (m : Meaning S) (l : List S) (P : S → Type 0) : Type 0 where
  pub members : AllByRecursion (State m) l
  pub covers : (a : S) → P a → State m a × Covered m.below l a
  pub only : (a : S) → State m a → Covered m.below l a → P a

-- the least j at which X of the round stays
pub record Least {S : Type 0} (m : Meaning S) (r j : ℕ) : Type 0 where
  pub stays : Same (X m r (suc j)) (X m r j)
  pub first : (i : ℕ) → i < j → Same (X m r (suc i)) (X m r i) → ⊥

-- one more than the least j, for each round before n
abbrev pub Rounds : {S : Type 0} → Meaning S → ℕ → ℕ → Type 0
Rounds m zero t = t ≡ 0
Rounds m (suc n) t = (u : ℕ) × (j : ℕ) × Rounds m n u × Least m n j × (t ≡ u + suc j)

-- the sum for n and j
abbrev pub Sum : {S : Type 0} → Meaning S → ℕ → ℕ → ℕ → Type 0
Sum m n j t = (u : ℕ) × Rounds m n u × (t ≡ u + j)

-- more than n states of P, none below another
pub record Crowded {S : Type 0} (m : Meaning S) (n : ℕ) (P : S → Type 0) : Type 0 where
  pub crowd : List S
  pub many : length crowd ≡ suc n
  pub members : AllByRecursion P crowd
  pub apart : Apart m.below crowd
