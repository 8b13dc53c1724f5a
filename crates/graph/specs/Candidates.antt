-- The states that a sweep adds, in their order, and the tops. Assumes nothing.
use Rattle.std.specs.Prelude.{ℕ, zero, suc, Bool, true, cond, List, [], ◌∷◌, ◌++◌, Some, None, Option}
use Rattle.graph.specs.Meaning.{Meaning}

-- the state of a slot, if it passes
abbrev pub found : {S : Type 0} → (S → Bool) → Option S → List S
found pass (Some c) = cond (pass c) (c ∷ []) []
found pass None = []

-- by rising number
abbrev pub by_number : {S : Type 0} → (ℕ → List S) → ℕ → List S
by_number f zero = []
by_number f (suc i) = by_number f i ++ f i

-- by held state in order
abbrev pub by_state : {S : Type 0} → (S → List S) → List S → List S
by_state f [] = []
by_state f (b ∷ bs) = f b ++ by_state f bs

-- by rising letter, held state in order and rising slot, the states found that pass
abbrev pub found_from : {S : Type 0} → Meaning S → (S → Bool) → List S → List S
found_from m pass held = by_number (λ x. by_state (λ b. by_number (λ i. found pass (m.slot x b i)) m.slots) held) m.letters

abbrev pub all_tops : {S : Type 0} → Meaning S → List S
all_tops m = by_number (λ i. m.top i ∷ []) m.tops

-- from inner, then the accepting ones from outer
abbrev pub candidates : {S : Type 0} → Meaning S → List S → List S → List S
candidates m inner outer = found_from m (λ c. true) inner ++ found_from m m.accepts outer
