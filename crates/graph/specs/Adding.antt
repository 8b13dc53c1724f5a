-- Adding states to a table of n places, so that no held state is below another. Assumes nothing.
use Rattle.std.specs.Prelude.{ℕ, Bool, true, false, cond, not, ◌&&◌, ◌||◌, List, [], ◌∷◌, ◌++◌, length, Some, None, filter, Option, nat_lt}

-- whether c is below a held state
abbrev pub covered : {S : Type 0} → (S → S → Bool) → S → List S → Bool
covered below c [] = false
covered below c (x ∷ xs) = below c x || covered below c xs

-- whether each of the first is below one of the others
abbrev pub all_covered : {S : Type 0} → (S → S → Bool) → List S → List S → Bool
all_covered below [] ys = true
all_covered below (x ∷ xs) ys = covered below x ys && all_covered below xs ys

-- the held states that are not below c
abbrev pub staying : {S : Type 0} → (S → S → Bool) → S → List S → List S
staying below c held = filter (λ y. not (below y c)) held

abbrev pub added : {S : Type 0} → (S → S → Bool) → S → List S → List S
added below c held = cond (covered below c held) held (staying below c held ++ c ∷ [])

pub record Table (S : Type 0) : Type 0 where
  pub held : List S
  pub changed : Bool

abbrev pub unchanged : {S : Type 0} → List S → Table S
unchanged l = record { held = l; changed = false }

abbrev pub changed_to : {S : Type 0} → List S → Table S
changed_to l = record { held = l; changed = true }

-- a state added in n places; nothing if there is no place
abbrev pub put : {S : Type 0} → (S → S → Bool) → ℕ → S → Table S → Option (Table S)
put below n c t =
    cond (covered below c t.held) (Some t) (cond (nat_lt (length (staying below c t.held)) n) (Some (changed_to (staying below c t.held ++ c ∷ []))) None)

abbrev pub and_then : {A B : Type 0} → (A → Option B) → Option A → Option B
and_then f (Some a) = f a
and_then f None = None

-- all the states of a list added in their order
abbrev pub filled : {S : Type 0} → (S → S → Bool) → ℕ → List S → Table S → Option (Table S)
filled below n [] t = Some t
filled below n (c ∷ cs) t = and_then (filled below n cs) (put below n c t)
