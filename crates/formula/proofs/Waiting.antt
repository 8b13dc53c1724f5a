-- The waiting values as bits: how many there are, one more, and one alone.
use Rattle.std.proofs.Common.{◌≡◌, ℕ, zero, suc, ◌/◌, ◌<◌, Bool, List, ◌∷◌, length, Some, None, refl, ap}
use Rattle.std.proofs.lemmas.Bool.{lt-ltb, cond-true}
use Rattle.formula.specs.Machine.{pushed, only}
use Rattle.formula.specs.Stack.{values}

pub length_values : (count bits : ℕ) → length (values count bits) ≡ count
length_values zero bits = refl
length_values (suc count) bits = ap suc (length_values count (bits / 2))

pub pushed_below : (v : Bool) (vs : List Bool) → length vs < 32 → pushed v vs ≡ Some (v ∷ vs)
pushed_below v vs h = cond-true _ _ _ (lt-ltb (length vs) 32 h)

pub only_one : (count bits : ℕ) → (count ≡ 1 → ⊥) → None ≡ only (Some (values count bits))
only_one zero bits h = refl
only_one (suc zero) bits h = absurd (h refl)
only_one (suc (suc count)) bits h = refl
