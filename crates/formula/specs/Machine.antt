-- Reading tokens in order with a stack of at most 32 waiting values: the steps, and what they mean. Assumes nothing.
use Rattle.std.specs.Prelude.{◌≡◌, ℕ, ◌≤◌, Bool, true, false, cond, ◌&&◌, ◌||◌, List, [], ◌∷◌, length, Some, None, Option, nat_lt}
use Rattle.formula.specs.declared.token.Token.{Token}
use Rattle.formula.specs.declared.token.Token.TheVariants.{Location, True, False, And, Or}
use Rattle.formula.specs.Formulas.{Formula, value, postfix, waiting}
use Rattle.formula.specs.Sets.{has, Within}

-- one value more, unless 32 wait
abbrev pub pushed : Bool → List Bool → Option (List Bool)
pushed v vs = cond (nat_lt (length vs) 32) (Some (v ∷ vs)) None

-- the two newest values joined, if two wait
abbrev pub joined : (Bool → Bool → Bool) → List Bool → Option (List Bool)
joined op [] = None
joined op (y ∷ []) = None
joined op (y ∷ x ∷ vs) = Some (op x y ∷ vs)

abbrev pub step : (ℕ → Bool) → Token → List Bool → Option (List Bool)
step s (Location l) vs = pushed (s l) vs
step s True vs = pushed true vs
step s False vs = pushed false vs
step s And vs = joined (λ x y. x && y) vs
step s Or vs = joined (λ x y. x || y) vs

abbrev pub then_run : (List Bool → Option (List Bool)) → Option (List Bool) → Option (List Bool)
then_run go None = None
then_run go (Some vs) = go vs

-- the values that wait after the tokens
abbrev pub run : (ℕ → Bool) → List Token → List Bool → Option (List Bool)
run s [] vs = Some vs
run s (t ∷ ts) vs = then_run (run s ts) (step s t vs)

abbrev pub only : Option (List Bool) → Option Bool
only None = None
only (Some []) = None
only (Some (v ∷ [])) = Some v
only (Some (v ∷ w ∷ vs)) = None

-- the one value that is left, or nothing where the tokens spell no formula
abbrev pub evaluated : (ℕ → Bool) → List Token → Option Bool
evaluated s ts = only (run s ts [])

-- ts spell a formula, and at most 32 values wait while they are read
pub record Spells (f : Formula) (ts : List Token) : Type 0 where
  pub spelled : postfix f ≡ ts
  pub few : waiting f ≤ 32

-- what reading the tokens ts against a set answers: the value of the formula that they spell, nothing where they
-- spell none, and in a larger set it is true again
pub record Values (ts : List Token) (set : ℕ) (answer : Option Bool) : Type 0 where
  pub right : (f : Formula) → Spells f ts → answer ≡ Some (value (has set) f)
  pub spelled : (v : Bool) → answer ≡ Some v → (f : Formula) × Spells f ts
  pub monotone : (larger : ℕ) → Within set larger → answer ≡ Some true → evaluated (has larger) ts ≡ Some true
