-- Positive and/or formulas over locations, their value against a set, and their spelling. Assumes nothing.
use Rattle.std.specs.Prelude.{ℕ, suc, max, Bool, true, false, ◌&&◌, ◌||◌, List, [], ◌∷◌, ◌++◌}
use Rattle.formula.specs.declared.token.Token.{Token}
use Rattle.formula.specs.declared.token.Token.TheVariants.{Location, True, False, And, Or}

pub data Formula : Type 0 where
  at : ℕ → Formula
  always : Formula
  never : Formula
  both : Formula → Formula → Formula
  either : Formula → Formula → Formula

-- the formula's value where s says which locations are in the set
abbrev pub value : (ℕ → Bool) → Formula → Bool
value s (at l) = s l
value s always = true
value s never = false
value s (both f g) = value s f && value s g
value s (either f g) = value s f || value s g

-- the tokens that spell a formula, in postfix order
abbrev pub postfix : Formula → List Token
postfix (at l) = Location l ∷ []
postfix always = True ∷ []
postfix never = False ∷ []
postfix (both f g) = postfix f ++ (postfix g ++ And ∷ [])
postfix (either f g) = postfix f ++ (postfix g ++ Or ∷ [])

-- how many values wait at once, at most, while the tokens are read in order
abbrev pub waiting : Formula → ℕ
waiting (at l) = 1
waiting always = 1
waiting never = 1
waiting (both f g) = max (waiting f) (suc (waiting g))
waiting (either f g) = max (waiting f) (suc (waiting g))
