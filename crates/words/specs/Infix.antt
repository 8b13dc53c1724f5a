-- A formula as a person reads it: connectives between their parts, and parts that are joined in parentheses.
-- Assumes nothing.
use Rattle.std.specs.Prelude.{◌≡◌, ℕ, Bool, true, false, cond, List, ◌++◌, codes, decimal}
use Rattle.formula.specs.declared.token.Token.{Token}
use Rattle.formula.specs.Formulas.{Formula, at, always, never, both, either}
use Rattle.formula.specs.Machine.{Spells}

-- whether the formula has a connective
abbrev pub joined : Formula → Bool
joined (at l) = false
joined always = false
joined never = false
joined (both f g) = true
joined (either f g) = true

-- a part inside another
abbrev pub inside : Bool → List ℕ → List ℕ
inside joined text = cond joined (codes "(" ++ (text ++ codes ")")) text

abbrev pub text : Formula → List ℕ
text (at l) = decimal l
text always = codes "true"
text never = codes "false"
text (both f g) = inside (joined f) (text f) ++ (codes " and " ++ inside (joined g) (text g))
text (either f g) = inside (joined f) (text f) ++ (codes " or " ++ inside (joined g) (text g))

-- ts spell no formula, or more than 32 values would wait
abbrev pub SpellNone : List Token → Type 0
SpellNone ts = (f : Formula) → Spells f ts → ⊥

-- ts spell a formula, and bs is its text
pub record SpellText (ts : List Token) (bs : List ℕ) : Type 0 where
  pub spelled : (f : Formula) × Spells f ts
  pub right : (f : Formula) → Spells f ts → bs ≡ text f
