-- What the inner functions of an inspection answer: the first of their checks that does not hold, by its refusal.
-- Assumes nothing.
use Rattle.std.specs.Prelude.{◌≡◌, ℕ, cond, List, Some, None, Ok, Err, Option, Result}
use Rattle.formula.specs.declared.token.Token.{Token}
use Rattle.formula.specs.Shape.{room, moved}
use Rattle.inspect.specs.declared.fault.Refusal.{Refusal}
use Rattle.inspect.specs.declared.head.Asked.{Asked}
use Rattle.inspect.specs.declared.head.Sort.{Sort}
use Rattle.inspect.specs.Checks.{Check, first, allowed}
use Rattle.inspect.specs.Format.{takes}

module _ {T F : Type 0} (say : F → Refusal) where
  -- all of the checks hold, and the answer is as it should be; or the first that does not is told
  abbrev pub Judged : List Check → (T → Type 0) → Result T F → Type 0
  Judged cs P (Ok x) = (first cs ≡ None) × P x
  Judged cs P (Err f) = first cs ≡ Some (say f)

  -- the same of checks with others behind them: `from` judges what is in front of them as well, `onto` is what is left
  abbrev pub Passes : {B : Type 0} → (B → List Check) → (T → B → List Check) → Result T F → Type 0
  Passes {B} from onto (Ok x) = (b : B) → first (from b) ≡ first (onto x b)
  Passes {B} from onto (Err f) = (b : B) → first (from b) ≡ Some (say f)

-- how many values wait after a token, if there is room for it
abbrev pub next_waiting : Token → ℕ → Option ℕ
next_waiting t w = cond (room t w) (Some (moved t w)) None

-- the sort that a byte stands for, where it is asked for
abbrev pub asked_sort : Asked → Option Sort → Option Sort
asked_sort asked None = None
asked_sort asked (Some s) = cond (takes asked s) (Some s) None

-- a token that the head allows
abbrev pub known_token : Sort → ℕ → Option Token → Option Token
known_token s n None = None
known_token s n (Some t) = cond (allowed s n t) (Some t) None
