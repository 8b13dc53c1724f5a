-- What rules and models have alike. Assumes nothing.
use Rattle.std.specs.Prelude.{ℕ, ◌^◌, Bool, List, [], ◌∷◌, nat_lt}
use Rattle.formula.specs.declared.token.Token.{Token}
use Rattle.inspect.specs.declared.head.Head.{Head}
use Rattle.inspect.specs.declared.head.Sort.{Sort}
use Rattle.inspect.specs.Denotes.{Content}
use Rattle.layout.specs.Valid.{every}

abbrev pub head_of : Sort → ℕ → ℕ → ℕ → ℕ → Head
head_of s locations letters initial accepting = record { sort = s; locations = locations; letters = letters; initial = initial; accepting = accepting }

-- formulas under a head
abbrev pub with_formulas : Head → List (List Token) → Content
with_formulas h fs = record { head = h; formulas = fs }

-- one location, one letter, initial 0 and nothing else
abbrev pub fresh : Sort → Content
fresh s = with_formulas (head_of s 1 1 0 0) ([] ∷ [])

-- every set has only locations of the model
abbrev pub small : ℕ → List ℕ → Bool
small locations sets = every (λ m. nat_lt m (2 ^ locations)) sets
