-- Which contents a sheet can hold. Assumes nothing.
use Rattle.std.specs.Prelude.{◌≡◌, ℕ, ◌+◌, ◌*◌, ◌^◌, ◌<◌, ◌≤◌, Bool, true, ◌&&◌, List, [], ◌∷◌, length, ◌==◌, nat_le, nat_lt}
use Rattle.formula.specs.declared.token.Token.{Token}
use Rattle.formula.specs.Shape.{shaped}
use Rattle.inspect.specs.declared.head.Head.{Head}
use Rattle.inspect.specs.Checks.{allowed}
use Rattle.inspect.specs.Denotes.{Content, InRange}

abbrev pub every : {X : Type 0} → (X → Bool) → List X → Bool
every test [] = true
every test (x ∷ xs) = test x && every test xs

-- no tokens, or at most 255 that spell a formula which the head allows
abbrev pub proper : Head → List Token → Bool
proper h [] = true
proper h (t ∷ ts) = shaped 0 (t ∷ ts) && (every (allowed h.sort h.locations) (t ∷ ts) && nat_le (length (t ∷ ts)) 255)

abbrev pub sizes : List (List Token) → ℕ
sizes [] = 0
sizes (ts ∷ table) = length ts + sizes table

pub record Valid (c : Content) : Type 0 where
  pub fields : InRange c.head
  pub accepting : c.head.accepting < 2 ^ c.head.locations
  pub long : length c.formulas ≡ c.head.locations * c.head.letters
  pub formulas : every (proper c.head) c.formulas ≡ true
  pub tokens : sizes c.formulas ≤ 4096

-- the same as a test, for a field's invariant (it stays shut, so that a goal about a record can be read)
unfoldable pub is_valid : Content → Bool
is_valid c =
    (nat_lt 0 c.head.locations && (nat_le c.head.locations 32 && (nat_lt 0 c.head.letters && (nat_le c.head.letters 8 && nat_lt c.head.initial c.head.locations))))
    && (nat_lt c.head.accepting (2 ^ c.head.locations) && (length c.formulas == c.head.locations * c.head.letters && (every (proper c.head) c.formulas && nat_le (sizes c.formulas) 4096)))
