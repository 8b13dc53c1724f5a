-- What a model holds. Assumes nothing.
use Rattle.std.specs.Prelude.{◌≡◌, ℕ, ◌+◌, ◌*◌, ◌%◌, ◌^◌, cond, ◌&&◌, List, map, Vec, vec_items, nat_lt, slice_index}
use Rattle.std.specs.declared.alloc.Global.{Global}
use Rattle.formula.specs.declared.token.Token.{Token}
use Rattle.formula.specs.Unions.{named}
use Rattle.inspect.specs.Denotes.{Content}
use Rattle.layout.specs.Successors.{with_successors}
use Rattle.sheet.specs.declared.headed.Headed.{Headed}
use Rattle.sheet.specs.contracts.model.SetsCells.TheImpl.{ghosts}

-- a head with a set of successors for each location and letter
abbrev pub Model : Type 0
Model = Headed (Vec ℕ Global) ghosts

-- the content that is written for a model: its sets in their rising spelling
abbrev pub model_content : Model → Content
model_content m = with_successors m.head (vec_items m.cells)

-- a model has, for each location and letter, the locations that its sheet names there as successors
abbrev pub IsModel : Model → Content → Type 0
IsModel m c = (m.head ≡ c.head) × (vec_items m.cells ≡ map named c.formulas)

-- the set of the successors of a location under a letter: empty past the model's locations and letters
abbrev pub successors_of : Model → ℕ → ℕ → ℕ
successors_of m l a = cond (nat_lt l m.head.locations && nat_lt a m.head.letters) (slice_index (vec_items m.cells) (l * m.head.letters + a)) 0

-- the set that tokens name, as a mask of 32 bits
abbrev pub named_mask : List Token → ℕ
named_mask ts = named ts % 2 ^ 32
