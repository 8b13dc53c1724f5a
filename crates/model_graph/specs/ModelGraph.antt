-- The graph of a model, also of the model that a sheet's content is. Assumes nothing.
use Rattle.std.specs.Prelude.{◌≡◌, ℕ, ◌+◌, ◌*◌, Bool, true, cond, ◌&&◌, List, map, Some, None, vec_items, Option, nat_eq, nat_lt, slice_index}
use Rattle.std.specs.List.{range_with_len}
use Rattle.formula.specs.Sets.{has}
use Rattle.formula.specs.Unions.{named}
use Rattle.graph.specs.Meaning.{Meaning}
use Rattle.inspect.specs.declared.head.Head.{Head}
use Rattle.inspect.specs.Denotes.{Content}
use Rattle.sheet.specs.Models.{Model}

-- whether a steps to b under x: the sets stand by location and then by letter
abbrev pub steps : Head → List ℕ → ℕ → ℕ → ℕ → Bool
steps h sets x a b = has (cond (nat_lt a h.locations && nat_lt x h.letters) (slice_index sets (a * h.letters + x)) 0) b

-- the location of that number, if there are so many
abbrev pub location_at : ℕ → ℕ → Option ℕ
location_at locations i = cond (nat_lt i locations) (Some i) None

-- slot i holds i if i steps to b
abbrev pub slot_at : Head → List ℕ → ℕ → ℕ → ℕ → Option ℕ
slot_at h sets x b i = cond (nat_lt i h.locations) (cond (steps h sets x i b) (Some i) None) None

-- past the locations, a top is the initial one and a slot holds nothing
abbrev pub graph_of : Head → List ℕ → Meaning ℕ
graph_of h sets =
    record {
      letters = h.letters;
      states = range_with_len 0 h.locations;
      start = h.initial;
      accepts = has h.accepting;
      below = nat_eq;
      step = λ x a b. steps h sets x a b ≡ true;
      tops = h.locations;
      top = λ i. cond (nat_lt i h.locations) i h.initial;
      slots = h.locations;
      slot = slot_at h sets;
    }

abbrev pub model_means : Model → Meaning ℕ
model_means m = graph_of m.head (vec_items m.cells)

-- the successors are the locations that the tokens name
abbrev pub content_means : Content → Meaning ℕ
content_means c = graph_of c.head (map named c.formulas)
