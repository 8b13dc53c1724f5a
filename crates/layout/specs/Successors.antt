-- Contents that keep a set of successors in place of each formula, as a model does. Assumes nothing.
use Rattle.std.specs.Prelude.{ℕ, List, map}
use Rattle.formula.specs.Unions.{named, spelling}
use Rattle.inspect.specs.declared.head.Head.{Head}
use Rattle.inspect.specs.Denotes.{Content}

-- each set by its rising spelling
abbrev pub with_successors : Head → List ℕ → Content
with_successors h masks = record { head = h; formulas = map (spelling h.locations) masks }

-- each formula replaced by the rising spelling of the set that it names
abbrev pub spelled : Content → Content
spelled c = record { head = c.head; formulas = map (λ ts. spelling c.head.locations (named ts)) c.formulas }
