-- Where an inquiry stands with its held states, and the steps: open, sweep, run and widen. Assumes nothing.
use Rattle.std.specs.Prelude.{ℕ, zero, suc, cond, ◌&&◌, List, [], Some, None, Option, ◌==◌}
use Rattle.graph.specs.Adding.{covered, all_covered, Table, unchanged, filled}
use Rattle.graph.specs.Candidates.{all_tops, candidates}
use Rattle.graph.specs.Meaning.{Meaning}
use Rattle.inquiry.specs.declared.standing.Standing.{Standing}
use Rattle.inquiry.specs.declared.standing.Standing.TheVariants.{Running, Possible, Impossible, Full, Spent}
use Rattle.inquiry.specs.Standing.{running}

pub record Position (S : Type 0) : Type 0 where
  pub standing : Standing
  pub round : ℕ
  pub sweep : ℕ
  pub count : ℕ
  pub limit : ℕ
  pub places : ℕ
  pub outer : List S
  pub inner : List S

abbrev pub stands : {S : Type 0} → Standing → Position S → Position S
stands s p = record { standing = s; round = p.round; sweep = p.sweep; count = p.count; limit = p.limit; places = p.places; outer = p.outer; inner = p.inner }

abbrev pub in_places : {S : Type 0} → ℕ → Position S → Position S
in_places n p = record { standing = p.standing; round = p.round; sweep = p.sweep; count = p.count; limit = p.limit; places = n; outer = p.outer; inner = p.inner }

abbrev pub held_of : {S : Type 0} → Option (Table S) → List S
held_of (Some t) = t.held
held_of None = []

-- the tops are added in order to an empty outer table
abbrev pub opened : {S : Type 0} → Meaning S → ℕ → ℕ → Position S
opened m limit places =
    record { standing = Running; round = 0; sweep = 0; count = 0; limit = limit; places = places; outer = held_of (filled m.below places (all_tops m) (unchanged [])); inner = [] }

-- a sweep: inner is copied to work, and every state found is added there; nothing if there is no place
abbrev pub brought : {S : Type 0} → Meaning S → Position S → Option (Table S)
brought m p = filled m.below p.places (candidates m p.inner p.outer) (unchanged p.inner)

-- work changed: it is the new inner
abbrev pub gained : {S : Type 0} → Position S → List S → Position S
gained p held = record { standing = Running; round = p.round; sweep = suc p.sweep; count = suc p.count; limit = p.limit; places = p.places; outer = p.outer; inner = held }

-- what the end of a round decides, from the former outer and the present one
abbrev pub decided : {S : Type 0} → Meaning S → List S → List S → Standing
decided m former outer = cond (covered m.below m.start outer) (cond (all_covered m.below former outer) Possible Running) Impossible

-- work did not change: the round ends
abbrev pub ended : {S : Type 0} → Meaning S → Position S → Position S
ended m p =
    record { standing = decided m p.outer p.inner; round = suc p.round; sweep = 0; count = suc p.count; limit = p.limit; places = p.places; outer = p.inner; inner = [] }

-- running with the count at the limit is spent
abbrev pub limited : {S : Type 0} → Position S → Position S
limited p = cond (running p.standing && p.count == p.limit) (stands Spent p) p

abbrev pub after : {S : Type 0} → Meaning S → Position S → Option (Table S) → Position S
after m p (Some t) = limited (cond t.changed (gained p t.held) (ended m p))
after m p None = stands Full p

abbrev pub swept : {S : Type 0} → Meaning S → Position S → Position S
swept m p = after m p (brought m p)

-- sweeps until that many are counted or it is not running
unfoldable pub ran : {S : Type 0} → Meaning S → ℕ → Position S → Position S
ran m zero p = p
ran m (suc b) p = cond (running p.standing) (ran m b (swept m p)) p

abbrev pub widened : {S : Type 0} → ℕ → Position S → Position S
widened n p = in_places n (stands Running p)
