-- Where a search is, when its calls are turned down, and a search that a course of calls led to. Assumes nothing.
use Rattle.std.specs.Prelude.{◌≡◌, ℕ, cond, ◌&&◌, Some, None, Ok, Err, Option, Result, nat_le, nat_lt, vec_items}
use Rattle.graph.specs.Meaning.{Meaning}
use Rattle.graph.specs.declared.Graph.{Ghosts}
use Rattle.inquiry.specs.declared.standing.Standing.{Standing}
use Rattle.inquiry.specs.Course.{Course}
use Rattle.inquiry.specs.Position.{Position, widened}
use Rattle.inquiry.specs.Record.{reported, position}
use Rattle.inquiry.specs.Refusal.{number}
use Rattle.inquiry.specs.Standing.{running, full}
use Rattle.tables.specs.Tables.{Long}
use Rattle.tables.specs.declared.halt.Halt.{Halt}
use Rattle.tables.specs.declared.halt.Halt.TheVariants.{Refused, Memory}
use Rattle.tables.specs.declared.search.Search.{Search}

-- the inquiry's record with the states that its tables hold
abbrev pub place : {G S : Type 0} {g : Ghosts G S} → Search G S g → Position S
place s = position (reported s.inquiry) (vec_items s.tables.outer) (vec_items s.tables.inner)

-- a course of calls led to the inquiry, and its tables have its places
pub record Placed {G S : Type 0} {g : Ghosts G S} (m : Meaning S) (s : Search G S g) : Type 0 where
  pub long : Long (place s).places s.tables
  pub course : Course m (place s)

-- a run is turned down where the inquiry does not run
abbrev pub halting : Standing → Option ℕ
halting s = cond (running s) None (Some 16)

abbrev pub halted : {G S : Type 0} {g : Ghosts G S} → Search G S g → Option ℕ
halted s = halting (place s).standing

-- widening is turned down where the inquiry is not full, and then where the new tables are not longer or too long
abbrev pub held_back : {G S : Type 0} {g : Ghosts G S} → ℕ → Search G S g → Option ℕ
held_back n s = cond (full (place s).standing) (cond (nat_lt (place s).places n && nat_le n 4096) None (Some 18)) (Some 17)

-- moved to tables of n places; or turned down by that number, or no memory for the tables, and then nothing is changed
abbrev pub Widened : {G S A : Type 0} {g : Ghosts G S} → ℕ → Search G S g → Search G S g → Result A Halt → Type 0
Widened n s t (Ok _) = (held_back n s ≡ None) × (place t ≡ widened n (place s))
Widened n s t (Err (Refused e)) = (held_back n s ≡ Some (number e)) × (t ≡ s)
Widened n s t (Err Memory) = (held_back n s ≡ None) × (t ≡ s)
