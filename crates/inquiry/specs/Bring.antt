-- What a sweep brings, and what it leaves in the tables. Assumes nothing.
use Rattle.std.specs.Prelude.{◌≡◌, ℕ, ◌≤◌, false, cond, List, take, Some, None, Option}
use Rattle.graph.specs.Adding.{covered, all_covered, Table, unchanged, changed_to, filled}
use Rattle.graph.specs.Candidates.{candidates}
use Rattle.graph.specs.Meaning.{Meaning}
use Rattle.inquiry.specs.declared.brought.Brought.{Brought}
use Rattle.inquiry.specs.declared.brought.Brought.TheVariants.{NoPlace, Gained, Lost, Settled, Shrunk, Room}

abbrev pub verdict : {S : Type 0} → Meaning S → List S → List S → Brought
verdict m former present = cond (covered m.below m.start present) (cond (all_covered m.below former present) Settled Shrunk) Lost

-- the sweep of held outer and inner states in n places
abbrev pub sweeping : {S : Type 0} → Meaning S → ℕ → List S → List S → Option (Table S)
sweeping m n outer inner = filled m.below n (candidates m inner outer) (unchanged inner)

-- a round that ended: nothing was new, and the first i places of outer are those of inner
pub record Ended {S : Type 0} (m : Meaning S) (n : ℕ) (held kept : List S) (i : ℕ) (inner outer' inner' : List S) (b : Brought) : Type 0 where
  pub table : Table S
  pub swept : sweeping m n held kept ≡ Some table
  pub still : table.changed ≡ false
  pub copied : take i outer' ≡ kept
  pub same : inner' ≡ inner
  pub ends : b ≡ verdict m held kept

abbrev pub Brings : {S : Type 0} → Meaning S → ℕ → List S → List S → ℕ → List S → List S → List S → List S → Brought → Type 0
Brings m n held kept i outer inner outer' inner' NoPlace = (sweeping m n held kept ≡ None) × (outer' ≡ outer) × (inner' ≡ inner)
Brings m n held kept i outer inner outer' inner' (Gained k) = (sweeping m n held kept ≡ Some (changed_to (take k inner'))) × (outer' ≡ outer) × (k ≤ n)
Brings m n held kept i outer inner outer' inner' Lost = Ended m n held kept i inner outer' inner' Lost
Brings m n held kept i outer inner outer' inner' Settled = Ended m n held kept i inner outer' inner' Settled
Brings m n held kept i outer inner outer' inner' Shrunk = Ended m n held kept i inner outer' inner' Shrunk
Brings m n held kept i outer inner outer' inner' (Room k) = ⊥
