-- How an inquiry is exhausted in its tables, and what a pursuit answers. Assumes nothing.
use Rattle.std.specs.Prelude.{◌≡◌, ℕ, false, ◌⊎◌, List, Some, None, Ok, Err, Result}
use Rattle.graph.specs.Meaning.{Meaning}
use Rattle.inquiry.specs.declared.report.Report.{Report}
use Rattle.inquiry.specs.declared.standing.Standing.TheVariants.{Full}
use Rattle.inquiry.specs.Calls.{open_refusal}
use Rattle.inquiry.specs.Course.{Course, Promise}
use Rattle.inquiry.specs.Record.{position}
use Rattle.inquiry.specs.Refusal.{number}
use Rattle.inquiry.specs.Standing.{running}
use Rattle.tables.specs.declared.halt.Halt.{Halt}
use Rattle.tables.specs.declared.halt.Halt.TheVariants.{Refused, Memory}

-- from what the record said to the report, in the same tables
pub record Exhausted {S : Type 0} (m : Meaning S) (from r : Report) (outer inner : List S) : Type 0 where
  pub ends : running r.standing ≡ false
  pub limit_is : r.limit ≡ from.limit
  pub places_are : r.places ≡ from.places
  pub course : Course m (position r outer inner)

-- the lengths that the tables may have: doubled from 512 to 4,096
abbrev pub Doubled : ℕ → Type 0
Doubled n = (n ≡ 512) ⊎ ((n ≡ 1024) ⊎ ((n ≡ 2048) ⊎ (n ≡ 4096)))

-- opening in 512 places refuses nothing, and a course of calls led to what the report says, in tables that begin with the
-- held states; it does not run, and is full only where tables may not be longer
pub record Pursued {S : Type 0} (m : Meaning S) (r : Report) : Type 0 where
  pub opens : open_refusal 512 512 512 100000 m.tops ≡ None
  pub outer : List S
  pub inner : List S
  pub course : Course m (position r outer inner)
  pub promise : Promise m (position r outer inner)
  pub limit_is : r.limit ≡ 100000
  pub ends : running r.standing ≡ false
  pub places_are : Doubled r.places
  pub widest : r.standing ≡ Full → r.places ≡ 4096

-- a refusal is that of opening in 512 places; where memory was wanting nothing is said
abbrev pub Outcome : {S : Type 0} → Meaning S → Result Report Halt → Type 0
Outcome m (Ok r) = Pursued m r
Outcome m (Err (Refused e)) = open_refusal 512 512 512 100000 m.tops ≡ Some (number e)
Outcome m (Err Memory) = Unit {0}
