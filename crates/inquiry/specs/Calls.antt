-- When each call turns its input down, and what a call that is accepted does. Assumes nothing.
use Rattle.std.specs.Prelude.{◌≡◌, ℕ, ◌+◌, ◌<◌, ◌≤◌, false, cond, ◌&&◌, ◌⊎◌, Some, None, Ok, Err, Option, Result, ◌==◌, ◌≢◌, nat_le, nat_lt}
use Rattle.graph.specs.Meaning.{Meaning}
use Rattle.inquiry.specs.declared.refusal.Refusal.{Refusal}
use Rattle.inquiry.specs.declared.report.Report.{Report}
use Rattle.inquiry.specs.declared.standing.Standing.TheVariants.{Full}
use Rattle.inquiry.specs.Position.{Position, in_places, ran}
use Rattle.inquiry.specs.Refusal.{number}
use Rattle.inquiry.specs.Standing.{running, full}

-- of the lengths of outer, inner and work, the limit and the number of tops
abbrev pub open_refusal : ℕ → ℕ → ℕ → ℕ → ℕ → Option ℕ
open_refusal outer inner work limit tops =
    cond (nat_le 1 outer && (nat_le outer 4096 && (inner == outer && work == outer))) (cond (limit == 0) (Some 13) (cond (nat_le tops outer) None (Some 14))) (Some 12)

-- of the record and the lengths of outer, inner and work
abbrev pub run_refusal : Report → ℕ → ℕ → ℕ → Option ℕ
run_refusal r outer inner work =
    cond (outer == r.places && (inner == r.places && work == r.places)) (cond (running r.standing) None (Some 16)) (Some 15)

-- of the record, the lengths of the old outer and inner and those of the new outer, inner and work
abbrev pub widen_refusal : Report → ℕ → ℕ → ℕ → ℕ → ℕ → Option ℕ
widen_refusal r outer inner new_outer new_inner new_work =
    cond (outer == r.places && inner == r.places) (cond (full r.standing) (cond (new_inner == new_outer && (new_work == new_outer && (nat_lt r.places new_outer && nat_le new_outer 4096))) None (Some 18)) (Some 17)) (Some 15)

-- turned down with the refusal of that number and nothing changed, or accepted and done
abbrev pub Turned : {A : Type 0} → Option ℕ → Result A Refusal → Type 0 → (A → Type 0) → Type 0
Turned (Some n) (Ok a) same done = ⊥
Turned (Some n) (Err e) same done = (number e ≡ n) × same
Turned None (Ok a) same done = done a
Turned None (Err e) same done = ⊥

-- a run from p to q, and what follows
pub record Ran {S : Type 0} (m : Meaning S) (budget : ℕ) (p q : Position S) : Type 0 where
  pub is : q ≡ ran m budget p
  -- a budget that reaches the limit leaves nothing running
  pub ends : p.limit ≤ budget + p.count → running q.standing ≡ false
  -- a budget above 0 counts a sweep or ends at full
  pub counts : 1 ≤ budget → (p.count < q.count) ⊎ (q.standing ≡ Full)
  -- in longer tables the run is the same but for the places, unless it ends at full
  pub longer : (n : ℕ) → p.places ≤ n → (q.standing ≢ Full) → ran m budget (in_places n p) ≡ in_places n q
