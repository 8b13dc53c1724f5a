-- How what was brought moves the record. Assumes nothing.
use Rattle.std.specs.Prelude.{◌≡◌, ℕ, ◌+◌, ◌≤◌, cond, ◌==◌}
use Rattle.inquiry.specs.declared.brought.Brought.{Brought}
use Rattle.inquiry.specs.declared.brought.Brought.TheVariants.{NoPlace, Gained, Lost, Settled, Shrunk, Room}
use Rattle.inquiry.specs.declared.report.Report.{Report}
use Rattle.inquiry.specs.declared.standing.Standing.{Standing}
use Rattle.inquiry.specs.declared.standing.Standing.TheVariants.{Running, Possible, Impossible, Full, Spent}

abbrev pub ticked : Report → Report
ticked r = record r { standing = cond (r.count + 1 == r.limit) Spent Running; count = r.count + 1 }

-- inner grows to so many states
abbrev pub grown : ℕ → Report → Report
grown held r = record r { sweep = r.sweep + 1; inner = held }

abbrev pub next : Report → Report
next r = record r { round = r.round + 1; sweep = 0; outer = r.inner; inner = 0 }

abbrev pub at_standing : Standing → Report → Report
at_standing s r = record r { standing = s }

abbrev pub turned : Brought → Report → Report
turned NoPlace r = at_standing Full r
turned (Gained held) r = grown held (ticked r)
turned Lost r = at_standing Impossible (next (ticked r))
turned Settled r = at_standing Possible (next (ticked r))
turned Shrunk r = next (ticked r)
turned (Room n) r = record r { standing = Running; places = n }

-- what a record can meet: a sweep's tidings while it runs, and room when it is full
abbrev pub Meets : Report → Brought → Type 0
Meets r NoPlace = r.standing ≡ Running
Meets r (Gained held) = (r.standing ≡ Running) × (held ≤ r.places)
Meets r Lost = r.standing ≡ Running
Meets r Settled = r.standing ≡ Running
Meets r Shrunk = r.standing ≡ Running
Meets r (Room n) = (r.standing ≡ Full) × (r.places ≤ n) × (n ≤ 4096)
