-- Courses of calls on a newly opened inquiry, and what is promised of every position that they reach. Assumes nothing.
use Rattle.std.specs.Prelude.{◌≡◌, ℕ, suc, ◌+◌, ◌*◌, ◌<◌, ◌≤◌}
use Rattle.graph.specs.Meaning.{Meaning, K}
use Rattle.graph.specs.Sets.{Y, X, Represents, Sum, Crowded}
use Rattle.graph.specs.Walks.{Loop}
use Rattle.inquiry.specs.declared.standing.Standing.{Standing}
use Rattle.inquiry.specs.declared.standing.Standing.TheVariants.{Running, Possible, Impossible, Full, Spent}
use Rattle.inquiry.specs.Position.{Position, stands, opened, ran, widened}

-- a call that is turned down leaves the position, so it needs no case
pub data Course {S : Type 0} (m : Meaning S) : Position S → Type 0 where
  by_open : (limit places : ℕ) → 1 ≤ limit → 1 ≤ places → places ≤ 4096 → m.tops ≤ places → Course m (opened m limit places)
  by_run : (p : Position S) → Course m p → p.standing ≡ Running → (budget : ℕ) → Course m (ran m budget p)
  by_widen : (p : Position S) → Course m p → p.standing ≡ Full → (n : ℕ) → p.places < n → n ≤ 4096 → Course m (widened n p)

-- a full inquiry as it stood before the sweep that found no place
abbrev pub before_full : {S : Type 0} → Position S → Standing → Position S
before_full p Running = p
before_full p Possible = p
before_full p Impossible = p
before_full p Full = stands Running p
before_full p Spent = p

pub record Promise {S : Type 0} (m : Meaning S) (p : Position S) : Type 0 where
  -- possible exactly when the graph has an accepting loop, where it stands at possible or impossible
  pub possible : p.standing ≡ Possible → Loop m
  pub impossible : p.standing ≡ Impossible → Loop m → ⊥
  pub outer_is : Represents m p.outer (Y m p.round)
  pub inner_is : Represents m p.inner (X m p.round p.sweep)
  pub counted : Sum m p.round p.sweep p.count
  pub spent : p.standing ≡ Spent → (p.count ≡ p.limit) × (p.limit < K m * (K m + 1))
  pub crowded : p.standing ≡ Full → Crowded m p.places (X m p.round (suc p.sweep))
  -- as many sweeps from a new opening with the present places lead here: widening goes on where it stopped
  pub direct : ran m p.count (opened m p.limit p.places) ≡ before_full p p.standing

-- a call goes on from a course to a course, and keeps the promise
abbrev pub Onward : {S : Type 0} → Meaning S → Position S → Position S → Type 0
Onward m p q = Course m p → Course m q × Promise m q
