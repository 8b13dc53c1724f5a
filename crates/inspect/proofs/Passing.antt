-- The entries of a block, one at a time.
use Rattle.std.proofs.Common.{◌≡◌, ℕ, ◌+◌, ◌≤◌, true, false, List, [], ◌∷◌, length, take, drop, ap, ◌∙◌, subst, arith, length-drop, length-take}
use Rattle.std.specs.List.{AllByRecursion}
use Rattle.std.proofs.lemmas.List.{drop-drop}
use Rattle.std.proofs.lemmas.Bool.{false≢true}
use Rattle.inspect.specs.Entries.{Placed, placed, begins, nothing, past, an_entry, onward, entries}
use Rattle.inspect.proofs.Walks.{entries_step, entry_opens}

-- the bytes of block xs from byte `at` on
abbrev pub from : List ℕ → ℕ → List ℕ
from xs at = drop at (take 510 xs)

-- every entry lies before byte 510
abbrev pub Fitting : List Placed → Type 0
Fitting es = AllByRecursion (λ e. e.fits ≡ true) es

pub from_start : (xs : List ℕ) (l a : ℕ) (ts : List ℕ) (at : ℕ) → at ≤ 510 → begins (from xs at) ≡ an_entry l a ts → at + (3 + length ts) ≤ 510
from_start xs l a ts at inside is =
    omega (arith, (entry_opens (from xs at) l a ts is).room, length-drop at (take 510 xs), length-take 510 xs)

module _ (k at : ℕ) (rest : List ℕ) where
  pub entries_end : begins rest ≡ nothing → entries k at rest ≡ []
  entries_end is = entries_step k at rest ∙ ap (onward (entries k) k at rest) is

  pub entries_past : (l : ℕ) → begins rest ≡ past l → entries k at rest ≡ placed k at l 0 [] false ∷ []
  entries_past l is = entries_step k at rest ∙ ap (onward (entries k) k at rest) is

pub entries_next : (k at : ℕ) (xs : List ℕ) (l a : ℕ) (ts : List ℕ) → begins (from xs at) ≡ an_entry l a ts → entries k at (from xs at) ≡ placed k at l a ts true ∷ entries k (at + (3 + length ts)) (from xs (at + (3 + length ts)))
entries_next k at xs l a ts is =
    entries_step k at (from xs at) ∙ ap (onward (entries k) k at (from xs at)) is
    ∙ ap (λ bs. placed k at l a ts true ∷ entries k (at + (3 + length ts)) bs) (drop-drop (3 + length ts) at (take 510 xs))

-- entries that all fit
pub fits_next : (k at : ℕ) (xs : List ℕ) (l a : ℕ) (ts : List ℕ) → begins (from xs at) ≡ an_entry l a ts → Fitting (entries k at (from xs at)) → Fitting (entries k (at + (3 + length ts)) (from xs (at + (3 + length ts))))
fits_next k at xs l a ts is fits = (subst Fitting (entries_next k at xs l a ts is) fits).1

pub fits_not_past : (k at : ℕ) (xs : List ℕ) (l : ℕ) → begins (from xs at) ≡ past l → Fitting (entries k at (from xs at)) → ⊥
fits_not_past k at xs l is fits = false≢true (subst Fitting (entries_past k at (from xs at) l is) fits).0
