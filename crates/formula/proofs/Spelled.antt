-- The tokens of a set's spelling, one by one, by its members: token i stands with member (i + 1) / 2.
use Rattle.std.proofs.Common.{◌≡◌, ℕ, zero, suc, ◌+◌, ◌-◌, ◌*◌, ◌/◌, ◌%◌, ◌<◌, ◌≤◌, List, [], ◌∷◌, length, get_or, Some, None, refl, ap, ◌∙◌, add-one, arith}
use native.Mathlib.Numerals.{add-two}
use Rattle.std.specs.List.{slice_get}
use Rattle.std.proofs.lemmas.List.{get_or_past}
use Rattle.std.proofs.lemmas.Option.{slice_get_cases, slice_get_within, get_or_from_slice_get}
use Rattle.formula.specs.declared.token.Token.TheVariants.{Location, False, Or}
use Rattle.formula.specs.Unions.{members, ors, listed, spelling}
use Rattle.formula.proofs.Unions.{length_spelling}

-- member j of those after the first, and then its connective
ors_at : (ls : List ℕ) (j : ℕ) → j < length ls → (get_or (ors ls) (2 * j) False ≡ Location (get_or ls j 0)) × (get_or (ors ls) (suc (2 * j)) False ≡ Or)
ors_at [] j h = absurd (omega arith)
ors_at (l ∷ ls) zero h = (refl, refl)
ors_at (l ∷ ls) (suc j) h = let next : 2 * suc j ≡ suc (suc (2 * j)) = omega arith in rw next (ors_at ls j (omega arith))

pub spelling_first : (n mask : ℕ) → 0 < length (members n mask) → get_or (spelling n mask) 0 False ≡ Location (get_or (members n mask) 0 0)
spelling_first n mask h = go (members n mask) h
  where
    go : (ls : List ℕ) → 0 < length ls → get_or (listed ls) 0 False ≡ Location (get_or ls 0 0)
    go [] h = absurd (omega arith)
    go (l ∷ ls) h = refl

pub spelling_odd : (n mask j : ℕ) → suc j < length (members n mask) → get_or (spelling n mask) (2 * j + 1) False ≡ Location (get_or (members n mask) (suc j) 0)
spelling_odd n mask j h = go (members n mask) h
  where
    go : (ls : List ℕ) → suc j < length ls → get_or (listed ls) (2 * j + 1) False ≡ Location (get_or ls (suc j) 0)
    go [] h = absurd (omega arith)
    go (l ∷ ls) h = rw add-one (ors_at ls j (omega arith)).0

pub spelling_even : (n mask j : ℕ) → suc j < length (members n mask) → get_or (spelling n mask) (2 * j + 2) False ≡ Or
spelling_even n mask j h = go (members n mask) h
  where
    go : (ls : List ℕ) → suc j < length ls → get_or (listed ls) (2 * j + 2) False ≡ Or
    go [] h = absurd (omega arith)
    go (l ∷ ls) h = rw add-two (ors_at ls j (omega arith)).1

pub spelling_past : (n mask i : ℕ) → length (spelling n mask) ≤ i → get_or (spelling n mask) i False ≡ False
spelling_past n mask i h = get_or_past (spelling n mask) i False h

past_none : (ls : List ℕ) (j : ℕ) → slice_get ls j ≡ None → length ls ≤ j
past_none ls j h = grind (arith, slice_get_cases ls j)

at_some : (ls : List ℕ) (j l : ℕ) → slice_get ls j ≡ Some l → (j < length ls) × (get_or ls j 0 ≡ l)
at_some ls j l h = (slice_get_within ls j l h, get_or_from_slice_get ls j l 0 h)

module _ (n mask i : ℕ) where
  pub token_none : slice_get (members n mask) (i / 2 + i % 2) ≡ None → get_or (spelling n mask) i False ≡ False
  token_none h = spelling_past n mask i (omega (arith, length_spelling n mask, past_none (members n mask) (i / 2 + i % 2) h))

  pub token_first : (l : ℕ) → slice_get (members n mask) (i / 2 + i % 2) ≡ Some l → i ≡ 0 → get_or (spelling n mask) i False ≡ Location l
  token_first l h first =
      let at : i / 2 + i % 2 ≡ 0 = omega arith in
      let some = at_some (members n mask) 0 l (rw at at h) in
      ap (λ k. get_or (spelling n mask) k False) first ∙ spelling_first n mask some.0 ∙ ap Location some.1

  pub token_odd : (l : ℕ) → slice_get (members n mask) (i / 2 + i % 2) ≡ Some l → i % 2 ≡ 1 → get_or (spelling n mask) i False ≡ Location l
  token_odd l h odd =
      let at : i / 2 + i % 2 ≡ suc (i / 2) = omega arith in
      let is : i ≡ 2 * (i / 2) + 1 = omega arith in
      let some = at_some (members n mask) (suc (i / 2)) l (rw at at h) in
      ap (λ k. get_or (spelling n mask) k False) is ∙ spelling_odd n mask (i / 2) some.0 ∙ ap Location some.1

  pub token_even : (l : ℕ) → slice_get (members n mask) (i / 2 + i % 2) ≡ Some l → 0 < i → i % 2 ≡ 0 → get_or (spelling n mask) i False ≡ Or
  token_even l h later even =
      let some = at_some (members n mask) (i / 2 + i % 2) l h in
      let is : i ≡ 2 * (i / 2 - 1) + 2 = omega arith in
      ap (λ k. get_or (spelling n mask) k False) is ∙ spelling_even n mask (i / 2 - 1) (omega arith)
