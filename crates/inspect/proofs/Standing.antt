-- What the checks of entries and tokens say: the entries can be read, are proper, rise, and have few tokens. Assumes nothing.
use Rattle.std.proofs.Common.{◌≡◌, ℕ, suc, ◌+◌, ◌<◌, ◌≤◌, true, List, [], ◌∷◌, ◌++◌, map, length, inl, inr, ⊎_elim, arith}
use lib.ListN.{length-map}
use Rattle.std.specs.List.{AllByRecursion}
use Rattle.std.proofs.lemmas.Bool.{false≢true, ltb-true, lt-ltb, leb-true, le-leb, and_parts, and_from, cases_order}
use Rattle.formula.specs.Shape.{shaped}
use Rattle.formula.proofs.Spelling.{spells_shaped, shaped_spells}
use Rattle.inspect.specs.declared.head.Head.{Head}
use Rattle.inspect.specs.Entries.{Placed}
use Rattle.inspect.specs.Checks.{key, in_place, entry_checks, formula_checks, token_checks}
use Rattle.inspect.specs.Denotes.{Before, Rising, Proper, tokens_in, InRange}
use Rattle.inspect.specs.Contents.{read, entry_of}
use Rattle.inspect.proofs.FirstOf.{Pass, pass_parts, pass_append}
use Rattle.inspect.proofs.Readings.{pass_read, shaped_pass}
use Rattle.inspect.proofs.Lying.{Readable}

-- entries that rise by location and then by letter rise by key
key_before : (p q : Placed) → p.letter < 8 → q.letter < 8 → key p < key q → Before (entry_of p) (entry_of q)
key_before p q l m h =
    ⊎_elim (λ same. inr (same, omega arith)) (⊎_elim inl (λ less. absurd (omega arith))) (cases_order p.location q.location)

before_key : (p q : Placed) → p.letter < 8 → Before (entry_of p) (entry_of q) → key p < key q
before_key p q l (inl less) = omega arith
before_key p q l (inr more) = omega (arith, more.0, more.1)

-- what check 5 asks of an entry
record InPlace (h : Head) (least : ℕ) (p : Placed) : Type 0 where
  fits : p.fits ≡ true
  location : p.location < h.locations
  letter : p.letter < h.letters
  some : 0 < length p.tokens
  above : least ≤ key p

-- what a formula is spelled by is not empty
some_tokens : (bs : List ℕ) → shaped 0 (map read bs) ≡ true → 0 < length bs
some_tokens [] s = absurd (false≢true s)
some_tokens (b ∷ bs) s = omega arith

-- the least key that may come next
abbrev Least : ℕ → List Placed → Type 0
Least least [] = Unit {0}
Least least (p ∷ ps) = least ≤ key p

-- what both kinds of checks say of all entries
pub record Stands (h : Head) (ps : List Placed) : Type 0 where
  pub readable : AllByRecursion Readable ps
  pub proper : AllByRecursion (Proper h) (map entry_of ps)
  pub rising : Rising (map entry_of ps)
  pub few : tokens_in (map entry_of ps) ≤ 4096

module _ (h : Head) (range : InRange h) where
  in_place_says : (least : ℕ) (p : Placed) → in_place h least p ≡ true → InPlace h least p
  in_place_says least p e =
      let a = and_parts _ _ e in
      let b = and_parts _ _ a.1 in
      let c = and_parts _ _ b.1 in
      let d = and_parts _ _ c.1 in
      record {
        fits = a.0;
        location = ltb-true _ _ b.0;
        letter = ltb-true _ _ c.0;
        some = ltb-true _ _ d.0;
        above = leb-true _ _ d.1;
      }

  says_in_place : (least : ℕ) (p : Placed) → InPlace h least p → in_place h least p ≡ true
  says_in_place least p i =
      and_from _ _ i.fits (and_from _ _ (lt-ltb _ _ i.location) (and_from _ _ (lt-ltb _ _ i.letter) (and_from _ _ (lt-ltb _ _ i.some) (le-leb _ _ i.above))))

  rising_after : (p : Placed) (ps : List Placed) (total : ℕ) → p.letter < 8 → Pass (entry_checks h (suc (key p)) total ps) → Rising (map entry_of (p ∷ ps))
  rising_after p [] total l c = tt
  rising_after p (q ∷ ps) total l c =
      let i = in_place_says (suc (key p)) q c.0 in
      let m : q.letter < 8 = omega (arith, i.letter, range.letters) in
      (key_before p q l m i.above, rising_after q ps (total + length q.tokens) m c.1.1)

  pass_rising : (ps : List Placed) → Pass (entry_checks h 0 0 ps) → Rising (map entry_of ps)
  pass_rising [] c = tt
  pass_rising (p ∷ ps) c =
      let i = in_place_says 0 p c.0 in rising_after p ps (0 + length p.tokens) (omega (arith, i.letter, range.letters)) c.1.1

  pass_few : (least total : ℕ) (ps : List Placed) → total ≤ 4096 → Pass (entry_checks h least total ps) → total + tokens_in (map entry_of ps) ≤ 4096
  pass_few least total [] le c = omega arith
  pass_few least total (p ∷ ps) le c =
      let n = total + length p.tokens in
      omega (arith, pass_few (suc (key p)) n ps (leb-true n 4096 c.1.0) c.1.1, length-map p.tokens read)

  pass_proper : (least total : ℕ) (ps : List Placed) → Pass (entry_checks h least total ps) → Pass (token_checks h ps) → AllByRecursion Readable ps × AllByRecursion (Proper h) (map entry_of ps)
  pass_proper least total [] c t = (tt, tt)
  pass_proper least total (p ∷ ps) c t =
      let i = in_place_says least p c.0 in
      let parts = pass_parts (formula_checks h p.block p.byte (p.byte + 3) 0 p.tokens) (token_checks h ps) t in
      let r = pass_read h p.block p.byte (p.byte + 3) 0 p.tokens parts.0 in
      let rest = pass_proper (suc (key p)) (total + length p.tokens) ps c.1.1 parts.1 in
      let spelled = shaped_spells (map read p.tokens) r.shaped in
      ((record { fits = i.fits; coded = r.coded }, rest.0), (record { location = i.location; letter = i.letter; formula = spelled; allowed = r.allowed }, rest.1))

  tokens_pass : (ps : List Placed) → AllByRecursion Readable ps → AllByRecursion (Proper h) (map entry_of ps) → Pass (token_checks h ps)
  tokens_pass [] all each = tt
  tokens_pass (p ∷ ps) all each =
      let ts = map read p.tokens in
      let s = spells_shaped each.0.formula.0 ts each.0.formula.1 in
      let here = shaped_pass h range.locations p.block p.byte (p.byte + 3) 0 ts each.0.allowed s in
      pass_append _ _ (rw all.0.coded at here) (tokens_pass ps all.1 each.1)

  next_rises : (p : Placed) (ps : List Placed) → p.letter < 8 → Rising (map entry_of (p ∷ ps)) → Least (suc (key p)) ps × Rising (map entry_of ps)
  next_rises p [] l r = (tt, tt)
  next_rises p (q ∷ ps) l r = (before_key p q l r.0, r.1)

  entries_pass : (least total : ℕ) (ps : List Placed) → AllByRecursion Readable ps → AllByRecursion (Proper h) (map entry_of ps) → Least least ps → Rising (map entry_of ps) → total + tokens_in (map entry_of ps) ≤ 4096 → Pass (entry_checks h least total ps)
  entries_pass least total [] all each le r few = tt
  entries_pass least total (p ∷ ps) all each le r few =
      let ts = map read p.tokens in
      let s = spells_shaped each.0.formula.0 ts each.0.formula.1 in
      let i : InPlace h least p = record { fits = all.0.fits; location = each.0.location; letter = each.0.letter; some = some_tokens p.tokens s; above = le } in
      let n = total + length p.tokens in
      let size = length-map p.tokens read in
      let next = next_rises p ps (omega (arith, i.letter, range.letters)) r in
      (says_in_place least p i, (le-leb n 4096 (omega arith), entries_pass (suc (key p)) n ps all.1 each.1 next.0 next.1 (omega arith)))

  pub pass_stands : (ps : List Placed) → Pass (entry_checks h 0 0 ps ++ token_checks h ps) → Stands h ps
  pass_stands ps c =
      let parts = pass_parts (entry_checks h 0 0 ps) (token_checks h ps) c in
      let each = pass_proper 0 0 ps parts.0 parts.1 in
      let few = pass_few 0 0 ps (omega arith) parts.0 in
      record { readable = each.0; proper = each.1; rising = pass_rising ps parts.0; few = omega arith }

  pub stands_pass : (ps : List Placed) → Stands h ps → Pass (entry_checks h 0 0 ps ++ token_checks h ps)
  stands_pass ps s =
      let entries = entries_pass 0 0 ps s.readable s.proper (start ps) s.rising (omega (arith, s.few)) in
      pass_append (entry_checks h 0 0 ps) (token_checks h ps) entries (tokens_pass ps s.readable s.proper)
    where
      start : (ps : List Placed) → Least 0 ps
      start [] = tt
      start (p ∷ ps) = omega arith
