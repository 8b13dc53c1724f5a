-- Bytes and the entries that lie in them: what the walk finds, read, is what lies there. Assumes nothing.
use Rattle.std.proofs.Common.{◌≡◌, ℕ, zero, suc, ◌+◌, ◌<◌, true, List, [], ◌∷◌, ◌++◌, map, length, drop, sym, refl, ap, ◌∙◌, subst, ap₂, arith}
use mathlib.Core.Path.{subst⁻¹}
use lib.ListN.{length-map}
use Rattle.std.specs.List.{AllByRecursion}
use Rattle.std.proofs.ByRecursion.{All-append}
use Rattle.std.proofs.lemmas.List.{map-append}
use Rattle.std.proofs.lemmas.Bool.{false≢true}
use Rattle.formula.specs.Tokens.{code}
use Rattle.inspect.specs.Format.{block, body}
use Rattle.inspect.specs.Entries.{Begins, nothing, past, an_entry, begins, Placed, placed, onward, entries, all_entries}
use Rattle.inspect.specs.Denotes.{Entry, Lies, Fills}
use Rattle.inspect.specs.Contents.{read, entry_of}
use Rattle.inspect.proofs.FirstOf.{all_parts}
use Rattle.inspect.proofs.Walks.{Begun, begun, opens_shorter, entries_step, entries_none, entries_entry}

-- what the walk finds is an entry, and its bytes stand for tokens
pub record Readable (p : Placed) : Type 0 where
  pub fits : p.fits ≡ true
  pub coded : map code (map read p.tokens) ≡ p.tokens

abbrev Back : List ℕ → List Placed → Type 0
Back rest ps = AllByRecursion Readable ps → Lies rest (map entry_of ps)

onward_lies : (k at : ℕ) (rest : List ℕ) → ((at' : ℕ) (rest' : List ℕ) → length rest' < length rest → Back rest' (entries k at' rest')) → (b : Begins) → Begun rest b → Back rest (onward (entries k) k at rest b)
onward_lies k at rest more nothing none all = none
onward_lies k at rest more (past l) o all = absurd (false≢true all.0.fits)
onward_lies k at rest more (an_entry l a ts) o all =
    let size = 3 + length ts in
    let left = drop size rest in
    let is : rest ≡ l ∷ a ∷ length (map read ts) ∷ (map code (map read ts) ++ left) = rw (all.0.coded, length-map ts read) o.lies in
    (left, is, more (at + size) left (opens_shorter o) all.1)

walk_lies : (n k at : ℕ) (rest : List ℕ) → length rest < n → Back rest (entries k at rest)
walk_lies zero k at rest h = absurd (omega arith)
walk_lies (suc n) k at rest h =
    subst⁻¹ (Back rest) (entries_step k at rest) (onward_lies k at rest (λ at' rest' l. walk_lies n k at' rest' (omega arith)) (begins rest) (begun rest))

pub entries_lie : (k at : ℕ) (rest : List ℕ) → AllByRecursion Readable (entries k at rest) → Lies rest (map entry_of (entries k at rest))
entries_lie k at rest all = walk_lies (suc (length rest)) k at rest (omega arith) all

-- an entry does not begin with FF, and its tokens can be read back
pub record Plain (e : Entry) : Type 0 where
  pub location : e.location < 0xff
  pub tokens : map read (map code e.tokens) ≡ e.tokens

-- ps, read, are the entries es
abbrev Found : List Entry → List Placed → Type 0
Found es ps = AllByRecursion Readable ps × (es ≡ map entry_of ps)

pub lies_found : (es : List Entry) (k at : ℕ) (rest : List ℕ) → AllByRecursion Plain es → Lies rest es → Found es (entries k at rest)
lies_found [] k at rest all none = subst⁻¹ (Found []) (entries_none k at rest none) (tt, refl)
lies_found (e ∷ es) k at rest all lies =
    let bytes = map code e.tokens in
    let more = lies_found es k (at + (3 + length bytes)) lies.0 all.1 lies.2 in
    let is : rest ≡ e.location ∷ e.letter ∷ length bytes ∷ (bytes ++ lies.0) = rw (length-map e.tokens code) lies.1 in
    let step = ap (entries k at) is ∙ entries_entry k at e.location e.letter bytes lies.0 (λ x. let l = all.0.location in omega arith) in
    let same : e ≡ entry_of (placed k at e.location e.letter bytes true) = ap (λ ts. record { location = e.location; letter = e.letter; tokens = ts }) (sym all.0.tokens) in
    subst⁻¹ (Found (e ∷ es)) step ((record { fits = refl; coded = ap (map code) all.0.tokens }, more.0), ap₂ (λ x xs. x ∷ xs) same more.1)

-- the same of all blocks
pub entries_fill : (xs : List ℕ) (k n : ℕ) → AllByRecursion Readable (all_entries xs k n) → Fills xs k n (map entry_of (all_entries xs k n))
entries_fill xs k zero all = refl
entries_fill xs k (suc n) all =
    let here = entries k 2 (body (block xs k)) in
    let rest = all_entries xs (suc k) n in
    let parts = all_parts Readable here rest all in
    (map entry_of here, map entry_of rest, map-append entry_of here rest, entries_lie k 2 (body (block xs k)) parts.0, entries_fill xs (suc k) n parts.1)

pub fills_found : (xs : List ℕ) (k n : ℕ) (es : List Entry) → AllByRecursion Plain es → Fills xs k n es → Found es (all_entries xs k n)
fills_found xs k zero es all e = (tt, e)
fills_found xs k (suc n) es all f =
    let ps = entries k 2 (body (block xs k)) in
    let qs = all_entries xs (suc k) n in
    let parts = all_parts Plain f.0 f.1 (subst (AllByRecursion Plain) f.2 all) in
    let here = lies_found f.0 k 2 (body (block xs k)) parts.0 f.3 in
    let rest = fills_found xs (suc k) n f.1 parts.1 f.4 in
    (All-append Readable ps qs here.0 rest.0, f.2 ∙ ap₂ (λ x y. x ++ y) here.1 rest.1 ∙ sym (map-append entry_of ps qs))
