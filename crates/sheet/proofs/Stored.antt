-- Token strings kept as parts of one store: a blank table, a longer store, one cell changed.
use Rattle.std.proofs.Common.{◌≡◌, ℕ, zero, suc, ◌+◌, ◌<◌, ◌≤◌, Bool, true, List, [], ◌∷◌, ◌++◌, length, get_or, take, drop, set, replicate, sym, refl, ap, ◌∙◌, arith}
use Rattle.std.proofs.lemmas.List.{map-set, set_past, take_all, drop_at, length-append, take-append-le, drop-append-le, length-map, length-drop, get_or-map, get_or_past}
use Rattle.std.proofs.lemmas.Bool.{and_parts, and_from, le-leb, leb-true}
use Rattle.formula.specs.declared.token.Token.{Token}
use Rattle.layout.specs.Valid.{every}
use Rattle.sheet.specs.declared.span.Span.{Span}
use Rattle.sheet.specs.Spans.{within, part, parts}

module _ {X : Type 0} (test : X → Bool) where
  pub every_set : (xs : List X) (i : ℕ) (x : X) → test x ≡ true → every test xs ≡ true → every test (set xs i x) ≡ true
  every_set [] i x h all = refl
  every_set (y ∷ xs) zero x h all = and_from _ _ h (and_parts _ _ all).1
  every_set (y ∷ xs) (suc i) x h all = and_from _ _ (and_parts _ _ all).0 (every_set xs i x h (and_parts _ _ all).1)

  pub every_at : (xs : List X) (i : ℕ) (d : X) → i < length xs → every test xs ≡ true → test (get_or xs i d) ≡ true
  every_at [] i d inside all = absurd (omega arith)
  every_at (y ∷ xs) zero d inside all = (and_parts _ _ all).0
  every_at (y ∷ xs) (suc i) d inside all = every_at xs i d (omega arith) (and_parts _ _ all).1

  pub every_replicate : (n : ℕ) (x : X) → test x ≡ true → every test (replicate n x) ≡ true
  every_replicate zero x h = refl
  every_replicate (suc n) x h = and_from _ _ h (every_replicate n x h)

pub within_more : (n m : ℕ) → n ≤ m → (ss : List Span) → every (within n) ss ≡ true → every (within m) ss ≡ true
within_more n m more [] all = refl
within_more n m more (s ∷ ss) all =
    let here = leb-true (s.start + s.length) n (and_parts _ _ all).0 in
    and_from _ _ (le-leb (s.start + s.length) m (omega arith)) (within_more n m more ss (and_parts _ _ all).1)

abbrev pub nowhere : Span
nowhere = record { start = 0; length = 0 }

pub parts_blank : (n : ℕ) (ts : List Token) → parts (replicate n nowhere) ts ≡ replicate n []
parts_blank zero ts = refl
parts_blank (suc n) ts = ap (λ l. [] ∷ l) (parts_blank n ts)

-- more tokens behind change nothing
part_grow : (ts more : List Token) (s : Span) → s.start + s.length ≤ length ts → part (ts ++ more) s ≡ part ts s
part_grow ts more s inside =
    ap (take s.length) (drop-append-le s.start ts more (omega arith))
    ∙ take-append-le s.length (drop s.start ts) more (omega (arith, length-drop s.start ts))

pub parts_grow : (ts more : List Token) (ss : List Span) → every (within (length ts)) ss ≡ true → parts ss (ts ++ more) ≡ parts ss ts
parts_grow ts more [] all = refl
parts_grow ts more (s ∷ ss) all =
    let here = part_grow ts more s (leb-true _ _ (and_parts _ _ all).0) in
    ap (λ p. p ∷ parts ss (ts ++ more)) here ∙ ap (λ ps. part ts s ∷ ps) (parts_grow ts more ss (and_parts _ _ all).1)

-- what was put behind the others, as a cell
pub parts_put : (ts more : List Token) (ss : List Span) (cell start size : ℕ) → start ≡ length ts → size ≡ length more → every (within (length ts)) ss ≡ true → parts (set ss cell (record { start = start; length = size })) (ts ++ more) ≡ set (parts ss ts) cell more
parts_put ts more ss cell start size from long all =
    let new : Span = record { start = start; length = size } in
    map-set (part (ts ++ more)) ss cell new
    ∙ ap (λ l. set l cell (part (ts ++ more) new)) (parts_grow ts more ss all)
    ∙ ap (set (parts ss ts) cell) (ap (take size) (drop_at ts more start (sym from)) ∙ take_all size more (omega arith))

pub within_put : (ts more : List Token) (ss : List Span) (cell start size n : ℕ) → start ≡ length ts → size ≡ length more → n ≡ length (ts ++ more) → every (within (length ts)) ss ≡ true → every (within n) (set ss cell (record { start = start; length = size })) ≡ true
within_put ts more ss cell start size n from long all_of all =
    let new : Span = record { start = start; length = size } in
    every_set (within n) ss cell new (le-leb (start + size) n (omega (arith, length-append ts more))) (within_more (length ts) n (omega (arith, length-append ts more)) ss all)

pub parts_past : (ts more : List Token) (ss : List Span) (cell : ℕ) → length ss ≤ cell → every (within (length ts)) ss ≡ true → parts ss (ts ++ more) ≡ set (parts ss ts) cell more
parts_past ts more ss cell past all =
    parts_grow ts more ss all ∙ sym (set_past (parts ss ts) cell more (omega (arith, length-map ss (part ts))))

pub parts_at : (ts : List Token) (ss : List Span) (cell : ℕ) (s : Span) → cell < length ss → get_or (parts ss ts) cell [] ≡ part ts (get_or ss cell s)
parts_at ts ss cell s inside = get_or-map (part ts) ss cell s [] inside

pub parts_none : (ts : List Token) (ss : List Span) (cell : ℕ) → length ss ≤ cell → get_or (parts ss ts) cell [] ≡ []
parts_none ts ss cell past = get_or_past (parts ss ts) cell [] (omega (arith, length-map ss (part ts)))
