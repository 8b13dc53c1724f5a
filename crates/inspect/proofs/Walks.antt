-- Where entries lie: one step of the walk over a block, and what begins at a byte. Assumes nothing.
use Rattle.std.proofs.Common.{◌≡◌, ℕ, zero, suc, ◌+◌, ◌<◌, ◌≤◌, true, eqb, leb, ◌⊎◌, List, [], ◌∷◌, ◌++◌, length, take, drop, sym, refl, ap, ◌∙◌, subst, inl, inr, ⊎_elim, arith}
use Rattle.std.proofs.lemmas.List.{length-drop, length-take-le, length-append, take-append-drop, take_at, drop_at, drop-drop}
use Rattle.std.proofs.lemmas.Bool.{eqb-true, eqb-false, leb-true, ne_eqb, le-leb, cond_both}
use Rattle.inspect.specs.Entries.{Begins, nothing, past, an_entry, opened, begins, Placed, placed, onward, walk, entries}

-- an entry that begins here
pub record Opens (rest : List ℕ) (l a : ℕ) (ts : List ℕ) : Type 0 where
  pub room : 3 + length ts ≤ length rest
  pub lies : rest ≡ l ∷ a ∷ length ts ∷ (ts ++ drop (3 + length ts) rest)
  pub location : l ≡ 0xff → ⊥

-- what there is where something begins
abbrev pub Begun : List ℕ → Begins → Type 0
Begun rest nothing = (rest ≡ []) ⊎ ((more : List ℕ) × (rest ≡ 0xff ∷ more))
Begun rest (past l) = Unit {0}
Begun rest (an_entry l a ts) = Opens rest l a ts

opens : (l a n : ℕ) (rest : List ℕ) → n ≤ length rest → (l ≡ 0xff → ⊥) → Opens (l ∷ a ∷ n ∷ rest) l a (take n rest)
opens l a n rest h other =
    let is : length (take n rest) ≡ n = length-take-le n rest h in
    record {
      room = omega arith;
      lies = rw (is, ← drop-drop n 3) (ap (λ t. l ∷ a ∷ n ∷ t) (sym (take-append-drop n rest)));
      location = other;
    }

opened_begun : (l : ℕ) (rest : List ℕ) → (l ≡ 0xff → ⊥) → Begun (l ∷ rest) (opened l rest)
opened_begun l [] other = tt
opened_begun l (a ∷ []) other = tt
opened_begun l (a ∷ n ∷ rest) other =
    cond_both (leb n (length rest)) (an_entry l a (take n rest)) (past l) (Begun (l ∷ a ∷ n ∷ rest)) (λ e. opens l a n rest (leb-true n (length rest) e) other) (λ e. tt)

pub begun : (rest : List ℕ) → Begun rest (begins rest)
begun [] = inl refl
begun (l ∷ rest) =
    cond_both (eqb l 0xff) nothing (opened l rest) (Begun (l ∷ rest)) (λ e. inr (rest, ap (λ x. x ∷ rest) (eqb-true l 0xff e))) (λ e. opened_begun l rest (eqb-false l 0xff e))

pub entry_opens : (rest : List ℕ) (l a : ℕ) (ts : List ℕ) → begins rest ≡ an_entry l a ts → Opens rest l a ts
entry_opens rest l a ts h = subst (Begun rest) h (begun rest)

-- what is left after an entry is shorter
pub opens_shorter : {rest : List ℕ} {l a : ℕ} {ts : List ℕ} → Opens rest l a ts → length (drop (3 + length ts) rest) < length rest
opens_shorter {rest} {ts} o = omega (arith, length-drop (3 + length ts) rest, o.room)

-- what follows an entry is all that the rest of the walk needs to agree on
onward_same : (f g : ℕ → List ℕ → List Placed) (k at : ℕ) (rest : List ℕ) → ((at' : ℕ) (rest' : List ℕ) → length rest' < length rest → f at' rest' ≡ g at' rest') → onward f k at rest (begins rest) ≡ onward g k at rest (begins rest)
onward_same f g k at rest same = go (begins rest) refl
  where
    go : (b : Begins) → begins rest ≡ b → onward f k at rest b ≡ onward g k at rest b
    go nothing e = refl
    go (past l) e = refl
    go (an_entry l a ts) e =
        let size = 3 + length ts in
        ap (λ ps. placed k at l a ts true ∷ ps) (same (at + size) (drop size rest) (opens_shorter (entry_opens rest l a ts e)))

walk_enough : (n m k at : ℕ) (rest : List ℕ) → length rest < n → length rest < m → walk n k at rest ≡ walk m k at rest
walk_enough zero m k at rest h i = absurd (omega arith)
walk_enough (suc n) zero k at rest h i = absurd (omega arith)
walk_enough (suc n) (suc m) k at rest h i =
    onward_same (walk n k) (walk m k) k at rest (λ at' rest' l. walk_enough n m k at' rest' (omega arith) (omega arith))

pub entries_step : (k at : ℕ) (rest : List ℕ) → entries k at rest ≡ onward (entries k) k at rest (begins rest)
unfolding entries
entries_step k at rest =
    onward_same (walk (length rest) k) (entries k) k at rest (λ at' rest' l. walk_enough (length rest) (suc (length rest')) k at' rest' l (omega arith))

-- the walk over bytes that are known
pub entries_none : (k at : ℕ) (rest : List ℕ) → Begun rest nothing → entries k at rest ≡ []
entries_none k at rest none =
    entries_step k at rest ∙ ap (onward (entries k) k at rest) (⊎_elim (λ e. ap begins e) (λ m. ap begins m.1) none)

pub entries_entry : (k at l a : ℕ) (ts rest : List ℕ) → (l ≡ 0xff → ⊥) → entries k at (l ∷ a ∷ length ts ∷ (ts ++ rest)) ≡ placed k at l a ts true ∷ entries k (at + (3 + length ts)) rest
entries_entry k at l a ts rest other =
    let n = length ts in
    let bytes = l ∷ a ∷ n ∷ (ts ++ rest) in
    let fits : leb n (length (ts ++ rest)) ≡ true = le-leb n (length (ts ++ rest)) (omega (arith, length-append ts rest)) in
    let is : begins bytes ≡ an_entry l a ts = rw (ne_eqb l 0xff other, fits, take_at ts rest n refl) in
    let left : drop (3 + n) bytes ≡ rest = sym (drop-drop n 3 bytes) ∙ drop_at ts rest n refl in
    entries_step k at bytes ∙ ap (onward (entries k) k at bytes) is ∙ ap (λ r. placed k at l a ts true ∷ entries k (at + (3 + n)) r) left
