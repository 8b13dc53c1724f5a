-- The entries of a table, cell by cell, and how many blocks they take.
use Rattle.std.proofs.Common.{◌≡◌, ℕ, suc, ◌+◌, ◌/◌, ◌%◌, ◌<◌, ◌≤◌, Bool, true, false, cond, leb, List, [], ◌∷◌, ◌++◌, length, drop, sym, refl, ap, ◌∙◌, add-one, arith, length-append}
use Rattle.std.proofs.lemmas.List.{at_drop_more, at_drop_all}
use Rattle.std.proofs.lemmas.Bool.{cond_both, cond-false, lt-leb}
use Rattle.formula.specs.declared.token.Token.{Token}
use Rattle.inspect.specs.Denotes.{Entry, Content, entry_bytes}
use Rattle.layout.specs.Cursors.{Spot, advanced}
use Rattle.layout.specs.Standing.{tokens_at, entry_at, entries_at}
use Rattle.layout.specs.Written.{fits, packed, bodies, entries_from, entries_of, head_payload}
use Rattle.layout.proofs.Heads.{length_head_payload}
use Rattle.layout.proofs.Packing.{length_entry}

module _ (c : Content) (q : ℕ) where
  skipped : (ts : List Token) (table : List (List Token)) → length ts ≡ 0 → entries_from c.head.letters q (ts ∷ table) ≡ entries_from c.head.letters (suc q) table
  skipped [] table e = refl
  skipped (t ∷ ts) table e = absurd (omega arith)

  made : (ts : List Token) (table : List (List Token)) → 0 < length ts → entries_from c.head.letters q (ts ∷ table) ≡ record { location = q / c.head.letters; letter = q % c.head.letters; tokens = ts } ∷ entries_from c.head.letters (suc q) table
  made [] table h = absurd (omega arith)
  made (t ∷ ts) table h = refl

  next : entries_from c.head.letters (suc q) (drop (q + 1) c.formulas) ≡ entries_at c (q + 1)
  next = ap (λ n. entries_from c.head.letters n (drop (q + 1) c.formulas)) (sym (add-one q))

  pub entries_skip : q < length c.formulas → length (tokens_at c q) ≡ 0 → entries_at c q ≡ entries_at c (q + 1)
  entries_skip h e = at_drop_more (entries_from c.head.letters q) c.formulas q [] h ∙ skipped (tokens_at c q) _ e ∙ next

  pub entries_take : q < length c.formulas → 0 < length (tokens_at c q) → entries_at c q ≡ entry_at c q ∷ entries_at c (q + 1)
  entries_take h some =
      at_drop_more (entries_from c.head.letters q) c.formulas q [] h ∙ made (tokens_at c q) _ some ∙ ap (λ es. entry_at c q ∷ es) next

  pub entries_end : length c.formulas ≤ q → entries_at c q ≡ []
  entries_end h = at_drop_all (entries_from c.head.letters q) c.formulas q h

-- how many blocks the entries take behind a body of this many bytes, with its own
abbrev pub tally : ℕ → List Entry → ℕ
tally used [] = 1
tally used (e ∷ es) = cond (leb (used + length (entry_bytes e)) 508) (tally (used + length (entry_bytes e)) es) (suc (tally (length (entry_bytes e)) es))

pub tally_some : (used : ℕ) (es : List Entry) → 0 < tally used es
tally_some used [] = omega arith
tally_some used (e ∷ es) =
    cond_both (leb (used + length (entry_bytes e)) 508) _ _ (λ n. 0 < n) (λ _. tally_some (used + length (entry_bytes e)) es) (λ _. omega arith)

tally_cursor : (b : Bool) (k m n : ℕ) (es : List Entry) → let d : Spot = cond b (record { block = k; used = m }) (record { block = k + 1; used = n }) in k + cond b (tally m es) (suc (tally n es)) ≡ d.block + tally d.used es
tally_cursor true k m n es = refl
tally_cursor false k m n es = omega arith

pub tally_step : (d : Spot) (n : ℕ) (e : Entry) (es : List Entry) → n ≡ 3 + length e.tokens → d.block + tally d.used (e ∷ es) ≡ (advanced d n).block + tally (advanced d n).used es
tally_step d n e es h =
    tally_cursor (leb (d.used + length (entry_bytes e)) 508) d.block _ _ es
    ∙ ap (λ m. (advanced d m).block + tally (advanced d m).used es) (length_entry e ∙ sym h)

tally_packed : (body : List ℕ) (es : List Entry) → length (packed body es) ≡ tally (length body) es
tally_packed body [] = refl
tally_packed body (e ∷ es) =
    both (fits body e) _ _ (tally_packed (body ++ entry_bytes e) es ∙ ap (λ n. tally n es) (length-append body (entry_bytes e))) (ap suc (tally_packed (entry_bytes e) es))
  where
    both : (b : Bool) (x y : List (List ℕ)) {m n : ℕ} → length x ≡ m → length y ≡ n → length (cond b x y) ≡ cond b m n
    both true x y p q = p
    both false x y p q = q

-- the head's block is full, so that the first entry opens the next
pub packed_full : (body : List ℕ) (es : List Entry) → length body ≡ 508 → packed body es ≡ body ∷ bodies es
packed_full body [] full = refl
packed_full body (e ∷ es) full = cond-false (fits body e) _ _ (lt-leb _ 508 (omega (arith, length_entry e)))

pub tally_all : (c : Content) → tally 508 (entries_of c) ≡ suc (length (bodies (entries_of c)))
tally_all c =
    let long = length_head_payload c.head in
    ap (λ n. tally n (entries_of c)) (sym long) ∙ sym (tally_packed (head_payload c.head) (entries_of c)) ∙ ap length (packed_full (head_payload c.head) (entries_of c) long)
