-- How entries are packed: the bodies of blocks hold them in order, each within 508 bytes, and are few.
use Rattle.std.proofs.Common.{◌≡◌, ℕ, suc, ◌+◌, ◌*◌, ◌<◌, ◌≤◌, ltb, List, [], ◌∷◌, ◌++◌, length, get_or, sym, refl, ap, ◌∙◌, subst, inl, inr, append_assoc, append-nil, add-zero, arith, length-append}
use lib.ListN.{length-map}
use Rattle.std.specs.List.{flat_map, AllByRecursion}
use Rattle.std.proofs.lemmas.List.{flat_map_more}
use Rattle.std.proofs.lemmas.Bool.{cond_both, ltb-true, ltb-false, leb-true, leb-false}
use Rattle.formula.specs.Tokens.{code}
use Rattle.inspect.specs.Format.{block, body}
use Rattle.inspect.specs.Denotes.{Entry, entry_bytes, Lies, Fills, tokens_in}
use Rattle.layout.specs.Written.{closed, fits, packed, bodies}
use Rattle.layout.proofs.Heads.{length_zeros}

abbrev pub Small : Entry → Type 0
Small e = length e.tokens ≤ 255

abbrev pub bytes_of : List Entry → List ℕ
bytes_of es = flat_map entry_bytes es

pub length_entry : (e : Entry) → length (entry_bytes e) ≡ 3 + length e.tokens
length_entry e = omega (arith, length-map e.tokens code)

pub length_bytes : (es : List Entry) → length (bytes_of es) ≡ 3 * length es + tokens_in es
length_bytes [] = refl
length_bytes (e ∷ es) = length-append (entry_bytes e) (bytes_of es) ∙ omega (arith, length_entry e, length_bytes es)

-- a closed body has 508 bytes and holds its entries
pub length_closed : (b : List ℕ) → length b ≤ 508 → length (closed b) ≡ 508
length_closed b h =
    cond_both (ltb (length b) 508) _ _ (λ bytes. length bytes ≡ 508)
    (λ t. let less = ltb-true (length b) 508 t in simp (length-append, length_zeros) (omega arith))
    (λ t. omega (arith, ltb-false (length b) 508 t))

lies_append : (es : List Entry) (rest : List ℕ) → Lies rest [] → Lies (bytes_of es ++ rest) es
lies_append [] rest end = end
lies_append (e ∷ es) rest end = (bytes_of es ++ rest, append_assoc (entry_bytes e) (bytes_of es) rest, lies_append es rest end)

lies_closed : (es : List Entry) → Lies (closed (bytes_of es)) es
lies_closed es =
    cond_both (ltb (length (bytes_of es)) 508) _ _ (λ bytes. Lies bytes es)
    (λ _. lies_append es _ (inr (_, refl)))
    (λ _. subst (λ bytes. Lies bytes es) (append-nil (bytes_of es)) (lies_append es [] (inl refl)))

-- these bodies hold the entries es in order, each within 508 bytes
abbrev pub Packs : List (List ℕ) → List Entry → Type 0
Packs [] es = es ≡ []
Packs (b ∷ bs) es = (front back : List Entry) × (es ≡ front ++ back) × (b ≡ bytes_of front) × (length b ≤ 508) × Packs bs back

packed_packs : (b : List ℕ) (front es : List Entry) → b ≡ bytes_of front → length b ≤ 508 → AllByRecursion Small es → Packs (packed b es) (front ++ es)
packed_packs b front [] e h small = (front, [], refl, e, h, refl)
packed_packs b front (f ∷ es) e h (small, smalls) =
    cond_both (fits b f) _ _ (λ bs. Packs bs (front ++ f ∷ es))
    (λ t.
    subst (Packs (packed (b ++ entry_bytes f) es)) (append_assoc front (f ∷ []) es)
    (packed_packs (b ++ entry_bytes f) (front ++ f ∷ []) es (ap (λ x. x ++ entry_bytes f) e ∙ flat_map_more entry_bytes [] front f)
    (simp length-append (leb-true _ 508 t)) smalls))
    (λ _. (front, f ∷ es, refl, e, h, packed_packs (entry_bytes f) (f ∷ []) es (sym (append-nil (entry_bytes f))) (omega (arith, length_entry f)) smalls))

pub bodies_pack : (es : List Entry) → AllByRecursion Small es → Packs (bodies es) es
bodies_pack [] small = refl
bodies_pack (e ∷ es) (small, smalls) =
    packed_packs (entry_bytes e) (e ∷ []) es (sym (append-nil (entry_bytes e))) (omega (arith, length_entry e)) smalls

pub packs_within : (bs : List (List ℕ)) (es : List Entry) → Packs bs es → AllByRecursion (λ b. length b ≤ 508) bs
packs_within [] es p = tt
packs_within (b ∷ bs) es p = (p.4, packs_within bs p.1 p.5)

-- blocks with these bodies hold the entries
pub packs_fill : (xs : List ℕ) (k : ℕ) (bs : List (List ℕ)) (es : List Entry) → Packs bs es → ((i : ℕ) → i < length bs → body (block xs (k + i)) ≡ closed (get_or bs i [])) → Fills xs k (length bs) es
packs_fill xs k [] es p at = p
packs_fill xs k (b ∷ bs) es p at =
    let here : body (block xs k) ≡ closed (bytes_of p.0) = ap (λ n. body (block xs n)) (sym (add-zero k)) ∙ at 0 (omega arith) ∙ ap closed p.3 in
    let next = λ (i : ℕ) (h : i < length bs). ap (λ n. body (block xs n)) (omega arith) ∙ at (suc i) (omega arith) in
    (p.0, p.1, p.2, subst (λ bytes. Lies bytes p.0) (sym here) (lies_closed p.0), packs_fill xs (suc k) bs p.1 p.5 next)

-- a body that is closed for want of room has 251 bytes or more
packed_few : (b : List ℕ) (es : List Entry) → AllByRecursion Small es → 251 * length (packed b es) ≤ 251 + (length b + length (bytes_of es))
packed_few b [] small = omega arith
packed_few b (f ∷ es) (small, smalls) =
    cond_both (fits b f) _ _ (λ bs. 251 * length bs ≤ 251 + (length b + length (bytes_of (f ∷ es))))
    (λ t. let more = packed_few (b ++ entry_bytes f) es smalls in simp length-append (omega (arith, simp length-append at more)))
    (λ t. let full = leb-false _ 508 t in simp length-append (omega (arith, length_entry f, packed_few (entry_bytes f) es smalls)))

pub bodies_few : (es : List Entry) → AllByRecursion Small es → 251 * length (bodies es) ≤ 251 + (3 * length es + tokens_in es)
bodies_few [] small = omega arith
bodies_few (e ∷ es) (small, smalls) =
    omega (arith, packed_few (entry_bytes e) es smalls, length_bytes es, length_entry e)
