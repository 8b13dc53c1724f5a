-- What stands in a sheet goes on standing as blocks are ended and entries are laid, until the sheet is written.
use Rattle.std.proofs.Common.{◌≡◌, ℕ, suc, ◌+◌, ◌-◌, ◌*◌, ◌%◌, ◌<◌, ◌≤◌, Bool, true, false, cond, ltb, leb, List, [], ◌∷◌, ◌++◌, length, take, drop, sym, refl, ap, ◌∙◌, subst, ap₂, append_assoc, append-nil, add-one, arith, length-append, take_at, drop_at}
use Rattle.std.specs.List.{AllByRecursion}
use Rattle.std.proofs.lemmas.List.{take-take, nil_from_length}
use Rattle.std.proofs.lemmas.Bool.{cond_both, cond-true, cond-false, ltb-true, ltb-false, leb-true, leb-false, le-leb, lt-leb, le-ltb}
use Rattle.inspect.specs.Format.{block, check_of, kind, weighted}
use Rattle.inspect.specs.Denotes.{Entry, Content, entry_bytes}
use Rattle.layout.specs.Cursors.{Spot, Reaches, position, advanced, closing, check_bytes, ended, next_block, next_opened, roomy, room_made}
use Rattle.layout.specs.Pasted.{pasted}
use Rattle.layout.specs.Standing.{tokens_at, entry_at, entries_at, Stands}
use Rattle.layout.specs.Valid.{Valid}
use Rattle.layout.specs.Written.{zeros, sealed, head_payload, closed, fits, packed, bodies, sealed_from, entries_of, written}
use Rattle.layout.proofs.Blocks.{length_sealed}
use Rattle.layout.proofs.Cells.{entries_take, packed_full}
use Rattle.layout.proofs.Heads.{length_zeros, length_head_payload}
use Rattle.layout.proofs.Packing.{Small, length_entry, length_closed}
use Rattle.layout.proofs.Pastes.{pasted_at, length_pasted}
use Rattle.layout.proofs.Sheets.{small, written_length, written_few}

length_closing : (used : ℕ) → used ≤ 508 → length (closing used) ≡ 508 - used
length_closing used h =
    cond_both (ltb used 508) _ _ (λ bs. length bs ≡ 508 - used)
    (λ t. omega (arith, ltb-true used 508 t, length_zeros (507 - used)))
    (λ t. omega (arith, ltb-false used 508 t))

closed_is : (body : List ℕ) → closed body ≡ body ++ closing (length body)
closed_is body = at (ltb (length body) 508)
  where
    at : (b : Bool) → cond b (body ++ 0xff ∷ zeros (507 - length body)) body ≡ body ++ cond b (0xff ∷ zeros (507 - length body)) []
    at true = refl
    at false = sym (append-nil body)

packed_within : (body : List ℕ) (es : List Entry) → length body ≤ 508 → AllByRecursion Small es → AllByRecursion (λ b. length b ≤ 508) (packed body es)
packed_within body [] h small = (h, tt)
packed_within body (e ∷ es) h (small, smalls) =
    cond_both (fits body e) _ _ (AllByRecursion (λ b. length b ≤ 508))
    (λ t. packed_within (body ++ entry_bytes e) es (simp length-append (leb-true _ 508 t)) smalls)
    (λ _. (h, packed_within (entry_bytes e) es (omega (arith, length_entry e)) smalls))

packed_some : (body : List ℕ) (es : List Entry) → 0 < length (packed body es)
packed_some body [] = omega arith
packed_some body (e ∷ es) =
    cond_both (fits body e) _ _ (λ bs. 0 < length bs) (λ _. packed_some (body ++ entry_bytes e) es) (λ _. omega arith)

length_sealed_from : (k : ℕ) (bs : List (List ℕ)) → AllByRecursion (λ b. length b ≤ 508) bs → length (sealed_from k bs) ≡ length bs * 512
length_sealed_from k [] h = refl
length_sealed_from k (b ∷ bs) (h, hs) =
    length-append (sealed k (closed b)) (sealed_from (suc k) bs)
    ∙ omega (arith, length_sealed k (closed b) (length_closed b h), length_sealed_from (suc k) bs hs)

module _ (c : Content) (xs : List ℕ) (d : Spot) (es : List Entry) (s : Stands c xs d es) where
  stands_length : length (written c) ≡ d.block * 512 + length (packed s.body es) * 512
  stands_length =
      let within : length s.body ≤ 508 = omega (arith, s.used, s.within) in
      ap length (sym s.rest) ∙ length-append s.past _
      ∙ ap₂ (λ m n. m + n) s.block (length_sealed_from d.block _ (packed_within s.body es within s.small))

  -- the block that is open lies within the sheet
  pub stands_fit : d.block * 512 + 512 ≤ length (written c)
  stands_fit = omega (arith, stands_length, packed_some s.body es)

  front_length : length (s.past ++ kind d.block ∷ d.block ∷ s.body) ≡ position d
  front_length = length-append s.past _ ∙ omega (arith, s.block, s.used)

  shut : List ℕ
  shut = s.body ++ closing d.used

  shut_is : shut ≡ closed s.body
  unfolding shut
  shut_is = ap (λ n. s.body ++ closing n) (sym s.used) ∙ sym (closed_is s.body)

  shut_length : length shut ≡ 508
  unfolding shut
  shut_length = length-append s.body _ ∙ omega (arith, s.used, s.within, length_closing d.used s.within)

  left : List ℕ
  left = drop (length (closing d.used)) s.after

  -- closed, and then with its check
  shut_in : pasted xs (position d) (closing d.used) ≡ (s.past ++ kind d.block ∷ d.block ∷ shut) ++ left
  unfolding shut left
  shut_in =
      ap (λ ys. pasted ys (position d) (closing d.used)) s.is ∙ pasted_at _ s.after (closing d.used) (position d) front_length
      ∙ simp append_assoc

  sum_is : check_of (block ((s.past ++ kind d.block ∷ d.block ∷ shut) ++ left) d.block) ≡ weighted 0 (kind d.block ∷ d.block ∷ shut) % 65521
  sum_is =
      let k = d.block in
      let front = kind k ∷ k ∷ shut in
      let start = ap (drop (k * 512)) (append_assoc s.past front left) ∙ drop_at s.past (front ++ left) (k * 512) s.block in
      let head = take-take 510 512 (front ++ left) (omega arith) ∙ take_at front left 510 (omega (arith, shut_length)) in
      ap (λ ys. weighted 0 ys % 65521) (ap (λ ys. take 510 (take 512 ys)) start ∙ head)

  ended_shut : ended xs d ≡ (s.past ++ sealed d.block shut) ++ drop 2 left
  unfolding ended
  ended_shut =
      let k = d.block in
      let front = kind k ∷ k ∷ shut in
      let long : length (s.past ++ front) ≡ k * 512 + 510 = length-append s.past front ∙ omega (arith, s.block, shut_length) in
      ap (λ ys. pasted ys (k * 512 + 510) (check_bytes (check_of (block ys k)))) shut_in
      ∙ ap (λ x. pasted ((s.past ++ front) ++ left) (k * 512 + 510) (check_bytes x)) sum_is
      ∙ pasted_at (s.past ++ front) left _ (k * 512 + 510) long
      ∙ simp append_assoc

  ended_is : ended xs d ≡ (s.past ++ sealed d.block (closed s.body)) ++ drop 2 left
  ended_is = ended_shut ∙ ap (λ p. (s.past ++ sealed d.block p) ++ drop 2 left) shut_is

  ended_length : length (s.past ++ sealed d.block (closed s.body)) ≡ (d.block + 1) * 512
  ended_length =
      let within : length s.body ≤ 508 = omega (arith, s.used, s.within) in
      length-append s.past _ ∙ omega (arith, s.block, length_sealed d.block (closed s.body) (length_closed s.body within))

  closing_room : position d + length (closing d.used) ≤ length xs
  closing_room = omega (arith, length_closing d.used s.within, stands_fit, s.room, s.within)

  ended_same : length (ended xs d) ≡ length xs
  unfolding ended
  ended_same =
      let ys = pasted xs (position d) (closing d.used) in
      let same : length ys ≡ length xs = length_pasted xs _ _ closing_room in
      length_pasted ys (check_bytes (check_of (block ys d.block))) _ (omega (arith, stands_fit, s.room, same)) ∙ same

-- the end of the last block ends the sheet
pub stands_end : (c : Content) (xs : List ℕ) (d : Spot) → length xs ≡ length (written c) → Stands c xs d [] → ended xs d ≡ written c
stands_end c xs d long s =
    let sheet : s.past ++ sealed d.block (closed s.body) ≡ written c = ap (λ ys. s.past ++ ys) (sym (append-nil _)) ∙ s.rest in
    let rest = drop 2 (left c xs d [] s) in
    let is : ended xs d ≡ written c ++ rest = ended_is c xs d [] s ∙ ap (λ ys. ys ++ rest) sheet in
    let none : length rest ≡ 0 = omega (arith, long, ended_same c xs d [] s, ap length is, length-append (written c) rest) in
    is ∙ ap (λ ys. written c ++ ys) (nil_from_length rest none) ∙ append-nil (written c)

module _ (c : Content) (xs : List ℕ) (d : Spot) (e : Entry) (es : List Entry) (s : Stands c xs d (e ∷ es)) where
  -- an entry that does not fit finds room in the next block
  module _ (full : fits s.body e ≡ false) where
    next_room : (d.block + 2) * 512 ≤ length (written c)
    next_room =
        let more = ap length (cond-false (fits s.body e) (packed (s.body ++ entry_bytes e) es) (s.body ∷ packed (entry_bytes e) es) full) in
        omega (arith, stands_length c xs d (e ∷ es) s, more, packed_some (entry_bytes e) es)

    start_room : (d.block + 1) * 512 + 2 ≤ length (ended xs d)
    start_room = omega (arith, next_room, s.room, ended_same c xs d (e ∷ es) s)

    next_rest : (s.past ++ sealed d.block (closed s.body)) ++ sealed_from (d.block + 1) (packed [] (e ∷ es)) ≡ written c
    next_rest =
        let k = d.block in
        let short : length e.tokens ≤ 255 = s.small.0 in
        let first : packed [] (e ∷ es) ≡ packed (entry_bytes e) es = cond-true (fits [] e) _ _ (le-leb _ 508 (omega (arith, length_entry e))) in
        let here = cond-false (fits s.body e) (packed (s.body ++ entry_bytes e) es) (s.body ∷ packed (entry_bytes e) es) full in
        append_assoc s.past _ _
        ∙ ap₂ (λ n bs. s.past ++ (sealed k (closed s.body) ++ sealed_from n bs)) (add-one k) first
        ∙ ap (λ bs. s.past ++ sealed_from k bs) (sym here) ∙ s.rest

    stands_next : Stands c (next_opened xs d) (next_block d) (e ∷ es)
    stands_next = record {
      past = s.past ++ sealed d.block (closed s.body);
      body = [];
      after = drop 2 (drop 2 (left c xs d (e ∷ es) s));
      is = ap (λ ys. pasted ys ((d.block + 1) * 512) (kind (d.block + 1) ∷ (d.block + 1) ∷ [])) (ended_is c xs d (e ∷ es) s)
          ∙ pasted_at (s.past ++ sealed d.block (closed s.body)) _ _ _ (ended_length c xs d (e ∷ es) s)
          ∙ sym (append_assoc (s.past ++ sealed d.block (closed s.body)) _ _);
      block = ended_length c xs d (e ∷ es) s;
      used = refl;
      within = omega arith;
      rest = next_rest;
      small = s.small;
      few = s.few;
      room = omega (arith, s.room, length_pasted (ended xs d) (kind (d.block + 1) ∷ (d.block + 1) ∷ []) ((d.block + 1) * 512) start_room, ended_same c xs d (e ∷ es) s);
    }

  -- an entry that fits is laid behind the others
  module _ (fit : d.used + length (entry_bytes e) ≤ 508) where
    entry_room : position d + length (entry_bytes e) ≤ length (written c)
    entry_room = omega (arith, stands_fit c xs d (e ∷ es) s)

    entry_room_here : position d + length (entry_bytes e) ≤ length xs
    entry_room_here = omega (arith, entry_room, s.room)

    stands_entry : Stands c (pasted xs (position d) (entry_bytes e)) (record { block = d.block; used = d.used + length (entry_bytes e) }) es
    stands_entry = record {
      past = s.past;
      body = s.body ++ entry_bytes e;
      after = drop (length (entry_bytes e)) s.after;
      is = ap (λ ys. pasted ys (position d) (entry_bytes e)) s.is ∙ pasted_at _ s.after (entry_bytes e) (position d) (front_length c xs d (e ∷ es) s)
          ∙ simp append_assoc;
      block = s.block;
      used = length-append s.body _ ∙ ap (λ n. n + length (entry_bytes e)) s.used;
      within = fit;
      rest = ap (λ bs. s.past ++ sealed_from d.block bs) (sym (cond-true (fits s.body e) _ _ (le-leb _ 508 (omega (arith, s.used))))) ∙ s.rest;
      small = s.small.1;
      few = s.few;
      room = omega (arith, s.room, length_pasted xs (entry_bytes e) (position d) entry_room_here);
    }

-- ys and f have room for an entry of n bytes
record Roomy (c : Content) (ys : List ℕ) (f : Spot) (n : ℕ) (es : List Entry) : Type 0 where
  pub stands : Stands c ys f es
  pub fit : f.used + n ≤ 508

both : (b : Bool) {xs ys : List ℕ} {f h : Spot} (P : List ℕ → Spot → Type 0) → (b ≡ true → P xs f) → (b ≡ false → P ys h) → P (cond b xs ys) (cond b f h)
both true P f g = f refl
both false P f g = g refl

module _ (c : Content) (xs : List ℕ) (d : Spot) (e : Entry) (es : List Entry) (n : ℕ) (long : n ≡ length (entry_bytes e)) (s : Stands c xs d (e ∷ es)) where
  stands_room : Roomy c (room_made xs d n) (roomy d n) n (e ∷ es)
  stands_room =
      let short : length e.tokens ≤ 255 = s.small.0 in
      both (leb (d.used + n) 508) (λ ys f. Roomy c ys f n (e ∷ es))
      (λ t. record { stands = s; fit = leb-true _ 508 t })
      (λ t.
      let full : fits s.body e ≡ false = lt-leb _ 508 (omega (arith, leb-false (d.used + n) 508 t, s.used)) in
      record { stands = stands_next c xs d e es s full; fit = omega (arith, length_entry e) })

  -- a cell's entry, laid where there is room
  stands_cell : Stands c (pasted (room_made xs d n) (position (roomy d n)) (entry_bytes e)) (advanced (roomy d n) n) es
  stands_cell =
      let r = stands_room in
      let moved : advanced (roomy d n) n ≡ record { block = (roomy d n).block; used = (roomy d n).used + length (entry_bytes e) } =
      cond-true (leb ((roomy d n).used + n) 508) _ _ (le-leb _ 508 r.fit) ∙ ap (λ m. record { block = (roomy d n).block; used = (roomy d n).used + m }) long in
      subst (λ f. Stands c (pasted (room_made xs d n) (position (roomy d n)) (entry_bytes e)) f es) (sym moved)
      (stands_entry c _ _ e es r.stands (omega (arith, r.fit)))

pub stands_same : (c : Content) (es : List Entry) {xs ys : List ℕ} {d f : Spot} → ys ≡ xs → f ≡ d → Stands c xs d es → Stands c ys f es
stands_same c es {xs} {ys} {d} {f} e k s = subst (λ h. Stands c ys h es) (sym k) (subst (λ zs. Stands c zs d es) (sym e) s)

-- what holds as a cell's entry, of n bytes, is laid
pub record Laid (c : Content) (xs : List ℕ) (d : Spot) (q n : ℕ) : Type 0 where
  pub fit : Reaches xs (roomy d n).block
  pub entry : position (roomy d n) + length (entry_bytes (entry_at c q)) ≤ length (room_made xs d n)
  pub stands : Stands c (pasted (room_made xs d n) (position (roomy d n)) (entry_bytes (entry_at c q))) (advanced (roomy d n) n) (entries_at c (q + 1))

pub cell_laid : (c : Content) (xs : List ℕ) (d : Spot) (q m : ℕ) → q < length c.formulas → m ≡ length (tokens_at c q) → (m ≡ 0 → ⊥) → Stands c xs d (entries_at c q) → Laid c xs d q (3 + m)
cell_laid c xs d q m inside is some s =
    let e = entry_at c q in
    let es = entries_at c (q + 1) in
    let here : Stands c xs d (e ∷ es) = subst (Stands c xs d) (entries_take c q inside (omega arith)) s in
    let long : 3 + m ≡ length (entry_bytes e) = ap (λ n. 3 + n) is ∙ sym (length_entry e) in
    let room = stands_room c xs d e es (3 + m) long here in
    let fit = stands_fit c _ _ _ room.stands in
    record {
      fit = omega (arith, fit, here.room);
      entry = omega (arith, long, fit, room.fit, room.stands.room);
      stands = stands_cell c xs d e es (3 + m) long here;
    }

-- the head stands, with no room behind it
module _ (c : Content) (valid : Valid c) (xs : List ℕ) (room : length (written c) ≤ length xs) where
  written_packed : written c ≡ sealed_from 0 (packed (head_payload c.head) (entries_of c))
  unfolding written
  written_packed =
      let long = length_head_payload c.head in
      let same : head_payload c.head ≡ closed (head_payload c.head) = sym (cond-false _ _ _ (le-ltb (length (head_payload c.head)) 508 (omega arith))) in
      ap (λ p. sealed 0 p ++ sealed_from 1 (bodies (entries_of c))) same ∙ ap (sealed_from 0) (sym (packed_full (head_payload c.head) (entries_of c) long))

  head_room : 512 ≤ length (written c)
  head_room = omega (arith, written_length c valid)

  pub stands_start : Stands c (pasted xs 0 (kind 0 ∷ 0 ∷ head_payload c.head)) (record { block = 0; used = 508 }) (entries_of c)
  stands_start = record {
    past = [];
    body = head_payload c.head;
    after = drop (length (kind 0 ∷ 0 ∷ head_payload c.head)) xs;
    is = pasted_at [] xs (kind 0 ∷ 0 ∷ head_payload c.head) 0 refl;
    block = refl;
    used = length_head_payload c.head;
    within = omega arith;
    rest = sym written_packed;
    small = small c valid;
    few = omega (arith, written_length c valid, written_few c valid);
    room = omega (arith, room, head_room, length_head_payload c.head, length_pasted xs (kind 0 ∷ 0 ∷ head_payload c.head) 0 (omega (arith, room, head_room, length_head_payload c.head)));
  }
