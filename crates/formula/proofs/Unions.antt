-- A set and its rising spelling: each gives the other back, and no formula that names the set is shorter. Assumes nothing.
use Rattle.std.proofs.Common.{◌≡◌, ℕ, zero, suc, pred, ◌+◌, ◌-◌, ◌*◌, ◌/◌, ◌%◌, ◌^◌, ◌<◌, ◌≤◌, Bool, true, false, cond, ◌||◌, eqb, ltb, List, [], ◌∷◌, ◌++◌, length, get_or, Some, filter, sym, refl, ap, ◌∙◌, ap₂, ⊎_elim, append-nil, zero-le, mod-eq_of_lt, one-mul, zero-add, add-one, one-add, arith}
use native.Mathlib.Nat.{mod-one, mod-mod}
use lib.Bits.{bit_or, or_shifted_r, or_zero_r}
use Rattle.std.specs.List.{range_with_len, AllByRecursion, slice_get}
use Rattle.std.proofs.lemmas.Nat.{or_lt, or_mod, pow_pos, pow_below, mod-pow-add, mod_below}
use Rattle.std.proofs.lemmas.List.FromFn.{length-range_with_len, get_or-range_with_len, filter_of_map_range_with_len_more}
use Rattle.std.proofs.ByRecursion.{All-from_get_or, all_kept_by}
use Rattle.std.proofs.lemmas.List.{length-append, nil_from_length, map-id}
use Rattle.std.proofs.lemmas.Bool.{and_parts, cases_lt, eqb-true}
use Rattle.std.proofs.lemmas.Bool.Decides.{nat_tests}
use Rattle.formula.specs.declared.token.Token.{Token}
use Rattle.formula.specs.declared.token.Token.TheVariants.{Location, True, False, And, Or}
use Rattle.formula.specs.Sets.{has}
use Rattle.formula.specs.Shape.{shaped}
use Rattle.formula.specs.Unions.{named, Below, InUnion, members, ors, isNil, listed, spelling}
use Rattle.formula.proofs.Sets.{digit, has_zero, has_or, has_pow, or_assoc}

pub named_append : (ts us : List Token) → named (ts ++ us) ≡ bit_or (named ts) (named us)
named_append [] us = refl
named_append (Location l ∷ ts) us = ap (bit_or (2 ^ l)) (named_append ts us) ∙ or_assoc (2 ^ l) (named ts) (named us)
named_append (True ∷ ts) us = named_append ts us
named_append (False ∷ ts) us = named_append ts us
named_append (And ∷ ts) us = named_append ts us
named_append (Or ∷ ts) us = named_append ts us

pub named_below : (n : ℕ) (ts : List Token) → AllByRecursion (λ t. Below n t) ts → named ts < 2 ^ n
named_below n [] h = pow_pos n
named_below n (Location l ∷ ts) h = or_lt n (2 ^ l) (named ts) (pow_below l n h.0) (named_below n ts h.1)
named_below n (True ∷ ts) h = named_below n ts h.1
named_below n (False ∷ ts) h = named_below n ts h.1
named_below n (And ∷ ts) h = named_below n ts h.1
named_below n (Or ∷ ts) h = named_below n ts h.1

pub named_push : (ts : List Token) (l : ℕ) → named (ts ++ Location l ∷ []) ≡ bit_or (named ts) (2 ^ l)
named_push ts l = named_append ts (Location l ∷ []) ∙ ap (bit_or (named ts)) (or_zero_r (2 ^ l))

-- one token more, in a mask of n bits
pub named_mod_push : (n : ℕ) (ts : List Token) (t : Token) → bit_or (named ts % 2 ^ n) (named (t ∷ [])) % 2 ^ n ≡ named (ts ++ t ∷ []) % 2 ^ n
named_mod_push n ts t =
    or_mod (named ts % 2 ^ n) (named (t ∷ [])) n ∙ ap (λ m. bit_or m (named (t ∷ []) % 2 ^ n)) (mod-mod (named ts) (2 ^ n))
    ∙ sym (ap (λ m. m % 2 ^ n) (named_append ts (t ∷ [])) ∙ or_mod (named ts) (named (t ∷ [])) n)

pub members_more : (n mask : ℕ) → members (n + 1) mask ≡ members n mask ++ cond (has mask n) (n ∷ []) []
members_more n mask =
    let step = filter_of_map_range_with_len_more (has mask) (λ x. x) 0 n n (zero-add n) in simp map-id at step

-- one member more in a list: the first stands alone
pub listed_push : (ls : List ℕ) (l : ℕ) → listed (ls ++ l ∷ []) ≡ cond (isNil ls) (Location l ∷ []) (listed ls ++ Location l ∷ Or ∷ [])
listed_push [] l = refl
listed_push (x ∷ ls) l = ap (λ ts. Location x ∷ ts) (ors_push ls)
  where
    ors_push : (ls : List ℕ) → ors (ls ++ l ∷ []) ≡ ors ls ++ Location l ∷ Or ∷ []
    ors_push [] = refl
    ors_push (y ∷ ls) = ap (λ ts. Location y ∷ Or ∷ ts) (ors_push ls)

pub listed_more : (ls : List ℕ) (l : ℕ) → 0 < length ls → listed (ls ++ l ∷ []) ≡ listed ls ++ Location l ∷ Or ∷ []
listed_more [] l h = absurd (omega arith)
listed_more (x ∷ ls) l h = listed_push (x ∷ ls) l

named_listed_push : (ls : List ℕ) (l : ℕ) → named (listed (ls ++ l ∷ [])) ≡ bit_or (named (listed ls)) (2 ^ l)
named_listed_push [] l = or_zero_r (2 ^ l)
named_listed_push (x ∷ ls) l =
    ap named (listed_push (x ∷ ls) l) ∙ named_append (listed (x ∷ ls)) (Location l ∷ Or ∷ [])
    ∙ ap (bit_or (named (listed (x ∷ ls)))) (or_zero_r (2 ^ l))

named_spelled : (n mask : ℕ) → named (spelling n mask) ≡ mask % 2 ^ n
named_spelled zero mask = sym (mod-one mask)
named_spelled (suc n) mask =
    let ls = members n mask in
    let low : mask % 2 ^ n < 2 ^ n = mod_below mask (2 ^ n) (pow_pos n) in
    ap (λ k. named (spelling k mask)) (sym (add-one n)) ∙ ap (λ l. named (listed l)) (members_more n mask)
    ∙ digit (λ d. named (listed (ls ++ cond (eqb d 1) (n ∷ []) [])) ≡ d * 2 ^ n + mask % 2 ^ n)
    (ap (λ l. named (listed l)) (append-nil ls) ∙ named_spelled n mask ∙ omega arith)
    (named_listed_push ls n ∙ ap₂ bit_or (named_spelled n mask) (sym (one-mul (2 ^ n))) ∙ or_shifted_r 1 n (mask % 2 ^ n) low)
    (mask / 2 ^ n)
    ∙ sym (mod-pow-add mask 1 n) ∙ ap (λ k. mask % 2 ^ k) (one-add n)

pub named_spelling : (n mask : ℕ) → mask < 2 ^ n → named (spelling n mask) ≡ mask
named_spelling n mask h = named_spelled n mask ∙ mod-eq_of_lt h

pub spelling_shaped : (n mask : ℕ) → 0 < length (members n mask) → shaped 0 (spelling n mask) ≡ true
spelling_shaped n mask h = go (members n mask) h
  where
    joins : (ls : List ℕ) → shaped 1 (ors ls) ≡ true
    joins [] = refl
    joins (l ∷ ls) = joins ls

    go : (ls : List ℕ) → 0 < length ls → shaped 0 (listed ls) ≡ true
    go [] h = absurd (omega arith)
    go (l ∷ ls) h = joins ls

all_listed : (P : Token → Type 0) → P Or → (ls : List ℕ) → AllByRecursion (λ l. P (Location l)) ls → AllByRecursion P (listed ls)
all_listed P or [] h = tt
all_listed P or (l ∷ ls) h = (h.0, go ls h.1)
  where
    go : (ls : List ℕ) → AllByRecursion (λ l. P (Location l)) ls → AllByRecursion P (ors ls)
    go [] h = tt
    go (l ∷ ls) h = (h.0, (or, go ls h.1))

pub spelling_below : (n mask : ℕ) → AllByRecursion (Below n) (spelling n mask)
spelling_below n mask =
    all_listed (Below n) tt (members n mask) (all_kept_by (has mask) (λ l. l < n) (range_with_len 0 n) (All-from_get_or (λ l. l < n) (range_with_len 0 n) 0 small))
  where
    small : (i : ℕ) → i < length (range_with_len 0 n) → get_or (range_with_len 0 n) i 0 < n
    small i h = let k : i < n = omega (arith, length-range_with_len 0 n) in omega (arith, get_or-range_with_len 0 n i 0 k)

pub spelling_union : (n mask : ℕ) → AllByRecursion (λ t. InUnion t) (spelling n mask)
spelling_union n mask = all_listed InUnion tt (members n mask) (go (members n mask))
  where
    go : (ls : List ℕ) → AllByRecursion (λ l. Unit {0}) ls
    go [] = tt
    go (l ∷ ls) = (tt, go ls)

pub members_zero : (n : ℕ) → members n 0 ≡ []
members_zero n = go (range_with_len 0 n)
  where
    go : (ls : List ℕ) → filter (has 0) ls ≡ []
    go [] = refl
    go (l ∷ ls) = ap (λ b. cond b (l ∷ filter (has 0) ls) (filter (has 0) ls)) (has_zero l) ∙ go ls

pub spelling_empty : (n mask : ℕ) → mask < 2 ^ n → length (members n mask) ≡ 0 → mask ≡ 0
spelling_empty n mask h e = sym (named_spelling n mask h) ∙ ap (λ ls. named (listed ls)) (nil_from_length (members n mask) e)

length_listed : (ls : List ℕ) → length (listed ls) ≡ length ls + (length ls - 1)
length_listed [] = refl
length_listed (l ∷ ls) = omega (arith, go ls)
  where
    go : (ls : List ℕ) → length (ors ls) ≡ length ls + length ls
    go [] = refl
    go (l ∷ ls) = omega (arith, go ls)

pub length_spelling : (n mask : ℕ) → length (spelling n mask) ≡ length (members n mask) + (length (members n mask) - 1)
length_spelling n mask = length_listed (members n mask)

pub length_members_more : (n mask : ℕ) → length (members (n + 1) mask) ≡ length (members n mask) + cond (has mask n) 1 0
length_members_more n mask =
    ap length (members_more n mask) ∙ length-append (members n mask) (cond (has mask n) (n ∷ []) [])
    ∙ ap (λ k. length (members n mask) + k) (one (has mask n))
  where
    one : (b : Bool) → length (cond b (n ∷ []) []) ≡ cond b 1 0
    one true = refl
    one false = refl

length_members : (n mask : ℕ) → length (members (suc n) mask) ≡ length (members n mask) + cond (has mask n) 1 0
length_members n mask = ap (λ k. length (members k mask)) (sym (add-one n)) ∙ length_members_more n mask

pub members_few : (n mask : ℕ) → length (members n mask) ≤ n
members_few zero mask = zero-le
members_few (suc n) mask = rw (length_members n mask) (go _ (has mask n) (members_few n mask))
  where
    go : (m : ℕ) (b : Bool) → m ≤ n → m + cond b 1 0 ≤ suc n
    go m true h = omega arith
    go m false h = omega arith

-- a member stands behind those below it
pub member_at : (n mask l : ℕ) → l < n → has mask l ≡ true → slice_get (members n mask) (length (members l mask)) ≡ Some l
member_at zero mask l h e = absurd (omega arith)
member_at (suc n) mask l h e =
    ap (λ k. slice_get (members k mask) (length (members l mask))) (sym (add-one n))
    ∙ ap (λ ls. slice_get ls (length (members l mask))) (members_more n mask)
    ∙ ⊎_elim (λ k. front (members n mask) _ _ (member_at n mask l k e)) here (cases_lt l n)
  where
    front : (xs ys : List ℕ) (k : ℕ) → slice_get xs k ≡ Some l → slice_get (xs ++ ys) k ≡ Some l
    front [] ys k h = absurd (let z : ◌≡◌ {A = ℕ} 0 1 = cc in omega arith)
    front (x ∷ xs) ys zero h = h
    front (x ∷ xs) ys (suc k) h = front xs ys k h

    last : (xs : List ℕ) → slice_get (xs ++ l ∷ []) (length xs) ≡ Some l
    last [] = refl
    last (x ∷ xs) = last xs

    here : n ≤ l → slice_get (members n mask ++ cond (has mask n) (n ∷ []) []) (length (members l mask)) ≡ Some l
    here k =
        let same : n ≡ l = omega arith in
        rw same (ap (λ b. slice_get (members l mask ++ cond b (l ∷ []) []) (length (members l mask))) e ∙ last (members l mask))

-- a location that is put in adds at most itself
members_grow : (n l mask : ℕ) → length (members n (bit_or (2 ^ l) mask)) ≤ length (members n mask) + cond (ltb l n) 1 0
members_grow zero l mask = zero-le
members_grow (suc n) l mask =
    let old = length_members n mask in
    let new = length_members n (bit_or (2 ^ l) mask) in
    let is = has_or (2 ^ l) mask n ∙ ap (λ b. b || has mask n) (has_pow l n) in
    rw (old, new, is) (step _ _ (has mask n) (members_grow n l mask))
  where
    step : (s t : ℕ) (b : Bool) → s ≤ t + cond (ltb l n) 1 0 → s + cond (eqb n l || b) 1 0 ≤ t + cond b 1 0 + cond (ltb l (suc n)) 1 0
    step s t b h = grind (arith, nat_tests)

pub members_insert : (n l mask : ℕ) → length (members n (bit_or (2 ^ l) mask)) ≤ length (members n mask) + 1
members_insert n l mask = go _ _ (ltb l n) (members_grow n l mask)
  where
    go : (m k : ℕ) (b : Bool) → m ≤ k + cond b 1 0 → m ≤ k + 1
    go m k true h = h
    go m k false h = omega arith

-- each location in the set takes a token of ts, and all but one of the values a connective
spelling_fits : (n w : ℕ) (ts : List Token) → shaped w ts ≡ true → w + 2 * length (members n (named ts)) ≤ length ts + 1
spelling_fits n w [] h = omega (arith, eqb-true w 1 h, ap length (members_zero n))
spelling_fits n w (Location l ∷ ts) h = omega (arith, members_insert n l (named ts), spelling_fits n (suc w) ts (and_parts _ _ h).1)
spelling_fits n w (True ∷ ts) h = omega (arith, spelling_fits n (suc w) ts (and_parts _ _ h).1)
spelling_fits n w (False ∷ ts) h = omega (arith, spelling_fits n (suc w) ts (and_parts _ _ h).1)
spelling_fits n w (And ∷ ts) h = omega (arith, spelling_fits n (pred w) ts (and_parts _ _ h).1)
spelling_fits n w (Or ∷ ts) h = omega (arith, spelling_fits n (pred w) ts (and_parts _ _ h).1)

pub spelling_short : (n : ℕ) (ts : List Token) → shaped 0 ts ≡ true → length (spelling n (named ts)) ≤ length ts
spelling_short n ts h = omega (arith, length_spelling n (named ts), spelling_fits n 0 ts h)
