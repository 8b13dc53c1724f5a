-- A valid content stays valid where each formula is replaced by the set that it names, and the sets are found again.
use Rattle.std.proofs.Common.{◌≡◌, ℕ, ◌^◌, ◌<◌, ◌≤◌, Bool, true, not, ltb, List, [], ◌∷◌, map, length, get_or, sym, refl, ap, ◌∙◌, ap₂, arith}
use mathlib.Core.List.{map-map}
use lib.ListN.{length-map}
use Rattle.std.specs.List.{range_with_len, AllByRecursion}
use Rattle.std.proofs.lemmas.List.FromFn.{length-range_with_len}
use Rattle.std.proofs.ByRecursion.{All-map, All-weaker, All-get_or, All-from_get_or}
use Rattle.std.proofs.lemmas.List.Elements.{recursion_from_All}
use Rattle.std.proofs.lemmas.List.Filters.{length-filter_both}
use Rattle.std.proofs.lemmas.Bool.{and_parts, ltb-true, lt-ltb}
use Rattle.formula.specs.declared.token.Token.{Token}
use Rattle.formula.specs.declared.token.Token.TheVariants.{Location, True, False, And, Or}
use Rattle.formula.specs.Sets.{has}
use Rattle.formula.specs.Unions.{named, Below, InUnion, members, listed, spelling}
use Rattle.formula.proofs.Unions.{named_below, named_spelling, spelling_shaped, spelling_below, spelling_union, members_zero, length_spelling, spelling_short}
use Rattle.inspect.specs.declared.head.Sort.{Sort}
use Rattle.inspect.specs.declared.head.Head.{Head}
use Rattle.inspect.specs.Checks.{allowed}
use Rattle.inspect.specs.Denotes.{Content}
use Rattle.layout.specs.Valid.{every, proper, sizes, Valid}
use Rattle.layout.specs.Successors.{spelled, with_successors}
use Rattle.layout.proofs.Denoted.{decides_every, proper_from}

pub few_members : (n mask : ℕ) → length (members n mask) ≤ n
few_members n mask =
    omega (arith, length-filter_both (has mask) (λ i. not (has mask i)) (λ i. refl) (range_with_len 0 n), length-range_with_len 0 n)

-- either sort allows an or of locations
allowed_union : (s : Sort) (n : ℕ) (t : Token) → Below n t → InUnion t → allowed s n t ≡ true
allowed_union s n (Location l) below union = lt-ltb l n below
allowed_union s n True below union = absurd union
allowed_union s n False below union = refl
allowed_union s n And below union = absurd union
allowed_union s n Or below union = refl

allowed_below : (s : Sort) (n : ℕ) (t : Token) → allowed s n t ≡ true → Below n t
allowed_below s n (Location l) h = ltb-true l n h
allowed_below s n True h = tt
allowed_below s n False h = tt
allowed_below s n And h = tt
allowed_below s n Or h = tt

module _ (h : Head) where
  -- any set's spelling is proper
  spelling_proper : (mask : ℕ) → h.locations ≤ 32 → proper h (spelling h.locations mask) ≡ true
  spelling_proper mask few =
      let n = h.locations in
      let ts = spelling n mask in
      let size = length_spelling n mask in
      let union = λ (i : ℕ) (l : i < length ts). allowed_union h.sort n _ (All-get_or (Below n) ts i Or l (spelling_below n mask)) (All-get_or InUnion ts i Or l (spelling_union n mask)) in
      proper_from h ts (λ l. spelling_shaped n mask (omega arith)) (All-from_get_or _ ts Or union) (omega (arith, few_members n mask))

  -- it is no longer than the proper tokens that name the set
  proper_short : (ts : List Token) → proper h ts ≡ true → length (spelling h.locations (named ts)) ≤ length ts
  proper_short [] good = omega (arith, ap (λ ls. length (listed ls)) (members_zero h.locations))
  proper_short (t ∷ ts) good = spelling_short h.locations (t ∷ ts) (and_parts _ _ good).0

  sizes_short : (table : List (List Token)) → every (proper h) table ≡ true → sizes (map (λ ts. spelling h.locations (named ts)) table) ≤ sizes table
  sizes_short [] good = omega arith
  sizes_short (ts ∷ table) good =
      let parts = and_parts (proper h ts) (every (proper h) table) good in
      omega (arith, proper_short ts parts.0, sizes_short table parts.1)

  proper_named : (ts : List Token) → proper h ts ≡ true → ltb (named ts) (2 ^ h.locations) ≡ true
  proper_named ts good = lt-ltb _ _ (named_below h.locations ts (below ts good))
    where
      below : (ts : List Token) → proper h ts ≡ true → AllByRecursion (λ t. Below h.locations t) ts
      below [] good = tt
      below (t ∷ ts) good =
          let all = (decides_every (allowed h.sort h.locations) (t ∷ ts)).0 (and_parts _ _ (and_parts _ _ good).1).0 in
          All-weaker _ _ (allowed_below h.sort h.locations) (t ∷ ts) all

pub every_map : {X Y : Type 0} (test : Y → Bool) (f : X → Y) (xs : List X) → AllByRecursion (λ x. test (f x) ≡ true) xs → every test (map f xs) ≡ true
every_map test f xs all = (decides_every test (map f xs)).1 (All-map (λ y. test y ≡ true) f xs all)

pub spelled_valid : (c : Content) → Valid c → Valid (spelled c)
spelled_valid c valid =
    record {
      fields = valid.fields;
      accepting = valid.accepting;
      long = length-map c.formulas _ ∙ valid.long;
      formulas = every_map (proper c.head) _ c.formulas (recursion_from_All _ c.formulas (λ i d _. spelling_proper c.head (named (get_or c.formulas i d)) valid.fields.locations));
      tokens = omega (arith, sizes_short c.head c.formulas valid.formulas, valid.tokens);
    }

pub named_small : (c : Content) → Valid c → every (λ m. ltb m (2 ^ c.head.locations)) (map named c.formulas) ≡ true
named_small c valid =
    every_map (λ m. ltb m (2 ^ c.head.locations)) named c.formulas (All-weaker _ _ (proper_named c.head) c.formulas ((decides_every (proper c.head) c.formulas).0 valid.formulas))

pub spelled_is : (c : Content) → spelled c ≡ with_successors c.head (map named c.formulas)
spelled_is c = ap (λ table. record { head = c.head; formulas = table }) (sym (map-map (spelling c.head.locations) named c.formulas))

pub named_spelled_back : (h : Head) (masks : List ℕ) → every (λ m. ltb m (2 ^ h.locations)) masks ≡ true → map named (with_successors h masks).formulas ≡ masks
named_spelled_back h [] small = refl
named_spelled_back h (m ∷ masks) small =
    let parts = and_parts _ _ small in
    ap₂ (λ x xs. x ∷ xs) (named_spelling h.locations m (ltb-true m _ parts.0)) (named_spelled_back h masks parts.1)
