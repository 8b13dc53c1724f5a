-- The first check that does not hold, and lists of checks that all hold. Assumes nothing.
use Rattle.std.proofs.Common.{◌≡◌, ℕ, Bool, true, false, cond, List, [], ◌∷◌, ◌++◌, Some, None, sym, refl, ap, ◌∙◌, arith}
use Rattle.std.specs.List.{AllByRecursion}
use Rattle.std.proofs.ByRecursion.{All-append}
use Rattle.inspect.specs.declared.fault.Refusal.{Refusal}
use Rattle.inspect.specs.declared.head.Asked.{Asked}
use Rattle.inspect.specs.Checks.{Check, checks, first, FirstFault}

abbrev pub Pass : List Check → Type 0
Pass cs = AllByRecursion (λ c. c.holds ≡ true) cs

pub first_none : (cs : List Check) → first cs ≡ None → Pass cs
first_none [] h = tt
first_none (c ∷ cs) h = go c.holds refl (first_none cs) h
  where
    go : (b : Bool) → c.holds ≡ b → (first cs ≡ None → Pass cs) → cond b (first cs) (Some c.refusal) ≡ None → Pass (c ∷ cs)
    go true e rest h = (e, rest h)
    go false e rest h = let z : ◌≡◌ {A = ℕ} 0 1 = cc in absurd (omega arith)

pub none_first : (cs : List Check) → Pass cs → first cs ≡ None
none_first [] h = refl
none_first (c ∷ cs) h = rw h.0 (none_first cs h.1)

pub first_append : (xs ys : List Check) → first xs ≡ None → first (xs ++ ys) ≡ first ys
first_append xs ys h = go xs (first_none xs h)
  where
    go : (xs : List Check) → Pass xs → first (xs ++ ys) ≡ first ys
    go [] p = refl
    go (c ∷ cs) p = rw p.0 (go cs p.1)

pub first_append_some : (xs ys : List Check) (r : Refusal) → first xs ≡ Some r → first (xs ++ ys) ≡ Some r
first_append_some [] ys r h = let z : ◌≡◌ {A = ℕ} 0 1 = cc in absurd (omega arith)
first_append_some (c ∷ cs) ys r h = go c.holds (first_append_some cs ys r) h
  where
    go : (b : Bool) → (first cs ≡ Some r → first (cs ++ ys) ≡ Some r) → cond b (first cs) (Some c.refusal) ≡ Some r → cond b (first (cs ++ ys)) (Some c.refusal) ≡ Some r
    go true rest h = rest h
    go false rest h = h

pub all_parts : {X : Type 0} (P : X → Type 0) (xs ys : List X) → AllByRecursion P (xs ++ ys) → AllByRecursion P xs × AllByRecursion P ys
all_parts P [] ys h = (tt, h)
all_parts P (x ∷ xs) ys h = let p = all_parts P xs ys h.1 in ((h.0, p.0), p.1)

abbrev pub pass_parts : (xs ys : List Check) → Pass (xs ++ ys) → Pass xs × Pass ys
pass_parts xs ys h = all_parts (λ c. c.holds ≡ true) xs ys h

abbrev pub pass_append : (xs ys : List Check) → Pass xs → Pass ys → Pass (xs ++ ys)
pass_append xs ys h k = All-append (λ c. c.holds ≡ true) xs ys h k

-- a list of checks with its first failing one
record Cut (cs : List Check) (r : Refusal) : Type 0 where
  before : List Check
  failing : Check
  after : List Check
  order : cs ≡ before ++ failing ∷ after
  pass : Pass before
  fails : failing.holds ≡ false
  is : r ≡ failing.refusal

cut : (cs : List Check) (r : Refusal) → first cs ≡ Some r → Cut cs r
cut [] r h = let z : ◌≡◌ {A = ℕ} 0 1 = cc in absurd (omega arith)
cut (c ∷ cs) r h = go c.holds refl (cut cs r) h
  where
    go : (b : Bool) → c.holds ≡ b → (first cs ≡ Some r → Cut cs r) → cond b (first cs) (Some c.refusal) ≡ Some r → Cut (c ∷ cs) r
    go true e rest h =
        let t = rest h in
        record { before = c ∷ t.before; failing = t.failing; after = t.after; order = ap (λ l. c ∷ l) t.order; pass = (e, t.pass); fails = t.fails; is = t.is }
    go false e rest h = record { before = []; failing = c; after = cs; order = refl; pass = tt; fails = e; is = cc }

pub first_fault : (asked : Asked) (xs : List ℕ) (r : Refusal) → first (checks asked xs) ≡ Some r → FirstFault asked xs r
first_fault asked xs r h =
    let t = cut (checks asked xs) r h in
    record { before = t.before; failing = t.failing; after = t.after; order = t.order; pass = t.pass; fails = t.fails; is = t.is }

pub fault_first : (asked : Asked) (xs : List ℕ) (r : Refusal) → FirstFault asked xs r → first (checks asked xs) ≡ Some r
fault_first asked xs r t =
    let rest = t.failing ∷ t.after in
    ap first t.order ∙ first_append t.before rest (none_first t.before t.pass) ∙ rw t.fails (ap Some (sym t.is))
