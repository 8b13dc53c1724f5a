-- A sheet has no fault just where it denotes something, and then it denotes its contents alone. Assumes nothing.
use Rattle.std.proofs.Common.{◌≡◌, ℕ, ◌-◌, ◌*◌, ◌≤◌, true, List, [], ◌++◌, map, replicate, Some, None, Option, refl, ◌∙◌, subst, ap₂, inl, inr, zero-le, arith}
use Rattle.std.specs.List.{AllByRecursion}
use Rattle.std.proofs.ByRecursion.{All-weaker}
use Rattle.inspect.specs.declared.fault.Refusal.{Refusal}
use Rattle.inspect.specs.declared.head.Asked.{Asked}
use Rattle.inspect.specs.declared.head.Head.{Head}
use Rattle.inspect.specs.Format.{blocks, block, byte, sort_of, takes, head}
use Rattle.inspect.specs.Entries.{all_entries}
use Rattle.inspect.specs.Checks.{all_block_checks, head_checks, entry_checks, token_checks, checks, first}
use Rattle.inspect.specs.Denotes.{Entry, Content, Proper, Denotes, OneVerdict, InRange, Rising, tokens_in, laid}
use Rattle.inspect.specs.Contents.{entry_of, contents}
use Rattle.inspect.proofs.FirstOf.{first_none, none_first, pass_parts, pass_append, first_fault, fault_first}
use Rattle.inspect.proofs.Readings.{read_code}
use Rattle.inspect.proofs.Lying.{Plain, entries_fill, fills_found}
use Rattle.inspect.proofs.Standing.{Stands, pass_stands, stands_pass}
use Rattle.inspect.proofs.Fields.{Whole, holds_whole, whole_holds, pass_sealed, sealed_pass, Heads, pass_heads, heads_pass}

pub sound_denotes : (asked : Asked) (xs : List ℕ) → first (checks asked xs) ≡ None → Denotes asked xs (contents xs)
sound_denotes asked xs none =
    let h = head (block xs 0) in
    let n = blocks xs - 1 in
    let ps = all_entries xs 1 n in
    let c = first_none (checks asked xs) none in
    let a = pass_parts (all_block_checks xs 0 (blocks xs)) (head_checks asked (block xs 0) ++ (entry_checks h 0 0 ps ++ token_checks h ps)) c.1 in
    let b = pass_parts (head_checks asked (block xs 0)) (entry_checks h 0 0 ps ++ token_checks h ps) a.1 in
    let w = holds_whole xs c.0 in
    let s = pass_heads asked (block xs 0) b.0 in
    let e = pass_stands h s.fields ps b.1 in
    record {
      long = w.long;
      some = w.some;
      few = w.few;
      sealed = λ k l. pass_sealed xs 0 (blocks xs) a.0 k zero-le (omega arith);
      says = refl;
      sort = s.sort;
      taken = s.taken;
      fields = s.fields;
      entries = map entry_of ps;
      filled = entries_fill xs 1 n e.readable;
      rising = e.rising;
      proper = e.proper;
      tokens = e.few;
      formulas = refl;
    }

-- a proper entry is read back from its bytes
proper_plain : (h : Head) → InRange h → (es : List Entry) → AllByRecursion (Proper h) es → AllByRecursion Plain es
proper_plain h range es all =
    All-weaker (Proper h) Plain (λ e p. record { location = omega (arith, p.location, range.locations); tokens = read_code h range.locations e.tokens p.allowed }) es all

pub denotes_sound : (asked : Asked) (xs : List ℕ) (c : Content) → Denotes asked xs c → (first (checks asked xs) ≡ None) × (c ≡ contents xs)
denotes_sound asked xs c d =
    let h = head (block xs 0) in
    let n = blocks xs - 1 in
    let ps = all_entries xs 1 n in
    let range : InRange h = subst (λ g. InRange g) d.says d.fields in
    let proper : AllByRecursion (Proper h) d.entries = subst (λ g. AllByRecursion (Proper g) d.entries) d.says d.proper in
    let found = fills_found xs 1 n d.entries (proper_plain h range d.entries proper) d.filled in
    let stands : Stands h ps = record { readable = found.0; proper = subst (AllByRecursion (Proper h)) found.1 proper; rising = subst Rising found.1 d.rising; few = subst (λ es. tokens_in es ≤ 4096) found.1 d.tokens } in
    let heads : Heads asked (block xs 0) = record { sort = subst (λ g. sort_of (byte (block xs 0) 2) ≡ Some g.sort) d.says d.sort; taken = subst (λ g. takes asked g.sort ≡ true) d.says d.taken; fields = range } in
    let whole : Whole xs = record { long = d.long; some = d.some; few = d.few } in
    let sealed = sealed_pass xs 0 (blocks xs) (λ i l m. d.sealed i (omega arith)) in
    let rest = pass_append (head_checks asked (block xs 0)) _ (heads_pass asked (block xs 0) heads) (stands_pass h range ps stands) in
    let formulas = d.formulas ∙ ap₂ (λ g es. laid g.letters (replicate (g.locations * g.letters) []) es) d.says found.1 in (
      none_first (checks asked xs) (whole_holds xs whole, pass_append (all_block_checks xs 0 (blocks xs)) _ sealed rest),
      ap₂ (λ g fs. record { head = g; formulas = fs }) d.says formulas,
    )

pub one_verdict : (asked : Asked) (xs : List ℕ) → OneVerdict asked xs
one_verdict asked xs = go (first (checks asked xs)) refl
  where
    never : (r : Refusal) → first (checks asked xs) ≡ None → first (checks asked xs) ≡ Some r → ⊥
    never r p q = let z : ◌≡◌ {A = ℕ} 0 1 = cc in omega arith

    same : (r s : Refusal) → first (checks asked xs) ≡ Some r → first (checks asked xs) ≡ Some s → s ≡ r
    same r s p q = cc

    go : (o : Option Refusal) → first (checks asked xs) ≡ o → OneVerdict asked xs
    go None e = inl (contents xs, sound_denotes asked xs e, (λ d m. (denotes_sound asked xs d m).1), (λ r f. never r e (fault_first asked xs r f)))
    go (Some r) e = inr (r, first_fault asked xs r e, (λ s f. same r s e (fault_first asked xs s f)), (λ c d. never r (denotes_sound asked xs c d).0 e))
