-- What the checks of blocks and of the head say. Assumes nothing.
use Rattle.std.proofs.Common.{◌≡◌, ℕ, zero, suc, ◌+◌, ◌*◌, ◌%◌, ◌<◌, ◌≤◌, true, List, length, Some, None, Option, unwrap_or, refl, ap, ◌∙◌, subst, ⊎_elim, arith}
use Rattle.std.proofs.lemmas.Bool.{false≢true, eqb-true, eq-eqb, ltb-true, lt-ltb, leb-true, le-leb, and_parts, and_from, cases_lt}
use Rattle.inspect.specs.declared.head.Sort.{Sort}
use Rattle.inspect.specs.declared.head.Sort.TheVariants as sort
use Rattle.inspect.specs.declared.head.Asked.{Asked}
use Rattle.inspect.specs.Format.{blocks, block, byte, sort_of, takes, head}
use Rattle.inspect.specs.Checks.{length_check, all_block_checks, sort_taken, head_checks}
use Rattle.inspect.specs.Denotes.{Sealed, InRange}
use Rattle.inspect.proofs.FirstOf.{Pass}

-- whole blocks, 1 to 64
pub record Whole (xs : List ℕ) : Type 0 where
  pub long : length xs ≡ blocks xs * 512
  pub some : 0 < blocks xs
  pub few : blocks xs ≤ 64

pub holds_whole : (xs : List ℕ) → (length_check xs).holds ≡ true → Whole xs
holds_whole xs h =
    let a = and_parts _ _ h in
    let b = and_parts _ _ a.1 in
    let none : length xs % 512 ≡ 0 = eqb-true _ 0 a.0 in
    record { long = omega arith; some = ltb-true _ _ b.0; few = leb-true _ _ b.1 }

pub whole_holds : (xs : List ℕ) → Whole xs → (length_check xs).holds ≡ true
whole_holds xs w =
    let none : length xs % 512 ≡ 0 = omega (arith, w.long) in
    and_from _ _ (eq-eqb _ 0 none) (and_from _ _ (lt-ltb _ _ w.some) (le-leb _ _ w.few))

pub pass_sealed : (xs : List ℕ) (k n : ℕ) → Pass (all_block_checks xs k n) → (i : ℕ) → k ≤ i → i < k + n → Sealed i (block xs i)
pass_sealed xs k zero c i l m = absurd (omega arith)
pass_sealed xs k (suc n) c i l m =
    let here : Sealed k (block xs k) = record { check = eqb-true _ _ c.0; kind = eqb-true _ _ c.1.0; number = eqb-true _ _ c.1.1.0 } in
    let at-k = λ (e : i ≤ k). let same : k ≡ i = omega arith in subst (λ j. Sealed j (block xs j)) same here in
    ⊎_elim (λ more. pass_sealed xs (suc k) n c.1.1.1 i more (omega arith)) at-k (cases_lt k i)

pub sealed_pass : (xs : List ℕ) (k n : ℕ) → ((i : ℕ) → k ≤ i → i < k + n → Sealed i (block xs i)) → Pass (all_block_checks xs k n)
sealed_pass xs k zero s = tt
sealed_pass xs k (suc n) s =
    let here = s k (omega arith) (omega arith) in
    let rest = sealed_pass xs (suc k) n (λ i l m. s i (omega arith) (omega arith)) in
    (eq-eqb _ _ here.check, (eq-eqb _ _ here.kind, (eq-eqb _ _ here.number, rest)))

-- the head is of a sort that was asked for, and its fields are in range
pub record Heads (asked : Asked) (b : List ℕ) : Type 0 where
  pub sort : sort_of (byte b 2) ≡ Some (head b).sort
  pub taken : takes asked (head b).sort ≡ true
  pub fields : InRange (head b)

pub pass_heads : (asked : Asked) (b : List ℕ) → Pass (head_checks asked b) → Heads asked b
pass_heads asked b c =
    let s = taken (sort_of (byte b 2)) c.0 in
    let n = and_parts _ _ c.1.0 in
    let m = and_parts _ _ c.1.1.0 in
    record {
      sort = s.0;
      taken = s.1;
      fields = record {
        some_location = ltb-true _ _ n.0;
        locations = leb-true _ _ n.1;
        some_letter = ltb-true _ _ m.0;
        letters = leb-true _ _ m.1;
        initial = ltb-true _ _ c.1.1.1.0;
      };
    }
  where
    taken : (o : Option Sort) → sort_taken asked o ≡ true → (o ≡ Some (unwrap_or o sort.Rule)) × (takes asked (unwrap_or o sort.Rule) ≡ true)
    taken None h = absurd (false≢true h)
    taken (Some s) h = (refl, h)

pub heads_pass : (asked : Asked) (b : List ℕ) → Heads asked b → Pass (head_checks asked b)
heads_pass asked b s =
    let f = s.fields in
    let locations = and_from _ _ (lt-ltb _ _ f.some_location) (le-leb _ _ f.locations) in
    let letters = and_from _ _ (lt-ltb _ _ f.some_letter) (le-leb _ _ f.letters) in
    let taken : sort_taken asked (sort_of (byte b 2)) ≡ true = ap (sort_taken asked) s.sort ∙ s.taken in
    (taken, (locations, (letters, (lt-ltb _ _ f.initial, tt))))
