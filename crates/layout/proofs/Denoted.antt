-- What a sheet denotes is valid.
use Rattle.std.proofs.Common.{◌≡◌, ℕ, zero, suc, ◌+◌, ◌-◌, ◌*◌, ◌^◌, ◌<◌, ◌≤◌, Bool, true, List, [], ◌∷◌, length, set, replicate, Decides, refl, ap, ◌∙◌, subst, arith}
use mathlib.Core.Path.{subst⁻¹}
use lib.ListN.{length-replicate}
use Rattle.std.specs.List.{AllByRecursion}
use Rattle.std.proofs.lemmas.Nat.{pow_pos, mod_below}
use Rattle.std.proofs.ByRecursion.{All-append, All-set, All-take, All-drop, Decides-by_and}
use Rattle.std.proofs.lemmas.List.{length-set}
use Rattle.std.proofs.lemmas.List.Elements.{All-replicate, recursion_from_All}
use Rattle.std.proofs.lemmas.Bool.{and_from, le-leb}
use Rattle.formula.specs.declared.token.Token.{Token}
use Rattle.formula.specs.Shape.{shaped}
use Rattle.formula.proofs.Spelling.{spells_shaped}
use Rattle.inspect.specs.declared.head.Asked.{Asked}
use Rattle.inspect.specs.declared.head.Head.{Head}
use Rattle.inspect.specs.Format.{blocks}
use Rattle.inspect.specs.Checks.{allowed}
use Rattle.inspect.specs.Denotes.{Entry, Content, entry_bytes, Lies, Fills, Proper, tokens_in, laid, Denotes}
use Rattle.inspect.proofs.FirstOf.{all_parts}
use Rattle.layout.specs.Valid.{every, proper, sizes, Valid}
use Rattle.layout.proofs.Packing.{Small}

pub decides_every : {X : Type 0} (test : X → Bool) (xs : List X) → Decides (every test xs) (AllByRecursion (λ x. test x ≡ true) xs)
decides_every test xs = Decides-by_and test (λ x. test x ≡ true) (every test) (λ x. (λ h. h, λ h. h)) refl (λ _ _. refl) xs

-- tokens are proper if there are none, or else they spell a formula
pub proper_from : (h : Head) (ts : List Token) → (0 < length ts → shaped 0 ts ≡ true) → AllByRecursion (λ t. allowed h.sort h.locations t ≡ true) ts → length ts ≤ 255 → proper h ts ≡ true
proper_from h [] shape all few = refl
proper_from h (t ∷ ts) shape all few =
    and_from _ _ (shape (omega arith)) (and_from _ _ ((decides_every (allowed h.sort h.locations) (t ∷ ts)).1 all) (le-leb _ 255 few))

-- the length of an entry is a byte of the sheet
abbrev Byte : ℕ → Type 0
Byte b = b < 256

lies_small : (bytes : List ℕ) (es : List Entry) → AllByRecursion Byte bytes → Lies bytes es → AllByRecursion Small es
lies_small bytes [] all lies = tt
lies_small bytes (e ∷ es) all lies =
    let parts = all_parts Byte (entry_bytes e) lies.0 (subst (AllByRecursion Byte) lies.1 all) in
    (omega (arith, parts.0.1.1.0), lies_small lies.0 es parts.1 lies.2)

fills_small : (xs : List ℕ) (k n : ℕ) (es : List Entry) → AllByRecursion Byte xs → Fills xs k n es → AllByRecursion Small es
fills_small xs k zero es all none = subst⁻¹ (AllByRecursion Small) none tt
fills_small xs k (suc n) es all f =
    let bytes = All-drop Byte 2 _ (All-take Byte 510 _ (All-take Byte 512 _ (All-drop Byte (k * 512) xs all))) in
    subst⁻¹ (AllByRecursion Small) f.2 (All-append Small f.0 f.1 (lies_small _ f.0 bytes f.3) (fills_small xs (suc k) n f.1 all f.4))

sizes_set : (table : List (List Token)) (i : ℕ) (ts : List Token) → sizes (set table i ts) ≤ sizes table + length ts
sizes_set [] i ts = omega arith
sizes_set (us ∷ table) zero ts = omega arith
sizes_set (us ∷ table) (suc i) ts = omega (arith, sizes_set table i ts)

-- a table keeps its length, and what holds of each place, as entries are put in, and grows by their tokens
module _ (letters : ℕ) where
  length_laid : (es : List Entry) (table : List (List Token)) → length (laid letters table es) ≡ length table
  length_laid [] table = refl
  length_laid (e ∷ es) table = length_laid es _ ∙ length-set table _ e.tokens

  all_laid : (P : List Token → Type 0) (es : List Entry) (table : List (List Token)) → AllByRecursion P table → AllByRecursion (λ e. P e.tokens) es → AllByRecursion P (laid letters table es)
  all_laid P [] table old new = old
  all_laid P (e ∷ es) table old new = all_laid P es _ (All-set P table _ e.tokens new.0 old) new.1

  sizes_laid : (es : List Entry) (table : List (List Token)) → sizes (laid letters table es) ≤ sizes table + tokens_in es
  sizes_laid [] table = omega arith
  sizes_laid (e ∷ es) table =
      let i = e.location * letters + e.letter in omega (arith, sizes_laid es (set table i e.tokens), sizes_set table i e.tokens)

sizes_empty : (n : ℕ) → sizes (replicate n []) ≡ 0
sizes_empty zero = refl
sizes_empty (suc n) = omega (arith, sizes_empty n)

proper_entries : (h : Head) (es : List Entry) → AllByRecursion (Proper h) es → AllByRecursion Small es → AllByRecursion (λ e. proper h e.tokens ≡ true) es
proper_entries h [] good small = tt
proper_entries h (e ∷ es) good small =
    let formula = good.0.formula in
    (proper_from h e.tokens (λ _. spells_shaped formula.0 e.tokens formula.1) good.0.allowed small.0, proper_entries h es good.1 small.1)

pub denotes_valid : (asked : Asked) (xs : List ℕ) (c : Content) → AllByRecursion (λ b. b < 256) xs → Denotes asked xs c → Valid c
denotes_valid asked xs c bytes d =
    let h = c.head in
    let places = h.locations * h.letters in
    let P : List Token → Type 0 = λ ts. proper h ts ≡ true in
    let entries = proper_entries h d.entries d.proper (fills_small xs 1 (blocks xs - 1) d.entries bytes d.filled) in
    let all = all_laid h.letters P d.entries (replicate places []) (recursion_from_All P _ (All-replicate P places [] refl)) entries in
    record {
      fields = d.fields;
      accepting = subst⁻¹ (λ g. g.accepting < 2 ^ g.locations) d.says (mod_below _ _ (pow_pos _));
      long = ap length d.formulas ∙ length_laid h.letters d.entries _ ∙ length-replicate places [];
      formulas = (decides_every (proper h) c.formulas).1 (subst⁻¹ (AllByRecursion P) d.formulas all);
      tokens = subst⁻¹ (λ table. sizes table ≤ 4096) d.formulas (omega (arith, sizes_laid h.letters d.entries (replicate places []), sizes_empty places, d.tokens));
    }
