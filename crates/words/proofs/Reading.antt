-- Reading a formula's tokens leaves its text over the parts that waited.
use Rattle.std.proofs.Common.{◌≡◌, ℕ, ◌≤◌, List, [], ◌∷◌, ◌++◌, map, reverse, length, drop, sym, refl, ap, ◌∙◌, append_assoc, append-nil, arith}
use Rattle.std.proofs.lemmas.List.{map_push, reverse-append, length-reverse, length-map, at_drop_all}
use Rattle.formula.specs.declared.token.Token.{Token}
use Rattle.formula.specs.declared.token.Token.TheVariants.{And, Or}
use Rattle.formula.specs.Formulas.{Formula, at, always, never, both, either, postfix}
use Rattle.formula.specs.Machine.{Spells}
use Rattle.words.specs.declared.infix.Part.{Part}
use Rattle.words.specs.Infix.{joined, text, SpellNone}
use Rattle.words.specs.Parts.{Shown, shown, waiting, read_parts}

pub waiting_push : (ps : List Part) (p : Part) → waiting (ps ++ p ∷ []) ≡ shown p ∷ waiting ps
waiting_push ps p = ap reverse (map_push shown ps p) ∙ reverse-append (map shown ps) (shown p ∷ [])

-- what is left of ts, read over the parts ps, gives what all of them give
abbrev pub Sofar : List Token → ℕ → List Shown → Type 0
Sofar ts i ps = read_parts (drop i ts) ps ≡ read_parts ts []

pub no_more : (ts : List Token) (i : ℕ) (ps : List Shown) → Sofar ts i ps → length ts ≤ i → ps ≡ read_parts ts []
no_more ts i ps old h = sym (at_drop_all (λ us. read_parts us ps) ts i h) ∙ old

read_postfix : (f : Formula) (ts : List Token) (ps : List Shown) → read_parts (postfix f ++ ts) ps ≡ read_parts ts ((text f, joined f) ∷ ps)
read_postfix (at l) ts ps = refl
read_postfix always ts ps = refl
read_postfix never ts ps = refl
read_postfix (both f g) ts ps =
    simp append_assoc (read_postfix f (postfix g ++ And ∷ ts) ps ∙ read_postfix g (And ∷ ts) ((text f, joined f) ∷ ps))
read_postfix (either f g) ts ps =
    simp append_assoc (read_postfix f (postfix g ++ Or ∷ ts) ps ∙ read_postfix g (Or ∷ ts) ((text f, joined f) ∷ ps))

read_spelled : (f : Formula) (ts : List Token) → Spells f ts → read_parts ts [] ≡ (text f, joined f) ∷ []
read_spelled f ts sp =
    ap (λ us. read_parts us []) (sym (append-nil (postfix f) ∙ sp.spelled)) ∙ read_postfix f [] []

abbrev newest : List Shown → List ℕ
newest [] = []
newest (x ∷ xs) = x.0

module _ (ts : List Token) (ps : List Part) (all : waiting ps ≡ read_parts ts []) where
  pub newest_text : (least : List Part) (p : Part) → ps ≡ least ++ p ∷ [] → (f : Formula) → Spells f ts → (shown p).0 ≡ text f
  newest_text least p e f sp = ap newest (sym (ap waiting e ∙ waiting_push least p) ∙ all ∙ read_spelled f ts sp)

  pub none_waits : length ps ≡ 0 → SpellNone ts
  none_waits h f sp =
      omega (arith, length-reverse (map shown ps), length-map ps shown, ap length (all ∙ read_spelled f ts sp))
