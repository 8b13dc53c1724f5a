-- The words, joined by spaces, are the text of the members.
use Rattle.std.proofs.Common.{◌≡◌, ℕ, false, true, eqb, List, [], ◌∷◌, ◌++◌, map, length, string_bytes, decimal, vec_items, vec_len, codes, refl, sym, ap, ◌∙◌, arith}
use Rattle.std.proofs.lemmas.Bool.{false≢true, ne_eqb}
use Rattle.std.proofs.lemmas.List.{length-map}
use Rattle.std.proofs.lemmas.List.Folds.{flat_map-map}
use Rattle.std.proofs.lemmas.Result.{IfOk-weaker}
use Rattle.std.specs.List.{join_by}
use Rattle.formula.specs.Unions.{members}
use Rattle.words.specs.Members.{spaced, or_none}
use Rattle.words.proofs.set.members.Goals as goal

join_by-map : {W : Type 0} (text : W → List ℕ) (gap : List ℕ) (ws : List W) → join_by text gap ws ≡ join_by (λ t. t) gap (map text ws)
join_by-map text gap [] = refl
join_by-map text gap (w ∷ ws) = ap (λ ts. text w ++ ts) (sym (flat_map-map (λ t. gap ++ t) text ws))

module _ {W : Type 0} (text : W → List ℕ) (ws : List W) (ls : List ℕ) (same : map text ws ≡ map decimal ls) where
  joined : join_by text (codes " ") ws ≡ spaced ls
  joined = join_by-map text (codes " ") ws ∙ ap (join_by (λ t. t) (codes " ")) same ∙ sym (join_by-map decimal (codes " ") ls)

  as_many : length ws ≡ length ls
  as_many = sym (length-map ws text) ∙ ap length same ∙ length-map ls decimal

some : (ls : List ℕ) (n : ℕ) → n ≡ length ls → eqb n 0 ≡ false → or_none ls ≡ spaced ls
some [] n e h = absurd (false≢true (sym h ∙ ap (λ k. eqb k 0) e))
some (l ∷ ls) n e h = refl

none : (ls : List ℕ) (n : ℕ) → n ≡ length ls → eqb n 0 ≡ true → or_none ls ≡ codes "none"
none [] n e h = refl
none (l ∷ ls) n e h = absurd (false≢true (sym (ne_eqb n 0 (λ z. omega (arith, e))) ∙ h))

pub returns : goal.returns
returns c =
    let ls = members c.args.locations c.args.set in
    let words = c.in_ok-words.words in
    let same = c.in_ok-words.ensures in
    let as_many = as_many string_bytes (vec_items words) ls same in
    let text = joined string_bytes (vec_items words) ls same ∙ sym (some ls (vec_len words) (words.ok.0 ∙ as_many) (sym c.is_empty.ensures ∙ c.if-is_empty.false)) in
    IfOk-weaker c.join.result _ _ (λ s e. e ∙ ap (join_by string_bytes (codes " ")) c.deref.ensures.value ∙ text) c.join.ensures.ok

pub returns-then-is_empty : goal.returns-then-is_empty
returns-then-is_empty c =
    let ls = members c.args.locations c.args.set in
    let words = c.in_ok-words.words in
    let as_many = as_many string_bytes (vec_items words) ls c.in_ok-words.ensures in
    let text = none ls (vec_len words) (words.ok.0 ∙ as_many) (sym c.is_empty.ensures ∙ c.if-is_empty.true) in
    IfOk-weaker c.from_str.result _ _ (λ s e. e ∙ sym text) c.from_str.ensures.ok
