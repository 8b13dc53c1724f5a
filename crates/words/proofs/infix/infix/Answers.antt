-- Each token read keeps what the tokens give, so at the end the formula's text alone waits.
use Rattle.std.proofs.Common.{◌≡◌, ℕ, ◌+◌, Bool, true, is_some, List, [], ◌++◌, length, option_to_list, Some, None, MatchOption, IsSomeAnd, vec_items, vec_len, String, Global, string_bytes, Option, refl, sym, ◌∙◌}
use Rattle.std.proofs.lemmas.Bool.{false≢true}
use Rattle.formula.specs.declared.token.Token.{Token}
use Rattle.formula.specs.Formulas.{Formula}
use Rattle.formula.specs.Machine.{Spells}
use Rattle.words.specs.declared.infix.Part.{Part}
use Rattle.words.specs.Infix.{SpellNone, SpellText}
use Rattle.words.specs.Parts.{shown, waiting, read_parts}
use Rattle.words.proofs.Reading.{no_more, newest_text, none_waits}
use Rattle.words.proofs.infix.infix.Goals as goal

some_value : (o : Option Bool) → is_some o ≡ true → (v : Bool) × (o ≡ Some v)
some_value None h = absurd (false≢true h)
some_value (Some v) h = (v, refl)

module _ (ts : List Token) (ps left : List Part) (all : waiting ps ≡ read_parts ts []) (formula : (f : Formula) × Spells f ts) where
  last : (p : Option Part) (t : Option (String Global)) (n m : ℕ) → n ≡ length ps → ps ≡ left ++ option_to_list p → MatchOption p ((n ≡ 0) × (m ≡ 0)) (λ _. m + 1 ≡ n) → MatchOption p (t ≡ None) (λ x. IsSomeAnd t (λ s. string_bytes s ≡ (shown x).0)) → MatchOption t (SpellNone ts) (λ s. SpellText ts (string_bytes s))
  last None t n m long e none is = rw is (none_waits ts ps all (sym long ∙ none.0))
  last (Some p) None n m long e none is = absurd is
  last (Some p) (Some t) n m long e none is = record { spelled = formula; right = λ f sp. is ∙ newest_text ts ps all left p e f sp }

pub returns : goal.returns
returns c =
    let tokens = c.args.tokens.now in
    let parts = vec_items c.loop-token.parts in
    let all = no_more tokens c.loop-token.token-index (waiting parts) c.loop-token.invariant c.loop-token-test.false in
    let value = some_value c.evaluate.result c.if-is_none.ensures in
    last tokens parts (vec_items c.pop.new.self) all (c.evaluate.ensures.means.spelled value.0 value.1) c.pop.result c.map.result
    (vec_len c.loop-token.parts) (vec_len c.pop.new.self) c.loop-token.parts.ok.0 c.pop.ensures.items c.pop.ensures.cases c.map.ensures.cases
