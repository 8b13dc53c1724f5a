-- Each token read keeps what the tokens give, and so the answer is their value.
use Rattle.std.proofs.Common.{◌≡◌, ℕ, ◌+◌, ◌<◌, ◌≤◌, Bool, List, length, get_or, drop, Some, Option, sym, ap, ◌∙◌, subst}
use Rattle.std.proofs.lemmas.List.{at_drop_more, at_drop_all}
use Rattle.formula.specs.declared.token.Token.{Token}
use Rattle.formula.specs.declared.token.Token.TheVariants.{Location}
use Rattle.formula.specs.Machine.{step, run, then_run, only, evaluated, Values}
use Rattle.formula.specs.Sets.{has}
use Rattle.formula.proofs.Spelling.{evaluated_values}
use Rattle.formula.proofs.evaluate.evaluate.Goals as goal

-- the token at i is read first of those that are left
reads : (s : ℕ → Bool) (ts : List Token) (i : ℕ) (vs : List Bool) → i < length ts → run s (drop i ts) vs ≡ then_run (run s (drop (i + 1) ts)) (step s (get_or ts i (Location 0)) vs)
reads s ts i vs h = at_drop_more (λ us. run s us vs) ts i (Location 0) h

ends : (s : ℕ → Bool) (ts : List Token) (i : ℕ) (vs : List Bool) → length ts ≤ i → run s (drop i ts) vs ≡ Some vs
ends s ts i vs h = at_drop_all (λ us. run s us vs) ts i h

means : (ts : List Token) (set : ℕ) (r : Option Bool) → r ≡ evaluated (has set) ts → Values ts set r
means ts set r e = subst (Values ts set) (sym e) (evaluated_values ts set)

pub loop-token-preserved : goal.loop-token-preserved
loop-token-preserved c =
    sym (reads _ _ _ _ c.loop-token-test.true ∙ ap (then_run _) c.in_ok-stack.ensures) ∙ c.loop-token.invariant

pub returns-in_err-stack : goal.returns-in_err-stack
returns-in_err-stack c =
    let none = sym c.loop-token.invariant ∙ reads _ _ _ _ c.loop-token-test.true ∙ ap (then_run _) c.in_err-stack.ensures in
    let value = c.from_residual.ensures ∙ sym (ap only none) in
    record { value = value; means = means _ _ _ value }

pub returns : goal.returns
returns c =
    let all = sym (ends _ _ _ _ c.loop-token-test.false) ∙ c.loop-token.invariant in
    let value = c.only.ensures ∙ ap only all in
    record { value = value; means = means _ _ _ value }
