use Rattle.std.proofs.Common.{ℕ, ◌*◌, ◌%◌, ◌^◌, ◌<◌, sym, refl, ap, ◌∙◌, add-one, arith}
use lib.Bits.{bit_or}
use Rattle.sheet.specs.Rules.{rule_content}
use Rattle.rule_graph.specs.Alternating.{alternating}
use Rattle.rule_graph.specs.RuleGraph.{those}
use Rattle.rule_graph.specs.Words.{valid, those_more, those_less}
use Rattle.rule_graph.proofs.locations.satisfied.Goals as goal
use Rattle.rule_graph.proofs.locations.satisfied.Goals.{then-satisfied, else-satisfied}

pub loop-l-init : goal.loop-l-init
unfolding those
loop-l-init c = refl

pub overflow_shl-found : goal.overflow_shl-found
overflow_shl-found c = let f = (valid c.args.rule.now).fields in omega (arith, c.locations-l-end.ensures, f.locations)

pub loop-l-preserved : goal.loop-l-preserved
loop-l-preserved c =
    let rule = c.args.rule.now in
    let l = c.loop-l.l in
    let test = (alternating (rule_content rule)).satisfies c.args.letter in
    let f = λ (k : ℕ). test k c.args.set in
    let small : l < 32 = omega (arith, c.locations-l-end.ensures, (valid rule).fields.locations) in
    rw (add-one l)
    (elim c.if-satisfied.branch [
      | then-satisfied w ↦ w.found-is ∙ ap (λ s. bit_or s ((1 * 2 ^ l) % 2 ^ 32)) c.loop-l.invariant ∙ those_more l f small (sym c.satisfied.ensures.value ∙ w.if-satisfied.true)
      | else-satisfied w ↦ w.found-is ∙ c.loop-l.invariant ∙ those_less l f (sym c.satisfied.ensures.value ∙ w.if-satisfied.false)
    ])
