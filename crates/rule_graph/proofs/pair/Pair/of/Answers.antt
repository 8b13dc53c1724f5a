use Rattle.std.proofs.Common.{sym, ap, ◌∙◌, arith}
use lib.Bits.{bit_and}
use Rattle.sheet.specs.Rules.{rule_content}
use Rattle.rule_graph.specs.Alternating.{alternating}
use Rattle.rule_graph.proofs.Questions.{pair_by, not_locations, not_inside, not_apart}
use Rattle.rule_graph.proofs.pair.Pair.of.Goals as goal
use Rattle.rule_graph.proofs.pair.Pair.of.Goals.{else-held-everything-via-then-held-everything+then-within+else-owed-accepting-eq0, else-held-everything-via-then-held-everything+else-within, else-held-everything-via-else-held-everything}

pub invariant_of-result : goal.invariant_of-result
invariant_of-result c =
    let r = alternating (rule_content c.args.rule.now) in
    let masks = c.args.masks in
    record {
      pair =
          pair_by r masks (omega (arith, c.everything.ensures, c.if-held-everything.true)) (sym c.if-within.ensures) (ap (bit_and masks.owed) (sym c.accepting.ensures) ∙ c.if-owed-accepting-eq0.true);
    }

pub returns-else-held-everything : goal.returns-else-held-everything
returns-else-held-everything c =
    let r = alternating (rule_content c.args.rule.now) in
    let masks = c.args.masks in
    elim c.else-held-everything.branch [
      | else-held-everything-via-then-held-everything+then-within+else-owed-accepting-eq0 w ↦
          not_apart r masks (λ e. w.if-owed-accepting-eq0.false (ap (bit_and masks.owed) w.accepting.ensures ∙ e))
      | else-held-everything-via-then-held-everything+else-within w ↦ not_inside r masks (sym w.if-within.ensures)
      | else-held-everything-via-else-held-everything w ↦ not_locations r masks (omega (arith, c.everything.ensures, w.if-held-everything.false))
    ]
