use Rattle.std.proofs.Common.{ap, ◌∙◌}
use lib.Bits.{bit_and, bit_or}
use Rattle.sheet.specs.Rules.{rule_content}
use Rattle.rule_graph.specs.Alternating.{alternating}
use Rattle.rule_graph.specs.Pairs.{pair_is, owed_small}
use Rattle.rule_graph.specs.Words.{settling_word}
use Rattle.rule_graph.proofs.pair.Pair.settling.Goals as goal

pub returns : goal.returns
returns c =
    let p = c.args.self.now in
    let r = alternating (rule_content p.rule.now) in
    let is = pair_is r p.masks p.pair in
    ap (λ a. bit_or p.masks.owed (bit_and p.masks.held a)) c.accepting.ensures ∙ settling_word r p.masks.held p.masks.owed is.small (owed_small r p.masks is)
