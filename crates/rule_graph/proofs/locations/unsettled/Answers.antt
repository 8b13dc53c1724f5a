use Rattle.std.proofs.Common.{◌-◌, ap₂, ◌∙◌}
use lib.Bits.{bit_and}
use Rattle.sheet.specs.Rules.{rule_content}
use Rattle.rule_graph.specs.Alternating.{alternating}
use Rattle.rule_graph.specs.Words.{valid, known_unsettled_word}
use Rattle.rule_graph.proofs.locations.unsettled.Goals as goal

pub returns : goal.returns
returns c =
    let rule = c.args.rule.now in
    ap₂ (λ all accepting. bit_and (bit_and c.args.set all) (4294967295 - accepting)) c.everything.ensures c.accepting.ensures
    ∙ known_unsettled_word (alternating (rule_content rule)) (valid rule).fields.locations (valid rule).accepting c.args.set
