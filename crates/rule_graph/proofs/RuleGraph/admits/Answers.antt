use Rattle.sheet.specs.Rules.{rule_content}
use Rattle.rule_graph.specs.Alternating.{alternating}
use Rattle.rule_graph.proofs.Admissions.{admission}
use Rattle.rule_graph.specs.Words.{valid, content_sound}
use Rattle.rule_graph.proofs.RuleGraph.admits.Goals as goal

pub returns : goal.returns
returns c = let rule = c.args.self.now.rule in admission (alternating (rule_content rule)) (content_sound (rule_content rule) (valid rule))
