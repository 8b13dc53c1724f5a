use Rattle.std.proofs.Common.{◌≡◌}
use Rattle.sheet.specs.Rules.{rule_content}
use Rattle.rule_graph.specs.Alternating.{alternating}
use Rattle.rule_graph.specs.RuleGraph.{those}
use Rattle.rule_graph.proofs.locations.satisfied.Given as goal

-- of the locations so far
abbrev pub invariant-loop-l : goal.invariant-loop-l
invariant-loop-l l = l.found ≡ those l.l (λ k. (alternating (rule_content l.rule)).satisfies l.letter k l.set)
