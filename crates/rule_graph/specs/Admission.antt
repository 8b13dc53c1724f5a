-- What the graph of a rule has to do with the behaviours that the rule admits. Assumes nothing.
use Rattle.behaviour.specs.Behaviours.{Behaviour, Proper, Makes}
use Rattle.graph.specs.Walks.{Loop}
use Rattle.rule_graph.specs.Alternating.{Alternating}
use Rattle.rule_graph.specs.Plans.{Admits, AdmitsSome}
use Rattle.rule_graph.specs.RuleGraph.{rule_means}

pub record Admission (r : Alternating) : Type 0 where
  -- the graph makes exactly the behaviours that the rule admits
  pub admits : (w : Behaviour) → Proper r.letters w → Makes (rule_means r) w → Admits r w
  pub makes : (w : Behaviour) → Proper r.letters w → Admits r w → Makes (rule_means r) w
  -- and it has an accepting loop exactly when some repeating behaviour has an accepting plan
  pub plan : Loop (rule_means r) → AdmitsSome r
  pub loop : AdmitsSome r → Loop (rule_means r)
