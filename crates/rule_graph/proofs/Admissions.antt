-- The graph of a sound rule makes what the rule admits, and has a loop where the rule admits something. Assumes nothing.
use Rattle.behaviour.specs.Behaviours.{Behaviour, Proper, Makes}
use Rattle.behaviour.proofs.Lassos.{lasso}
use Rattle.behaviour.proofs.Repeats.{loop_makes, makes_loop}
use Rattle.rule_graph.specs.Admission.{Admission}
use Rattle.rule_graph.specs.Alternating.{Alternating, Sound}
use Rattle.rule_graph.specs.Plans.{Admits}
use Rattle.rule_graph.specs.RuleGraph.{rule_means}
use Rattle.rule_graph.proofs.Debts.{admits_makes}
use Rattle.rule_graph.specs.Laws.{rule_lawful}
use Rattle.rule_graph.proofs.Picks.{makes_admits}

module _ (r : Alternating) (sound : Sound r) where
  admits : (w : Behaviour) → Proper r.letters w → Makes (rule_means r) w → Admits r w
  admits w p g = makes_admits r sound w p g (lasso (rule_means r) (rule_lawful r sound) w p g)

  pub admission : Admission r
  admission =
      record {
        admits = admits;
        makes = admits_makes r sound;
        plan = λ l. let s = loop_makes (rule_means r) (rule_lawful r sound) l in (s.0, s.1, admits s.0 s.1 s.2);
        loop = λ s. makes_loop (rule_means r) (rule_lawful r sound) (s.0, s.1, admits_makes r sound s.0 s.1 s.2);
      }
