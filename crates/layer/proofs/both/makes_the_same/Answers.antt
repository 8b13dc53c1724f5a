use Rattle.std.proofs.Common.{◌↔◌, vec_items}
use Rattle.behaviour.specs.Behaviours.{Behaviour, Makes}
use Rattle.model_graph.specs.ModelGraph.{model_means}
use Rattle.layer.specs.Layers.{model_head}
use Rattle.layer.proofs.Shared.{makes_the_same_lem}
use Rattle.layer.proofs.Fitted.{as_fitted}
use Rattle.layer.proofs.both.makes_the_same.Goals as goal

pub returns : goal.returns
returns g c t e =
    let m = g.G.Graph.means c.args.layer.now.below in
    as_fitted c.args.layer.now.model m t e (λ x. (w : Behaviour) → Makes x w ↔ (Makes (model_means t) w × Makes m w)) (λ fits w. makes_the_same_lem (model_head t) (vec_items t.cells) m w)
