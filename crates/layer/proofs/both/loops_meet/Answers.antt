use Rattle.std.proofs.Common.{◌↔◌, vec_items}
use Rattle.graph.specs.Walks.{Loop}
use Rattle.model_graph.specs.ModelGraph.{model_means}
use Rattle.layer.specs.Both.{MeetsBoth}
use Rattle.layer.specs.Layers.{model_head}
use Rattle.layer.specs.Laws.{laid_lawful}
use Rattle.layer.proofs.Shared.{loops_meet_lem}
use Rattle.layer.proofs.Fitted.{as_fitted}
use Rattle.layer.proofs.both.loops_meet.Goals as goal

pub returns : goal.returns
returns g c t e =
    let m = g.G.Graph.means c.args.layer.now.below in
    as_fitted c.args.layer.now.model m t e (λ x. Loop x ↔ MeetsBoth (model_means t) m) (λ fits. loops_meet_lem (model_head t) (vec_items t.cells) m (laid_lawful t m (g.met.G.Graph.lawful c.args.layer.now.below) fits))
