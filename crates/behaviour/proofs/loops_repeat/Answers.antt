-- Both ways hold of every graph that keeps the laws.
use Rattle.behaviour.proofs.Repeats.{makes_loop, loop_makes}
use Rattle.behaviour.proofs.loops_repeat.Goals as goal

pub returns : goal.returns
returns g c =
    let m = g.G.Graph.means c.args.graph.now in
    let l = g.met.G.Graph.lawful c.args.graph.now in
    (loop_makes m l, makes_loop m l)
