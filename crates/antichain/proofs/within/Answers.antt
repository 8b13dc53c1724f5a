-- The library's test over the states is the test of covering.
use Rattle.std.proofs.Common.{◌&&◌, rules, refl, ◌∙◌}
use Rattle.std.specs.List.{list_all}
use Rattle.std.proofs.lemmas.Iterator.{YieldsList-from_slice}
use Rattle.std.proofs.lemmas.Iterator.Search.{all_from_yields_List}
use Rattle.std.proofs.lemmas.List.Recursion.{same_from_clauses}
use Rattle.graph.specs.Adding.{covered, all_covered}
use Rattle.antichain.proofs.within.Goals as goal

pub returns : goal.returns
returns g c =
    let below = (g.G.Graph.means c.args.graph.now).below in
    let others = c.args.others.now in
    all_from_yields_List (λ a. covered below a others) _ _ c.all.result c.all.ensures.ran (YieldsList-from_slice c.args.states.now cc) (λ x b q k. search rules)
    ∙ same_from_clauses (list_all (λ a. covered below a others)) (λ l. all_covered below l others) (λ a t. covered below a others && t) refl (λ _ _. refl) (λ _ _. refl) c.args.states.now
