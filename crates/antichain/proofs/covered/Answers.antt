-- The library's test over the states is the test of covering.
use Rattle.std.proofs.Common.{◌||◌, rules, refl, ◌∙◌}
use Rattle.std.specs.List.{list_any}
use Rattle.std.proofs.lemmas.Iterator.{YieldsList-from_slice}
use Rattle.std.proofs.lemmas.Iterator.Search.{any_from_yields_List}
use Rattle.std.proofs.lemmas.List.Recursion.{same_from_clauses}
use Rattle.graph.specs.Adding.{covered}
use Rattle.antichain.proofs.covered.Goals as goal

pub returns : goal.returns
returns g c =
    let test = (g.G.Graph.means c.args.graph.now).below c.args.c in
    any_from_yields_List test _ _ c.any.result c.any.ensures.ran (YieldsList-from_slice c.args.states.now cc) (λ x b q k. search rules)
    ∙ same_from_clauses (list_any test) (covered (g.G.Graph.means c.args.graph.now).below c.args.c) (λ x t. test x || t) refl (λ _ _. refl) (λ _ _. refl) c.args.states.now
