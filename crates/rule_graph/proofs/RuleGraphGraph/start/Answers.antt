use Rattle.std.proofs.Common.{◌^◌, ◌<◌, ap, ◌∙◌, arith}
use Rattle.std.proofs.lemmas.Nat.{one_shl}
use Rattle.rule_graph.specs.RuleGraph.{pair}
use Rattle.rule_graph.specs.Words.{valid}
use Rattle.rule_graph.proofs.RuleGraphGraph.start.Goals as goal

pub overflow_shl-result : goal.overflow_shl-result
overflow_shl-result c = let f = (valid c.args.self.now.rule).fields in omega (arith, c.initial.ensures, f.initial, f.locations)

pub returns : goal.returns
returns c =
    let f = (valid c.args.self.now.rule).fields in
    let small : c.initial.result < 32 = omega (arith, c.initial.ensures, f.initial, f.locations) in
    ap (λ s. pair s 0) (one_shl c.initial.result 32 small ∙ ap (λ k. 2 ^ k) c.initial.ensures)
