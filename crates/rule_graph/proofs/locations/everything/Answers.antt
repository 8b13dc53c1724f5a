use Rattle.std.proofs.Common.{◌-◌, ◌<◌, true, sym, ap, ◌∙◌, arith, pow_pos}
use Rattle.std.proofs.lemmas.Nat.{one_shl}
use Rattle.rule_graph.specs.RuleGraph.{those}
use Rattle.rule_graph.specs.Words.{valid, all_ones}
use Rattle.rule_graph.proofs.locations.everything.Goals as goal

pub overflow_shl-result : goal.overflow_shl-result
overflow_shl-result c = let f = (valid c.args.rule.now).fields in omega (arith, c.locations-locations.ensures, f.locations)

pub overflow_sub-result : goal.overflow_sub-result
overflow_sub-result c =
    let f = (valid c.args.rule.now).fields in
    let n = c.locations-locations.result in
    let small : n < 32 = omega (arith, c.locations-locations.ensures, f.locations) in
    omega (arith, one_shl n 32 small, pow_pos n)

pub returns-then-locations-eq32 : goal.returns-then-locations-eq32
returns-then-locations-eq32 c = all_ones 32 ∙ ap (λ n. those n (λ _. true)) (sym c.if-locations-eq32.true ∙ c.locations-locations.ensures)

pub returns-else-locations-eq32 : goal.returns-else-locations-eq32
returns-else-locations-eq32 c =
    let f = (valid c.args.rule.now).fields in
    let n = c.locations-locations.result in
    let small : n < 32 = omega (arith, c.locations-locations.ensures, f.locations) in
    ap (λ p. p - 1) (one_shl n 32 small) ∙ all_ones n ∙ ap (λ k. those k (λ _. true)) c.locations-locations.ensures
