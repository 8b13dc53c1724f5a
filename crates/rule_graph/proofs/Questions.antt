-- How the questions about a state are answered: whether two masks are a pair, and what its slots hold. Assumes nothing.
use Rattle.std.proofs.Common.{◌≡◌, ◌^◌, ◌<◌, ◌≤◌, true, false, ltb, arith, pow_pos}
use lib.Bits.{bit_and}
use Rattle.std.proofs.lemmas.Bool.{and_from, and_left, and_right, lt-ltb, le-ltb, eq-eqb, ne_eqb}
use Rattle.rule_graph.specs.declared.masks.Masks.{Masks}
use Rattle.rule_graph.specs.Alternating.{Alternating}
use Rattle.rule_graph.specs.RuleGraph.{all, is_pair, part}
use Rattle.rule_graph.specs.Words.{all_ones}

module _ (r : Alternating) (p : Masks) where
  pub pair_by : p.held ≤ all r → part p.owed p.held ≡ true → bit_and p.owed r.accepting ≡ 0 → is_pair r p ≡ true
  pair_by held inside apart = and_from _ _ (lt-ltb _ _ (omega (arith, all_ones r.locations, pow_pos r.locations))) (and_from _ _ inside (eq-eqb _ 0 apart))

  pub not_locations : all r < p.held → is_pair r p ≡ false
  not_locations past = and_left (ltb p.held (2 ^ r.locations)) _ (le-ltb p.held (2 ^ r.locations) (omega (arith, all_ones r.locations)))

  pub not_inside : part p.owed p.held ≡ false → is_pair r p ≡ false
  not_inside outside = and_right (ltb p.held (2 ^ r.locations)) _ (and_left (part p.owed p.held) _ outside)

  pub not_apart : (bit_and p.owed r.accepting ≡ 0 → ⊥) → is_pair r p ≡ false
  not_apart ne = and_right (ltb p.held (2 ^ r.locations)) _ (and_right (part p.owed p.held) _ (ne_eqb _ 0 ne))
