use Rattle.std.proofs.Common.{◌≡◌, ◌+◌, ◌*◌, ◌<◌, ◌≤◌, ap, arith}
use Rattle.std.proofs.lemmas.List.{at_drop_all}
use Rattle.inspect.specs.Format.{weighted}
use Rattle.inspect.proofs.Sums.{early, product, more}
use Rattle.inspect.proofs.block.check_sum.Goals as goal

pub overflow_cast-sum : goal.overflow_cast-sum
overflow_cast-sum c = omega (arith, early _ _ _ c.before_check-b-items.ensures c.type_inv.block c.loop-i-test.true)

pub overflow_add-sum : goal.overflow_add-sum
overflow_add-sum c = omega (arith, early _ _ _ c.before_check-b-items.ensures c.type_inv.block c.loop-i-test.true)

-- one product, and the sum so far
bounded : (c : goal.After-from) → (c.loop-i.i < 510) × ((c.loop-i.i + 1) * c.from.result ≤ 130050)
bounded c =
    let front = c.before_check-b-items.ensures in
    (early _ _ _ front c.type_inv.block c.loop-i-test.true, rw c.from.ensures (product _ _ _ front c.type_inv.block c.loop-i-test.true))

pub overflow_mul-sum : goal.overflow_mul-sum
overflow_mul-sum c = omega (arith, (bounded c).1)

pub overflow_add-sum-in-loop-i : goal.overflow_add-sum-in-loop-i
overflow_add-sum-in-loop-i c = omega (arith, (bounded c).0, (bounded c).1)

pub loop-i-preserved : goal.loop-i-preserved
loop-i-preserved c = (
  rw c.from.ensures (more _ _ _ c.before_check-b-items.ensures c.type_inv.block c.loop-i-test.true _ c.loop-i.invariant.0),
  omega (arith, (bounded c).1),
)

pub returns : goal.returns
returns c =
    let none : weighted c.loop-i.i _ ≡ 0 = at_drop_all (weighted c.loop-i.i) c.before_check-b-items.result.now c.loop-i.i c.loop-i-test.false in
    omega (arith, c.loop-i.invariant.0, none, ap (weighted 0) c.before_check-b-items.ensures)
