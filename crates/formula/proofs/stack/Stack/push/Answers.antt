-- Below 32 values one more is pushed.
use Rattle.std.proofs.Common.{◌<◌, length, Some, sym, ap, ◌∙◌, arith}
use Rattle.formula.proofs.Waiting.{length_values, pushed_below}
use Rattle.formula.proofs.stack.Stack.push.Goals as goal

pub put-requires : goal.put-requires
put-requires c = rw (← c.self.view_is, length_values) (omega arith)

pub returns-then-self-lt-MOST : goal.returns-then-self-lt-MOST
returns-then-self-lt-MOST c =
    let few : length c.args.self < 32 = rw (← c.self.view_is, length_values) (omega arith) in
    pushed_below _ _ few ∙ ap Some (sym c.put.ensures)
