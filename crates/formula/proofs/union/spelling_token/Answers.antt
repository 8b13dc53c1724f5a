-- A token stands with its member, as its location or as its connective.
use Rattle.std.proofs.Common.{◌≡◌, ◌%◌, sym, arith}
use Rattle.formula.proofs.Spelled.{token_none, token_first, token_odd, token_even}
use Rattle.formula.proofs.union.spelling_token.Goals as goal
use Rattle.formula.proofs.union.spelling_token.Goals.{then-i-gt0+else-i-eq0, else-i-gt0}

pub returns-in-None : goal.returns-in-None
returns-in-None c = sym (token_none c.args.locations c.args.set c.args.i (sym c.in-None.ensures))

pub returns-in-Some : goal.returns-in-Some
returns-in-Some c =
    let some = sym c.in-Some.ensures in
    sym (token_even c.args.locations c.args.set c.args.i _ some c.if-i-gt0.true c.if-i-eq0.true)

pub returns-in-Some-2 : goal.returns-in-Some-2
returns-in-Some-2 c =
    let some = sym c.in-Some.ensures in
    elim c.if-i-gt0.branch [
      | then-i-gt0+else-i-eq0 w ↦
          let odd : c.args.i % 2 ≡ 1 = omega (arith, w.if-i-eq0.false) in
          sym (token_odd c.args.locations c.args.set c.args.i _ some odd)
      | else-i-gt0 w ↦
          let first : c.args.i ≡ 0 = omega (arith, w.if-i-gt0.false) in
          sym (token_first c.args.locations c.args.set c.args.i _ some first)
    ]
