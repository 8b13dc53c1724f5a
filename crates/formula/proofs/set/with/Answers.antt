-- A location below 32 sets its bit, and none past them has one.
use Rattle.std.proofs.Common.{sym, ap, ◌∙◌, mod-eq_of_lt}
use lib.Bits.{bit_or}
use Rattle.std.proofs.lemmas.Nat.{one_shl, or_lt, pow_below}
use Rattle.formula.proofs.Sets.{insert_past}
use Rattle.formula.proofs.set.with.Goals as goal

pub returns-then-location-lt32 : goal.returns-then-location-lt32
returns-then-location-lt32 c =
    let small = c.if-location-lt32.true in
    ap (bit_or c.args.set) (one_shl c.args.location 32 small)
    ∙ sym (mod-eq_of_lt (or_lt 32 _ _ c.ranges.set.fits (pow_below _ 32 small)))

pub returns-else-location-lt32 : goal.returns-else-location-lt32
returns-else-location-lt32 c = sym (insert_past 32 _ _ c.ranges.set.fits c.if-location-lt32.false)
