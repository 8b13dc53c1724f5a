-- A bit of the mask is a member, and no location past its 32 bits is one.
use Rattle.std.proofs.Common.{◌≡◌, ◌/◌, ◌^◌, eqb, ap, ◌∙◌, le_trans, pow_mono, le-ltb}
use native.Mathlib.Nat.{div-eq_of_lt}
use Rattle.std.proofs.lemmas.Nat.{and_mask}
use Rattle.formula.proofs.set.contains.Goals as goal

pub returns-then-location-lt32 : goal.returns-then-location-lt32
returns-then-location-lt32 c = ap (λ n. eqb n 1) (and_mask _ 1)

pub returns-else-location-lt32 : goal.returns-else-location-lt32
returns-else-location-lt32 c =
    let past : c.args.set / 2 ^ c.args.location ≡ 0 = div-eq_of_lt (le_trans c.ranges.set.fits (pow_mono c.if-location-lt32.false)) in
    le-ltb _ 32 c.if-location-lt32.false ∙ simp past
