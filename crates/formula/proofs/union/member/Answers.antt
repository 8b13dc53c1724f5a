-- Member j is the one with j members below it.
use Rattle.std.proofs.Common.{◌≡◌, ◌≤◌, length, sym, ap, ◌∙◌, arith}
use Rattle.std.specs.List.{slice_get}
use Rattle.std.proofs.lemmas.Option.{slice_get_past}
use Rattle.std.proofs.lemmas.Bool.Decides.{nat_tests}
use Rattle.formula.specs.Unions.{members}
use Rattle.formula.proofs.Unions.{length_members_more, member_at}
use Rattle.formula.proofs.union.member.Goals as goal
use Rattle.formula.proofs.union.member.Goals.{then-contains+else-before-j, else-contains}

pub returns-then-before-j : goal.returns-then-before-j
returns-then-before-j c =
    let at = sym c.loop-l.invariant.0 ∙ c.if-before-j.true in
    sym (member_at _ _ _ c.loop-l-test.true (sym c.if-contains.ensures)) ∙ ap (slice_get (members c.args.locations c.args.set)) at

pub loop-l-preserved : goal.loop-l-preserved
loop-l-preserved c =
    let one = length_members_more c.loop-l.l c.args.set in
    elim c.if-contains.branch [
      | then-contains+else-before-j w ↦ (grind (arith, nat_tests, w.before-is), omega (arith, w.before-is))
      | else-contains w ↦ (grind (arith, nat_tests, w.before-is), omega (arith, w.before-is))
    ]

pub returns : goal.returns
returns c =
    let all : c.loop-l.l ≡ c.args.locations = omega arith in
    let few : length (members c.loop-l.l c.args.set) ≤ c.args.j = omega arith in
    sym (slice_get_past (members c.args.locations c.args.set) c.args.j (simp all at few))
