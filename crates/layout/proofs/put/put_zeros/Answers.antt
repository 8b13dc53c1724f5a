-- A part that is filled with zeros has zeros laid there.
use Rattle.std.proofs.Common.{◌≡◌, ◌+◌, ◌-◌, length, take, drop, replicate, ap, ◌∙◌, arith, length-drop, length-take}
use Rattle.layout.specs.Written.{zeros}
use Rattle.layout.proofs.Heads.{length_zeros}
use Rattle.layout.proofs.Pastes.{pasted_part}
use Rattle.layout.proofs.put.put_zeros.Goals as goal

pub returns : goal.returns
unfolding zeros
returns c =
    let long : length (take (c.args.at + c.args.n - c.args.at) (drop c.args.at c.args.out.now)) ≡ c.args.n = simp (length-take, length-drop) (omega arith) in
    pasted_part c.args.out.now _ (zeros c.args.n) c.args.at _ (c.fill.ensures.after (λ y e. e) ∙ ap (λ n. replicate n 0) long) (length_zeros c.args.n)
