-- The two bytes that are laid are those of the block's check.
use Rattle.std.proofs.Common.{◌≡◌, ◌+◌, ◌-◌, ◌*◌, ◌/◌, ◌%◌, [], ◌∷◌, take, drop, ap, ◌∙◌, ap₂, arith}
use Rattle.inspect.specs.Format.{check_of}
use Rattle.layout.specs.Cursors.{check_bytes}
use Rattle.layout.specs.Pasted.{pasted}
use Rattle.layout.proofs.put.put_check.Goals as goal

pub returns : goal.returns
returns c =
    let start = c.from-start.ensures in
    let size : c.from-start.result * 512 + 512 - c.from-start.result * 512 ≡ 512 = omega arith in
    let sum = c.check_sum-check.ensures ∙ ap₂ (λ n k. check_of (take n (drop (k * 512) c.args.out.now))) size start in
    let high : c.check_sum-check.result / 256 % 256 ≡ c.check_sum-check.result / 256 = omega arith in
    let bytes = c.to_le_bytes.ensures ∙ ap (λ b. c.check_sum-check.result % 256 ∷ b ∷ []) high ∙ ap check_bytes sum in
    c.put.ensures ∙ ap₂ (λ k bs. pasted c.args.out.now (k * 512 + 510) bs) start bytes
