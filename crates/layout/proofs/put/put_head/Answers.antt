-- The fields of the head and the zeros behind them are laid as one.
use Rattle.std.proofs.Common.{◌≡◌, ℕ, ◌/◌, ◌%◌, List, [], ◌∷◌, ◌++◌, refl, ap, ◌∙◌, ap₂, arith}
use Rattle.inspect.specs.Format.{sort_code}
use Rattle.layout.specs.Pasted.{pasted}
use Rattle.layout.specs.Written.{zeros}
use Rattle.layout.proofs.Pastes.{pasted_pasted}
use Rattle.layout.proofs.put.put_head.Goals as goal

pub returns : goal.returns
returns c =
    let h = c.args.head in
    let a = h.accepting in
    let out = c.args.out.now in
    let front : ℕ → ℕ → List ℕ = λ k kind. k ∷ 0 ∷ kind ∷ h.locations ∷ h.letters ∷ h.initial ∷ [] in
    let word : ℕ → List ℕ = λ high. (a % 256) ∷ (a / 256 % 256) ∷ (a / 65536 % 256) ∷ high ∷ [] in
    let high : a / 16777216 % 256 ≡ a / 16777216 = omega arith in
    let fields = front 1 (sort_code h.sort) in
    let bytes = word (a / 16777216) in
    let first : c.put.new.out ≡ pasted out 0 fields = c.put.ensures ∙ ap₂ (λ k s. pasted out 0 (front k s)) c.from.ensures c.from-2.ensures in
    let second : c.put-2.new.out ≡ pasted out 0 (fields ++ bytes) =
    c.put-2.ensures ∙ ap₂ (λ ys bs. pasted ys 6 bs) first (c.to_le_bytes.ensures ∙ ap word high) ∙ pasted_pasted out fields 0 (omega arith) bytes 6 refl in
    c.put_zeros.ensures ∙ ap (λ ys. pasted ys 10 (zeros 500)) second ∙ pasted_pasted out (fields ++ bytes) 0 (omega arith) (zeros 500) 10 refl
