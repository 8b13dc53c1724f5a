-- A head that is written is read back.
use Rattle.std.proofs.Common.{◌≡◌, ℕ, ◌+◌, ◌*◌, ◌/◌, ◌%◌, ◌^◌, ◌<◌, length, Some, unwrap_or, sym, refl, ap, ◌∙◌, ap₂, mod-eq_of_lt, arith}
use lib.ListN.{length-replicate}
use Rattle.inspect.specs.declared.head.Sort.{Sort}
use Rattle.inspect.specs.declared.head.Sort.TheVariants as sort
use Rattle.inspect.specs.declared.head.Head.{Head}
use Rattle.inspect.specs.Format.{head, sort_of, sort_code}
use Rattle.layout.specs.Written.{zeros, sealed, head_payload}

pub length_zeros : (n : ℕ) → length (zeros n) ≡ n
unfolding zeros
length_zeros n = length-replicate n 0

pub length_head_payload : (h : Head) → length (head_payload h) ≡ 508
length_head_payload h = omega (arith, length_zeros 500)

pub sort_read : (s : Sort) → sort_of (sort_code s) ≡ Some s
sort_read sort.Rule = refl
sort_read sort.Model = refl

-- four bytes, low byte first
word_read : (a : ℕ) → a % 256 + 256 * (a / 256 % 256 + 256 * (a / 65536 % 256 + 256 * (a / 16777216))) ≡ a
word_read a = omega arith

pub head_read : (h : Head) → h.accepting < 2 ^ h.locations → h ≡ head (sealed 0 (head_payload h))
head_read h small =
    let sorts : unwrap_or (sort_of (sort_code h.sort)) sort.Rule ≡ h.sort = ap (λ s. unwrap_or s sort.Rule) (sort_read h.sort) in
    let words = ap (λ a. a % 2 ^ h.locations) (word_read h.accepting) ∙ mod-eq_of_lt small in
    let again : Sort → ℕ → Head = λ s a. record { sort = s; locations = h.locations; letters = h.letters; initial = h.initial; accepting = a } in
    ap₂ again (sym sorts) (sym words)
