-- Every location, phase and number below has its number, and a number stands for one of them. Assumes nothing.
use Rattle.std.specs.Prelude.{◌≡◌, ℕ, ◌+◌, ◌*◌, ◌/◌, ◌%◌, ◌<◌, cond, ◌&&◌, Some, None, ◌==◌, nat_lt}
use Rattle.std.proofs.Common.{subst, ◌∙◌, mul_comm, arith}
use Rattle.std.proofs.lemmas.Nat.{div-mul-add, mod-mul-add, mod_below, mul-add-lt}
use Rattle.std.proofs.lemmas.Option.{cond_some}
use Rattle.std.proofs.lemmas.Bool.{and_from, and_parts, cond-true, cond-false, eq-eqb, ne_eqb, lt-ltb, ltb-true}
use Rattle.layer.specs.declared.layered.Phase.{Phase}
use Rattle.layer.specs.declared.layered.Phase.TheVariants.{Above, Below}
use Rattle.layer.specs.declared.spot.Spot.{Spot}
use Rattle.layer.specs.Spots.{spot_of, spot_at}

abbrev bit : Phase → ℕ
bit Above = 0
bit Below = 1

abbrev row : ℕ → Phase → ℕ
row l p = l * 2 + bit p

bit_below : (p : Phase) → bit p < 2
bit_below Above = omega arith
bit_below Below = omega arith

phase_of : (l : ℕ) (p : Phase) → cond (row l p % 2 == 0) Above Below ≡ p
phase_of l Above = cond-true (row l Above % 2 == 0) Above Below (eq-eqb (row l Above % 2) 0 (omega arith))
phase_of l Below = cond-false (row l Below % 2 == 0) Above Below (ne_eqb (row l Below % 2) 0 (omega arith))

spot_is : (n count l j : ℕ) (p : Phase) → l < n → j < count → spot_at n count (row l p * count + j) ≡ Some (record { location = l; phase = p; inner = j })
spot_is n count l j p inside under =
    let i = row l p * count + j in
    let quotient : i / count ≡ row l p = div-mul-add (row l p) count j under in
    let rest : i % count ≡ j = mod-mul-add (row l p) count j under in
    let location : i / count / 2 ≡ l = omega (arith, bit_below p) in
    let phase : cond (i / count % 2 == 0) Above Below ≡ p = rw quotient (phase_of l p) in
    cond-true (nat_lt 0 count && nat_lt (i / count / 2) n) (Some (spot_of count i)) None (and_from (nat_lt 0 count) (nat_lt (i / count / 2) n) (lt-ltb 0 count (omega arith)) (lt-ltb (i / count / 2) n (omega arith)))
    ∙ λ k. Some (record { location = location k; phase = phase k; inner = rest k })

pub spot_number : (n count l j : ℕ) (p : Phase) → l < n → j < count → (i : ℕ) × (i < 2 * n * count) × (spot_at n count i ≡ Some (record { location = l; phase = p; inner = j }))
spot_number n count l j p inside under =
    (row l p * count + j, omega (arith, mul-add-lt (row l p) count j (2 * n) (omega (arith, bit_below p)) under, mul_comm count (2 * n)), spot_is n count l j p inside under)

pub spot_in : (n count i : ℕ) (s : Spot) → spot_at n count i ≡ Some s → (s.location < n) × (s.inner < count)
spot_in n count i s e =
    let r = cond_some (nat_lt 0 count && nat_lt (i / count / 2) n) (spot_of count i) s e in
    let q = and_parts (nat_lt 0 count) (nat_lt (i / count / 2) n) r.0 in
    subst (λ (z : Spot). (z.location < n) × (z.inner < count)) r.1 ((ltb-true (i / count / 2) n q.1, mod_below i count (ltb-true 0 count q.0)))
