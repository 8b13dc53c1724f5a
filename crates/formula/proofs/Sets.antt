-- Membership in masks: of each operation on bits, and that it decides a mask. Assumes nothing.
use Rattle.std.proofs.Common.{◌≡◌, ℕ, zero, suc, ◌+◌, ◌-◌, ◌*◌, ◌/◌, ◌%◌, ◌^◌, ◌<◌, ◌≤◌, true, false, not, ◌&&◌, ◌||◌, eqb, ltb, sym, refl, ap, ◌∙◌, ap₂, mod-eq_of_lt, pow-suc, div-one, add-one, one-add, arith, pow_mono}
use mathlib.Core.Bool.{or_assoc as either_assoc}
use native.Mathlib.Nat.{zero-div, mod-one, div-eq_of_lt, mul-mod_left}
use lib.Bits.{bit_and, bit_or, or_zero_r}
use lib.Dec.{eqb-zero-suc, eqb-suc-zero, eqb-suc-suc, leb-suc-zero, leb-suc-suc, leb-zero}
use lib.Pow.{mod-mod-pow, field}
use Rattle.std.proofs.lemmas.Nat.{and_shr, or_shr, and_mod, or_mod, and_mask, or_comm, or_lt, one_shl, pow-add, pow_below, shr-shr}
use Rattle.std.proofs.lemmas.Bool.Decides.{nat_tests}
use Rattle.formula.specs.Sets.{has}

-- a digit is 0 or 1, so two cases prove a fact of it
pub digit : (P : ℕ → Type 0) → P 0 → P 1 → (x : ℕ) → P (x % 2)
digit P p q x = go (x % 2) (omega arith)
  where
    go : (d : ℕ) → d < 2 → P d
    go zero h = p
    go (suc zero) h = q
    go (suc (suc d)) h = absurd (omega arith)

pub has_zero : (i : ℕ) → has 0 i ≡ false
has_zero i = ap (λ x. eqb (x % 2) 1) (zero-div (2 ^ i))

pub has_low : (m : ℕ) → has m 0 ≡ eqb (m % 2) 1
has_low m = ap (λ x. eqb (x % 2) 1) (div-one m)

pub has_suc : (m i : ℕ) → has m (suc i) ≡ has (m / 2) i
has_suc m i = ap (λ x. eqb (x % 2) 1) (sym (shr-shr m 1 i ∙ ap (λ j. m / 2 ^ j) (one-add i)))

pub has_or : (a b i : ℕ) → has (bit_or a b) i ≡ (has a i || has b i)
has_or a b i =
    let x = a / 2 ^ i in
    let y = b / 2 ^ i in
    ap (λ d. eqb (d % 2) 1) (or_shr a b i) ∙ ap (λ d. eqb d 1) (or_mod x y 1)
    ∙ digit (λ d. eqb (bit_or d (y % 2)) 1 ≡ (eqb d 1 || eqb (y % 2) 1)) refl (digit (λ e. eqb (bit_or 1 e) 1 ≡ true) refl refl y) x

pub has_and : (a b i : ℕ) → has (bit_and a b) i ≡ (has a i && has b i)
has_and a b i =
    let x = a / 2 ^ i in
    let y = b / 2 ^ i in
    ap (λ d. eqb (d % 2) 1) (and_shr a b i) ∙ ap (λ d. eqb d 1) (and_mod x y 1)
    ∙ digit (λ d. eqb (bit_and d (y % 2)) 1 ≡ (eqb d 1 && eqb (y % 2) 1)) refl (digit (λ e. eqb (bit_and 1 e) 1 ≡ eqb e 1) refl refl y) x

pub has_pow : (l i : ℕ) → has (2 ^ l) i ≡ eqb i l
has_pow zero zero = refl
has_pow zero (suc i) = has_suc 1 i ∙ has_zero i ∙ sym (eqb-suc-zero i)
has_pow (suc l) zero =
    let even : 2 ^ suc l % 2 ≡ 0 = omega (arith, pow-suc 2 l) in
    has_low (2 ^ suc l) ∙ ap (λ d. eqb d 1) even ∙ sym (eqb-zero-suc l)
has_pow (suc l) (suc i) =
    let half : 2 ^ suc l / 2 ≡ 2 ^ l = omega (arith, pow-suc 2 l) in
    has_suc (2 ^ suc l) i ∙ ap (λ m. has m i) half ∙ has_pow l i ∙ sym (eqb-suc-suc i l)

pub has_mod : (m n i : ℕ) → has (m % 2 ^ n) i ≡ (ltb i n && has m i)
has_mod m zero i = ap (λ x. has x i) (mod-one m) ∙ has_zero i ∙ ap (λ b. b && has m i) (sym (leb-suc-zero i))
has_mod m (suc n) zero =
    has_low (m % 2 ^ suc n) ∙ ap (λ d. eqb d 1) (ap (λ k. m % 2 ^ k % 2) (sym (add-one n)) ∙ mod-mod-pow m n 1)
    ∙ sym (ap₂ (λ b c. b && c) (leb-suc-suc 0 n ∙ leb-zero n) (has_low m))
has_mod m (suc n) (suc i) =
    has_suc (m % 2 ^ suc n) i ∙ ap (λ x. has x i) (ap (λ k. m % 2 ^ k / 2) (sym (add-one n)) ∙ field m n 1)
    ∙ has_mod (m / 2) n i ∙ sym (ap₂ (λ b c. b && c) (leb-suc-suc (suc i) n) (has_suc m i))

pub has_past : (m n i : ℕ) → m < 2 ^ n → n ≤ i → has m i ≡ false
has_past m n i h k =
    let small : m < 2 ^ i = omega (arith, pow_mono k) in
    ap (λ x. eqb (x % 2) 1) (div-eq_of_lt small)

-- the complement at n bits
pub has_flip : (n m i : ℕ) → m < 2 ^ n → i < n → has (2 ^ n - 1 - m) i ≡ not (has m i)
has_flip zero m i h k = absurd (omega arith)
has_flip (suc n) m zero h k =
    let flip : (2 ^ suc n - 1 - m) % 2 ≡ 1 - m % 2 = omega (arith, pow-suc 2 n) in
    has_low (2 ^ suc n - 1 - m) ∙ ap (λ d. eqb d 1) flip ∙ digit (λ d. eqb (1 - d) 1 ≡ not (eqb d 1)) refl refl m
    ∙ ap not (sym (has_low m))
has_flip (suc n) m (suc i) h k =
    let half : (2 ^ suc n - 1 - m) / 2 ≡ 2 ^ n - 1 - m / 2 = omega (arith, pow-suc 2 n) in
    has_suc (2 ^ suc n - 1 - m) i ∙ ap (λ x. has x i) half
    ∙ has_flip n (m / 2) i (omega (arith, pow-suc 2 n)) (omega arith) ∙ ap not (sym (has_suc m i))

pub has_not : (m i : ℕ) → m < 2 ^ 32 → i < 32 → has (4294967295 - m) i ≡ not (has m i)
has_not m i h k = has_flip 32 m i h k

pub same_members : (n a b : ℕ) → a < 2 ^ n → b < 2 ^ n → ((i : ℕ) → i < n → has a i ≡ has b i) → a ≡ b
same_members zero a b h k same = omega arith
same_members (suc n) a b h k same =
    let low : a % 2 ≡ b % 2 = same_digit a b (sym (has_low a) ∙ same 0 (omega arith) ∙ has_low b) in
    let half : (x : ℕ) → x < 2 ^ suc n → x / 2 < 2 ^ n = λ x l. omega (arith, pow-suc 2 n) in
    let rest = λ (i : ℕ) (l : i < n). sym (has_suc a i) ∙ same (suc i) (omega arith) ∙ has_suc b i in
    let high = same_members n (a / 2) (b / 2) (half a h) (half b k) rest in
    omega arith
  where
    same_digit : (x y : ℕ) → eqb (x % 2) 1 ≡ eqb (y % 2) 1 → x % 2 ≡ y % 2
    same_digit x y e = grind (arith, nat_tests)

-- masks with the same members are equal, whatever their width
pub same_sets : (a b : ℕ) → ((i : ℕ) → has a i ≡ has b i) → a ≡ b
same_sets a b same =
    same_members (a + b) a b (omega (arith, narrow (a + b))) (omega (arith, narrow (a + b))) (λ i _. same i)
  where
    narrow : (n : ℕ) → n < 2 ^ n
    narrow zero = omega arith
    narrow (suc n) = omega (arith, narrow n, pow-suc 2 n)

pub or_assoc : (a b c : ℕ) → bit_or a (bit_or b c) ≡ bit_or (bit_or a b) c
or_assoc a b c = same_sets _ _ (λ i. simp (has_or, either_assoc))

pub bit_test : (m i : ℕ) → eqb (bit_and (m / 2 ^ i) 1) 1 ≡ has m i
bit_test m i = ap (λ x. eqb x 1) (and_mask (m / 2 ^ i) 1)

pub has_insert : (m l i : ℕ) → l < 32 → has (bit_or m ((1 * 2 ^ l) % 2 ^ 32)) i ≡ (eqb i l || has m i)
has_insert m l i h =
    ap (λ x. has x i) (ap (bit_or m) (one_shl l 32 h) ∙ or_comm m (2 ^ l)) ∙ has_or (2 ^ l) m i
    ∙ ap (λ b. b || has m i) (has_pow l i)

pub insert_below : (n m l : ℕ) → n ≤ 32 → l < n → m < 2 ^ n → bit_or m ((1 * 2 ^ l) % 2 ^ 32) < 2 ^ n
insert_below n m l w h k = rw (one_shl l 32 (omega arith)) (or_lt n m (2 ^ l) k (pow_below l n h))

-- a location past the width has no bit
pub insert_past : (n m l : ℕ) → m < 2 ^ n → n ≤ l → bit_or m (2 ^ l) % 2 ^ n ≡ m
insert_past n m l h k = or_mod m (2 ^ l) n ∙ ap₂ bit_or (mod-eq_of_lt h) none ∙ or_zero_r m
  where
    none : 2 ^ l % 2 ^ n ≡ 0
    none =
        let split : l ≡ (l - n) + n = omega arith in
        ap (λ k. 2 ^ k % 2 ^ n) split ∙ ap (λ p. p % 2 ^ n) (pow-add 2 (l - n) n) ∙ mul-mod_left (2 ^ (l - n)) (2 ^ n)
