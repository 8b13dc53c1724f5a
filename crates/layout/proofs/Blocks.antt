-- Blocks that are joined: each is found again, and states its check, its kind and its number.
use Rattle.std.proofs.Common.{◌≡◌, ℕ, zero, suc, ◌+◌, ◌*◌, ◌/◌, ◌%◌, ◌<◌, List, [], ◌∷◌, ◌++◌, length, get_or, take, drop, sym, refl, ap, ◌∙◌, ap₂, add-zero, arith, length-append, take_at, get_or-append-add}
use lib.Seq.{drop-append-add}
use Rattle.std.specs.List.{AllByRecursion}
use Rattle.inspect.specs.Format.{block, body, kind, weighted}
use Rattle.inspect.specs.Denotes.{Sealed}
use Rattle.layout.specs.Written.{sealed}

-- what lies in a block between its number and its check is 508 bytes
abbrev pub Fitting : List ℕ → Type 0
Fitting p = length p ≡ 508

abbrev pub sealed_all : ℕ → List (List ℕ) → List ℕ
sealed_all k [] = []
sealed_all k (p ∷ ps) = sealed k p ++ sealed_all (suc k) ps

module _ (k : ℕ) (p : List ℕ) (fit : Fitting p) where
  front : take 510 (sealed k p) ≡ kind k ∷ k ∷ p
  front = take_at (kind k ∷ k ∷ p) _ 510 (ap (λ n. suc (suc n)) fit)

  pub length_sealed : length (sealed k p) ≡ 512
  length_sealed = simp length-append (omega arith)

  after : (c : List ℕ) (i : ℕ) → get_or (p ++ c) (508 + i) 0 ≡ get_or c i 0
  after c i = ap (λ n. get_or (p ++ c) (n + i) 0) (sym fit) ∙ get_or-append-add p c i 0

  pub sealed_is : Sealed k (sealed k p)
  sealed_is = record {
    check = ap₂ (λ x y. x + 256 * y) (after _ 0) (after _ 1) ∙ sums (weighted 0 (kind k ∷ k ∷ p) % 65521) ∙ sym (ap (λ b. weighted 0 b % 65521) front);
    kind = refl;
    number = refl;
  }
    where
      sums : (x : ℕ) → x % 256 + 256 * (x / 256) ≡ x
      sums x = omega arith

  pub body_sealed : body (sealed k p) ≡ p
  body_sealed = ap (drop 2) front

pub length_sealed_all : (k : ℕ) (ps : List (List ℕ)) → AllByRecursion Fitting ps → length (sealed_all k ps) ≡ length ps * 512
length_sealed_all k [] fit = refl
length_sealed_all k (p ∷ ps) (fit, fits) =
    length-append (sealed k p) (sealed_all (suc k) ps) ∙ omega (arith, length_sealed k p fit, length_sealed_all (suc k) ps fits)

pub block_sealed_all : (k : ℕ) (ps : List (List ℕ)) (i : ℕ) → AllByRecursion Fitting ps → i < length ps → block (sealed_all k ps) i ≡ sealed (k + i) (get_or ps i [])
block_sealed_all k [] i fit h = absurd (omega arith)
block_sealed_all k (p ∷ ps) zero (fit, fits) h =
    take_at (sealed k p) _ 512 (length_sealed k p fit) ∙ ap (λ j. sealed j p) (sym (add-zero k))
block_sealed_all k (p ∷ ps) (suc i) (fit, fits) h =
    let past : suc i * 512 ≡ length (sealed k p) + i * 512 = omega (arith, length_sealed k p fit) in
    ap (λ n. take 512 (drop n (sealed_all k (p ∷ ps)))) past ∙ ap (take 512) (drop-append-add (sealed k p) _ (i * 512))
    ∙ block_sealed_all (suc k) ps i fits (omega arith) ∙ ap (λ j. sealed j (get_or ps i [])) (omega arith)
