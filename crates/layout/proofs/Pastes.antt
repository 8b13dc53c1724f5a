-- Bytes that are laid one behind another are laid as one.
use borrow.Rule.Slice.PartMut.{put_mid}
use Rattle.std.proofs.Common.{◌≡◌, ℕ, ◌+◌, ◌-◌, ◌≤◌, List, [], ◌++◌, length, take, drop, sym, ap, ◌∙◌, ap₂, append_assoc, add-zero, add_assoc, arith, length-append, length-drop, take-append-drop, drop-drop, take_at}
use lib.Seq.{drop-append-add}
use Rattle.std.proofs.lemmas.List.{length-take-le}
use Rattle.layout.specs.Pasted.{pasted}

-- as the borrow checker has a write to a part
pub pasted_part : (xs ys bs : List ℕ) (at n : ℕ) → ys ≡ bs → length bs ≡ n → put_mid at (at + n - at) xs ys ≡ pasted xs at bs
unfolding pasted
pasted_part xs ys bs at n e l =
    ap₂ (λ b r. take at xs ++ (b ++ r)) e (drop-drop (at + n - at) at xs ∙ ap (λ m. drop m xs) (omega arith))

pub pasted_at : (p after bs : List ℕ) (at : ℕ) → length p ≡ at → pasted (p ++ after) at bs ≡ p ++ (bs ++ drop (length bs) after)
unfolding pasted
pasted_at p after bs at l =
    ap₂ (λ a r. a ++ (bs ++ r)) (take_at p after at l)
    (ap (λ n. drop (n + length bs) (p ++ after)) (sym l) ∙ drop-append-add p after (length bs))

module _ (xs bs : List ℕ) (at : ℕ) (room : at + length bs ≤ length xs) where
  front : List ℕ
  front = take at xs ++ bs

  length_front : length front ≡ at + length bs
  unfolding front
  length_front = let within : at ≤ length xs = omega arith in length-append (take at xs) bs ∙ ap (λ n. n + length bs) (length-take-le at xs within)

  split : pasted xs at bs ≡ front ++ drop (at + length bs) xs
  unfolding front pasted
  split = sym (append_assoc (take at xs) bs _)

  pub pasted_pasted : (cs : List ℕ) (to : ℕ) → to ≡ at + length bs → pasted (pasted xs at bs) to cs ≡ pasted xs at (bs ++ cs)
  unfolding front pasted
  pasted_pasted cs to e =
      ap (λ ys. pasted ys to cs) split ∙ pasted_at front _ cs to (length_front ∙ sym e)
      ∙ append_assoc (take at xs) bs _
      ∙ ap (λ r. take at xs ++ (bs ++ (cs ++ r))) (drop-drop (length cs) (at + length bs) xs ∙ ap (λ n. drop n xs) (add_assoc at (length bs) (length cs) ∙ ap (λ n. at + n) (sym (length-append bs cs))))
      ∙ ap (λ r. take at xs ++ r) (sym (append_assoc bs cs _))

  pub length_pasted : length (pasted xs at bs) ≡ length xs
  length_pasted = ap length split ∙ simp (length-append, length-drop) (omega (arith, length_front))

pub pasted_none : (xs : List ℕ) (at : ℕ) → xs ≡ pasted xs at []
unfolding pasted
pasted_none xs at = sym (ap (λ n. take at xs ++ drop n xs) (add-zero at) ∙ take-append-drop at xs)
