-- A round has one least j, and n and j one sum. Assumes nothing.
use Rattle.std.proofs.Common.{◌≡◌, ℕ, zero, suc, sym, ◌∙◌, ⊎_elim, arith}
use Rattle.std.proofs.lemmas.Bool.{cases_order}
use Rattle.graph.specs.Meaning.{Meaning}
use Rattle.graph.specs.Sets.{Least, Rounds, Sum}

module _ {S : Type 0} (m : Meaning S) where
  pub least_once : (r i j : ℕ) → Least m r i → Least m r j → i ≡ j
  least_once r i j p q = ⊎_elim (λ e. e) (⊎_elim (λ lt. absurd (q.first i lt p.stays)) (λ lt. absurd (p.first j lt q.stays))) (cases_order i j)

  pub rounds_once : (n t u : ℕ) → Rounds m n t → Rounds m n u → t ≡ u
  rounds_once zero t u p q = p ∙ sym q
  rounds_once (suc n) t u p q = omega (arith, rounds_once n p.0 q.0 p.2 q.2, least_once n p.1 q.1 p.3 q.3, p.4, q.4)

  pub sum_once : (n j t u : ℕ) → Sum m n j t → Sum m n j u → t ≡ u
  sum_once n j t u p q = omega (arith, rounds_once n p.0 q.0 p.1 q.1, p.2, q.2)
