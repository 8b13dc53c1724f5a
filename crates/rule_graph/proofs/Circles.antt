-- A long enough row of spots, each followed by the one before it in the row, has a closed walk. Assumes nothing.
use Rattle.std.proofs.Common.{◌≡◌, ℕ, zero, suc, ◌+◌, ◌-◌, ◌<◌, ◌≤◌, false, List, length, ap, subst, ⊎_elim, arith}
use Rattle.std.specs.List.{range_with_len}
use Rattle.std.proofs.lemmas.Bool.{both_ways}
use Rattle.behaviour.specs.Behaviours.{Behaviour}
use Rattle.formula.specs.Sets.{has}
use Rattle.graph.specs.Lists.{In, products}
use Rattle.graph.proofs.Counting.{counting_in}
use Rattle.graph.proofs.Lists.{twice}
use Rattle.graph.proofs.Members.{products_in}
use Rattle.rule_graph.specs.Alternating.{Alternating}
use Rattle.rule_graph.specs.Plans.{Spot, spot, Plan, Follows, Trail, Meets}

-- of n locations and so many places
abbrev pub spots : ℕ → ℕ → List Spot
spots n p = products spot (range_with_len 0 n) (range_with_len 0 p)

pub in_spots : (n p l i : ℕ) → l < n → i < p → In (spot l i) (spots n p)
in_spots n p l i lt below = products_in spot l i (range_with_len 0 n) (range_with_len 0 p) (counting_in 0 n l (omega arith) (omega arith)) (counting_in 0 p i (omega arith) (omega arith))

module _ (r : Alternating) (w : Behaviour) (plan : Plan) where
  -- a walk that meets no accepting location
  abbrev pub Plain : ℕ → Spot → Spot → Type 0
  Plain n a b = (t : Trail w plan n a b) × (Meets r w plan n a b t → ⊥)

  plain_step : (n : ℕ) (a c b : Spot) → has r.accepting a.location ≡ false → Follows w plan a c → Plain n c b → Plain (suc n) a b
  plain_step n a c b no-accepting f p = ((c, f, p.0), ⊎_elim (both_ways _ no-accepting) p.1)

  module _ (most : ℕ) (at : ℕ → Spot) (plain : (i : ℕ) → i ≤ most → has r.accepting (at i).location ≡ false) (follows : (i : ℕ) → i < most → Follows w plan (at (suc i)) (at i)) where
    plain_back : (d i j : ℕ) → j ≡ i + d → j ≤ most → Plain d (at j) (at i)
    plain_back zero i j e le = (ap at (let same : j ≡ i = omega arith in same), λ m. m)
    plain_back (suc d) i zero e le = absurd (omega arith)
    plain_back (suc d) i (suc j) e le = plain_step d (at (suc j)) (at j) (at i) (plain (suc j) le) (follows j le) (plain_back d i j (omega arith) (omega arith))

    pub circle : (xs : List Spot) → length xs ≡ most → ((i : ℕ) → i ≤ most → In (at i) xs) → (n : ℕ) × (i : ℕ) × (i ≤ most) × Plain (suc n) (at i) (at i)
    circle xs e inside =
        let c = twice most xs at (omega arith) inside in
        let n : ℕ = c.1 - suc c.0 in
        (n, c.1, omega (arith, c.3), subst (λ b. Plain (suc n) (at c.1) b) c.4 (plain_back (suc n) c.0 c.1 (omega (arith, c.2)) (omega (arith, c.3))))
