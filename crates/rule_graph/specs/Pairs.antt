-- What it is to be a pair, by members, and the sets that the graph is made of. Assumes nothing.
use Rattle.std.specs.Prelude.{◌≡◌, ℕ, ◌^◌, ◌<◌, true, false, not, ◌&&◌, ◌||◌, ◌⊎◌, ◌==◌, nat_lt}
use Rattle.std.proofs.Common.{inl, inr, ⊎_elim, sym, ap, ◌∙◌, arith}
use Rattle.std.specs.Int.Bits.{bit_and}
use Rattle.std.proofs.lemmas.Bool.{both_ways, cases_Bool, lt-ltb, ltb-true, eqb-true, eq-eqb, and_parts, and_from, not-true, not_from_false, or_cases, or_left, or_right}
use Rattle.formula.specs.Sets.{has, Within}
use Rattle.formula.proofs.Sets.{has_zero, has_and}
use Rattle.rule_graph.specs.declared.masks.Masks.{Masks}
use Rattle.rule_graph.specs.Alternating.{Alternating}
use Rattle.rule_graph.specs.RuleGraph.{part, unsettled, settling, satisfied, is_pair}
use Rattle.rule_graph.specs.Sets.{those_small, in_those, those_in, same_set, part_le, part_within, within_part}

pub record Pair (r : Alternating) (p : Masks) : Type 0 where
  pub small : p.held < 2 ^ r.locations
  pub inside : Within p.owed p.held
  pub unsettled : (l : ℕ) → has p.owed l ≡ true → has r.accepting l ≡ false

module _ (r : Alternating) (p : Masks) where
  apart : bit_and p.owed r.accepting ≡ 0 → (l : ℕ) → has p.owed l ≡ true → has r.accepting l ≡ false
  apart e l h = go (cases_Bool (has r.accepting l))
    where
      go : (has r.accepting l ≡ true) ⊎ (has r.accepting l ≡ false) → has r.accepting l ≡ false
      go (inl a) = absurd (both_ways _ (ap (λ s. has s l) e ∙ has_zero l) (has_and p.owed r.accepting l ∙ and_from _ _ h a))
      go (inr a) = a

  pub pair_is : is_pair r p ≡ true → Pair r p
  pair_is h =
      let a = and_parts (nat_lt p.held (2 ^ r.locations)) (part p.owed p.held && bit_and p.owed r.accepting == 0) h in
      let b = and_parts (part p.owed p.held) (bit_and p.owed r.accepting == 0) a.1 in
      record { small = ltb-true _ _ a.0; inside = part_within _ _ b.0; unsettled = apart (eqb-true _ _ b.1) }

  pub is_pair_of : Pair r p → is_pair r p ≡ true
  is_pair_of q =
      let disjoint : bit_and p.owed r.accepting ≡ 0 =
      same_set (bit_and p.owed r.accepting) 0 (λ l h. let c = and_parts (has p.owed l) (has r.accepting l) (sym (has_and p.owed r.accepting l) ∙ h) in absurd (both_ways _ (q.unsettled l c.0) c.1)) (λ l h. absurd (both_ways _ (has_zero l) h)) in
      and_from _ _ (lt-ltb _ _ q.small) (and_from _ _ (within_part _ _ q.inside) (eq-eqb _ 0 disjoint))

module _ (r : Alternating) where
  pub owed_small : (p : Masks) → Pair r p → p.owed < 2 ^ r.locations
  owed_small p q = omega (arith, part_le p.owed p.held (within_part p.owed p.held q.inside), q.small)

  pub in_unsettled : (s l : ℕ) → has (unsettled r s) l ≡ true → (has s l ≡ true) × (has r.accepting l ≡ false)
  in_unsettled s l h = let c = and_parts (has s l) (not (has r.accepting l)) (in_those r.locations (λ i. has s i && not (has r.accepting i)) l h).1 in (c.0, not-true _ c.1)

  pub unsettled_in : (s l : ℕ) → l < r.locations → has s l ≡ true → has r.accepting l ≡ false → has (unsettled r s) l ≡ true
  unsettled_in s l small h a = those_in r.locations (λ i. has s i && not (has r.accepting i)) l small (and_from _ _ h (not_from_false _ a))

  pub unsettled_small : (s : ℕ) → unsettled r s < 2 ^ r.locations
  unsettled_small s = those_small r.locations (λ i. has s i && not (has r.accepting i))

  pub in_settling : (p : Masks) (l : ℕ) → has (settling r p) l ≡ true → (has p.owed l ≡ true) ⊎ ((has p.held l ≡ true) × (has r.accepting l ≡ true))
  in_settling p l h =
      ⊎_elim inl (λ c. inr (and_parts (has p.held l) (has r.accepting l) c)) (or_cases (has p.owed l) (has p.held l && has r.accepting l) (in_those r.locations (λ i. has p.owed i || (has p.held i && has r.accepting i)) l h).1)

  pub owed_settling : (p : Masks) (l : ℕ) → l < r.locations → has p.owed l ≡ true → has (settling r p) l ≡ true
  owed_settling p l small h = those_in r.locations (λ i. has p.owed i || (has p.held i && has r.accepting i)) l small (or_left _ _ h)

  pub held_settling : (p : Masks) (l : ℕ) → l < r.locations → has p.held l ≡ true → has r.accepting l ≡ true → has (settling r p) l ≡ true
  held_settling p l small h a = those_in r.locations (λ i. has p.owed i || (has p.held i && has r.accepting i)) l small (or_right _ _ (and_from _ _ h a))

  pub settling_held : (p : Masks) → Pair r p → Within (settling r p) p.held
  settling_held p q l h = ⊎_elim (q.inside l) (λ c. c.0) (in_settling p l h)

  pub settling_small : (p : Masks) → settling r p < 2 ^ r.locations
  settling_small p = those_small r.locations (λ i. has p.owed i || (has p.held i && has r.accepting i))

  pub in_satisfied : (x s l : ℕ) → has (satisfied r x s) l ≡ true → (l < r.locations) × (r.satisfies x l s ≡ true)
  in_satisfied x s l h = in_those r.locations (λ i. r.satisfies x i s) l h

  pub satisfied_in : (x s l : ℕ) → l < r.locations → r.satisfies x l s ≡ true → has (satisfied r x s) l ≡ true
  satisfied_in x s l small h = those_in r.locations (λ i. r.satisfies x i s) l small h

  pub satisfied_small : (x s : ℕ) → satisfied r x s < 2 ^ r.locations
  satisfied_small x s = those_small r.locations (λ i. r.satisfies x i s)
