-- A behaviour that a rule admits its graph makes: the walk of an accepting plan owes nothing again and again. Assumes nothing.
use Rattle.std.proofs.Common.{◌≡◌, ℕ, zero, suc, ◌+◌, ◌-◌, ◌<◌, ◌≤◌, Bool, true, false, eqb, length, refl, ap, subst, ⊎_elim, arith}
use Rattle.std.proofs.lemmas.Bool.{both_ways, cases_Bool, cond-false, eq-eqb, ne_eqb}
use Rattle.behaviour.specs.Behaviours.{Behaviour, Proper, Makes, place, places}
use Rattle.behaviour.proofs.Places.{place_in}
use Rattle.formula.specs.Sets.{has}
use Rattle.formula.proofs.Sets.{has_zero}
use Rattle.rule_graph.specs.Alternating.{Alternating, Sound}
use Rattle.rule_graph.specs.RuleGraph.{rule_means}
use Rattle.rule_graph.specs.Plans.{Spot, spot, Plan, Reached, Follows, Accepting, Admits}
use Rattle.rule_graph.proofs.Circles.{spots, in_spots, Plain, circle}
use Rattle.rule_graph.proofs.Least.{least, least_of}
use Rattle.rule_graph.specs.Pairs.{in_unsettled}
use Rattle.rule_graph.proofs.Runs.{source, onto, debt, run, from_onto, reached_small, held_reached, owed_held, owed_small, run_steps}
use Rattle.rule_graph.specs.Sets.{some_or_none}

-- as many spots as there are
abbrev most : Alternating → Behaviour → ℕ
most r w = length (spots r.locations (places w))

module _ (r : Alternating) (w : Behaviour) (plan : Plan) where
  -- where k comes from that is owed a step later
  abbrev back : ℕ → ℕ → ℕ
  back t k = source r plan (debt (run r w plan t)) (place w t) k

  back_leads : (t k : ℕ) → has (run r w plan (suc t)).owed k ≡ true → (has (debt (run r w plan t)) (back t k) ≡ true) × (has (plan (back t k) (place w t)) k ≡ true)
  back_leads t k h = from_onto r plan (debt (run r w plan t)) (place w t) k (in_unsettled r (onto r plan (debt (run r w plan t)) (place w t)) k h).0

  back_owed : (t k : ℕ) → ((run r w plan t).owed ≡ 0 → ⊥) → has (run r w plan (suc t)).owed k ≡ true → has (run r w plan t).owed (back t k) ≡ true
  back_owed t k some h = subst (λ s. has s (back t k) ≡ true) (cond-false _ _ _ (ne_eqb _ 0 some)) (back_leads t k h).0

  plain : (t l : ℕ) → has (run r w plan t).owed l ≡ true → has r.accepting l ≡ false
  plain zero l h = absurd (both_ways _ (has_zero l) h)
  plain (suc t) l h = (in_unsettled r (onto r plan (debt (run r w plan t)) (place w t)) l h).1

  -- what is owed last and where it comes from, so many steps back
  chain : ℕ → ℕ → ℕ → ℕ
  chain last k zero = k
  chain last k (suc j) = back (last - suc j) (chain last k j)

  module _ (last k : ℕ) (early : most r w ≤ last) (owing : (j : ℕ) → j ≤ most r w → (run r w plan (last - j)).owed ≡ 0 → ⊥) (owed : has (run r w plan last).owed k ≡ true) where
    abbrev link : ℕ → Spot
    link j = spot (chain last k j) (place w (last - j))

    later : (j : ℕ) → suc j ≤ most r w → last - j ≡ suc (last - suc j)
    later j le = omega arith

    chain_owed : (j : ℕ) → j ≤ most r w → has (run r w plan (last - j)).owed (chain last k j) ≡ true
    unfolding chain
    chain_owed zero le = subst (λ t. has (run r w plan t).owed k ≡ true) (let e : last ≡ last - 0 = omega arith in e) owed
    chain_owed (suc j) le = back_owed (last - suc j) (chain last k j) (owing (suc j) le) (subst (λ t. has (run r w plan t).owed (chain last k j) ≡ true) (later j le) (chain_owed j (omega arith)))

    chain_follows : (j : ℕ) → j < most r w → Follows w plan (link (suc j)) (link j)
    unfolding chain
    chain_follows j lt =
        ((back_leads (last - suc j) (chain last k j) (subst (λ t. has (run r w plan t).owed (chain last k j) ≡ true) (later j lt) (chain_owed j (omega arith)))).1, ap (place w) (later j lt))

module _ (r : Alternating) (sound : Sound r) (w : Behaviour) (proper : Proper r.letters w) (plan : Plan) (a : Accepting r w plan) where
  -- as many steps as there are spots do not all owe something
  never : (last k : ℕ) → most r w ≤ last → ((j : ℕ) → j ≤ most r w → (run r w plan (last - j)).owed ≡ 0 → ⊥) → has (run r w plan last).owed k ≡ true → ⊥
  never last k early owing owed = c.3.1 (a.accepts c.0 (at c.1) (met c.1 c.2) c.3.0)
    where
      at : ℕ → Spot
      at = link r w plan last k early owing owed

      on : (j : ℕ) → j ≤ most r w → has (run r w plan (last - j)).owed (at j).location ≡ true
      on = chain_owed r w plan last k early owing owed

      met : (j : ℕ) → j ≤ most r w → Reached r w plan (at j)
      met j le = held_reached r sound w plan a (last - j) (at j).location (owed_held r sound w plan a (last - j) (at j).location (on j le))

      c : (n : ℕ) × (i : ℕ) × (i ≤ most r w) × Plain r w plan (suc n) (at i) (at i)
      c = circle r w plan (most r w) at (λ j le. plain r w plan (last - j) (at j).location (on j le)) (chain_follows r w plan last k early owing owed) (spots r.locations (places w)) refl (λ j le. in_spots r.locations (places w) (at j).location (at j).place (reached_small r sound w plan a (met j le)) (place_in w proper.repeats (last - j)))

  settles : (t : ℕ) → (d : ℕ) × (eqb (run r w plan (t + d)).owed 0 ≡ true)
  settles t = ⊎_elim (λ e. (d, e)) (λ no-debt. absurd (go no-debt)) (cases_Bool (free d))
    where
      free : ℕ → Bool
      free j = eqb (run r w plan (t + j)).owed 0

      d : ℕ
      d = least (suc (most r w)) free (λ _. 0)

      go : free d ≡ false → ⊥
      go busy = ⊎_elim (λ m. never (t + most r w) m.0 (omega arith) owing m.1) (owed_at (most r w) (omega arith)) (some_or_none r.locations (run r w plan (t + most r w)).owed (owed_small r sound w plan a (t + most r w)))
        where
          owed_at : (j : ℕ) → j ≤ most r w → (run r w plan (t + j)).owed ≡ 0 → ⊥
          owed_at j le none = both_ways _ busy (least_of free (λ _. 0) (suc (most r w)) j (omega arith) (eq-eqb _ 0 none)).passes

          owing : (j : ℕ) → j ≤ most r w → (run r w plan (t + most r w - j)).owed ≡ 0 → ⊥
          owing j le = let e : t + (most r w - j) ≡ t + most r w - j = omega arith in subst (λ s. (run r w plan s).owed ≡ 0 → ⊥) e (owed_at (most r w - j) (omega arith))

pub admits_makes : (r : Alternating) → Sound r → (w : Behaviour) → Proper r.letters w → Admits r w → Makes (rule_means r) w
admits_makes r sound w proper (plan, a) =
    record { at = run r w plan; starts = refl; steps = run_steps r sound w plan a; accepts = settles r sound w proper plan a }
