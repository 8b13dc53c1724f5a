-- A behaviour that a rule's graph makes by a walk that turns back the rule admits: the plan goes by the position of least measure. Assumes nothing.
use Rattle.std.proofs.Common.{◌≡◌, ℕ, zero, suc, ◌+◌, ◌<◌, ◌≤◌, Bool, true, false, ◌&&◌, eqb, ◌⊎◌, sym, refl, ap, ◌∙◌, subst, inl, inr, ⊎_elim, arith}
use Rattle.std.proofs.lemmas.Bool.{cases_Bool, eqb-true, eq-eqb, and_parts, and_from}
use Rattle.behaviour.specs.Behaviours.{Behaviour, Proper, Makes, place, next}
use Rattle.behaviour.proofs.Lassos.{Lasso}
use Rattle.formula.specs.Sets.{has}
use Rattle.formula.proofs.Sets.{has_pow}
use Rattle.rule_graph.specs.declared.masks.Masks.{Masks}
use Rattle.rule_graph.specs.Alternating.{Alternating, Sound}
use Rattle.rule_graph.specs.RuleGraph.{rule_means}
use Rattle.rule_graph.specs.Plans.{Spot, spot, Plan, Follows, Reached, first, onward, Trail, Meets, Admits}
use Rattle.rule_graph.proofs.Shares.{share, share_held, share_small, share_satisfies}
use Rattle.rule_graph.proofs.Least.{least, least_of}
use Rattle.rule_graph.proofs.Measures.{size, turning, same, falls}
use Rattle.rule_graph.proofs.Rounds.{Round, end, after, after_below}

-- the walk is at the place, with the location held
abbrev stands : Behaviour → (ℕ → Masks) → Spot → ℕ → Bool
stands w at a p = eqb (place w p) a.place && has (at p).held a.location

pick : Behaviour → (ℕ → Masks) → Round → Spot → ℕ
pick w at c a = least (end c) (stands w at a) (size at c a.location)

abbrev picked : Alternating → Behaviour → (ℕ → Masks) → Round → Plan
picked r w at c l i = let p : ℕ = pick w at c (spot l i) in share r (at p) (at (suc p)) l

module _ (r : Alternating) (w : Behaviour) (g : Makes (rule_means r) w) (q : Lasso (rule_means r) w g) where
  abbrev turns : Round
  turns = turning q

  abbrev plan : Plan
  plan = picked r w g.at turns

  abbrev Stands : Spot → Type 0
  Stands a = (p : ℕ) × (p < end turns) × (stands w g.at a p ≡ true)

  abbrev picks : Spot → ℕ
  picks = pick w g.at turns

  abbrev measure : Spot → ℕ
  measure a = size g.at turns a.location (picks a)

  -- what is picked stands there too, and has no more
  best : (a : Spot) (s : Stands a) → (picks a < end turns) × (place w (picks a) ≡ a.place) × (has (g.at (picks a)).held a.location ≡ true) × (measure a ≤ size g.at turns a.location s.0)
  unfolding pick
  best a s =
      let t = least_of (stands w g.at a) (size g.at turns a.location) (end turns) s.0 s.1 s.2 in
      let b = and_parts _ _ t.passes in
      (t.below, eqb-true _ _ b.0, b.1, t.least)

  step_stands : (a b : Spot) → Stands a → Follows w plan a b → Stands b
  step_stands a b s f =
      let p : ℕ = picks a in
      let t = best a s in
      let there : place w (after turns p) ≡ b.place = (same r w g q p).1 ∙ ap (next w) t.1 ∙ sym f.1 in
      let held = share_held (g.steps p) a.location b.location f.0 in
      (after turns p, after_below turns p t.0, and_from _ _ (eq-eqb _ _ there) (subst (λ m. has m.held b.location ≡ true) (sym (same r w g q p).0) held))

  step_falls : (a b : Spot) → Stands a → Follows w plan a b → has r.accepting b.location ≡ false → measure b < measure a
  unfolding step_stands
  step_falls a b s f plain =
      omega (arith, (best b (step_stands a b s f)).3, falls r w g q (picks a) a.location b.location (best a s).0 f.0 plain)

  reached_stands : {a : Spot} → Reached r w plan a → Stands a
  reached_stands first = (0, omega (arith, q.some), and_from _ _ (eq-eqb 0 0 refl) (subst (λ m. has m.held r.initial ≡ true) (sym g.starts) (has_pow r.initial r.initial ∙ eq-eqb _ _ refl)))
  reached_stands (onward a b p f) = step_stands a b (reached_stands p) f

  -- it meets an accepting location, or it begins at none and the measure falls by each step
  abbrev Falls : (n : ℕ) (a b : Spot) → Trail w plan n a b → Type 0
  Falls n a b t = Meets r w plan n a b t ⊎ ((has r.accepting a.location ≡ false) × (measure b + n ≤ measure a))

  trail_falls : (n : ℕ) (a b : Spot) → Stands a → has r.accepting b.location ≡ false → (t : Trail w plan n a b) → Falls n a b t
  trail_falls zero a b s plain t = inr (subst (λ e. has r.accepting e.location ≡ false) (sym t) plain, omega (arith, ap measure t))
  trail_falls (suc n) a b s plain (d, f, t) = go (trail_falls n d b (step_stands a d s f) plain t) (cases_Bool (has r.accepting a.location))
    where
      go : Falls n d b t → (has r.accepting a.location ≡ true) ⊎ (has r.accepting a.location ≡ false) → Falls (suc n) a b (d, f, t)
      go (inl met) here = inl (inr met)
      go (inr (away, le)) (inl here) = inl (inl here)
      go (inr (away, le)) (inr here) = inr (here, omega (arith, step_falls a d s f away))

  satisfies : Sound r → (a : Spot) → Reached r w plan a → r.satisfies (w.letter a.place) a.location (plan a.location a.place) ≡ true
  satisfies sound a p = let b = best a (reached_stands p) in subst (λ i. r.satisfies (w.letter i) a.location (plan a.location a.place) ≡ true) b.1 (share_satisfies (g.steps (picks a)) sound a.location b.2)

  accepts : (n : ℕ) (a : Spot) → Reached r w plan a → (t : Trail w plan (suc n) a a) → Meets r w plan (suc n) a a t
  accepts n a p t = ⊎_elim inl (λ plain. ⊎_elim (λ met. met) (λ less. absurd (omega (arith, less.1))) (trail_falls (suc n) a a (reached_stands p) plain t)) (cases_Bool (has r.accepting a.location))

pub makes_admits : (r : Alternating) → Sound r → (w : Behaviour) → Proper r.letters w → (g : Makes (rule_means r) w) → Lasso (rule_means r) w g → Admits r w
makes_admits r sound w proper g q =
    (plan r w g q, record { locations = λ a p. share_small (g.steps (picks r w g q a)) a.location; satisfies = satisfies r w g q sound; accepts = accepts r w g q })
