-- A plan makes a walk of the graph: what is held and owed next are the sets that the plan gives. Assumes nothing.
use Rattle.std.proofs.Common.{◌≡◌, ℕ, zero, suc, ◌^◌, ◌<◌, Bool, true, cond, ◌&&◌, eqb, ◌⊎◌, sym, refl, ap, ◌∙◌, subst, inl, inr, arith, pow_pos}
use Rattle.std.proofs.lemmas.Bool.{both_ways, cases_eq, cond-true, cond-false, cond_both, eqb-true, eq-eqb, ne_eqb, and_parts, and_from}
use Rattle.behaviour.specs.Behaviours.{Behaviour, place}
use Rattle.formula.specs.Sets.{has, Within}
use Rattle.formula.proofs.Sets.{has_zero, has_pow}
use Rattle.rule_graph.specs.declared.masks.Masks.{Masks}
use Rattle.rule_graph.specs.Alternating.{Alternating, Sound}
use Rattle.rule_graph.specs.RuleGraph.{those, pair, unsettled, Owes, Steps}
use Rattle.rule_graph.specs.Plans.{Spot, spot, Plan, Reached, first, onward, Accepting}
use Rattle.rule_graph.proofs.Least.{least, least_of}
use Rattle.rule_graph.specs.Sets.{those_small, in_those, those_in, in_small}
use Rattle.rule_graph.specs.Pairs.{is_pair_of, in_unsettled, unsettled_small}

abbrev leads : Plan → ℕ → ℕ → ℕ → ℕ → Bool
leads plan s i k l = has s l && has (plan l i) k

-- a location of the set whose own set at the place has k
pub source : Alternating → Plan → ℕ → ℕ → ℕ → ℕ
source r plan s i k = least r.locations (leads plan s i k) (λ _. 0)

-- all that the plan gives the set's locations at the place
pub onto : Alternating → Plan → ℕ → ℕ → ℕ
onto r plan s i = those r.locations (λ k. leads plan s i k (source r plan s i k))

-- what has to be met: what is owed, or all that is held
abbrev pub debt : Masks → ℕ
debt p = cond (eqb p.owed 0) p.held p.owed

abbrev pub run : Alternating → Behaviour → Plan → ℕ → Masks
run r w plan zero = pair (2 ^ r.initial) 0
run r w plan (suc t) = let p : Masks = run r w plan t in pair (onto r plan p.held (place w t)) (unsettled r (onto r plan (debt p) (place w t)))

module _ (r : Alternating) (plan : Plan) (s i : ℕ) where
  pub from_onto : (k : ℕ) → has (onto r plan s i) k ≡ true → (has s (source r plan s i k) ≡ true) × (has (plan (source r plan s i k) i) k ≡ true)
  unfolding onto
  from_onto k h = and_parts _ _ (in_those r.locations (λ j. leads plan s i j (source r plan s i j)) k h).1

  onto_in : (l k : ℕ) → l < r.locations → k < r.locations → has s l ≡ true → has (plan l i) k ≡ true → has (onto r plan s i) k ≡ true
  unfolding onto source
  onto_in l k small inside h p = those_in r.locations (λ j. leads plan s i j (source r plan s i j)) k inside (least_of (leads plan s i k) (λ _. 0) r.locations l small (and_from _ _ h p)).passes

  onto_small : onto r plan s i < 2 ^ r.locations
  unfolding onto
  onto_small = those_small r.locations (λ j. leads plan s i j (source r plan s i j))

module _ (r : Alternating) (sound : Sound r) (w : Behaviour) (plan : Plan) (a : Accepting r w plan) where
  pub reached_small : {b : Spot} → Reached r w plan b → b.location < r.locations
  reached_small first = sound.initial
  reached_small (onward c b p f) = in_small r.locations (plan c.location c.place) b.location (a.locations c p) f.0

  pub held_reached : (t l : ℕ) → has (run r w plan t).held l ≡ true → Reached r w plan (spot l (place w t))
  held_reached zero l h = subst (λ k. Reached r w plan (spot k 0)) (sym (eqb-true l r.initial (sym (has_pow r.initial l) ∙ h))) first
  held_reached (suc t) l h =
      let s : ℕ = (run r w plan t).held in
      let f = from_onto r plan s (place w t) l h in
      let k : ℕ = source r plan s (place w t) l in
      onward (spot k (place w t)) (spot l (place w (suc t))) (held_reached t k f.0) (f.1, refl)

  plan_onto : (s i l : ℕ) → Reached r w plan (spot l i) → has s l ≡ true → Within (plan l i) (onto r plan s i)
  plan_onto s i l p h k m = onto_in r plan s i l k (reached_small p) (in_small r.locations (plan l i) k (a.locations (spot l i) p) m) h m

  module _ (t s : ℕ) (inside : Within s (run r w plan t).held) where
    onto_satisfies : (l : ℕ) → has s l ≡ true → r.satisfies (w.letter (place w t)) l (onto r plan s (place w t)) ≡ true
    onto_satisfies l h = let p = held_reached t l (inside l h) in sound.monotone (w.letter (place w t)) l (plan l (place w t)) (onto r plan s (place w t)) (plan_onto s (place w t) l p h) (a.satisfies _ p)

    onto_held : Within (onto r plan s (place w t)) (run r w plan (suc t)).held
    onto_held k h =
        let f = from_onto r plan s (place w t) k h in
        let held = inside (source r plan s (place w t) k) f.0 in
        plan_onto (run r w plan t).held (place w t) (source r plan s (place w t) k) (held_reached t (source r plan s (place w t) k) held) held k f.1

  debt_held : (p : Masks) → Within p.owed p.held → Within (debt p) p.held
  debt_held p inside = cond_both (eqb p.owed 0) p.held p.owed (λ s. Within s p.held) (λ _ l h. h) (λ _. inside)

  pub owed_held : (t : ℕ) → Within (run r w plan t).owed (run r w plan t).held
  owed_held zero l h = absurd (both_ways _ (has_zero l) h)
  owed_held (suc t) l h =
      onto_held t (debt (run r w plan t)) (debt_held (run r w plan t) (owed_held t)) l (in_unsettled r (onto r plan (debt (run r w plan t)) (place w t)) l h).0

  owes : (t : ℕ) → ((run r w plan t).owed ≡ 0) ⊎ ((run r w plan t).owed ≡ 0 → ⊥) → Owes r (w.letter (place w t)) (run r w plan t) (run r w plan (suc t))
  owes t (inl none) = inl (none, ap (λ s. unsettled r (onto r plan s (place w t))) (cond-true _ _ _ (eq-eqb _ 0 none)))
  owes t (inr some) =
      let p : Masks = run r w plan t in
      inr (some, (onto r plan p.owed (place w t), onto_held t p.owed (owed_held t), onto_satisfies t p.owed (owed_held t), ap (λ s. unsettled r (onto r plan s (place w t))) (cond-false _ _ _ (ne_eqb _ 0 some))))

  pub run_steps : (t : ℕ) → Steps r (w.letter (place w t)) (run r w plan t) (run r w plan (suc t))
  run_steps t =
      let p : Masks = run r w plan t in
      record {
        to_pair = is_pair_of r (run r w plan (suc t)) (record { small = onto_small r plan p.held (place w t); inside = owed_held (suc t); unsettled = λ l h. (in_unsettled r (onto r plan (debt p) (place w t)) l h).1 });
        held = onto_satisfies t p.held (λ l h. h);
        owed = owes t (cases_eq p.owed 0);
      }

  pub owed_small : (t : ℕ) → (run r w plan t).owed < 2 ^ r.locations
  owed_small zero = omega (arith, pow_pos r.locations)
  owed_small (suc t) = unsettled_small r (onto r plan (debt (run r w plan t)) (place w t))
