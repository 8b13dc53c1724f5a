-- A measure of the held locations of a walk that turns back, which falls from each location to those that it is given. Assumes nothing.
use Rattle.std.proofs.Common.{◌≡◌, ℕ, suc, ◌+◌, ◌<◌, ◌≤◌, true, false, cond, eqb, sym, refl, ap, ◌∙◌, subst, ⊎_elim, arith}
use Rattle.std.proofs.lemmas.Bool.{cases_Bool, cases_eq, cond-true, cond-false, cond_both, eqb-true}
use Rattle.behaviour.specs.Behaviours.{Behaviour, Makes, place}
use Rattle.behaviour.proofs.Lassos.{Lasso}
use Rattle.formula.specs.Sets.{has}
use Rattle.formula.proofs.Sets.{has_zero}
use Rattle.rule_graph.specs.declared.masks.Masks.{Masks}
use Rattle.rule_graph.specs.Alternating.{Alternating}
use Rattle.rule_graph.specs.RuleGraph.{rule_means}
use Rattle.rule_graph.proofs.Shares.{share, share_held, share_owes, all_owes}
use Rattle.rule_graph.proofs.Rounds.{Round, end, after, left, left_falls, left_past}
use Rattle.rule_graph.specs.Sets.{member_some}

-- the steps before the turn, with a round more for a location that is not owed
abbrev pub size : (ℕ → Masks) → Round → ℕ → ℕ → ℕ
size at c l p = left c p + cond (has (at p).owed l) 0 c.round

module _ (at : ℕ → Masks) (c : Round) (l p : ℕ) where
  size_owed : has (at p).owed l ≡ true → size at c l p ≡ left c p
  size_owed h = omega (arith, cond-true _ 0 c.round h)

  size_free : has (at p).owed l ≡ false → size at c l p ≡ left c p + c.round
  size_free h = omega (arith, cond-false _ 0 c.round h)

  size_most : size at c l p ≤ left c p + c.round
  size_most = ⊎_elim (λ h. omega (arith, size_owed h)) (λ h. omega (arith, size_free h)) (cases_Bool (has (at p).owed l))

-- the round of a walk that turns back
abbrev pub turning : {r : Alternating} {w : Behaviour} {g : Makes (rule_means r) w} → Lasso (rule_means r) w g → Round
turning q = record { turn = q.turn; round = q.round; some = q.some }

module _ (r : Alternating) (w : Behaviour) (g : Makes (rule_means r) w) (q : Lasso (rule_means r) w g) where
  abbrev c : Round
  c = turning q

  -- the position after has the state and the place a step on
  pub same : (p : ℕ) → (g.at (after c p) ≡ g.at (suc p)) × (place w (after c p) ≡ place w (suc p))
  same p =
      cond_both (eqb (suc p) (end c)) c.turn (suc p) (λ n. (g.at n ≡ g.at (suc p)) × (place w n ≡ place w (suc p))) (λ e. let at-end = sym (eqb-true (suc p) (end c) e) in (sym q.same ∙ ap g.at at-end, sym q.there ∙ ap (place w) at-end))
      (λ _. (refl, refl))

  free : (g.at q.turn).owed ≡ 0
  free = eqb-true _ 0 q.accepts

  module _ (p l k : ℕ) (inside : p < end c) (h : has (share r (g.at p) (g.at (suc p)) l) k ≡ true) (plain : has r.accepting k ≡ false) where
    owed_after : has (g.at (suc p)).owed k ≡ true → has (g.at (after c p)).owed k ≡ true
    owed_after o = subst (λ m. has m.owed k ≡ true) (sym (same p).0) o

    -- at the turn nothing is owed, so all that is given and not accepting is owed after it
    falls_turn : p ≡ q.turn → size g.at c k (after c p) < size g.at c l p
    falls_turn e =
        let none : (g.at p).owed ≡ 0 = ap (λ n. (g.at n).owed) e ∙ free in
        let owed = owed_after (all_owes (g.steps p) k plain none (share_held (g.steps p) l k h)) in
        let moved : after c p ≡ q.turn → ⊥ = λ back. member_some (g.at (after c p)).owed k owed (ap (λ n. (g.at n).owed) back ∙ free) in
        let short : left c (after c p) < q.round = subst (λ n. left c (after c n) < q.round) (sym e) (left_past c (subst (λ n. after c n ≡ q.turn → ⊥) e moved)) in
        omega (arith, size_owed g.at c k (after c p) owed, size_free g.at c l p (subst (λ s. has s l ≡ false) (sym none) (has_zero l)))

    falls_else : (p ≡ q.turn → ⊥) → size g.at c k (after c p) < size g.at c l p
    falls_else ne = ⊎_elim owed not_owed (cases_Bool (has (g.at p).owed l))
      where
        less : left c (after c p) < left c p
        less = left_falls c p inside ne

        owed : has (g.at p).owed l ≡ true → size g.at c k (after c p) < size g.at c l p
        owed o = omega (arith, less, size_owed g.at c l p o, size_owed g.at c k (after c p) (owed_after (share_owes (g.steps p) k plain l o h)))

        not_owed : has (g.at p).owed l ≡ false → size g.at c k (after c p) < size g.at c l p
        not_owed o = omega (arith, less, size_free g.at c l p o, size_most g.at c k (after c p))

    pub falls : size g.at c k (after c p) < size g.at c l p
    falls = ⊎_elim falls_turn falls_else (cases_eq p q.turn)
