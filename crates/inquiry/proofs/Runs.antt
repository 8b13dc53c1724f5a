-- Runs: how the count moves, that a stopped inquiry stays, that a sweep counts once or finds no place, and that the limit ends a run. Assumes nothing.
use Rattle.std.proofs.Common.{◌≡◌, ℕ, zero, suc, ◌+◌, ◌<◌, ◌≤◌, true, false, cond, ◌&&◌, eqb, ◌⊎◌, Some, None, Option, sym, refl, ap, ◌∙◌, subst, inl, inr, ⊎_elim, arith}
use Rattle.std.proofs.lemmas.Bool.{both_ways, cond_both, cond-true, cond-false, and_cases, eqb-false, cases_Bool}
use Rattle.graph.specs.Adding.{covered, all_covered, Table}
use Rattle.graph.specs.Meaning.{Meaning}
use Rattle.inquiry.specs.declared.standing.Standing.{Standing}
use Rattle.inquiry.specs.declared.standing.Standing.TheVariants.{Running, Possible, Impossible, Full, Spent}
use Rattle.inquiry.specs.Position.{Position, stands, brought, gained, ended, decided, limited, after, swept, ran}
use Rattle.inquiry.specs.Standing.{running, going}

pub running_is : (s : Standing) → running s ≡ true → s ≡ Running
running_is Running e = refl
running_is Possible e = absurd (both_ways false refl e)
running_is Impossible e = absurd (both_ways false refl e)
running_is Full e = absurd (both_ways false refl e)
running_is Spent e = absurd (both_ways false refl e)

-- what a position may be short of before the limit is looked at
abbrev pub Bounded : {S : Type 0} → Position S → Type 0
Bounded p = going p.standing ≡ true → p.count < p.limit

-- a sweep finds no place, or it counts
pub record Counts {S : Type 0} (p q : Position S) : Type 0 where
  pub count : q.count ≡ suc p.count
  pub limit : q.limit ≡ p.limit
  pub places : q.places ≡ p.places
  pub not_full : q.standing ≡ Full → ⊥
  pub bounded : p.count < p.limit → Bounded q

abbrev pub Once : {S : Type 0} → Position S → Position S → Type 0
Once p q = (q ≡ stands Full p) ⊎ Counts p q

module _ {S : Type 0} (m : Meaning S) where
  -- a position with one more counted
  limited_counts : (p q : Position S) → q.count ≡ suc p.count → q.limit ≡ p.limit → q.places ≡ p.places → q.standing ≡ Running → Counts p (limited q)
  limited_counts p q c l n s =
      cond_both (running q.standing && eqb q.count q.limit) (stands Spent q) q (Counts p)
      (λ e. record { count = c; limit = l; places = n; not_full = λ z. cc; bounded = λ lt g. absurd (both_ways false refl g) })
      (λ e. record {
        count = c;
        limit = l;
        places = n;
        not_full = λ z. cc;
        bounded = λ lt g. ⊎_elim (λ r. absurd (both_ways (running q.standing) r (ap running s))) (λ r. omega (arith, eqb-false q.count q.limit r)) (and_cases (running q.standing) (eqb q.count q.limit) e);
      })

  stopped_counts : (p q : Position S) → q.count ≡ suc p.count → q.limit ≡ p.limit → q.places ≡ p.places → going q.standing ≡ false → Counts p (limited q)
  stopped_counts p q c l n s =
      cond_both (running q.standing && eqb q.count q.limit) (stands Spent q) q (Counts p)
      (λ e. record { count = c; limit = l; places = n; not_full = λ z. cc; bounded = λ lt g. absurd (both_ways false refl g) })
      (λ e. record { count = c; limit = l; places = n; not_full = λ z. both_ways (going q.standing) s (ap going z); bounded = λ lt g. absurd (both_ways (going q.standing) s g) })

  ended_counts : (p : Position S) (s : Standing) → (s ≡ Running) ⊎ (going s ≡ false) → Counts p (limited (stands s (ended m p)))
  ended_counts p s (inl e) = limited_counts p (stands s (ended m p)) refl refl refl e
  ended_counts p s (inr e) = stopped_counts p (stands s (ended m p)) refl refl refl e

  after_once : (p : Position S) (o : Option (Table S)) → Once p (after m p o)
  after_once p None = inl refl
  after_once p (Some t) =
      inr (cond_both t.changed (gained p t.held) (ended m p) (λ q. Counts p (limited q)) (λ e. limited_counts p (gained p t.held) refl refl refl refl)
      (λ e. ended_counts p (decided m p.outer p.inner) decides))
    where
      decides : (decided m p.outer p.inner ≡ Running) ⊎ (going (decided m p.outer p.inner) ≡ false)
      decides =
          cond_both (covered m.below m.start p.inner) (cond (all_covered m.below p.outer p.inner) Possible Running) Impossible (λ s. (s ≡ Running) ⊎ (going s ≡ false))
          (λ e. cond_both (all_covered m.below p.outer p.inner) Possible Running (λ s. (s ≡ Running) ⊎ (going s ≡ false)) (λ f. inr refl) (λ f. inl refl))
          (λ e. inr refl)

  pub swept_once : (p : Position S) → Once p (swept m p)
  swept_once p = after_once p (brought m p)

  pub swept_bounded : (p : Position S) → p.count < p.limit → Bounded (swept m p)
  swept_bounded p lt = ⊎_elim (λ e. subst Bounded (sym e) (λ g. lt)) (λ c. c.bounded lt) (swept_once p)

  pub ran_none : (p : Position S) → ran m zero p ≡ p
  unfolding ran
  ran_none p = refl

  pub ran_more : (b : ℕ) (p : Position S) → running p.standing ≡ true → ran m (suc b) p ≡ ran m b (swept m p)
  unfolding ran
  ran_more b p e = cond-true (running p.standing) (ran m b (swept m p)) p e

  pub ran_stopped : (b : ℕ) (p : Position S) → running p.standing ≡ false → ran m b p ≡ p
  unfolding ran
  ran_stopped zero p e = refl
  ran_stopped (suc b) p e = cond-false (running p.standing) (ran m b (swept m p)) p e

  -- what every sweep of a run keeps, the run keeps
  pub ran_keeps : (P : Position S → Type 0) → ((p : Position S) → running p.standing ≡ true → P p → P (swept m p)) → (b : ℕ) (p : Position S) → P p → P (ran m b p)
  unfolding ran
  ran_keeps P step zero p h = h
  ran_keeps P step (suc b) p h = cond_both (running p.standing) (ran m b (swept m p)) p P (λ e. ran_keeps P step b (swept m p) (step p e h)) (λ e. h)

  -- a budget that reaches the limit leaves nothing running
  pub ran_ends : (b : ℕ) (p : Position S) → Bounded p → p.limit ≤ b + p.count → running (ran m b p).standing ≡ false
  ran_ends zero p h le = ⊎_elim (λ e. absurd (omega (arith, h (ap going (running_is p.standing e))))) (λ e. subst (λ q. running q.standing ≡ false) (sym (ran_none p)) e) (cases_Bool (running p.standing))
  ran_ends (suc b) p h le =
      ⊎_elim (λ e. subst (λ q. running q.standing ≡ false) (sym (ran_more b p e)) (go e (ran_ends b (swept m p)) (swept_once p))) (λ e. subst (λ q. running q.standing ≡ false) (sym (ran_stopped (suc b) p e)) e) (cases_Bool (running p.standing))
    where
      go : running p.standing ≡ true → (Bounded (swept m p) → (swept m p).limit ≤ b + (swept m p).count → running (ran m b (swept m p)).standing ≡ false) → Once p (swept m p) → running (ran m b (swept m p)).standing ≡ false
      go e rest (inl f) = let stop : running (swept m p).standing ≡ false = ap (λ q. running q.standing) f in subst (λ q. running q.standing ≡ false) (sym (ran_stopped b (swept m p) stop)) stop
      go e rest (inr c) = rest (swept_bounded p (h (ap going (running_is p.standing e)))) (omega (arith, c.count, c.limit))

  ran_rises : (b : ℕ) (p : Position S) → p.count ≤ (ran m b p).count
  ran_rises b p = ran_keeps (λ q. p.count ≤ q.count) (λ q e h. ⊎_elim (λ f. omega (arith, ap (λ r. r.count) f)) (λ c. omega (arith, c.count)) (swept_once q)) b p (omega arith)

  -- a run with a budget counts a sweep or ends at full
  pub ran_counts : (b : ℕ) (p : Position S) → 1 ≤ b → p.standing ≡ Running → (p.count < (ran m b p).count) ⊎ ((ran m b p).standing ≡ Full)
  ran_counts zero p some s = absurd (omega arith)
  ran_counts (suc b) p some s = subst (λ q. (p.count < q.count) ⊎ (q.standing ≡ Full)) (sym (ran_more b p (ap running s))) (go (swept_once p))
    where
      go : Once p (swept m p) → (p.count < (ran m b (swept m p)).count) ⊎ ((ran m b (swept m p)).standing ≡ Full)
      go (inl f) = inr (ap (λ q. q.standing) (ran_stopped b (swept m p) (ap (λ q. running q.standing) f) ∙ f))
      go (inr c) = inl (omega (arith, c.count, ran_rises b (swept m p)))
