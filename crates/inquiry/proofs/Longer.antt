-- Longer tables: a run that does not end at full is the same in longer tables but for the places, and so is a new opening. Assumes nothing.
use Rattle.std.proofs.Common.{◌≡◌, ℕ, zero, suc, ◌≤◌, Bool, true, false, cond, ◌&&◌, eqb, ltb, List, [], ◌∷◌, ◌++◌, length, Some, None, Option, sym, refl, ap, ◌∙◌, ⊎_elim, arith}
use Rattle.std.proofs.lemmas.Bool.{cond-true, cases_Bool, lt-ltb, ltb-true}
use Rattle.graph.specs.Adding.{covered, staying, Table, unchanged, changed_to, put, and_then, filled}
use Rattle.graph.specs.Candidates.{all_tops, candidates}
use Rattle.graph.specs.Meaning.{Meaning}
use Rattle.inquiry.specs.declared.standing.Standing.TheVariants.{Running, Full, Spent}
use Rattle.inquiry.specs.Position.{Position, stands, in_places, held_of, opened, brought, gained, ended, limited, after, swept, ran}
use Rattle.inquiry.specs.Standing.{running}
use Rattle.inquiry.proofs.Runs.{ran_none, ran_more, ran_stopped}

module _ {S : Type 0} (below : S → S → Bool) (n k : ℕ) (longer : n ≤ k) where
  put_longer : (c : S) (t u : Table S) → put below n c t ≡ Some u → put below k c t ≡ Some u
  put_longer c t u = go (covered below c t.held) (ltb (length (staying below c t.held)) n) refl
    where
      new : Table S
      new = changed_to (staying below c t.held ++ c ∷ [])

      go : (b q : Bool) → ltb (length (staying below c t.held)) n ≡ q → cond b (Some t) (cond q (Some new) None) ≡ Some u → cond b (Some t) (cond (ltb (length (staying below c t.held)) k) (Some new) None) ≡ Some u
      go true q e h = h
      go false true e h = cond-true (ltb (length (staying below c t.held)) k) (Some new) None (lt-ltb (length (staying below c t.held)) k (omega (arith, ltb-true (length (staying below c t.held)) n e))) ∙ h
      go false false e h = let z : ◌≡◌ {A = ℕ} 0 1 = cc in absurd (omega arith)

  pub filled_longer : (cs : List S) (t u : Table S) → filled below n cs t ≡ Some u → filled below k cs t ≡ Some u
  filled_longer [] t u e = e
  filled_longer (c ∷ cs) t u e = go (put below n c t) refl (filled_longer cs) e
    where
      go : (o : Option (Table S)) → put below n c t ≡ o → ((v w : Table S) → filled below n cs v ≡ Some w → filled below k cs v ≡ Some w) → and_then (filled below n cs) o ≡ Some u → and_then (filled below k cs) (put below k c t) ≡ Some u
      go (Some v) p rest h = ap (and_then (filled below k cs)) (put_longer c t v p) ∙ rest v u h
      go None p rest h = let z : ◌≡◌ {A = ℕ} 0 1 = cc in absurd (omega arith)

module _ {S : Type 0} (m : Meaning S) (k : ℕ) where
  limited_longer : (q : Position S) → limited (in_places k q) ≡ in_places k (limited q)
  limited_longer q = go (running q.standing && eqb q.count q.limit)
    where
      go : (b : Bool) → cond b (stands Spent (in_places k q)) (in_places k q) ≡ in_places k (cond b (stands Spent q) q)
      go true = refl
      go false = refl

  after_longer : (p : Position S) (t : Table S) → after m (in_places k p) (Some t) ≡ in_places k (after m p (Some t))
  after_longer p t = go t.changed
    where
      go : (b : Bool) → limited (cond b (gained (in_places k p) t.held) (ended m (in_places k p))) ≡ in_places k (limited (cond b (gained p t.held) (ended m p)))
      go true = limited_longer (gained p t.held)
      go false = limited_longer (ended m p)

  pub swept_longer : (p : Position S) → p.places ≤ k → ((swept m p).standing ≡ Full → ⊥) → swept m (in_places k p) ≡ in_places k (swept m p)
  swept_longer p le = go (brought m p) refl
    where
      go : (o : Option (Table S)) → brought m p ≡ o → ((after m p o).standing ≡ Full → ⊥) → swept m (in_places k p) ≡ in_places k (after m p o)
      go (Some t) e h = ap (after m (in_places k p)) (filled_longer m.below p.places k le (candidates m p.inner p.outer) (unchanged p.inner) t e) ∙ after_longer p t
      go None e h = absurd (h refl)

  swept_places : (p : Position S) → (swept m p).places ≡ p.places
  swept_places p = go (brought m p)
    where
      limits : (q : Position S) → (limited q).places ≡ q.places
      limits q = pick (running q.standing && eqb q.count q.limit)
        where
          pick : (b : Bool) → (cond b (stands Spent q) q).places ≡ q.places
          pick true = refl
          pick false = refl

      pick : (b : Bool) (t : Table S) → (limited (cond b (gained p t.held) (ended m p))).places ≡ p.places
      pick true t = limits (gained p t.held)
      pick false t = limits (ended m p)

      go : (o : Option (Table S)) → (after m p o).places ≡ p.places
      go (Some t) = pick t.changed t
      go None = refl

  pub ran_longer : (b : ℕ) (p : Position S) → p.places ≤ k → ((ran m b p).standing ≡ Full → ⊥) → ran m b (in_places k p) ≡ in_places k (ran m b p)
  ran_longer zero p le h = ran_none m (in_places k p) ∙ ap (in_places k) (sym (ran_none m p))
  ran_longer (suc b) p le h =
      ⊎_elim (λ e. on e (ran_longer b (swept m p))) (λ e. ran_stopped m (suc b) (in_places k p) e ∙ ap (in_places k) (sym (ran_stopped m (suc b) p e))) (cases_Bool (running p.standing))
    where
      on : running p.standing ≡ true → ((swept m p).places ≤ k → ((ran m b (swept m p)).standing ≡ Full → ⊥) → ran m b (in_places k (swept m p)) ≡ in_places k (ran m b (swept m p))) → ran m (suc b) (in_places k p) ≡ in_places k (ran m (suc b) p)
      on e rest =
          let is = ran_more m b p e in
          let later : (ran m b (swept m p)).standing ≡ Full → ⊥ = λ f. h (ap (λ q. q.standing) is ∙ f) in
          let now' : (swept m p).standing ≡ Full → ⊥ = λ f. later (ap (λ q. q.standing) (ran_stopped m b (swept m p) (ap running f)) ∙ f) in
          ran_more m b (in_places k p) e ∙ ap (ran m b) (swept_longer p le now') ∙ rest (omega (arith, swept_places p)) later ∙ ap (in_places k) (sym is)

  pub opened_longer : (limit n : ℕ) (u : Table S) → n ≤ k → filled m.below n (all_tops m) (unchanged []) ≡ Some u → opened m limit k ≡ in_places k (opened m limit n)
  opened_longer limit n u le e =
      ap (λ l. record { standing = Running; round = 0; sweep = 0; count = 0; limit = limit; places = k; outer = held_of l; inner = [] }) (filled_longer m.below n k le (all_tops m) (unchanged []) u e ∙ sym e)
