-- The calls: when none turns its input down, what an accepted call does to the position, and that the course goes on. Assumes nothing.
use Rattle.std.proofs.Common.{◌≡◌, ℕ, suc, ◌+◌, ◌-◌, ◌<◌, ◌≤◌, false, ◌⊎◌, [], Some, None, Ok, Err, Option, sym, refl, ap, ◌∙◌, subst, arith, rules, tests}
use Rattle.graph.specs.Adding.{unchanged, filled}
use Rattle.graph.specs.Candidates.{all_tops}
use Rattle.graph.specs.Meaning.{Meaning, Lawful}
use Rattle.graph.proofs.Candidates.{Opened, opens}
use Rattle.inquiry.specs.declared.refusal.Refusal.{Refusal}
use Rattle.inquiry.specs.declared.report.Report.{Report}
use Rattle.inquiry.specs.declared.standing.Standing.{Standing}
use Rattle.inquiry.specs.declared.standing.Standing.TheVariants.{Running, Possible, Impossible, Full, Spent}
use Rattle.inquiry.specs.Calls.{run_refusal, widen_refusal, Turned, Ran}
use Rattle.inquiry.specs.Course.{Course, by_open, by_run, by_widen, Promise, Onward}
use Rattle.inquiry.specs.Position.{Position, opened, swept, ran, widened}
use Rattle.inquiry.specs.Standing.{running}
use Rattle.inquiry.proofs.Courses.{promised}
use Rattle.inquiry.proofs.Longer.{ran_longer}
use Rattle.inquiry.proofs.Runs.{Bounded, ran_none, ran_more, ran_stopped, ran_ends, ran_counts}

-- an accepted call did what it does
pub done_by : {A : Type 0} (o : Option ℕ) (a : A) (same : Type 0) (done : A → Type 0) → Turned o (Ok a) same done → done a
done_by (Some n) a same done t = absurd t
done_by None a same done t = t

-- nothing turned an accepted call down
pub accepted_by : {A : Type 0} (o : Option ℕ) (a : A) (same : Type 0) (done : A → Type 0) → Turned o (Ok a) same done → o ≡ None
accepted_by (Some n) a same done t = absurd t
accepted_by None a same done t = refl

-- a call with nothing to turn it down is not turned down
pub not_turned : {A : Type 0} (o : Option ℕ) (e : Refusal) (same : Type 0) (done : A → Type 0) → o ≡ None → Turned o (Err e) same done → ⊥
not_turned (Some n) e same done is t = let z : ◌≡◌ {A = ℕ} 0 1 = cc in omega arith
not_turned None e same done is t = t

-- there is a place for each top
pub tops_fit : {S : Type 0} (m : Meaning S) → Lawful m → (n : ℕ) → m.tops ≤ n → None ≡ filled m.below n (all_tops m) (unchanged []) → ⊥
tops_fit m l n room e = subst (Opened m n) (sym e) (opens m l n room)

pub not_running : (s : Standing) → (s ≡ Running → ⊥) → running s ≡ false
not_running Running h = absurd (h refl)
not_running Possible h = refl
not_running Impossible h = refl
not_running Full h = refl
not_running Spent h = refl

module _ (r : Report) (a b c : ℕ) (x : a ≡ r.places) (y : b ≡ r.places) (z : c ≡ r.places) where
  pub run_accepted : r.standing ≡ Running → run_refusal r a b c ≡ None
  run_accepted h = search (rules, tests)

module _ (r : Report) (a b x y z : ℕ) (p : a ≡ r.places) (q : b ≡ r.places) (f : r.standing ≡ Full) where
  pub widen_accepted : y ≡ x → z ≡ x → r.places < x → x ≤ 4096 → widen_refusal r a b x y z ≡ None
  widen_accepted i j k l = search (rules, tests)

module _ {S : Type 0} (m : Meaning S) where
  -- the turns of a run
  pub steps_more : (b d : ℕ) (p q o : Position S) → ran m (b - d) p ≡ o → d < b → p.standing ≡ Running → q ≡ swept m p → ran m (b - (d + 1)) q ≡ o
  steps_more b d p q o e lt runs is =
      let left : suc (b - (d + 1)) ≡ b - d = omega arith in
      ap (ran m (b - (d + 1))) is ∙ sym (ran_more m (b - (d + 1)) p (ap running runs)) ∙ ap (λ k. ran m k p) left ∙ e

  pub steps_stop : (b d : ℕ) (p o : Position S) → ran m (b - d) p ≡ o → (p.standing ≡ Running → ⊥) → p ≡ o
  steps_stop b d p o e h = sym (ran_stopped m (b - d) p (not_running p.standing h)) ∙ e

  pub steps_all : (b d : ℕ) (p o : Position S) → ran m (b - d) p ≡ o → b ≤ d → p ≡ o
  steps_all b d p o e le = let none : 0 ≡ b - d = omega arith in sym (ran_none m p) ∙ ap (λ k. ran m k p) none ∙ e

  pub ran_all : (b : ℕ) (p q : Position S) → q ≡ ran m b p → p.standing ≡ Running → Bounded p → Ran m b p q
  ran_all b p q e runs bounded = record {
    is = e;
    ends = λ le. ap (λ v. running v.standing) e ∙ ran_ends m b p bounded le;
    counts = λ some. subst (λ v. (p.count < v.count) ⊎ (v.standing ≡ Full)) (sym e) (ran_counts m b p some runs);
    longer = λ n le h. ran_longer m n b p le (λ f. h (ap (λ v. v.standing) e ∙ f)) ∙ ap (λ v. record { standing = v.standing; round = v.round; sweep = v.sweep; count = v.count; limit = v.limit; places = n; outer = v.outer; inner = v.inner }) (sym e);
  }

module _ {S : Type 0} (m : Meaning S) (l : Lawful m) where
  pub stays : (p : Position S) → Onward m p p
  stays p course = (course, promised m l p course)

  pub ran_onward : (b : ℕ) (p q : Position S) → q ≡ ran m b p → p.standing ≡ Running → Onward m p q
  ran_onward b p q e runs course =
      let next : Course m q = subst (Course m) (sym e) (by_run p course runs b) in
      (next, promised m l q next)

  pub widened_onward : (n : ℕ) (p q : Position S) → q ≡ widened n p → p.standing ≡ Full → p.places < n → n ≤ 4096 → Onward m p q
  widened_onward n p q e f lt le course =
      let next : Course m q = subst (Course m) (sym e) (by_widen p course f n lt le) in
      (next, promised m l q next)

  pub opened_onward : (limit n : ℕ) (q : Position S) → q ≡ opened m limit n → 1 ≤ limit → 1 ≤ n → n ≤ 4096 → m.tops ≤ n → Course m q × Promise m q
  opened_onward limit n q e some one few room =
      let next : Course m q = subst (Course m) (sym e) (by_open limit n some one few room) in
      (next, promised m l q next)
