-- A run keeps the places and the limit, and a search that is on a course is placed. Assumes nothing.
use Rattle.std.proofs.Common.{◌≡◌, ℕ, Some, None, Ok, Err, Option, Result, IfOk, sym, refl, ap, ◌∙◌, subst, ⊎_elim}
use Rattle.graph.specs.Meaning.{Meaning}
use Rattle.graph.specs.declared.Graph.{Ghosts}
use Rattle.inquiry.specs.declared.refusal.Refusal.{Refusal}
use Rattle.inquiry.specs.Calls.{Turned, Ran}
use Rattle.inquiry.specs.Course.{Course}
use Rattle.inquiry.specs.Position.{Position}
use Rattle.inquiry.proofs.Runs.{ran_keeps, swept_once}
use Rattle.tables.specs.Search.{place, Placed}
use Rattle.tables.specs.declared.search.Search.{Search}

-- what follows whether a call was turned down or done
pub either_way : {A P : Type 0} (o : Option ℕ) (x : Result A Refusal) (same : Type 0) (done : A → Type 0) → (same → P) → ((a : A) → done a → P) → Turned o x same done → P
either_way (Some n) (Ok a) same done f g t = absurd t
either_way (Some n) (Err e) same done f g t = f t.1
either_way None (Ok a) same done f g t = g a t
either_way None (Err e) same done f g t = absurd t

-- what a call did that nothing turned down, and what follows of it
pub done : {A : Type 0} (o : Option ℕ) (x : Result A Refusal) (same P : Type 0) → o ≡ None → Turned o x same (λ _. P) → P
done {A = A} o x same P is t = go x (subst (λ v. Turned v x same (λ _. P)) is t)
  where
    go : (x : Result A Refusal) → Turned None x same (λ _. P) → P
    go (Ok a) t = t
    go (Err e) t = absurd t

pub follows : {A : Type 0} (o : Option ℕ) (x : Result A Refusal) (same P Q : Type 0) → o ≡ None → Turned o x same (λ _. P) → IfOk x (λ _. Q) → Q
follows {A = A} o x same P Q is t q = go x (subst (λ v. Turned v x same (λ _. P)) is t) q
  where
    go : (x : Result A Refusal) → Turned None x same (λ _. P) → IfOk x (λ _. Q) → Q
    go (Ok a) t q = q
    go (Err e) t q = absurd t

pub run_keeps : {S : Type 0} (m : Meaning S) (budget : ℕ) (p q : Position S) → Ran m budget p q → (q.places ≡ p.places) × (q.limit ≡ p.limit)
run_keeps m budget p q r =
    subst (λ v. (v.places ≡ p.places) × (v.limit ≡ p.limit)) (sym r.is)
    (ran_keeps m (λ v. (v.places ≡ p.places) × (v.limit ≡ p.limit)) (λ v e h. ⊎_elim (λ f. (ap (λ x. x.places) f ∙ h.0, ap (λ x. x.limit) f ∙ h.1)) (λ c. (c.places ∙ h.0, c.limit ∙ h.1)) (swept_once m v)) budget p (refl, refl))

pub placed : {G S : Type 0} {g : Ghosts G S} (m : Meaning S) (s : Search G S g) → Course m (place s) → Placed m s
placed m s course = record { long = record { outer = s.long; inner = s.tables.inner_long ∙ s.long; work = s.tables.work_long ∙ s.long }; course = course }
