-- What the end of a round tells: the next Y, no loop if the start is lost, a loop if nothing is, and else a lost state. Assumes nothing.
use Rattle.std.proofs.Common.{◌≡◌, ℕ, suc, Bool, true, false, List, [], ◌∷◌, refl, inl, inr, ⊎_elim}
use Rattle.std.specs.List.{AllByRecursion}
use Rattle.std.proofs.lemmas.Bool.{and_parts, and_cases, both_ways}
use Rattle.graph.specs.Adding.{covered, all_covered}
use Rattle.graph.specs.Lists.{In, Covered}
use Rattle.graph.specs.Meaning.{Meaning, Lawful, State}
use Rattle.graph.specs.Sets.{Y, X, Within, Same, Represents}
use Rattle.graph.specs.Walks.{Loop}
use Rattle.graph.proofs.Adding.{covered_true, covered_false}
use Rattle.graph.proofs.Bound.{Beyond}
use Rattle.graph.proofs.Lists.{all_in, covering, covered_by}
use Rattle.graph.proofs.Loops.{loop_stays, loop_found}
use Rattle.graph.proofs.Sets.{settled, y_down, y_falls}

module _ {S : Type 0} (below : S → S → Bool) where
  all_covered_true : (xs ys : List S) → all_covered below xs ys ≡ true → AllByRecursion (Covered below ys) xs
  all_covered_true [] ys e = tt
  all_covered_true (x ∷ xs) ys e =
      let p = and_parts (covered below x ys) (all_covered below xs ys) e in
      (covered_true below x ys p.0, all_covered_true xs ys p.1)

  all_covered_false : (xs ys : List S) → all_covered below xs ys ≡ false → (x : S) × In x xs × (Covered below ys x → ⊥)
  all_covered_false [] ys e = absurd (both_ways true e refl)
  all_covered_false (x ∷ xs) ys e =
      ⊎_elim (λ f. (x, inl refl, covered_false below x ys f)) (λ f. let r = all_covered_false xs ys f in (r.0, inr r.1, r.2)) (and_cases (covered below x ys) (all_covered below xs ys) e)

module _ {S : Type 0} (m : Meaning S) (l : Lawful m) where
  pub represents_same : (held : List S) (P Q : S → Type 0) → Same P Q → Represents m held P → Represents m held Q
  represents_same held P Q same r = record { members = r.members; covers = λ a q. r.covers a (same.1 a q); only = λ a s h. same.0 a (r.only a s h) }

  pub round_ends : (n j : ℕ) (inner : List S) → Represents m inner (X m n j) → Same (X m n (suc j)) (X m n j) → Represents m inner (Y m (suc n))
  round_ends n j inner r stays = represents_same inner (X m n j) (Y m (suc n)) (settled m l n j stays) r

  pub no_loop : (n : ℕ) (outer : List S) → Represents m outer (Y m n) → covered m.below m.start outer ≡ false → Loop m → ⊥
  no_loop n outer r e p = covered_false m.below m.start outer e (r.covers m.start (loop_stays m l p n)).1

  module _ (n : ℕ) (former outer : List S) (f : Represents m former (Y m n)) (r : Represents m outer (Y m (suc n))) where
    within : all_covered m.below former outer ≡ true → Within (Y m n) (Y m (suc n))
    within e a y =
        let b = covering m.below former a (f.covers a y).1 in
        let sb = all_in (State m) former b.0 f.members b.1 in
        y_down m l (suc n) a b.0 (f.covers a y).0 b.2 (r.only b.0 sb (all_in (Covered m.below outer) former b.0 (all_covered_true m.below former outer e) b.1))

    pub a_loop : covered m.below m.start outer ≡ true → all_covered m.below former outer ≡ true → Loop m
    a_loop here e = loop_found m l n (within e) (y_falls m n m.start (r.only m.start l.start_state (covered_true m.below m.start outer here)))

    pub loses : all_covered m.below former outer ≡ false → Beyond (Y m n) (Y m (suc n))
    loses e =
        let b = all_covered_false m.below former outer e in
        let s = all_in (State m) former b.0 f.members b.1 in
        (b.0, f.only b.0 s (covered_by m.below former b.0 b.0 b.1 (l.reflexive b.0 s)), λ y. b.2 (r.covers b.0 y).1)
