-- The graph of the chain keeps the laws, each found by trying all states. Assumes nothing.
use Rattle.std.specs.Prelude.{◌≡◌, ℕ, zero, suc, ◌-◌, ◌<◌, Bool, true, false, cond, not, ◌&&◌, ◌||◌, ltb, List, [], ◌∷◌, Some, None, ◌==◌, ◌≢◌, nat_lt, refl}
use Rattle.std.proofs.Common.{inl, inr, ⊎_elim, sym, subst, ◌∙◌, arith}
use Rattle.std.proofs.lemmas.Bool.{false≢true, cases_eq, cond-true, eqb-true, ltb-true, and_parts, and_from}
use Rattle.graph.specs.Lists.{In}
use Rattle.graph.specs.Meaning.{Lawful}
use Rattle.toy_graph.specs.Chain.{moves, under, leads, chain_means}

-- whether the first test, passed, has the second pass
abbrev implies : Bool → Bool → Bool
implies p q = not p || q

implied : (p q : Bool) → implies p q ≡ true → p ≡ true → q ≡ true
implied true q h e = h
implied false q h e = absurd (false≢true e)

abbrev all : (ℕ → Bool) → List ℕ → Bool
all p [] = true
all p (x ∷ xs) = p x && all p xs

-- a test that all numbers below n pass
abbrev all_pass : (ℕ → Bool) → ℕ → Bool
all_pass p zero = true
all_pass p (suc n) = p n && all_pass p n

passes : (p : ℕ → Bool) (n : ℕ) → all_pass p n ≡ true → (i : ℕ) → i < n → p i ≡ true
passes p zero h i l = absurd (omega arith)
passes p (suc n) h i l =
    ⊎_elim (λ e. subst (λ j. p j ≡ true) (sym e) (and_parts (p n) (all_pass p n) h).0) (λ ne. passes p n (and_parts (p n) (all_pass p n) h).1 i (less ne)) (cases_eq i n)
  where
    less : (i ≢ n) → i < n
    less ne = omega arith

state : (a : ℕ) → a < 5 → In a (0 ∷ 1 ∷ 2 ∷ 3 ∷ 4 ∷ [])
state a l =
    ⊎_elim inl (λ n0. inr (⊎_elim inl (λ n1. inr (⊎_elim inl (λ n2. inr (⊎_elim inl (λ n3. inr (inl (last n0 n1 n2 n3))) (cases_eq a 3))) (cases_eq a 2))) (cases_eq a 1))) (cases_eq a 0)
  where
    last : (a ≢ 0) → (a ≢ 1) → (a ≢ 2) → (a ≢ 3) → a ≡ 4
    last n0 n1 n2 n3 = omega arith

number : (a : ℕ) → In a (0 ∷ 1 ∷ 2 ∷ 3 ∷ 4 ∷ []) → a < 5
number a (inl e) = omega arith
number a (inr (inl e)) = omega arith
number a (inr (inr (inl e))) = omega arith
number a (inr (inr (inr (inl e)))) = omega arith
number a (inr (inr (inr (inr (inl e))))) = omega arith
number a (inr (inr (inr (inr (inr n))))) = elim n [ ]

-- a law of one, two or three states, tried
one : (p : ℕ → Bool) → all_pass p 5 ≡ true → (a : ℕ) → a < 5 → p a ≡ true
one p h = passes p 5 h

two : (p : ℕ → ℕ → Bool) → all_pass (λ a. all_pass (p a) 5) 5 ≡ true → (a b : ℕ) → a < 5 → b < 5 → p a b ≡ true
two p h a b s t = passes (p a) 5 (passes (λ y. all_pass (p y) 5) 5 h a s) b t

three : (p : ℕ → ℕ → ℕ → Bool) → all_pass (λ a. all_pass (λ b. all_pass (p a b) 5) 5) 5 ≡ true → (a b c : ℕ) → a < 5 → b < 5 → c < 5 → p a b c ≡ true
three p h a b c s t u = two (p a) (passes (λ y. all_pass (λ b. all_pass (p y b) 5) 5) 5 h a s) b c t u

-- a law of a letter and two states, and of a letter and three
letter_two : (p : ℕ → ℕ → ℕ → Bool) → all_pass (λ x. all_pass (λ a. all_pass (p x a) 5) 5) 2 ≡ true → (x a b : ℕ) → x < 2 → a < 5 → b < 5 → p x a b ≡ true
letter_two p h x a b l s t = two (p x) (passes (λ x. all_pass (λ a. all_pass (p x a) 5) 5) 2 h x l) a b s t

letter_three : (p : ℕ → ℕ → ℕ → ℕ → Bool) → all_pass (λ x. all_pass (λ a. all_pass (λ b. all_pass (p x a b) 5) 5) 5) 2 ≡ true → (x a b c : ℕ) → x < 2 → a < 5 → b < 5 → c < 5 → p x a b c ≡ true
letter_three p h x a b c l s t u = three (p x) (passes (λ x. all_pass (λ a. all_pass (λ b. all_pass (p x a b) 5) 5) 5) 2 h x l) a b c s t u

abbrev agree : Bool → Bool → Bool
agree true q = q
agree false q = not q

agreed : (p q : Bool) → agree p q ≡ true → p ≡ q
agreed true true h = refl
agreed true false h = sym h
agreed false true h = h
agreed false false h = refl

-- a number less than all of a list is not in it
not_above : (a : ℕ) (l : List ℕ) → all (ltb a) l ≡ true → In a l → ⊥
not_above a [] h n = elim n [ ]
not_above a (y ∷ ys) h (inl e) = let l = ltb-true a y (and_parts (nat_lt a y) (all (ltb a) ys) h).0 in omega arith
not_above a (y ∷ ys) h (inr n) = not_above a ys (and_parts (nat_lt a y) (all (ltb a) ys) h).1 n

-- what a slot holds, and why
slot_holds : (inside step : Bool) (i c : ℕ) → cond inside (cond step (Some i) None) None ≡ Some c → (c ≡ i) × (step ≡ true)
slot_holds true true i c e = (cc, refl)
slot_holds true false i c e = let z : ◌≡◌ {A = ℕ} 0 1 = cc in absurd (omega arith)
slot_holds false step i c e = let z : ◌≡◌ {A = ℕ} 0 1 = cc in absurd (omega arith)

start_is : (stuck : Bool) → cond stuck 4 3 < 5
start_is true = omega arith
start_is false = omega arith

pub chain_lawful : (stuck : Bool) → Lawful (chain_means stuck)
chain_lawful stuck =
    record {
      some_letter = omega arith;
      few_letters = omega arith;
      few_tops = omega arith;
      few_slots = omega arith;
      once = (not_above 0 (1 ∷ 2 ∷ 3 ∷ 4 ∷ []) refl, (not_above 1 (2 ∷ 3 ∷ 4 ∷ []) refl, (not_above 2 (3 ∷ 4 ∷ []) refl, (not_above 3 (4 ∷ []) refl, (not_above 4 [] refl, tt)))));
      start_state = state (cond stuck 4 3) (start_is stuck);
      top_state = λ i l. state (cond (i == 0) 1 (cond (i == 1) 4 0)) (ltb-true _ _ (passes (λ i. ltb (cond (i == 0) 1 (cond (i == 1) 4 0)) 5) 3 refl i l));
      slot_state = λ x b i c _ _ l e. subst (λ a. In a (0 ∷ 1 ∷ 2 ∷ 3 ∷ 4 ∷ [])) (sym (slot_holds (nat_lt i 4) (leads x b i) i c e).0) (state i (omega arith));
      step_state = λ x a b _ s t. let l = number a s in state b (omega (arith, t.1));
      reflexive = λ a s. one (λ a. under a a) refl a (number a s);
      transitive = λ a b c s t u p q. implied (under b c) _ (implied (under a b) _ (three (λ a b c. implies (under a b) (implies (under b c) (under a c))) refl a b c (number a s) (number b t) (number c u)) p) q;
      antisymmetric = λ a b s t p q. eqb-true a b (implied (under b a) _ (implied (under a b) _ (two (λ a b. implies (under a b) (implies (under b a) (a == b))) refl a b (number a s) (number b t)) p) q);
      topped = λ a s. (cond (a == 0) 2 1, ltb-true _ _ (one (λ a. ltb (cond (a == 0) 2 1) 3) refl a (number a s)), one (λ a. under a ((chain_means stuck).top (cond (a == 0) 2 1))) refl a (number a s));
      alike = λ a b s t p. agreed (a == 0) (b == 0) (implied (under a b) _ (two (λ a b. implies (under a b) (agree (a == 0) (b == 0))) refl a b (number a s) (number b t)) p);
      follows =
          λ x a b c l s t p q.
          let h = implied (moves x b) _ (implied (under a b) _ (letter_two (λ x a b. implies (under a b) (implies (moves x b) (leads x (b - 1) a))) refl x a b l (number a s) (number b t)) p) q.0 in
          let r = and_parts (moves x a) (under (a - 1) (b - 1)) h in
          (a - 1, (r.0, refl), subst (λ y. under (a - 1) y ≡ true) q.1 r.1);
      held_leads =
          λ x b a l s t r.
          let is = slot_holds (nat_lt r.0 4) (leads x b r.0) r.0 r.2.0 r.2.1 in
          let inside : r.0 < 5 = omega (arith, r.1) in
          let p : under a r.0 ≡ true = subst (λ c. under a c ≡ true) is.0 r.2.2 in
          let h = implied (leads x b r.0) _ (implied (under a r.0) _ (letter_three (λ x b a i. implies (under a i) (implies (leads x b i) (leads x b a))) refl x b a r.0 l (number b s) (number a t) inside) p) is.1 in
          let q = and_parts (moves x a) (under (a - 1) b) h in
          (a - 1, (q.0, refl), q.1);
      leads_held =
          λ x b a l s t r.
          let h : leads x b a ≡ true = and_from (moves x a) (under (a - 1) b) r.1.0 (subst (λ y. under y b ≡ true) (sym r.1.1) r.2) in
          let inside = implied (moves x a) _ (letter_two (λ x a _. implies (moves x a) (nat_lt a 4)) refl x a a l (number a t) (number a t)) r.1.0 in
          (a, ltb-true a 4 inside, (a, cond-true (nat_lt a 4) (cond (leads x b a) (Some a) None) None inside ∙ cond-true (leads x b a) (Some a) None h, one (λ a. under a a) refl a (number a t)));
    }
