-- The graph of a model keeps the laws, where its fields are in range and its sets have only its locations. Assumes nothing.
use Rattle.std.specs.Prelude.{◌≡◌, ℕ, ◌+◌, ◌*◌, ◌^◌, ◌<◌, Bool, true, false, cond, ◌&&◌, ltb, List, length, Some, None, nat_lt, slice_index, refl}
use Rattle.std.proofs.Common.{⊎_elim, sym, ap, subst, ◌∙◌, arith, pow_pos}
use Rattle.std.proofs.ByRecursion.{All-get_or}
use Rattle.std.proofs.lemmas.List.{get_or_past}
use Rattle.std.proofs.lemmas.Option.{none-some}
use Rattle.std.proofs.lemmas.Bool.{both_ways, cases_lt, cond_both, cond-true, eqb-true, eq-eqb, lt-ltb, ltb-true}
use Rattle.formula.specs.Sets.{has}
use Rattle.formula.proofs.Sets.{has_zero, has_past}
use Rattle.graph.specs.Lists.{In}
use Rattle.graph.specs.Meaning.{Lawful}
use Rattle.inspect.specs.declared.head.Head.{Head}
use Rattle.inspect.specs.Denotes.{InRange}
use Rattle.layout.proofs.Denoted.{decides_every}
use Rattle.sheet.specs.Automata.{small}
use Rattle.std.specs.List.{range_with_len}
use Rattle.model_graph.specs.ModelGraph.{graph_of, steps, slot_at}
use Rattle.graph.proofs.Counting.{in_counting, counting_in, counting_once}

small_at : (n : ℕ) (sets : List ℕ) → small n sets ≡ true → (i : ℕ) → slice_index sets i < 2 ^ n
small_at n sets all i =
    ⊎_elim (λ inside. ltb-true _ _ (All-get_or (λ m. nat_lt m (2 ^ n) ≡ true) sets i 0 inside ((decides_every (λ m. ltb m (2 ^ n)) sets).0 all))) (λ past. subst (λ m. m < 2 ^ n) (sym (get_or_past sets i 0 past)) (omega (arith, pow_pos n))) (cases_lt i (length sets))

-- what a slot holds, and why
slot_holds : (inside step : Bool) (i c : ℕ) → cond inside (cond step (Some i) None) None ≡ Some c → (c ≡ i) × (step ≡ true)
slot_holds true true i c e = (cc, refl)
slot_holds true false i c e = absurd (none-some c e)
slot_holds false step i c e = absurd (none-some c e)

module _ (h : Head) (sets : List ℕ) (fields : InRange h) (all : small h.locations sets ≡ true) where
  state : (a : ℕ) → a < h.locations → In a (range_with_len 0 h.locations)
  state a inside = counting_in 0 h.locations a (omega arith) (omega arith)

  inside_of : (a : ℕ) → In a (range_with_len 0 h.locations) → a < h.locations
  inside_of a s = let r = in_counting 0 h.locations a s in omega arith

  step_to : (x a b : ℕ) → steps h sets x a b ≡ true → b < h.locations
  step_to x a b =
      cond_both (nat_lt a h.locations && nat_lt x h.letters) (slice_index sets (a * h.letters + x)) 0 (λ m. has m b ≡ true → b < h.locations)
      (λ _ e. ⊎_elim (λ inside. inside) (λ past. absurd (both_ways _ (has_past (slice_index sets (a * h.letters + x)) h.locations b (small_at h.locations sets all (a * h.letters + x)) past) e)) (cases_lt b h.locations))
      (λ _ e. absurd (both_ways _ (has_zero b) e))

  slot_is : (x b i c : ℕ) → slot_at h sets x b i ≡ Some c → (c ≡ i) × (steps h sets x i b ≡ true)
  slot_is x b i c e = slot_holds (nat_lt i h.locations) (steps h sets x i b) i c e

  is_slot : (x b i : ℕ) → i < h.locations → steps h sets x i b ≡ true → slot_at h sets x b i ≡ Some i
  is_slot x b i inside s =
      cond-true (nat_lt i h.locations) (cond (steps h sets x i b) (Some i) None) None (lt-ltb i h.locations inside)
      ∙ cond-true (steps h sets x i b) (Some i) None s

  pub graph_lawful : Lawful (graph_of h sets)
  graph_lawful =
      record {
        some_letter = omega (arith, fields);
        few_letters = fields.letters;
        few_tops = omega (arith, fields);
        few_slots = omega (arith, fields);
        once = counting_once 0 h.locations;
        start_state = state h.initial fields.initial;
        top_state = λ i inside. cond_both (nat_lt i h.locations) i h.initial (λ a. In a (range_with_len 0 h.locations)) (λ _. state i inside) (λ _. state h.initial fields.initial);
        slot_state = λ x b i c _ _ inside e. subst (λ a. In a (range_with_len 0 h.locations)) (sym (slot_is x b i c e).0) (state i inside);
        step_state = λ x a b _ _ s. state b (step_to x a b s);
        reflexive = λ a _. eq-eqb a a refl;
        transitive = λ a b c _ _ _ p q. eq-eqb a c (eqb-true a b p ∙ eqb-true b c q);
        antisymmetric = λ a b _ _ p _. eqb-true a b p;
        topped = λ a s. (a, inside_of a s, eq-eqb a _ (sym (cond-true (nat_lt a h.locations) a h.initial (lt-ltb a h.locations (inside_of a s)))));
        alike = λ a b _ _ e. ap (has h.accepting) (eqb-true a b e);
        follows = λ x a b c _ _ _ e s. (c, subst (λ y. steps h sets x y c ≡ true) (sym (eqb-true a b e)) s, eq-eqb c c refl);
        held_leads = λ x b a _ _ _ r. let is = slot_is x b r.0 r.2.0 r.2.1 in (b, subst (λ y. steps h sets x y b ≡ true) (sym (eqb-true a r.2.0 r.2.2 ∙ is.0)) is.1, eq-eqb b b refl);
        leads_held = λ x b a _ _ s r. (a, inside_of a s, (a, is_slot x b a (inside_of a s) (subst (λ y. steps h sets x a y ≡ true) (eqb-true r.0 b r.2) r.1), eq-eqb a a refl));
      }
