-- The graph of a rule keeps the laws. Assumes nothing.
use Rattle.std.specs.Prelude.{◌≡◌, ℕ, ◌^◌, ◌<◌, ◌≤◌, Bool, true, false, cond, ◌&&◌, Some, None, ◌==◌, ◌≢◌, nat_eq, refl}
use Rattle.std.proofs.Common.{inl, inr, ⊎_elim, sym, ap, ap₂, subst, ◌∙◌, arith}
use Rattle.std.specs.List.{range_with_len}
use Rattle.std.proofs.lemmas.Nat.{pow_below}
use Rattle.std.proofs.lemmas.Option.{none-some}
use Rattle.std.proofs.lemmas.Bool.{both_ways, cases_Bool, cases_eq, cond_both, cond-true, cond-false, eqb-true, eqb-false, eq-eqb, ne_eqb, and_parts, and_from}
use Rattle.formula.specs.Sets.{has, Within}
use Rattle.formula.proofs.Sets.{has_zero}
use Rattle.graph.specs.Lists.{In, Distinct, products}
use Rattle.graph.specs.Meaning.{Meaning, Lawful, Held, Leads}
use Rattle.graph.proofs.Counting.{counting_in, counting_once}
use Rattle.graph.proofs.Members.{in_kept, kept_in, kept_once, products_in, products_once}
use Rattle.rule_graph.specs.declared.masks.Masks.{Masks}
use Rattle.rule_graph.specs.Alternating.{Alternating, Sound}
use Rattle.rule_graph.specs.RuleGraph.{part, pair, all, unsettled, satisfied, settling, is_pair, pairs, alike, below, Steps, Owes, slot_of, rule_means}
use Rattle.rule_graph.specs.Sets.{those_small, those_in, in_small, same_set, part_within, within_part, member_some}
use Rattle.rule_graph.specs.Pairs.{Pair, pair_is, is_pair_of, owed_small, in_unsettled, unsettled_in, in_settling, owed_settling, held_settling, settling_held, settling_small, in_satisfied, satisfied_in, satisfied_small}

-- below, by members
pub record Under (a b : Masks) : Type 0 where
  pub held : Within a.held b.held
  pub owed : Within a.owed b.owed
  pub settled : a.owed ≡ 0 → b.owed ≡ 0

alike_true : (x y : Bool) → alike x y ≡ true → x ≡ y
alike_true true y e = sym e
alike_true false true e = absurd (both_ways false refl e)
alike_true false false e = refl

alike_same : (x : Bool) → alike x x ≡ true
alike_same true = refl
alike_same false = refl

module _ (a b : Masks) (h : below a b ≡ true) where
  parts : (part a.held b.held ≡ true) × (part a.owed b.owed && alike (a.owed == 0) (b.owed == 0) ≡ true)
  parts = and_parts (part a.held b.held) (part a.owed b.owed && alike (a.owed == 0) (b.owed == 0)) h

  both_settled : nat_eq a.owed 0 ≡ (b.owed == 0)
  both_settled = alike_true (a.owed == 0) (b.owed == 0) (and_parts (part a.owed b.owed) (alike (a.owed == 0) (b.owed == 0)) parts.1).1

  pub under : Under a b
  under =
      record {
        held = part_within _ _ parts.0;
        owed = part_within _ _ (and_parts (part a.owed b.owed) (alike (a.owed == 0) (b.owed == 0)) parts.1).0;
        settled = λ e. eqb-true b.owed 0 (sym both_settled ∙ eq-eqb a.owed 0 e);
      }

-- nothing lies within nothing, so the other half of "both or neither" comes by itself
pub under_below : (a b : Masks) → Under a b → below a b ≡ true
under_below a b u = and_from _ _ (within_part _ _ u.held) (and_from _ _ (within_part _ _ u.owed) both)
  where
    empty : b.owed ≡ 0 → a.owed ≡ 0
    empty e = same_set a.owed 0 (λ l h. subst (λ s. has s l ≡ true) e (u.owed l h)) (λ l h. absurd (both_ways _ (has_zero l) h))

    both : alike (a.owed == 0) (b.owed == 0) ≡ true
    both =
        ⊎_elim
        (λ e. ap₂ alike (eq-eqb a.owed 0 e) (eq-eqb b.owed 0 (u.settled e)))
        (λ ne. ap₂ alike (ne_eqb a.owed 0 ne) (ne_eqb b.owed 0 (λ e. ne (empty e))))
        (cases_eq a.owed 0)

under_self : (a : Masks) → Under a a
under_self a = record { held = λ l h. h; owed = λ l h. h; settled = λ e. e }

nothing_within : (s : ℕ) → Within 0 s
nothing_within s l h = absurd (both_ways _ (has_zero l) h)

within_nothing : (s : ℕ) → Within s 0 → s ≡ 0
within_nothing s w = same_set s 0 w (nothing_within s)

-- a step by the part that is chosen: all that is held next where nothing was owed
pub record Chosen (r : Alternating) (x : ℕ) (a b : Masks) : Type 0 where
  pub part : ℕ
  pub inside : Within part b.held
  pub satisfies : (l : ℕ) → has a.owed l ≡ true → r.satisfies x l part ≡ true
  pub owed : b.owed ≡ unsettled r part
  pub whole : a.owed ≡ 0 → part ≡ b.held

pub chosen : (r : Alternating) (x : ℕ) (a b : Masks) → Owes r x a b → Chosen r x a b
chosen r x a b (inl c) = record { part = b.held; inside = λ l h. h; satisfies = λ l h. absurd (member_some a.owed l h c.0); owed = c.1; whole = λ _. refl }
chosen r x a b (inr c) = record { part = c.1.0; inside = c.1.1; satisfies = c.1.2; owed = c.1.3; whole = λ e. absurd (c.0 e) }

pub owes : (r : Alternating) (x : ℕ) (a b : Masks) → Chosen r x a b → Owes r x a b
owes r x a b c =
    ⊎_elim (λ e. inl (e, c.owed ∙ ap (unsettled r) (c.whole e))) (λ ne. inr (ne, (c.part, c.inside, c.satisfies, c.owed))) (cases_eq a.owed 0)

pub two_tops : (r : Alternating) → (rule_means r).tops ≤ 2
two_tops r = cond_both (unsettled r (all r) == 0) 1 2 (λ n. n ≤ 2) (λ _. omega arith) (λ _. omega arith)

module _ (r : Alternating) (sound : Sound r) where
  abbrev m : Meaning Masks
  m = rule_means r

  pub state_of : (p : Masks) → Pair r p → In p (pairs r)
  state_of p q =
      let n = 2 ^ r.locations in
      kept_in (is_pair r) p (products pair (range_with_len 0 n) (range_with_len 0 n))
      (products_in pair p.held p.owed (range_with_len 0 n) (range_with_len 0 n) (counting_in 0 n p.held (omega arith) (omega (arith, q.small))) (counting_in 0 n p.owed (omega arith) (omega (arith, owed_small r p q))))
      (is_pair_of r p q)

  pub of_state : (p : Masks) → In p (pairs r) → Pair r p
  of_state p i = let n = 2 ^ r.locations in pair_is r p (in_kept (is_pair r) p (products pair (range_with_len 0 n) (range_with_len 0 n)) i).1

  each_once : Distinct (pairs r)
  each_once =
      let n = 2 ^ r.locations in
      kept_once (is_pair r) (products pair (range_with_len 0 n) (range_with_len 0 n)) (products_once pair (range_with_len 0 n) (range_with_len 0 n) (λ a c b d e. (ap (λ p. p.held) e, ap (λ p. p.owed) e)) (counting_once 0 n) (counting_once 0 n))

  settled_pair : (s : ℕ) → s < 2 ^ r.locations → Pair r (pair s 0)
  settled_pair s small = record { small = small; inside = nothing_within s; unsettled = λ l h. absurd (both_ways _ (has_zero l) h) }

  -- a held set that owes what is not accepting of a part of it
  owing_pair : (s t : ℕ) → s < 2 ^ r.locations → Within t s → Pair r (pair s (unsettled r t))
  owing_pair s t small inside = record { small = small; inside = λ l h. inside l (in_unsettled r t l h).0; unsettled = λ l h. (in_unsettled r t l h).1 }

  everything : (s : ℕ) → s < 2 ^ r.locations → Within s (all r)
  everything s small l h = those_in r.locations (λ _. true) l (in_small r.locations s l small h) refl

  top_pair : (i : ℕ) → Pair r (m.top i)
  top_pair i =
      cond_both (i == 0) 0 (unsettled r (all r)) (λ o. Pair r (pair (all r) o)) (λ _. settled_pair (all r) (those_small r.locations (λ _. true))) (λ _. owing_pair (all r) (all r) (those_small r.locations (λ _. true)) (λ l h. h))

  owed_all : (p : Masks) → Pair r p → Within p.owed (unsettled r (all r))
  owed_all p q l h = unsettled_in r (all r) l (in_small r.locations p.owed l (owed_small r p q) h) (everything p.owed (owed_small r p q) l h) (q.unsettled l h)

  topped : (p : Masks) → In p (pairs r) → (i : ℕ) × (i < m.tops) × (below p (m.top i) ≡ true)
  topped p i = ⊎_elim settled owing (cases_eq p.owed 0)
    where
      q : Pair r p
      q = of_state p i

      settled : p.owed ≡ 0 → (i : ℕ) × (i < m.tops) × (below p (m.top i) ≡ true)
      settled e =
          (0, cond_both (unsettled r (all r) == 0) 1 2 (λ n. 0 < n) (λ _. omega arith) (λ _. omega arith), under_below p (pair (all r) 0) (record { held = everything p.held q.small; owed = λ l h. absurd (member_some p.owed l h e); settled = λ _. refl }))

      owing : (p.owed ≢ 0) → (i : ℕ) × (i < m.tops) × (below p (m.top i) ≡ true)
      owing ne =
          (1, cond_both (unsettled r (all r) == 0) 1 2 (λ n. 1 < n) (λ e. absurd (ne (within_nothing p.owed (subst (Within p.owed) (eqb-true _ 0 e) (owed_all p q))))) (λ _. omega arith), under_below p (pair (all r) (unsettled r (all r))) (record { held = everything p.held q.small; owed = owed_all p q; settled = λ e. absurd (ne e) }))

  -- what of the settling set is not accepting is what is owed
  owed_is : (b : Masks) → Pair r b → unsettled r (settling r b) ≡ b.owed
  owed_is b q =
      same_set (unsettled r (settling r b)) b.owed
      (λ l h. let u = in_unsettled r (settling r b) l h in ⊎_elim (λ o. o) (λ c. absurd (both_ways _ u.1 c.1)) (in_settling r b l u.0))
      (λ l h. let small = in_small r.locations b.owed l (owed_small r b q) h in unsettled_in r (settling r b) l small (owed_settling r b l small h) (q.unsettled l h))

  -- what the slots hold of a pair
  slots : (x : ℕ) (b : Masks) → is_pair r b ≡ true → (i : ℕ) → m.slot x b i ≡ slot_of r x b i
  slots x b q i = cond-true (is_pair r b) (slot_of r x b i) None q

  -- a slot that holds a state holds one of the two
  data Slotted (x : ℕ) (b c : Masks) : Type 0 where
    settled : c ≡ pair (satisfied r x (settling r b)) 0 → Slotted x b c
    owing : (unsettled r (satisfied r x (settling r b)) ≢ 0) → c ≡ pair (satisfied r x b.held) (unsettled r (satisfied r x (settling r b))) → Slotted x b c

  slotted : (x : ℕ) (b : Masks) (i : ℕ) (c : Masks) → Pair r b → m.slot x b i ≡ Some c → Slotted x b c
  slotted x b i c q e = go (i == 0) (i == 1) (unsettled r (satisfied r x (settling r b)) == 0) refl (sym (slots x b (is_pair_of r b q) i) ∙ e)
    where
      T : ℕ
      T = satisfied r x (settling r b)

      go : (first second none : Bool) → (unsettled r (satisfied r x (settling r b)) == 0) ≡ none → cond first (Some (pair (satisfied r x (settling r b)) 0)) (cond second (cond none None (Some (pair (satisfied r x b.held) (unsettled r (satisfied r x (settling r b)))))) None) ≡ Some c → Slotted x b c
      go true second none n e = settled (cc)
      go false true true n e = absurd (none-some c e)
      go false true false n e = owing (eqb-false _ 0 n) (cc)
      go false false none n e = absurd (none-some c e)

  satisfied_grows : (x s larger : ℕ) → Within s larger → Within (satisfied r x s) (satisfied r x larger)
  satisfied_grows x s larger w l h = let c = in_satisfied r x s l h in satisfied_in r x larger l c.0 (sound.monotone x l s larger w c.1)

  slot_pair : (x : ℕ) (b c : Masks) → Pair r b → Slotted x b c → Pair r c
  slot_pair x b c q (settled e) = subst (Pair r) (sym e) (settled_pair (satisfied r x (settling r b)) (satisfied_small r x (settling r b)))
  slot_pair x b c q (owing ne e) =
      subst (Pair r) (sym e) (owing_pair (satisfied r x b.held) (satisfied r x (settling r b)) (satisfied_small r x b.held) (satisfied_grows x (settling r b) b.held (settling_held r b q)))

  held_leads : (x : ℕ) (b a c : Masks) → Pair r b → Slotted x b c → Under a c → Leads m x b a
  held_leads x b a c q (settled e) u = (d, step, under_below d b (record { held = settling_held r b q; owed = λ l h. subst (λ s. has s l ≡ true) (owed_is b q) h; settled = λ z. sym (owed_is b q) ∙ z }))
    where
      d : Masks
      d = pair (settling r b) (unsettled r (settling r b))

      v : Under a (pair (satisfied r x (settling r b)) 0)
      v = subst (Under a) e u

      step : Steps r x a d
      step =
          record {
            to_pair = is_pair_of r d (owing_pair (settling r b) (settling r b) (settling_small r b) (λ l h. h));
            held = λ l h. (in_satisfied r x (settling r b) l (v.held l h)).1;
            owed = inl (within_nothing a.owed v.owed, refl);
          }
  held_leads x b a c q (owing ne e) u = (b, step, under_below b b (under_self b))
    where
      v : Under a (pair (satisfied r x b.held) (unsettled r (satisfied r x (settling r b))))
      v = subst (Under a) e u

      step : Steps r x a b
      step =
          record {
            to_pair = is_pair_of r b q;
            held = λ l h. (in_satisfied r x b.held l (v.held l h)).1;
            owed =
                owes r x a b
                (record {
                  part = settling r b;
                  inside = settling_held r b q;
                  satisfies = λ l h. (in_satisfied r x (settling r b) l (in_unsettled r (satisfied r x (settling r b)) l (v.owed l h)).0).1;
                  owed = sym (owed_is b q);
                  whole = λ z. absurd (ne (v.settled z));
                });
          }

  -- the chosen part of a step to below b lies in the settling set
  part_settling : (x : ℕ) (a b c : Masks) → Pair r b → Under c b → (k : Chosen r x a c) → Within k.part (settling r b)
  part_settling x a b c q u k l h =
      let inside = u.held l (k.inside l h) in
      let small = in_small r.locations b.held l q.small inside in
      ⊎_elim (held_settling r b l small inside) (λ n. owed_settling r b l small (u.owed l (subst (λ s. has s l ≡ true) (sym k.owed) (unsettled_in r k.part l small h n)))) (cases_Bool (has r.accepting l))

  leads_held : (x : ℕ) (b a : Masks) → Pair r b → Pair r a → Leads m x b a → Held m x b a
  leads_held x b a q p (c, step, e) = ⊎_elim first second (cases_eq a.owed 0)
    where
      u : Under c b
      u = under c b e

      k : Chosen r x a c
      k = chosen r x a c step.owed

      T : ℕ
      T = satisfied r x (settling r b)

      satisfies_T : (l s : ℕ) → l < r.locations → Within s (settling r b) → r.satisfies x l s ≡ true → has T l ≡ true
      satisfies_T l s small w h = satisfied_in r x (settling r b) l small (sound.monotone x l s (settling r b) w h)

      held_in : (l : ℕ) → has a.held l ≡ true → l < r.locations
      held_in l h = in_small r.locations a.held l p.small h

      first : a.owed ≡ 0 → Held m x b a
      first z =
          (0, omega arith, (pair T 0, slots x b (is_pair_of r b q) 0, under_below a (pair T 0) (record { held = λ l h. satisfies_T l k.part (held_in l h) (part_settling x a b c q u k) (subst (λ s. r.satisfies x l s ≡ true) (sym (k.whole z)) (step.held l h)); owed = λ l h. absurd (member_some a.owed l h z); settled = λ _. refl })))

      owed_T : Within a.owed (unsettled r T)
      owed_T l h =
          let small = held_in l (p.inside l h) in
          unsettled_in r T l small (satisfies_T l k.part small (part_settling x a b c q u k) (k.satisfies l h)) (p.unsettled l h)

      second : (a.owed ≢ 0) → Held m x b a
      second ne =
          (1, omega arith, (pair (satisfied r x b.held) (unsettled r T), slots x b (is_pair_of r b q) 1 ∙ cond-false (unsettled r T == 0) None (Some (pair (satisfied r x b.held) (unsettled r T))) (ne_eqb _ 0 (λ z. ne (within_nothing a.owed (subst (Within a.owed) z owed_T)))), under_below a (pair (satisfied r x b.held) (unsettled r T)) (record { held = λ l h. satisfied_in r x b.held l (held_in l h) (sound.monotone x l c.held b.held u.held (step.held l h)); owed = owed_T; settled = λ z. absurd (ne z) })))

  -- a step of the larger pair is one of the smaller
  follows : (x : ℕ) (a b c : Masks) → Under a b → Steps r x b c → Steps r x a c
  follows x a b c u s =
      let k = chosen r x b c s.owed in
      record {
        to_pair = s.to_pair;
        held = λ l h. s.held l (u.held l h);
        owed = owes r x a c (record { part = k.part; inside = k.inside; satisfies = λ l h. k.satisfies l (u.owed l h); owed = k.owed; whole = λ z. k.whole (u.settled z) });
      }

  same_pair : (a b : Masks) → Under a b → Under b a → a ≡ b
  same_pair a b u v =
      let held = same_set a.held b.held u.held v.held in
      let owed = same_set a.owed b.owed u.owed v.owed in
      λ i. record { held = held i; owed = owed i }

  pub rule_lawful : Lawful (rule_means r)
  rule_lawful =
      record {
        some_letter = sound.some_letter;
        few_letters = sound.few_letters;
        few_tops = omega (arith, two_tops r);
        few_slots = omega arith;
        once = each_once;
        start_state = state_of m.start (settled_pair (2 ^ r.initial) (pow_below r.initial r.locations sound.initial));
        top_state = λ i _. state_of (m.top i) (top_pair i);
        slot_state = λ x b i c _ s _ e. state_of c (slot_pair x b c (of_state b s) (slotted x b i c (of_state b s) e));
        step_state = λ x a b _ _ s. state_of b (pair_is r b s.to_pair);
        reflexive = λ a _. under_below a a (under_self a);
        transitive = λ a b c _ _ _ p q. let u = under a b p in let v = under b c q in under_below a c (record { held = λ l h. v.held l (u.held l h); owed = λ l h. v.owed l (u.owed l h); settled = λ z. v.settled (u.settled z) });
        antisymmetric = λ a b _ _ p q. same_pair a b (under a b p) (under b a q);
        topped = topped;
        alike = λ a b _ _ p. both_settled a b p;
        follows = λ x a b c _ _ _ p s. (c, follows x a b c (under a b p) s, under_below c c (under_self c));
        held_leads = λ x b a _ s _ h. held_leads x b a h.2.0 (of_state b s) (slotted x b h.0 h.2.0 (of_state b s) h.2.1) (under a h.2.0 h.2.2);
        leads_held = λ x b a _ s z k. leads_held x b a (of_state b s) (of_state a z) k;
      }
