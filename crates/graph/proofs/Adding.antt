-- Adding keeps the states apart and covers what was covered and what is below the new; filling does so for a list, and finds a crowd where there is no place. Assumes nothing.
use Rattle.std.proofs.Common.{◌≡◌, ℕ, suc, ◌+◌, ◌≤◌, Bool, true, false, cond, not, ltb, ◌⊎◌, List, [], ◌∷◌, ◌++◌, length, Some, None, filter, Option, sym, refl, ap, subst, inl, inr, ⊎_elim, arith}
use Rattle.std.specs.List.{AllByRecursion}
use Rattle.std.proofs.ByRecursion.{all_kept_by, All-push, All-weaker}
use Rattle.std.proofs.lemmas.List.{length-append}
use Rattle.std.proofs.lemmas.Bool.{ltb-true, ltb-false, both_ways, cond_both, or_cases, or_parts, not-true, not-false}
use Rattle.graph.specs.Adding.{covered, staying, added, Table, changed_to, put, and_then, filled}
use Rattle.graph.specs.Lists.{In, Covered, Apart}
use Rattle.graph.specs.Meaning.{Meaning, Lawful, State}
use Rattle.graph.specs.Sets.{Crowded}
use Rattle.graph.proofs.Lists.{all_in, all_from_in, covered_by}

module _ {S : Type 0} (below : S → S → Bool) where
  pub covered_true : (c : S) (xs : List S) → covered below c xs ≡ true → Covered below xs c
  covered_true c [] e = absurd (both_ways false refl e)
  covered_true c (x ∷ xs) e = ⊎_elim inl (λ t. inr (covered_true c xs t)) (or_cases (below c x) (covered below c xs) e)

  pub covered_false : (c : S) (xs : List S) → covered below c xs ≡ false → Covered below xs c → ⊥
  covered_false c [] e h = elim h [ ]
  covered_false c (x ∷ xs) e (inl h) = both_ways (below c x) (or_parts (below c x) (covered below c xs) e).0 h
  covered_false c (x ∷ xs) e (inr h) = covered_false c xs (or_parts (below c x) (covered below c xs) e).1 h

  -- c is below none of them
  pub below_none : (c : S) (xs : List S) → covered below c xs ≡ false → AllByRecursion (λ y. below c y ≡ false) xs
  below_none c [] e = tt
  below_none c (x ∷ xs) e =
      let p = or_parts (below c x) (covered below c xs) e in
      (p.0, below_none c xs p.1)

  pub covered_append : (a : S) (xs ys : List S) → Covered below (xs ++ ys) a → Covered below xs a ⊎ Covered below ys a
  covered_append a [] ys h = inr h
  covered_append a (x ∷ xs) ys (inl h) = inl (inl h)
  covered_append a (x ∷ xs) ys (inr h) = ⊎_elim (λ k. inl (inr k)) inr (covered_append a xs ys h)

  pub covered_left : (a : S) (xs ys : List S) → Covered below xs a → Covered below (xs ++ ys) a
  covered_left a [] ys h = elim h [ ]
  covered_left a (x ∷ xs) ys (inl h) = inl h
  covered_left a (x ∷ xs) ys (inr h) = inr (covered_left a xs ys h)

  pub covered_right : (a : S) (xs ys : List S) → Covered below ys a → Covered below (xs ++ ys) a
  covered_right a [] ys h = h
  covered_right a (x ∷ xs) ys h = inr (covered_right a xs ys h)

  apart_push : (c : S) (xs : List S) → Apart below xs → AllByRecursion (λ y. (below y c ≡ false) × (below c y ≡ false)) xs → Apart below (xs ++ c ∷ [])
  apart_push c [] p h = (tt, tt)
  apart_push c (x ∷ xs) p h = (All-push (λ y. (below x y ≡ false) × (below y x ≡ false)) xs c p.0 h.0, apart_push c xs p.1 h.1)

  apart_kept : (keep : S → Bool) (xs : List S) → Apart below xs → Apart below (filter keep xs)
  apart_kept keep [] p = tt
  apart_kept keep (x ∷ xs) p =
      cond_both (keep x) (x ∷ filter keep xs) (filter keep xs) (Apart below) (λ e. (all_kept_by keep (λ y. (below x y ≡ false) × (below y x ≡ false)) xs p.0, apart_kept keep xs p.1)) (λ e. apart_kept keep xs p.1)

  -- what stays is not below c
  staying_out : (c : S) (xs : List S) → AllByRecursion (λ y. below c y ≡ false) xs → AllByRecursion (λ y. (below y c ≡ false) × (below c y ≡ false)) (staying below c xs)
  staying_out c [] h = tt
  staying_out c (x ∷ xs) h =
      cond_both (not (below x c)) (x ∷ staying below c xs) (staying below c xs) (AllByRecursion (λ y. (below y c ≡ false) × (below c y ≡ false))) (λ e. ((not-true (below x c) e, h.0), staying_out c xs h.1)) (λ e. staying_out c xs h.1)

  pub staying_short : (c : S) (xs : List S) → length (staying below c xs) ≤ length xs
  staying_short c [] = omega arith
  staying_short c (x ∷ xs) =
      cond_both (not (below x c)) (x ∷ staying below c xs) (staying below c xs) (λ l. length l ≤ suc (length xs)) (λ e. omega (arith, staying_short c xs)) (λ e. omega (arith, staying_short c xs))

  staying_covers : (c : S) (xs : List S) (a : S) → Covered below (staying below c xs) a → Covered below xs a
  staying_covers c [] a = λ h. h
  staying_covers c (x ∷ xs) a =
      cond_both (not (below x c)) (x ∷ staying below c xs) (staying below c xs) (λ l. Covered below l a → Covered below (x ∷ xs) a) (λ e. ⊎_elim inl (λ k. inr (staying_covers c xs a k))) (λ e k. inr (staying_covers c xs a k))

  -- the list after c is added where it is not covered
  abbrev pub pushed : S → List S → List S
  pushed c xs = staying below c xs ++ c ∷ []

  pushed_apart : (c : S) (xs : List S) → covered below c xs ≡ false → Apart below xs → Apart below (pushed c xs)
  pushed_apart c xs e p = apart_push c (staying below c xs) (apart_kept (λ y. not (below y c)) xs p) (staying_out c xs (below_none c xs e))

  pushed_only : (c : S) (xs : List S) (a : S) → Covered below (pushed c xs) a → Covered below xs a ⊎ (below a c ≡ true)
  pushed_only c xs a h = ⊎_elim (λ k. inl (staying_covers c xs a k)) (⊎_elim inr (λ k. elim k [ ])) (covered_append a (staying below c xs) (c ∷ []) h)

-- the states below a held one or below a candidate
abbrev pub Joined : {S : Type 0} → Meaning S → List S → List S → S → Type 0
Joined m held cs a = State m a × (Covered m.below held a ⊎ Covered m.below cs a)

-- what filling a table of n places makes of it
pub record Filling {S : Type 0} (m : Meaning S) (n : ℕ) (cs : List S) (from to : Table S) : Type 0 where
  pub fits : length to.held ≤ n
  pub members : AllByRecursion (State m) to.held
  pub apart : Apart m.below to.held
  pub covers : (a : S) → Joined m from.held cs a → Covered m.below to.held a
  pub only : (a : S) → State m a → Covered m.below to.held a → Covered m.below from.held a ⊎ Covered m.below cs a
  -- nothing changed, or some candidate is new
  pub changes : (to ≡ from) ⊎ ((to.changed ≡ true) × ((c : S) × In c cs × (Covered m.below from.held c → ⊥)))

abbrev pub Filled : {S : Type 0} → Meaning S → ℕ → List S → Table S → Option (Table S) → Type 0
Filled m n cs from (Some to) = Filling m n cs from to
Filled m n cs from None = Crowded m n (Joined m from.held cs)

module _ {S : Type 0} (m : Meaning S) (l : Lawful m) where
  abbrev Below : List S → S → Type 0
  Below = Covered m.below

  staying_keeps : (c : S) → State m c → (xs : List S) → AllByRecursion (State m) xs → (a : S) → State m a → Below xs a → Below (staying m.below c xs) a ⊎ (m.below a c ≡ true)
  staying_keeps c sc [] s a sa h = elim h [ ]
  staying_keeps c sc (x ∷ xs) s a sa h =
      let rest : Below xs a → Below (staying m.below c xs) a ⊎ (m.below a c ≡ true) = staying_keeps c sc xs s.1 a sa in
      cond_both (not (m.below x c)) (x ∷ staying m.below c xs) (staying m.below c xs) (λ l. Below l a ⊎ (m.below a c ≡ true))
      (λ e. ⊎_elim (λ k. inl (inl k)) (λ k. ⊎_elim (λ i. inl (inr i)) inr (rest k)) h)
      (λ e. ⊎_elim (λ k. inr (l.transitive a x c sa s.0 sc k (not-false (m.below x c) e))) rest h)

  pushed_covers : (c : S) → State m c → (xs : List S) → AllByRecursion (State m) xs → (a : S) → State m a → Below xs a ⊎ (m.below a c ≡ true) → Below (pushed m.below c xs) a
  pushed_covers c sc xs s a sa (inl h) =
      ⊎_elim (covered_left m.below a (staying m.below c xs) (c ∷ [])) (λ e. covered_right m.below a (staying m.below c xs) (c ∷ []) (inl e)) (staying_keeps c sc xs s a sa h)
  pushed_covers c sc xs s a sa (inr e) = covered_right m.below a (staying m.below c xs) (c ∷ []) (inl e)

  -- a state below c is covered where c is
  covered_down : (c : S) → State m c → (xs : List S) → AllByRecursion (State m) xs → (a : S) → State m a → m.below a c ≡ true → Below xs c → Below xs a
  covered_down c sc [] s a sa e h = h
  covered_down c sc (x ∷ xs) s a sa e (inl h) = inl (l.transitive a c x sa sc s.0 e h)
  covered_down c sc (x ∷ xs) s a sa e (inr h) = inr (covered_down c sc xs s.1 a sa e h)

  pushed_states : (c : S) → State m c → (xs : List S) → AllByRecursion (State m) xs → AllByRecursion (State m) (pushed m.below c xs)
  pushed_states c sc xs s = All-push (State m) (staying m.below c xs) c (all_kept_by (λ y. not (m.below y c)) (State m) xs s) sc

  -- adding: the union with what is below c, apart, states, and changed exactly where c is not covered
  pub added_states : (c : S) → State m c → (xs : List S) → AllByRecursion (State m) xs → AllByRecursion (State m) (added m.below c xs)
  added_states c sc xs s = cond_both (covered m.below c xs) xs (pushed m.below c xs) (AllByRecursion (State m)) (λ e. s) (λ e. pushed_states c sc xs s)

  pub added_apart : (c : S) (xs : List S) → Apart m.below xs → Apart m.below (added m.below c xs)
  added_apart c xs p = cond_both (covered m.below c xs) xs (pushed m.below c xs) (Apart m.below) (λ e. p) (λ e. pushed_apart m.below c xs e p)

  pub added_only : (c : S) (xs : List S) (a : S) → Below (added m.below c xs) a → Below xs a ⊎ (m.below a c ≡ true)
  added_only c xs a = cond_both (covered m.below c xs) xs (pushed m.below c xs) (λ l. Below l a → Below xs a ⊎ (m.below a c ≡ true)) (λ e h. inl h) (λ e. pushed_only m.below c xs a)

  pub added_covers : (c : S) → State m c → (xs : List S) → AllByRecursion (State m) xs → (a : S) → State m a → Below xs a ⊎ (m.below a c ≡ true) → Below (added m.below c xs) a
  added_covers c sc xs s a sa h =
      cond_both (covered m.below c xs) xs (pushed m.below c xs) (λ l. Below l a) (λ e. ⊎_elim (λ k. k) (λ b. covered_down c sc xs s a sa b (covered_true m.below c xs e)) h) (λ e. pushed_covers c sc xs s a sa h)

  pub added_same : (c : S) (xs : List S) → Below xs c → added m.below c xs ≡ xs
  added_same c xs h = cond_both (covered m.below c xs) xs (pushed m.below c xs) (λ l. l ≡ xs) (λ e. refl) (λ e. absurd (covered_false m.below c xs e h))

  pub added_changed : (c : S) → State m c → (xs : List S) → AllByRecursion (State m) xs → added m.below c xs ≡ xs → Below xs c
  added_changed c sc xs s e = subst (λ l. Below l c) e (added_covers c sc xs s c sc (inr (l.reflexive c sc)))

  -- one candidate more in front
  filled_skip : (n : ℕ) (c : S) (cs : List S) (t : Table S) → State m c → AllByRecursion (State m) t.held → Below t.held c → (o : Option (Table S)) → Filled m n cs t o → Filled m n (c ∷ cs) t o
  filled_skip n c cs t sc s h (Some u) f = record {
    fits = f.fits;
    members = f.members;
    apart = f.apart;
    covers = λ a j. f.covers a (j.0, ⊎_elim inl (⊎_elim (λ e. inl (covered_down c sc t.held s a j.0 e h)) inr) j.1);
    only = λ a sa k. ⊎_elim inl (λ i. inr (inr i)) (f.only a sa k);
    changes = ⊎_elim inl (λ r. inr (r.0, (r.1.0, inr r.1.1, r.1.2))) f.changes;
  }
  filled_skip n c cs t sc s h None f = record {
    crowd = f.crowd;
    many = f.many;
    members = All-weaker (Joined m t.held cs) (Joined m t.held (c ∷ cs)) (λ a j. (j.0, ⊎_elim inl (λ i. inr (inr i)) j.1)) f.crowd f.members;
    apart = f.apart;
  }

  filled_push : (n : ℕ) (c : S) (cs : List S) (t : Table S) → State m c → AllByRecursion (State m) t.held → covered m.below c t.held ≡ false → (o : Option (Table S)) → Filled m n cs (changed_to (pushed m.below c t.held)) o → Filled m n (c ∷ cs) t o
  filled_push n c cs t sc s e (Some u) f = record {
    fits = f.fits;
    members = f.members;
    apart = f.apart;
    covers = λ a j. f.covers a (j.0, back a j.0 j.1);
    only = λ a sa k. ⊎_elim (λ i. ⊎_elim inl (λ b. inr (inl b)) (pushed_only m.below c t.held a i)) (λ i. inr (inr i)) (f.only a sa k);
    changes = inr (⊎_elim (λ p. ap (λ v. v.changed) p) (λ r. r.0) f.changes, (c, inl refl, covered_false m.below c t.held e));
  }
    where
      back : (a : S) → State m a → Below t.held a ⊎ Below (c ∷ cs) a → Below (pushed m.below c t.held) a ⊎ Below cs a
      back a sa (inl h) = inl (pushed_covers c sc t.held s a sa (inl h))
      back a sa (inr (inl b)) = inl (pushed_covers c sc t.held s a sa (inr b))
      back a sa (inr (inr h)) = inr h
  filled_push n c cs t sc s e None f = record {
    crowd = f.crowd;
    many = f.many;
    members = All-weaker (Joined m (pushed m.below c t.held) cs) (Joined m t.held (c ∷ cs)) (λ a j. (j.0, ⊎_elim (λ i. ⊎_elim inl (λ b. inr (inl b)) (pushed_only m.below c t.held a i)) (λ i. inr (inr i)) j.1)) f.crowd f.members;
    apart = f.apart;
  }

  -- with no place for c, what stays and c are a crowd
  no_place : (n : ℕ) (c : S) (cs : List S) (t : Table S) → State m c → AllByRecursion (State m) t.held → Apart m.below t.held → length t.held ≤ n → covered m.below c t.held ≡ false → n ≤ length (staying m.below c t.held) → Crowded m n (Joined m t.held (c ∷ cs))
  no_place n c cs t sc s p fits e full = record {
    crowd = pushed m.below c t.held;
    many = omega (arith, length-append (staying m.below c t.held) (c ∷ []), staying_short m.below c t.held);
    members = All-push (Joined m t.held (c ∷ cs)) (staying m.below c t.held) c
        (all_kept_by (λ y. not (m.below y c)) (Joined m t.held (c ∷ cs)) t.held (all_from_in (Joined m t.held (c ∷ cs)) t.held held_joined))
        (sc, inr (inl (l.reflexive c sc)));
    apart = pushed_apart m.below c t.held e p;
  }
    where
      held_joined : (a : S) → In a t.held → Joined m t.held (c ∷ cs) a
      held_joined a i =
          let sa = all_in (State m) t.held a s i in
          (sa, inl (covered_by m.below t.held a a i (l.reflexive a sa)))

  pub fills : (n : ℕ) (cs : List S) (t : Table S) → AllByRecursion (State m) cs → AllByRecursion (State m) t.held → Apart m.below t.held → length t.held ≤ n → Filled m n cs t (filled m.below n cs t)
  fills n [] t sc s p fits = record { fits = fits; members = s; apart = p; covers = λ a j. ⊎_elim (λ h. h) (λ h. elim h [ ]) j.1; only = λ a sa h. inl h; changes = inl refl }
  fills n (c ∷ cs) t sc s p fits =
      let more = fills n cs in
      let stay = staying m.below c t.held in
      let next = changed_to (stay ++ c ∷ []) in
      let on : Option (Table S) → Type 0 = λ o. Filled m n (c ∷ cs) t (and_then (filled m.below n cs) o) in
      cond_both (covered m.below c t.held) (Some t) (cond (ltb (length stay) n) (Some next) None) on
      (λ e. filled_skip n c cs t sc.0 s (covered_true m.below c t.held e) (filled m.below n cs t) (more t sc.1 s p fits))
      (λ e. cond_both (ltb (length stay) n) (Some next) None on
      (λ lt. filled_push n c cs t sc.0 s e (filled m.below n cs next) (more next sc.1 (pushed_states c sc.0 t.held s) (pushed_apart m.below c t.held e p) (omega (arith, length-append stay (c ∷ []), ltb-true (length stay) n lt))))
      (λ ge. no_place n c cs t sc.0 s p fits e (ltb-false (length stay) n ge)))

-- filling in two parts
pub filled_append : {S : Type 0} (below : S → S → Bool) (n : ℕ) (cs ds : List S) (t : Table S) → filled below n (cs ++ ds) t ≡ and_then (filled below n ds) (filled below n cs t)
filled_append below n [] ds t = refl
filled_append {S} below n (c ∷ cs) ds t = go (filled_append below n cs ds) (put below n c t)
  where
    go : ((u : Table S) → filled below n (cs ++ ds) u ≡ and_then (filled below n ds) (filled below n cs u)) → (o : Option (Table S)) → and_then (filled below n (cs ++ ds)) o ≡ and_then (filled below n ds) (and_then (filled below n cs) o)
    go rest (Some u) = rest u
    go rest None = refl

-- with a place for each candidate there is no crowd
pub filled_room : {S : Type 0} (below : S → S → Bool) (n : ℕ) (cs : List S) (t : Table S) → length t.held + length cs ≤ n → (u : Table S) × (filled below n cs t ≡ Some u)
filled_room below n [] t h = (t, refl)
filled_room {S} below n (c ∷ cs) t h =
    let rest = filled_room below n cs in
    let stay = staying below c t.held in
    let on : Option (Table S) → Type 0 = λ o. (u : Table S) × (and_then (filled below n cs) o ≡ Some u) in
    cond_both (covered below c t.held) (Some t) (cond (ltb (length stay) n) (Some (changed_to (stay ++ c ∷ []))) None) on
    (λ e. rest t (omega arith))
    (λ e. cond_both (ltb (length stay) n) (Some (changed_to (stay ++ c ∷ []))) None on
    (λ lt. rest (changed_to (stay ++ c ∷ [])) (omega (arith, length-append stay (c ∷ []), staying_short below c t.held)))
    (λ ge. absurd (omega (arith, ltb-false (length stay) n ge, staying_short below c t.held))))

-- what is put is what is added
pub put_added : {S : Type 0} (below : S → S → Bool) (n : ℕ) (c : S) (t u : Table S) → put below n c t ≡ Some u → u.held ≡ added below c t.held
put_added {S} below n c t u = go (covered below c t.held) (ltb (length (staying below c t.held)) n)
  where
    go : (b q : Bool) → cond b (Some t) (cond q (Some (changed_to (staying below c t.held ++ c ∷ []))) None) ≡ Some u → u.held ≡ cond b t.held (staying below c t.held ++ c ∷ [])
    go true q e = let p : t ≡ u = cc in ap (λ v. v.held) (sym p)
    go false true e = let p : changed_to (staying below c t.held ++ c ∷ []) ≡ u = cc in ap (λ v. v.held) (sym p)
    go false false e = cc
