-- Filling step by step: by number, by held state, and one state found. Assumes nothing.
use Rattle.std.proofs.Common.{◌≡◌, ℕ, zero, suc, ◌+◌, ◌<◌, ◌≤◌, Bool, true, false, cond, List, [], ◌∷◌, ◌++◌, length, get_or, drop, Some, None, Option, sym, refl, ap, ◌∙◌, subst, ⊎_elim, add-one, arith}
use Rattle.std.proofs.lemmas.List.{drop_more, drop_all}
use Rattle.std.proofs.lemmas.Bool.{cases_lt}
use Rattle.graph.specs.Adding.{Table, unchanged, put, and_then, filled}
use Rattle.graph.specs.Candidates.{found, by_number, by_state}
use Rattle.graph.specs.Meaning.{Meaning}
use Rattle.graph.proofs.Adding.{filled_append}

-- what a slot holds, and then all slots of a held state, and of all held states
abbrev pub in_slot : {S : Type 0} → Meaning S → (S → Bool) → ℕ → S → ℕ → List S
in_slot m test x b i = found test (m.slot x b i)

abbrev pub in_slots : {S : Type 0} → Meaning S → (S → Bool) → ℕ → S → List S
in_slots m test x b = by_number (in_slot m test x b) m.slots

abbrev pub in_states : {S : Type 0} → Meaning S → (S → Bool) → ℕ → List S → List S
in_states m test x held = by_state (in_slots m test x) held

module _ {S : Type 0} (below : S → S → Bool) (n : ℕ) where
  one : (o : Option (Table S)) → and_then (filled below n []) o ≡ o
  one (Some t) = refl
  one None = refl

  pub filled_one : (c : S) (t : Table S) → filled below n (c ∷ []) t ≡ put below n c t
  filled_one c t = one (put below n c t)

  -- a state put in a table as long
  pub put_in : (k : ℕ) (c : S) (t : Table S) (o : Option (Table S)) → k ≡ n → o ≡ put below k c t → o ≡ put below n c t
  put_in k c t o long is = is ∙ ap (λ j. put below j c t) long

  -- a state found that passes is put, and one that fails leaves the table
  pub found_put : (test : S → Bool) (c : S) (t : Table S) (o : Option (Table S)) → test c ≡ true → o ≡ put below n c t → o ≡ filled below n (found test (Some c)) t
  found_put test c t o passes is = is ∙ sym (filled_one c t) ∙ ap (λ b. filled below n (cond b (c ∷ []) []) t) (sym passes)

  pub found_fails : (test : S → Bool) (c : S) (t : Table S) → test c ≡ false → Some t ≡ filled below n (found test (Some c)) t
  found_fails test c t fails = ap (λ b. filled below n (cond b (c ∷ []) []) t) (sym fails)

  module _ (f : ℕ → List S) (t u : Table S) (o : Option (Table S)) (i : ℕ) (so_far : filled below n (by_number f i) t ≡ Some u) (here : o ≡ filled below n (f i) u) where
    pub number_more : filled below n (by_number f (i + 1)) t ≡ o
    number_more = rw add-one (filled_append below n (by_number f i) (f i) t ∙ ap (and_then (filled below n (f i))) so_far ∙ sym here)

  number_none : (f : ℕ → List S) (t : Table S) (i k : ℕ) → i ≤ k → filled below n (by_number f i) t ≡ None → filled below n (by_number f k) t ≡ None
  number_none f t i zero le e = let z : i ≡ 0 = omega arith in subst (λ j. filled below n (by_number f j) t ≡ None) z e
  number_none f t i (suc k) le e =
      ⊎_elim (λ lt. filled_append below n (by_number f k) (f k) t ∙ ap (and_then (filled below n (f k))) (number_none f t i k (omega arith) e)) (λ ge. let z : i ≡ suc k = omega arith in subst (λ j. filled below n (by_number f j) t ≡ None) z e) (cases_lt i (suc k))

  -- with no place for what i finds there is none for all
  pub number_full : (f : ℕ → List S) (t u : Table S) (i k : ℕ) → filled below n (by_number f i) t ≡ Some u → None ≡ filled below n (f i) u → i < k → None ≡ filled below n (by_number f k) t
  number_full f t u i k so_far here lt = sym (number_none f t (i + 1) k (omega arith) (number_more f t u None i so_far here))

  pub number_all : (f : ℕ → List S) (t u : Table S) (i k : ℕ) → filled below n (by_number f i) t ≡ Some u → k ≤ i → i ≤ k → Some u ≡ filled below n (by_number f k) t
  number_all f t u i k so_far ge le = let z : i ≡ k = omega arith in sym (subst (λ j. filled below n (by_number f j) t ≡ Some u) z so_far)

  module _ (f : S → List S) (xs : List S) (t u : Table S) (i : ℕ) (left : filled below n (by_state f (drop i xs)) u ≡ filled below n (by_state f xs) t) where
    pub state_all : length xs ≤ i → Some u ≡ filled below n (by_state f xs) t
    state_all ge = sym (ap (λ l. filled below n (by_state f l) u) (drop_all i xs ge)) ∙ left

    module _ (b : S) (lt : i < length xs) (is : b ≡ get_or xs i b) where
      step : filled below n (by_state f xs) t ≡ and_then (filled below n (by_state f (drop (i + 1) xs))) (filled below n (f b) u)
      step =
          sym left ∙ ap (λ l. filled below n (by_state f l) u) (drop_more xs i b lt) ∙ ap (λ c. filled below n (f c ++ by_state f (drop (i + 1) xs)) u) (sym is) ∙ filled_append below n (f b) (by_state f (drop (i + 1) xs)) u

      pub state_more : (v : Table S) → Some v ≡ filled below n (f b) u → filled below n (by_state f (drop (i + 1) xs)) v ≡ filled below n (by_state f xs) t
      state_more v e = sym (step ∙ ap (and_then (filled below n (by_state f (drop (i + 1) xs)))) (sym e))

      pub state_full : None ≡ filled below n (f b) u → None ≡ filled below n (by_state f xs) t
      state_full e = sym (step ∙ ap (and_then (filled below n (by_state f (drop (i + 1) xs)))) (sym e))

  -- two parts, the first into a copy of inner
  module _ (cs ds inner copied : List S) (k : ℕ) (same : copied ≡ inner) (long : k ≡ n) where
    first : (o : Option (Table S)) → o ≡ filled below k cs (unchanged copied) → filled below n (cs ++ ds) (unchanged inner) ≡ and_then (filled below n ds) o
    first o e = filled_append below n cs ds (unchanged inner) ∙ ap (and_then (filled below n ds)) (sym (e ∙ ap (λ j. filled below j cs (unchanged copied)) long ∙ ap (λ l. filled below n cs (unchanged l)) same))

    pub first_full : None ≡ filled below k cs (unchanged copied) → None ≡ filled below n (cs ++ ds) (unchanged inner)
    first_full e = sym (first None e)

    pub both_parts : (v : Table S) (o : Option (Table S)) (j : ℕ) → j ≡ n → Some v ≡ filled below k cs (unchanged copied) → o ≡ filled below j ds v → o ≡ filled below n (cs ++ ds) (unchanged inner)
    both_parts v o j also e f = f ∙ ap (λ i. filled below i ds v) also ∙ sym (first (Some v) e)
