-- What a step gives a held location: what settles if the location is owed, all that is held next if not. Assumes nothing.
use Rattle.std.proofs.Common.{◌≡◌, ℕ, ◌^◌, ◌<◌, true, false, cond, sym, subst, inl, inr, ⊎_elim}
use Rattle.std.proofs.lemmas.Bool.{both_ways, cases_Bool, cond-true, cond_both}
use Rattle.formula.specs.Sets.{has, Within}
use Rattle.rule_graph.specs.declared.masks.Masks.{Masks}
use Rattle.rule_graph.specs.Alternating.{Alternating, Sound}
use Rattle.rule_graph.specs.RuleGraph.{unsettled, settling, Owes, Steps}
use Rattle.rule_graph.specs.Pairs.{Pair, pair_is, unsettled_in, in_settling, owed_settling, held_settling, settling_held, settling_small}
use Rattle.rule_graph.specs.Sets.{in_small, member_some}

abbrev pub share : Alternating → Masks → Masks → ℕ → ℕ
share r a b l = cond (has a.owed l) (settling r b) b.held

module _ {r : Alternating} {x : ℕ} {a b : Masks} (s : Steps r x a b) where
  abbrev is : Pair r b
  is = pair_is r b s.to_pair

  inside : (k : ℕ) → has b.held k ≡ true → k < r.locations
  inside k h = in_small r.locations b.held k is.small h

  pub share_held : (l : ℕ) → Within (share r a b l) b.held
  share_held l = cond_both (has a.owed l) (settling r b) b.held (λ u. Within u b.held) (λ _. settling_held r b is) (λ _ k h. h)

  pub share_small : (l : ℕ) → share r a b l < 2 ^ r.locations
  share_small l = cond_both (has a.owed l) (settling r b) b.held (λ u. u < 2 ^ r.locations) (λ _. settling_small r b) (λ _. is.small)

  -- what satisfies the owed lies within what settles
  settles : (u : ℕ) → Within u b.held → b.owed ≡ unsettled r u → Within u (settling r b)
  settles u within e k m =
      let small = inside k (within k m) in
      ⊎_elim (held_settling r b k small (within k m)) (λ no-accepting. owed_settling r b k small (subst (λ o. has o k ≡ true) (sym e) (unsettled_in r u k small m no-accepting))) (cases_Bool (has r.accepting k))

  settling_satisfies : Sound r → (l : ℕ) → has a.owed l ≡ true → Owes r x a b → r.satisfies x l (settling r b) ≡ true
  settling_satisfies sound l h (inl (none, e)) = absurd (member_some a.owed l h none)
  settling_satisfies sound l h (inr (some, (u, within, meets, e))) = sound.monotone x l u (settling r b) (settles u within e) (meets l h)

  pub share_satisfies : Sound r → (l : ℕ) → has a.held l ≡ true → r.satisfies x l (share r a b l) ≡ true
  share_satisfies sound l h = cond_both (has a.owed l) (settling r b) b.held (λ u. r.satisfies x l u ≡ true) (λ owed. settling_satisfies sound l owed s.owed) (λ _. s.held l h)

  -- and what is not accepting of it is owed: of what an owed location is given, and of all where nothing was owed
  module _ (k : ℕ) (plain : has r.accepting k ≡ false) where
    pub share_owes : (l : ℕ) → has a.owed l ≡ true → has (share r a b l) k ≡ true → has b.owed k ≡ true
    share_owes l owed h = ⊎_elim (λ o. o) (λ c. absurd (both_ways _ plain c.1)) (in_settling r b k (subst (λ u. has u k ≡ true) (cond-true _ _ _ owed) h))

    pub all_owes : a.owed ≡ 0 → has b.held k ≡ true → has b.owed k ≡ true
    all_owes none h = go s.owed
      where
        go : Owes r x a b → has b.owed k ≡ true
        go (inl (_, e)) = subst (λ o. has o k ≡ true) (sym e) (unsettled_in r b.held k (inside k h) h plain)
        go (inr (some, _)) = absurd (some none)
