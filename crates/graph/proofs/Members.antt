-- Members of joined, mapped and filtered lists and of products, and that each stands once there. Assumes nothing.
use Rattle.std.proofs.Common.{◌≡◌, Bool, true, ◌⊎◌, List, [], ◌∷◌, ◌++◌, map, filter, sym, refl, ap, ◌∙◌, subst, inl, inr, ⊎_elim}
use Rattle.std.proofs.lemmas.Bool.{both_ways, cond_both}
use Rattle.graph.specs.Lists.{In, Distinct, products}

module _ {S : Type 0} where
  pub in_append : (a : S) (xs ys : List S) → In a (xs ++ ys) → In a xs ⊎ In a ys
  in_append a [] ys i = inr i
  in_append a (x ∷ xs) ys (inl e) = inl (inl e)
  in_append a (x ∷ xs) ys (inr i) = ⊎_elim (λ j. inl (inr j)) inr (in_append a xs ys i)

  pub in_left : (a : S) (xs ys : List S) → In a xs → In a (xs ++ ys)
  in_left a [] ys i = elim i [ ]
  in_left a (x ∷ xs) ys (inl e) = inl e
  in_left a (x ∷ xs) ys (inr i) = inr (in_left a xs ys i)

  pub in_right : (a : S) (xs ys : List S) → In a ys → In a (xs ++ ys)
  in_right a [] ys i = i
  in_right a (x ∷ xs) ys i = inr (in_right a xs ys i)

  pub append_once : (xs ys : List S) → Distinct xs → Distinct ys → ((a : S) → In a xs → In a ys → ⊥) → Distinct (xs ++ ys)
  append_once [] ys d e apart = e
  append_once (x ∷ xs) ys d e apart =
      (λ i. ⊎_elim d.0 (apart x (inl refl)) (in_append x xs ys i), append_once xs ys d.1 e (λ a i. apart a (inr i)))

  module _ (test : S → Bool) where
    pub in_kept : (a : S) (xs : List S) → In a (filter test xs) → In a xs × (test a ≡ true)
    in_kept a [] = λ i. elim i [ ]
    in_kept a (x ∷ xs) =
        cond_both (test x) (x ∷ filter test xs) (filter test xs) (λ l. In a l → In a (x ∷ xs) × (test a ≡ true))
        (λ passes i. first passes (in_kept a xs) i)
        (λ _ i. let r = in_kept a xs i in (inr r.0, r.1))
      where
        first : test x ≡ true → (In a (filter test xs) → In a xs × (test a ≡ true)) → In a (x ∷ filter test xs) → In a (x ∷ xs) × (test a ≡ true)
        first passes rest (inl e) = (inl e, subst (λ y. test y ≡ true) (sym e) passes)
        first passes rest (inr i) = let r = rest i in (inr r.0, r.1)

    pub kept_in : (a : S) (xs : List S) → In a xs → test a ≡ true → In a (filter test xs)
    kept_in a [] i e = elim i [ ]
    kept_in a (x ∷ xs) (inl is) e = cond_both (test x) (x ∷ filter test xs) (filter test xs) (In a) (λ _. inl is) (λ fails. absurd (both_ways _ fails (subst (λ y. test y ≡ true) is e)))
    kept_in a (x ∷ xs) (inr i) e = cond_both (test x) (x ∷ filter test xs) (filter test xs) (In a) (λ _. inr (kept_in a xs i e)) (λ _. kept_in a xs i e)

    pub kept_once : (xs : List S) → Distinct xs → Distinct (filter test xs)
    kept_once [] d = tt
    kept_once (x ∷ xs) d = cond_both (test x) (x ∷ filter test xs) (filter test xs) Distinct (λ _. (λ i. d.0 (in_kept x xs i).0, kept_once xs d.1)) (λ _. kept_once xs d.1)

module _ {A B : Type 0} (f : A → B) where
  pub in_map : (b : B) (xs : List A) → In b (map f xs) → (a : A) × In a xs × (b ≡ f a)
  in_map b [] i = elim i [ ]
  in_map b (x ∷ xs) (inl e) = (x, inl refl, e)
  in_map b (x ∷ xs) (inr i) = let r = in_map b xs i in (r.0, inr r.1, r.2)

  pub map_in : (a : A) (xs : List A) → In a xs → In (f a) (map f xs)
  map_in a [] i = elim i [ ]
  map_in a (x ∷ xs) (inl e) = inl (ap f e)
  map_in a (x ∷ xs) (inr i) = inr (map_in a xs i)

  pub map_once : (xs : List A) → ((a b : A) → f a ≡ f b → a ≡ b) → Distinct xs → Distinct (map f xs)
  map_once [] same d = tt
  map_once (x ∷ xs) same d = (λ i. let r = in_map (f x) xs i in d.0 (subst (λ y. In y xs) (sym (same x r.0 r.2)) r.1), map_once xs same d.1)

module _ {A B C : Type 0} (f : A → B → C) where
  pub in_products : (c : C) (xs : List A) (ys : List B) → In c (products f xs ys) → (a : A) × (b : B) × In a xs × In b ys × (c ≡ f a b)
  in_products c [] ys i = elim i [ ]
  in_products c (x ∷ xs) ys i =
      ⊎_elim (λ j. let r = in_map (f x) c ys j in (x, r.0, inl refl, r.1, r.2)) (λ j. let r = in_products c xs ys j in (r.0, r.1, inr r.2, r.3, r.4)) (in_append c (map (f x) ys) (products f xs ys) i)

  pub products_in : (a : A) (b : B) (xs : List A) (ys : List B) → In a xs → In b ys → In (f a b) (products f xs ys)
  products_in a b [] ys i j = elim i [ ]
  products_in a b (x ∷ xs) ys (inl e) j = in_left (f a b) (map (f x) ys) (products f xs ys) (subst (λ z. In (f z b) (map (f x) ys)) (sym e) (map_in (f x) b ys j))
  products_in a b (x ∷ xs) ys (inr i) j = in_right (f a b) (map (f x) ys) (products f xs ys) (products_in a b xs ys i j)

  pub products_once : (xs : List A) (ys : List B) → ((a c : A) (b d : B) → f a b ≡ f c d → (a ≡ c) × (b ≡ d)) → Distinct xs → Distinct ys → Distinct (products f xs ys)
  products_once [] ys same d e = tt
  products_once (x ∷ xs) ys same d e =
      append_once (map (f x) ys) (products f xs ys) (map_once (f x) ys (λ a b p. (same x x a b p).1) e) (products_once xs ys same d.1 e)
      (λ c i j. let r = in_map (f x) c ys i in let q = in_products c xs ys j in d.0 (subst (λ z. In z xs) (sym (same x q.0 r.0 q.1 (sym r.2 ∙ q.4)).0) q.2))
