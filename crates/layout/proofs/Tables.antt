-- The entries of a table rise, are proper, hold its tokens, and give the table back.
use Rattle.std.proofs.Common.{◌≡◌, ℕ, suc, ◌+◌, ◌*◌, ◌/◌, ◌%◌, ◌<◌, ◌≤◌, true, List, [], ◌∷◌, ◌++◌, length, replicate, sym, refl, ap, ◌∙◌, inl, inr, ⊎_elim, mul-le-mul_right, suc-mul, zero-add, arith, length-append}
use lib.Seq.{append_snoc, set_at}
use Rattle.std.specs.List.{AllByRecursion}
use Rattle.std.proofs.lemmas.Nat.{div-add-mod', div_below, mod_below}
use Rattle.std.proofs.lemmas.Bool.{and_parts, leb-true, cases_order}
use Rattle.formula.specs.declared.token.Token.{Token}
use Rattle.formula.proofs.Spelling.{shaped_spells}
use Rattle.inspect.specs.declared.head.Head.{Head}
use Rattle.inspect.specs.Checks.{allowed}
use Rattle.inspect.specs.Denotes.{Entry, Before, Rising, Proper, tokens_in, laid}
use Rattle.layout.specs.Valid.{every, proper, sizes}
use Rattle.layout.specs.Written.{entries_from}
use Rattle.layout.proofs.Denoted.{decides_every}
use Rattle.layout.proofs.Packing.{Small}

module _ (letters : ℕ) where
  -- the entry of place q
  abbrev at : ℕ → List Token → Entry
  at q ts = record { location = q / letters; letter = q % letters; tokens = ts }

  pub few_entries : (q : ℕ) (table : List (List Token)) → length (entries_from letters q table) ≤ length table
  few_entries q [] = omega arith
  few_entries q ([] ∷ table) = omega (arith, few_entries (suc q) table)
  few_entries q ((t ∷ ts) ∷ table) = omega (arith, few_entries (suc q) table)

  pub tokens_sizes : (q : ℕ) (table : List (List Token)) → tokens_in (entries_from letters q table) ≡ sizes table
  tokens_sizes q [] = refl
  tokens_sizes q ([] ∷ table) = tokens_sizes (suc q) table ∙ sym (zero-add (sizes table))
  tokens_sizes q ((t ∷ ts) ∷ table) = ap (λ n. suc (length ts) + n) (tokens_sizes (suc q) table)

  -- entry by entry, the table is put together again
  pub laid_table : (front table : List (List Token)) (q : ℕ) → length front ≡ q → laid letters (front ++ replicate (length table) []) (entries_from letters q table) ≡ front ++ table
  laid_table front [] q e = refl
  laid_table front ([] ∷ table) q e = simp append_snoc at (laid_table (front ++ [] ∷ []) table (suc q) (length-append front ([] ∷ []) ∙ omega arith))
  laid_table front ((t ∷ ts) ∷ table) q e =
      ap (λ new. laid letters new (entries_from letters (suc q) table)) (set_at front [] _ (t ∷ ts) _ (e ∙ sym (div-add-mod' q letters)))
      ∙ simp append_snoc at (laid_table (front ++ (t ∷ ts) ∷ []) table (suc q) (length-append front ((t ∷ ts) ∷ []) ∙ omega arith))

  module _ (some : 0 < letters) where
    before : (p q : ℕ) (ts us : List Token) → p < q → Before (at p ts) (at q us)
    before p q ts us h =
        let first = div-add-mod' p letters in
        let second = div-add-mod' q letters in
        ⊎_elim (λ same. inr (same, omega (arith, ap (λ n. n * letters) same)))
        (λ other. ⊎_elim (λ less. inl less) (λ more. absurd (omega (arith, mod_below q letters some, mul-le-mul_right letters more, suc-mul (q / letters) letters))) other)
        (cases_order (p / letters) (q / letters))

    rising_after : (p q : ℕ) (ts : List Token) (table : List (List Token)) → p < q → Rising (at p ts ∷ entries_from letters q table)
    rising_after p q ts [] h = tt
    rising_after p q ts ([] ∷ table) h = rising_after p (suc q) ts table (omega arith)
    rising_after p q ts ((u ∷ us) ∷ table) h = (before p q ts (u ∷ us) h, rising_after q (suc q) (u ∷ us) table (omega arith))

    pub rising : (q : ℕ) (table : List (List Token)) → Rising (entries_from letters q table)
    rising q [] = tt
    rising q ([] ∷ table) = rising (suc q) table
    rising q ((t ∷ ts) ∷ table) = rising_after q (suc q) (t ∷ ts) table (omega arith)

module _ (h : Head) (some : 0 < h.letters) where
  pub good_entries : (q : ℕ) (table : List (List Token)) → q + length table ≡ h.locations * h.letters → every (proper h) table ≡ true → AllByRecursion (λ e. Proper h e × Small e) (entries_from h.letters q table)
  good_entries q [] e good = tt
  good_entries q ([] ∷ table) e good = good_entries (suc q) table (omega arith) good
  good_entries q ((t ∷ ts) ∷ table) e good =
      let parts = and_parts _ _ good in
      let here = and_parts _ _ parts.0 in
      let more = and_parts _ _ here.1 in (
        (
          record {
            location = div_below q h.letters h.locations some (omega arith);
            letter = mod_below q h.letters some;
            formula = shaped_spells (t ∷ ts) here.0;
            allowed = (decides_every (allowed h.sort h.locations) (t ∷ ts)).0 more.0;
          },
          leb-true (length (t ∷ ts)) 255 more.1,
        ),
        good_entries (suc q) table (omega arith) parts.1,
      )
