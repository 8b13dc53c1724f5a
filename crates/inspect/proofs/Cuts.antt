-- Blocks as parts of a sheet: how the code cuts them, and what is asked of them one by one.
use Rattle.std.proofs.Common.{◌≡◌, ℕ, zero, suc, ◌+◌, ◌-◌, ◌*◌, ◌<◌, ◌≤◌, true, List, [], ◌∷◌, ◌++◌, length, get_or, take, drop, Some, None, Option, sym, refl, ap, ◌∙◌, ⊎_elim, suc-mul, add-one, arith, unwrap_or, Bor}
use Rattle.std.specs.Simd.{first_chunks}
use Rattle.std.specs.Slice.{IsGetRangeResult}
use Rattle.std.proofs.lemmas.List.{at_drop_more, drop_all, drop-drop, take_all, take_rest}
use Rattle.inspect.specs.declared.fault.Refusal.{Refusal}
use Rattle.inspect.specs.Blocks.{each_block_checks, each_entries}
use Rattle.inspect.specs.Checks.{Check, first, block_checks, all_block_checks}
use Rattle.inspect.specs.Entries.{Placed, entries, all_entries}
use Rattle.inspect.specs.Format.{block, blocks, body}
use Rattle.inspect.proofs.FirstOf.{all_parts, first_append}
use Rattle.inspect.proofs.Passing.{Fitting}

-- the first n bytes, or all where there are fewer
pub front_or_all : (xs : List ℕ) (n : ℕ) (r : Option (Bor (List ℕ))) (d : Bor (List ℕ)) → IsGetRangeResult xs 0 n r → d.now ≡ xs → (unwrap_or r d).now ≡ take n xs
front_or_all xs n None d h e =
    let short : length xs ≤ n = ⊎_elim (λ k. omega arith) (λ k. omega arith) h.0 in
    e ∙ sym (take_all n xs short)
front_or_all xs n (Some x) d h e =
    let size : n - 0 ≡ n = omega arith in
    h.0.2 ∙ ap (λ m. take m xs) size

-- the bytes from n on, or none where there are fewer
pub rest_or_none : (xs : List ℕ) (n : ℕ) (r : Option (Bor (List ℕ))) (d : Bor (List ℕ)) → IsGetRangeResult xs n (length xs) r → d.now ≡ [] → (unwrap_or r d).now ≡ drop n xs
rest_or_none xs n None d h e =
    let short : length xs ≤ n = ⊎_elim (λ k. omega arith) (λ k. omega arith) h.0 in
    e ∙ sym (drop_all n xs short)
rest_or_none xs n (Some x) d h e = h.0.2 ∙ take_rest xs n

-- block i + 1 of those that follow the head, in checks of the blocks and of their entries
module _ (bs : List (List ℕ)) (i : ℕ) (d : List ℕ) (inside : i < length bs) where
  pub blocks_pass : first (block_checks (i + 1) (get_or bs i d)) ≡ None → first (each_block_checks (i + 1) (drop i bs)) ≡ first (each_block_checks (i + 1 + 1) (drop (i + 1) bs))
  blocks_pass h =
      at_drop_more (λ cs. first (each_block_checks (i + 1) cs)) bs i d inside
      ∙ first_append (block_checks (i + 1) (get_or bs i d)) (each_block_checks (suc (i + 1)) (drop (i + 1) bs)) h
      ∙ ap (λ k. first (each_block_checks k (drop (i + 1) bs))) (sym (add-one (i + 1)))

  pub each_entries_on : each_entries (i + 1) (drop i bs) ≡ entries (i + 1) 2 (body (get_or bs i d)) ++ each_entries (i + 1 + 1) (drop (i + 1) bs)
  each_entries_on =
      at_drop_more (each_entries (i + 1)) bs i d inside
      ∙ ap (λ k. entries (i + 1) 2 (body (get_or bs i d)) ++ each_entries k (drop (i + 1) bs)) (sym (add-one (i + 1)))

  -- F asks about entries, and answers v once those of this block are passed
  pub each_entries_pass : (F : List Placed → List Check) (v : List Placed → Option Refusal) → ((fs : List Placed) → first (F (entries (i + 1) 2 (body (get_or bs i d)) ++ fs)) ≡ v fs) → first (F (each_entries (i + 1) (drop i bs))) ≡ v (each_entries (i + 1 + 1) (drop (i + 1) bs))
  each_entries_pass F v h = ap (λ es. first (F es)) each_entries_on ∙ h _

  pub each_entries_fit : Fitting (each_entries (i + 1) (drop i bs)) → Fitting (entries (i + 1) 2 (body (get_or bs i d))) × Fitting (each_entries (i + 1 + 1) (drop (i + 1) bs))
  each_entries_fit h = all_parts (λ e. e.fits ≡ true) _ _ (rw each_entries_on at h)

-- the blocks of a sheet from block k on
module _ (xs : List ℕ) where
  next : (k : ℕ) → drop 512 (drop (k * 512) xs) ≡ drop (suc k * 512) xs
  next k = drop-drop 512 (k * 512) xs ∙ ap (λ n. drop n xs) (omega (arith, suc-mul k 512))

  chunk_checks : (n k : ℕ) → each_block_checks k (first_chunks 512 n (drop (k * 512) xs)) ≡ all_block_checks xs k n
  chunk_checks zero k = refl
  chunk_checks (suc n) k =
      ap (λ ys. block_checks k (block xs k) ++ each_block_checks (suc k) (first_chunks 512 n ys)) (next k)
      ∙ ap (λ cs. block_checks k (block xs k) ++ cs) (chunk_checks n (suc k))

  chunk_entries : (n k : ℕ) → each_entries k (first_chunks 512 n (drop (k * 512) xs)) ≡ all_entries xs k n
  chunk_entries zero k = refl
  chunk_entries (suc n) k =
      ap (λ ys. entries k 2 (body (block xs k)) ++ each_entries (suc k) (first_chunks 512 n ys)) (next k)
      ∙ ap (λ es. entries k 2 (body (block xs k)) ++ es) (chunk_entries n (suc k))

  -- the blocks as they were cut: the head's, and those of the entries
  module _ (b : List ℕ) (bs : List (List ℕ)) (is : b ∷ bs ≡ first_chunks 512 (blocks xs) xs) where
    cut_apart : (n : ℕ) → b ∷ bs ≡ first_chunks 512 n xs → (b ≡ block xs 0) × (bs ≡ first_chunks 512 (n - 1) (drop 512 xs))
    cut_apart zero e = absurd (let z : ◌≡◌ {A = ℕ} 0 1 = cc in omega arith)
    cut_apart (suc n) e = let one : suc n - 1 ≡ n = omega arith in rw one (cc, cc)

    pub cut_head : b ≡ block xs 0
    cut_head = (cut_apart (blocks xs) is).0

    pub cut_checks : each_block_checks 0 (b ∷ bs) ≡ all_block_checks xs 0 (blocks xs)
    cut_checks = ap (each_block_checks 0) is ∙ chunk_checks (blocks xs) 0

    pub cut_entries : each_entries 1 bs ≡ all_entries xs 1 (blocks xs - 1)
    cut_entries = ap (each_entries 1) (cut_apart (blocks xs) is).1 ∙ chunk_entries (blocks xs - 1) 1
