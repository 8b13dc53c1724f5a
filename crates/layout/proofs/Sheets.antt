-- A written sheet has at most 64 whole blocks and denotes the content that it was written for.
use Rattle.std.proofs.Common.{◌≡◌, ℕ, suc, ◌+◌, ◌*◌, ◌<◌, ◌≤◌, true, List, [], ◌∷◌, ◌++◌, map, length, get_or, replicate, sym, refl, ap, ◌∙◌, subst, zero-add, one-add, arith}
use lib.ListN.{length-map}
use Rattle.std.specs.List.{AllByRecursion}
use Rattle.std.proofs.lemmas.Nat.{mul-le}
use Rattle.std.proofs.ByRecursion.{All-map, All-weaker, All-get_or}
use Rattle.std.proofs.lemmas.List.{get_or-map}
use Rattle.inspect.specs.declared.head.Asked.{Asked}
use Rattle.inspect.specs.Format.{blocks, block, byte, body, head, sort_of, takes}
use Rattle.inspect.specs.Denotes.{Content, Proper, Sealed, Fills, laid, Denotes}
use Rattle.layout.specs.Valid.{Valid}
use Rattle.layout.specs.Written.{sealed, head_payload, closed, bodies, sealed_from, entries_of, written}
use Rattle.layout.proofs.Blocks.{Fitting, sealed_all, sealed_is, body_sealed, length_sealed_all, block_sealed_all}
use Rattle.layout.proofs.Heads.{length_head_payload, sort_read, head_read}
use Rattle.layout.proofs.Packing.{Small, length_closed, bodies_pack, packs_within, packs_fill, bodies_few}
use Rattle.layout.proofs.Tables.{few_entries, tokens_sizes, laid_table, rising, good_entries}

sealed_from_all : (k : ℕ) (bs : List (List ℕ)) → sealed_from k bs ≡ sealed_all k (map closed bs)
sealed_from_all k [] = refl
sealed_from_all k (b ∷ bs) = ap (λ xs. sealed k (closed b) ++ xs) (sealed_from_all (suc k) bs)

abbrev payloads : Content → List (List ℕ)
payloads c = head_payload c.head ∷ map closed (bodies (entries_of c))

written_all : (c : Content) → written c ≡ sealed_all 0 (payloads c)
unfolding written
written_all c = ap (λ xs. sealed 0 (head_payload c.head) ++ xs) (sealed_from_all 1 (bodies (entries_of c)))

module _ (c : Content) (valid : Valid c) where
  good : AllByRecursion (λ e. Proper c.head e × Small e) (entries_of c)
  good = good_entries c.head valid.fields.some_letter 0 c.formulas (zero-add _ ∙ valid.long) valid.formulas

  pub small : AllByRecursion Small (entries_of c)
  small = All-weaker _ Small (λ e g. g.1) (entries_of c) good

  fitting : AllByRecursion Fitting (payloads c)
  fitting = (
    length_head_payload c.head,
    All-map Fitting closed (bodies (entries_of c)) (All-weaker _ _ length_closed _ (packs_within _ (entries_of c) (bodies_pack (entries_of c) small))),
  )

  pub written_length : length (written c) ≡ suc (length (bodies (entries_of c))) * 512
  written_length =
      ap length (written_all c) ∙ length_sealed_all 0 (payloads c) fitting ∙ ap (λ n. suc n * 512) (length-map (bodies (entries_of c)) closed)

  pub written_few : suc (length (bodies (entries_of c))) ≤ 64
  written_few =
      let tokens = tokens_sizes c.head.letters 0 c.formulas in
      let places = mul-le c.head.locations c.head.letters 32 8 valid.fields.locations valid.fields.letters in
      omega (arith, bodies_few (entries_of c) small, few_entries c.head.letters 0 c.formulas, valid.long, valid.tokens)

  pub written_blocks : blocks (written c) ≡ suc (length (bodies (entries_of c)))
  written_blocks = omega (arith, written_length)

  block_is : (k : ℕ) → k < length (payloads c) → block (written c) k ≡ sealed k (get_or (payloads c) k [])
  block_is k h =
      ap (λ xs. block xs k) (written_all c) ∙ block_sealed_all 0 (payloads c) k fitting h ∙ ap (λ n. sealed n (get_or (payloads c) k [])) (zero-add k)

  head_is : block (written c) 0 ≡ sealed 0 (head_payload c.head)
  head_is = block_is 0 (omega arith)

  body_is : (i : ℕ) → i < length (bodies (entries_of c)) → body (block (written c) (1 + i)) ≡ closed (get_or (bodies (entries_of c)) i [])
  body_is i h =
      let within : suc i < length (payloads c) = omega (arith, length-map (bodies (entries_of c)) closed) in
      ap (λ n. body (block (written c) n)) (one-add i) ∙ ap body (block_is (suc i) within)
      ∙ body_sealed (suc i) _ (All-get_or Fitting (payloads c) (suc i) [] within fitting) ∙ get_or-map closed (bodies (entries_of c)) i [] [] h

  denotes : (asked : Asked) → takes asked c.head.sort ≡ true → Denotes asked (written c) c
  denotes asked taken = record {
    long = written_length ∙ ap (λ n. n * 512) (sym written_blocks);
    some = omega (arith, written_blocks);
    few = omega (arith, written_blocks, written_few);
    sealed = λ k h.
        let within : k < length (payloads c) = omega (arith, written_blocks, length-map (bodies (entries_of c)) closed) in
        subst (Sealed k) (sym (block_is k within)) (sealed_is k _ (All-get_or Fitting (payloads c) k [] within fitting));
    says = head_read c.head valid.accepting ∙ ap head (sym head_is);
    sort = ap (λ b. sort_of (byte b 2)) head_is ∙ sort_read c.head.sort;
    taken = taken;
    fields = valid.fields;
    entries = entries_of c;
    filled = subst (λ n. Fills (written c) 1 n (entries_of c)) (omega (arith, written_blocks)) (packs_fill (written c) 1 _ _ (bodies_pack (entries_of c) small) body_is);
    rising = rising c.head.letters valid.fields.some_letter 0 c.formulas;
    proper = All-weaker _ (Proper c.head) (λ e g. g.0) (entries_of c) good;
    tokens = omega (arith, tokens_sizes c.head.letters 0 c.formulas, valid.tokens);
    formulas = sym (ap (λ n. laid c.head.letters (replicate n []) (entries_of c)) (sym valid.long) ∙ laid_table c.head.letters [] c.formulas 0 refl);
  }

pub written_denotes : (asked : Asked) (c : Content) → Valid c → takes asked c.head.sort ≡ true → Denotes asked (written c) c
written_denotes asked c valid taken = denotes c valid asked taken
