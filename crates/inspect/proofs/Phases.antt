-- The phases of an inspection: the first fault of each is the sheet's, if those before have none.
use Rattle.std.proofs.Common.{◌≡◌, ℕ, suc, ◌+◌, ◌-◌, true, List, [], ◌∷◌, ◌++◌, length, Some, None, ◌∙◌}
use Rattle.std.proofs.lemmas.Bool.{and_parts}
use Rattle.std.specs.List.{AllByRecursion}
use Rattle.inspect.specs.declared.fault.Refusal.{Refusal}
use Rattle.inspect.specs.declared.head.Asked.{Asked}
use Rattle.inspect.specs.declared.head.Head.{Head}
use Rattle.inspect.specs.Checks.{Check, length_check, all_block_checks, head_checks, entry_checks, token_checks, checks, first, key}
use Rattle.inspect.specs.Entries.{Placed, all_entries}
use Rattle.inspect.specs.Format.{block, blocks, head}
use Rattle.inspect.proofs.FirstOf.{all_parts, first_append, first_append_some, first_none}
use Rattle.inspect.proofs.Passing.{Fitting}

-- entries that are all in place lie before byte 510
pub in_place_fits : (h : Head) (least total : ℕ) (es : List Placed) → AllByRecursion (λ c. c.holds ≡ true) (entry_checks h least total es) → Fitting es
in_place_fits h least total [] pass = tt
in_place_fits h least total (e ∷ es) pass = ((and_parts _ _ pass.0).0, in_place_fits h (suc (key e)) (total + length e.tokens) es pass.1.1)

module _ (asked : Asked) (xs : List ℕ) where
  abbrev h : Head
  h = head (block xs 0)

  abbrev es : List Placed
  es = all_entries xs 1 (blocks xs - 1)

  abbrev entries_on : List Check
  entries_on = entry_checks h 0 0 es ++ token_checks h es

  abbrev head_on : List Check
  head_on = head_checks asked (block xs 0) ++ entries_on

  abbrev blocks_on : List Check
  blocks_on = all_block_checks xs 0 (blocks xs) ++ head_on

  pub wrong_length : (r : Refusal) → first (length_check xs ∷ []) ≡ Some r → first (checks asked xs) ≡ Some r
  wrong_length r e = first_append_some (length_check xs ∷ []) blocks_on r e

  module _ (whole : first (length_check xs ∷ []) ≡ None) where
    whole_first : first (checks asked xs) ≡ first blocks_on
    whole_first = first_append (length_check xs ∷ []) blocks_on whole

    pub wrong_block : (r : Refusal) → first (all_block_checks xs 0 (blocks xs)) ≡ Some r → first (checks asked xs) ≡ Some r
    wrong_block r e = whole_first ∙ first_append_some (all_block_checks xs 0 (blocks xs)) head_on r e

    module _ (sealed : first (all_block_checks xs 0 (blocks xs)) ≡ None) where
      sealed_first : first (checks asked xs) ≡ first head_on
      sealed_first = whole_first ∙ first_append (all_block_checks xs 0 (blocks xs)) head_on sealed

      pub wrong_head : (r : Refusal) → first (head_checks asked (block xs 0)) ≡ Some r → first (checks asked xs) ≡ Some r
      wrong_head r e = sealed_first ∙ first_append_some (head_checks asked (block xs 0)) entries_on r e

      module _ (fields : first (head_checks asked (block xs 0)) ≡ None) where
        fields_first : first (checks asked xs) ≡ first entries_on
        fields_first = sealed_first ∙ first_append (head_checks asked (block xs 0)) entries_on fields

        pub wrong_entry : (r : Refusal) → first (entry_checks h 0 0 es) ≡ Some r → first (checks asked xs) ≡ Some r
        wrong_entry r e = fields_first ∙ first_append_some (entry_checks h 0 0 es) (token_checks h es) r e

        pub tokens_decide : first (entry_checks h 0 0 es) ≡ None → first (checks asked xs) ≡ first (token_checks h es)
        tokens_decide e = fields_first ∙ first_append (entry_checks h 0 0 es) (token_checks h es) e

  pub entries_fit : first (entry_checks h 0 0 es) ≡ None → Fitting es
  entries_fit e = in_place_fits h 0 0 es (first_none (entry_checks h 0 0 es) e)

  -- nothing amiss: every entry lies before byte 510
  pub sound_fits : first (checks asked xs) ≡ None → Fitting es
  sound_fits e =
      let all = first_none (checks asked xs) e in
      let blocks_pass = all_parts (λ c. c.holds ≡ true) (all_block_checks xs 0 (blocks xs)) head_on all.1 in
      let head-pass = all_parts (λ c. c.holds ≡ true) (head_checks asked (block xs 0)) entries_on blocks_pass.1 in
      in_place_fits h 0 0 es (all_parts (λ c. c.holds ≡ true) (entry_checks h 0 0 es) (token_checks h es) head-pass.1).0
