use Rattle.std.proofs.Common.{◌≡◌, ◌-◌, None, sym, ap, ◌∙◌, ap₂}
use Rattle.std.proofs.lemmas.Result.{err_from_is_err_and}
use Rattle.inspect.specs.Blocks.{each_entries}
use Rattle.inspect.specs.Checks.{checks, first, all_block_checks, head_checks, entry_checks, token_checks}
use Rattle.inspect.specs.Contents.{contents}
use Rattle.inspect.specs.Entries.{all_entries}
use Rattle.inspect.specs.Format.{head, block, blocks}
use Rattle.inspect.proofs.Cuts.{cut_head, cut_checks, cut_entries}
use Rattle.inspect.proofs.FirstOf.{first_fault}
use Rattle.inspect.proofs.Meaning.{sound_denotes, one_verdict}
use Rattle.inspect.proofs.Phases as phases
use Rattle.inspect.proofs.inspect.Goals as goal
use Rattle.inspect.proofs.inspect.Goals.{In_ok-blocks, In_ok-check, In_ok-head, In_ok-check_entries}

-- what was said of the blocks, said of the sheet
sealed : (c : In_ok-check) → first (all_block_checks c.args.sheet.now 0 (blocks c.args.sheet.now)) ≡ None
sealed c = ap first (sym (cut_checks c.args.sheet.now _ _ c.in_ok-blocks.ensures.1)) ∙ c.in_ok-check.ensures.0

fields : (c : In_ok-head) → first (head_checks c.args.asked (block c.args.sheet.now 0)) ≡ None
fields c = ap (λ b. first (head_checks c.args.asked b)) (sym (cut_head c.args.sheet.now _ _ c.in_ok-blocks.ensures.1)) ∙ c.in_ok-head.ensures.0

is_head : (c : In_ok-head) → c.in_ok-head.head ≡ head (block c.args.sheet.now 0)
is_head c = c.in_ok-head.ensures.1 ∙ ap head (cut_head c.args.sheet.now _ _ c.in_ok-blocks.ensures.1)

-- the checks of the entries, under the head as it stands in block 0
entries_are : (c : In_ok-head) → first (entry_checks (head (block c.args.sheet.now 0)) 0 0 (all_entries c.args.sheet.now 1 (blocks c.args.sheet.now - 1))) ≡ first (entry_checks c.in_ok-head.head 0 0 (each_entries 1 c.in_ok-blocks.blocks.entries.now))
entries_are c = sym (ap₂ (λ h es. first (entry_checks h 0 0 es)) (is_head c) (cut_entries c.args.sheet.now _ _ c.in_ok-blocks.ensures.1))

tokens_are : (c : In_ok-head) → first (token_checks (head (block c.args.sheet.now 0)) (all_entries c.args.sheet.now 1 (blocks c.args.sheet.now - 1))) ≡ first (token_checks c.in_ok-head.head (each_entries 1 c.in_ok-blocks.blocks.entries.now))
tokens_are c = sym (ap₂ (λ h es. first (token_checks h es)) (is_head c) (cut_entries c.args.sheet.now _ _ c.in_ok-blocks.ensures.1))

placed : (c : In_ok-check_entries) → first (entry_checks (head (block c.args.sheet.now 0)) 0 0 (all_entries c.args.sheet.now 1 (blocks c.args.sheet.now - 1))) ≡ None
placed c = entries_are (goal.at.In_ok-check_entries c).In_ok-head ∙ c.in_ok-check_entries.ensures.0

-- so the tokens decide
decide : (c : In_ok-check_entries) → first (checks c.args.asked c.args.sheet.now) ≡ first (token_checks (head (block c.args.sheet.now 0)) (all_entries c.args.sheet.now 1 (blocks c.args.sheet.now - 1)))
decide c =
    let at = goal.at.In_ok-check_entries c in
    phases.tokens_decide c.args.asked c.args.sheet.now c.in_ok-blocks.ensures.0 (sealed at.In_ok-check) (fields at.In_ok-head) (placed c)

pub returns-in_err-blocks : goal.returns-in_err-blocks
returns-in_err-blocks c =
    let asked = c.args.asked in
    let xs = c.args.sheet.now in
    let p = err_from_is_err_and c.from_residual.result c.from_residual.ensures.1 in
    rw (p.1, p.2) (record { answers = first_fault asked xs _ (phases.wrong_length asked xs _ c.in_err-blocks.ensures); one = one_verdict asked xs })

pub returns-in_err-check : goal.returns-in_err-check
returns-in_err-check c =
    let asked = c.args.asked in
    let xs = c.args.sheet.now in
    let p = err_from_is_err_and c.from_residual-in_err-check.result c.from_residual-in_err-check.ensures.1 in
    let out = ap first (sym (cut_checks xs _ _ c.in_ok-blocks.ensures.1)) ∙ c.in_err-check.ensures in
    rw (p.1, p.2) (record { answers = first_fault asked xs _ (phases.wrong_block asked xs c.in_ok-blocks.ensures.0 _ out); one = one_verdict asked xs })

pub returns-in_err-head : goal.returns-in_err-head
returns-in_err-head c =
    let asked = c.args.asked in
    let xs = c.args.sheet.now in
    let at = goal.at.returns-in_err-head c in
    let p = err_from_is_err_and c.from_residual-in_err-head.result c.from_residual-in_err-head.ensures.1 in
    let out = ap (λ b. first (head_checks asked b)) (sym (cut_head xs _ _ c.in_ok-blocks.ensures.1)) ∙ c.in_err-head.ensures in
    rw (p.1, p.2)
    (record { answers = first_fault asked xs _ (phases.wrong_head asked xs c.in_ok-blocks.ensures.0 (sealed at.In_ok-check) _ out); one = one_verdict asked xs })

pub returns-in_err-check_entries : goal.returns-in_err-check_entries
returns-in_err-check_entries c =
    let asked = c.args.asked in
    let xs = c.args.sheet.now in
    let at = goal.at.returns-in_err-check_entries c in
    let p = err_from_is_err_and c.from_residual-in_err-check_entries.result c.from_residual-in_err-check_entries.ensures.1 in
    let out = entries_are at.In_ok-head ∙ c.in_err-check_entries.ensures in
    rw (p.1, p.2)
    (record { answers = first_fault asked xs _ (phases.wrong_entry asked xs c.in_ok-blocks.ensures.0 (sealed at.In_ok-check) (fields at.In_ok-head) _ out); one = one_verdict asked xs })

pub check_formulas-requires : goal.check_formulas-requires
check_formulas-requires c =
    rw (cut_entries c.args.sheet.now _ _ c.in_ok-blocks.ensures.1)
    (phases.entries_fit c.args.asked c.args.sheet.now (placed (goal.at.check_formulas-requires c).In_ok-check_entries))

pub returns-in_err-check_formulas : goal.returns-in_err-check_formulas
returns-in_err-check_formulas c =
    let asked = c.args.asked in
    let xs = c.args.sheet.now in
    let at = goal.at.returns-in_err-check_formulas c in
    let p = err_from_is_err_and c.from_residual-in_err-check_formulas.result c.from_residual-in_err-check_formulas.ensures.1 in
    let out = decide at.In_ok-check_entries ∙ tokens_are at.In_ok-head ∙ c.in_err-check_formulas.ensures in
    rw (p.1, p.2) (record { answers = first_fault asked xs _ out; one = one_verdict asked xs })

pub returns : goal.returns
returns c =
    let xs = c.args.sheet.now in
    let at = goal.at.returns c in
    let none = decide at.In_ok-check_entries ∙ tokens_are at.In_ok-head ∙ c.in_ok-check_formulas.ensures.0 in
    record { answers = (contents xs, sound_denotes c.args.asked xs none, is_head at.In_ok-head); one = one_verdict c.args.asked xs }
