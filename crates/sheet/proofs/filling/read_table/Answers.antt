use Rattle.std.proofs.Common.{◌≡◌, ◌+◌, ◌-◌, ◌*◌, ◌<◌, List, [], ◌∷◌, map, length, replicate, sym, refl, ap, ◌∙◌, subst, arith}
use Rattle.std.proofs.lemmas.List.{at_drop_all}
use Rattle.std.specs.Simd.{first_chunks}
use Rattle.inspect.specs.Blocks.{each_entries}
use Rattle.inspect.specs.Contents.{entry_of}
use Rattle.inspect.specs.Denotes.{laid}
use Rattle.inspect.specs.Entries.{Placed, all_entries}
use Rattle.inspect.specs.Format.{blocks}
use Rattle.inspect.proofs.Cuts.{cut_entries, each_entries_fit, each_entries_on}
use Rattle.inspect.proofs.Passing.{Fitting}
use Rattle.sheet.specs.Tables.{formulas}
use Rattle.sheet.proofs.Denoteds.{denoted_few, denoted_fits, denoted_head}
use Rattle.sheet.proofs.filling.read_table.Goals as goal
use Rattle.sheet.proofs.filling.read_table.Goals.{In-Some}

-- the blocks that the sheet is
whole : (c : In-Some) → c.in-Some.field-0-0.now ∷ c.in-Some.entries.now ≡ first_chunks 512 (blocks c.args.sheet.bytes.now) c.args.sheet.bytes.now
whole c = sym c.in-Some.ensures.cases.0 ∙ c.as_chunks.ensures.front

few : (c : In-Some) → length c.in-Some.entries.now < 64
few c =
    omega (arith, c.in-Some.ensures.cases.1, c.as_chunks.ensures.front_len, denoted_few c.args.sheet.bytes.now c.args.sheet.head c.args.sheet.denoted)

all_are : (c : In-Some) → each_entries 1 c.in-Some.entries.now ≡ all_entries c.args.sheet.bytes.now 1 (blocks c.args.sheet.bytes.now - 1)
all_are c = cut_entries c.args.sheet.bytes.now _ _ (whole c)

pub loop-i-init : goal.loop-i-init
loop-i-init c =
    let sheet = c.args.sheet in (
      subst Fitting (sym (all_are (goal.at.loop-i-init c).In-Some)) (denoted_fits sheet.bytes.now sheet.head sheet.denoted),
      refl,
    )

pub overflow_cast-number : goal.overflow_cast-number
overflow_cast-number c = omega (arith, few (goal.at.overflow_cast-number c).In-Some)

pub overflow_add-number : goal.overflow_add-number
overflow_add-number c = omega (arith, few (goal.at.overflow_add-number c).In-Some)

pub fill_block-requires : goal.fill_block-requires
fill_block-requires c =
    (each_entries_fit c.in-Some.entries.now c.loop-i.i [] c.loop-i-test.true c.loop-i.invariant.0).0

pub loop-i-preserved : goal.loop-i-preserved
loop-i-preserved c =
    let bs = c.in-Some.entries.now in (
      (each_entries_fit bs c.loop-i.i [] c.loop-i-test.true c.loop-i.invariant.0).1,
      c.loop-i.invariant.1 ∙ ap (λ es. laid c.args.sheet.head.letters (formulas c.loop-i.table) (map entry_of es)) (each_entries_on bs c.loop-i.i [] c.loop-i-test.true) ∙ c.in_ok-fill_block.ensures _,
    )

pub returns : goal.returns
returns c =
    let sheet = c.args.sheet in
    let letters = sheet.head.letters in
    let xs = sheet.bytes.now in
    let all = map entry_of (all_entries xs 1 (blocks xs - 1)) in
    let left = λ (es : List Placed). laid letters (formulas c.loop-i.table) (map entry_of es) in
    sym (c.loop-i.invariant.1 ∙ ap left (at_drop_all (each_entries (c.loop-i.i + 1)) c.in-Some.entries.now c.loop-i.i c.loop-i-test.false))
    ∙ ap (λ es. laid letters (formulas c.in_ok-table.table) (map entry_of es)) (all_are (goal.at.returns c).In-Some)
    ∙ ap (λ t. laid letters t all) (c.in_ok-table.ensures ∙ ap (λ n. replicate n []) c.cells.ensures)
    ∙ ap (λ h. laid h.letters (replicate (h.locations * h.letters) []) all) (denoted_head xs sheet.head sheet.denoted)
