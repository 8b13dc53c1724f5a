use Rattle.std.proofs.Common.{[], Some, ◌∙◌}
use Rattle.std.proofs.lemmas.Result.{err_from_is_err_and}
use Rattle.inspect.specs.Checks.{first, token_checks}
use Rattle.inspect.proofs.Cuts.{each_entries_pass, each_entries_fit}
use Rattle.inspect.proofs.formulas.check_formulas.Goals as goal

pub spell-requires : goal.spell-requires
spell-requires c =
    rw (c.behind_head.ensures.number, c.behind_head.ensures.bytes) (each_entries_fit c.args.blocks.now.entries.now c.loop-i.i [] c.loop-i-test.true c.loop-i.invariant.0).0

pub returns-in_err-spell : goal.returns-in_err-spell
returns-in_err-spell c =
    let p = err_from_is_err_and c.from_residual.result c.from_residual.ensures.1 in
    rw (p.1, p.2)
    (c.loop-i.invariant.1
    ∙ each_entries_pass c.args.blocks.now.entries.now c.loop-i.i [] c.loop-i-test.true (token_checks c.args.head.now) (λ _. Some _) (rw (c.behind_head.ensures.number, c.behind_head.ensures.bytes) at c.in_err-spell.ensures))

pub loop-i-preserved : goal.loop-i-preserved
loop-i-preserved c = (
  (each_entries_fit c.args.blocks.now.entries.now c.loop-i.i [] c.loop-i-test.true c.loop-i.invariant.0).1,
  c.loop-i.invariant.1
      ∙ each_entries_pass c.args.blocks.now.entries.now c.loop-i.i [] c.loop-i-test.true (token_checks c.args.head.now) (λ es. first (token_checks c.args.head.now es)) (rw (c.behind_head.ensures.number, c.behind_head.ensures.bytes) at c.in_ok-spell.ensures),
)
