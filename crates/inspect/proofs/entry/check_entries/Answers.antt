use Rattle.std.proofs.Common.{[], Some, ◌∙◌}
use Rattle.std.proofs.lemmas.Result.{err_from_is_err_and}
use Rattle.inspect.specs.Checks.{entry_checks}
use Rattle.inspect.proofs.Cuts.{each_entries_pass}
use Rattle.inspect.proofs.entry.check_entries.Goals as goal

pub returns-in_err-progress : goal.returns-in_err-progress
returns-in_err-progress c =
    let p = err_from_is_err_and c.from_residual.result c.from_residual.ensures.1 in
    rw (p.1, p.2)
    (c.loop-i.invariant
    ∙ each_entries_pass c.args.blocks.now.entries.now c.loop-i.i [] c.loop-i-test.true (entry_checks c.args.head.now c.loop-i.progress.least c.loop-i.progress.total) (λ _. Some _) (rw (c.behind_head.ensures.number, c.behind_head.ensures.bytes) at c.in_err-progress.ensures))
