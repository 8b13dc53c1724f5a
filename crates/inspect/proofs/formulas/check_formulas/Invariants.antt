use Rattle.std.proofs.Common.{◌≡◌, ◌+◌, true, drop}
use Rattle.std.specs.List.{AllByRecursion}
use Rattle.inspect.specs.Blocks.{each_entries}
use Rattle.inspect.specs.Checks.{first, token_checks}
use Rattle.inspect.proofs.formulas.check_formulas.Given as goal

abbrev pub invariant-loop-i : goal.invariant-loop-i
invariant-loop-i l =
    AllByRecursion (λ e. e.fits ≡ true) (each_entries (l.i + 1) (drop l.i l.blocks.entries.now))
    × (first (token_checks l.head (each_entries 1 l.blocks.entries.now)) ≡ first (token_checks l.head (each_entries (l.i + 1) (drop l.i l.blocks.entries.now))))
