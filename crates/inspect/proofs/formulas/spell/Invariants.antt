use Rattle.std.proofs.Common.{◌≡◌, true, List, ◌++◌}
use Rattle.std.specs.List.{AllByRecursion}
use Rattle.inspect.specs.Checks.{first, token_checks}
use Rattle.inspect.specs.Entries.{Placed, entries}
use Rattle.inspect.specs.Format.{body}
use Rattle.inspect.proofs.formulas.spell.Given as goal

-- what is left of the block's entries fits, and decides as all of them did
abbrev pub invariant-loop-entry : goal.invariant-loop-entry
invariant-loop-entry l =
    goal.iterator-loop-entry.can_next l.entry-iterator
    × goal.iterator-loop-entry.is_finite l.entry-iterator
    × AllByRecursion (λ e. e.fits ≡ true) l.entry-iterator
    × ((fs : List Placed) → first (token_checks l.head (entries l.block.number 2 (body l.block.bytes.now) ++ fs)) ≡ first (token_checks l.head (l.entry-iterator ++ fs)))
