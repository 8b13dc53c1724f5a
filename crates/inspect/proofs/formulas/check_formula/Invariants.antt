use Rattle.std.proofs.Common.{◌≡◌, ◌+◌, ◌≤◌, drop}
use Rattle.inspect.specs.Checks.{first, formula_checks}
use Rattle.inspect.proofs.formulas.check_formula.Given as goal

abbrev pub invariant-loop-i : goal.invariant-loop-i
invariant-loop-i l =
    (l.waiting ≤ 32)
    × (first (formula_checks l.head l.entry.place.block l.entry.place.byte (l.entry.place.byte + 3) 0 l.entry.tokens.now) ≡ first (formula_checks l.head l.entry.place.block l.entry.place.byte (l.entry.place.byte + 3 + l.i) l.waiting (drop l.i l.entry.tokens.now)))
