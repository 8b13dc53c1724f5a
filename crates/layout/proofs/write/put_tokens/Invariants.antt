-- The tokens so far stand at the front.
use Rattle.std.proofs.Common.{◌≡◌, map, take}
use Rattle.formula.specs.Tokens.{code}
use Rattle.layout.specs.Standing.{tokens_at}
use Rattle.layout.proofs.write.put_tokens.Given as goal

abbrev pub invariant-loop-i : goal.invariant-loop-i
invariant-loop-i g l = take l.i l.out ≡ map code (take l.i (tokens_at (g.S.Source.content l.source) l.cell))
