-- The words are those of the locations that came so far.
use Rattle.std.proofs.Common.{◌≡◌, map, string_bytes, decimal, vec_items}
use Rattle.words.proofs.set.words.Given as goal

abbrev pub invariant-loop-location : goal.invariant-loop-location
invariant-loop-location l = map string_bytes (vec_items l.words) ≡ map decimal l.yielded
