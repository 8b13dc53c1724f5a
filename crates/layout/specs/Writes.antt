-- What writing a sheet does, and why it can be read back. Assumes nothing.
use Rattle.std.specs.Prelude.{◌≡◌, ℕ, ◌*◌, ◌<◌, ◌≤◌, true, List, ◌++◌, codes, length, drop, Ok, Err, Result}
use Rattle.inspect.specs.declared.head.Asked.{Asked}
use Rattle.inspect.specs.Format.{takes}
use Rattle.inspect.specs.Denotes.{Content, Denotes}
use Rattle.layout.specs.declared.write.WriteFault.{WriteFault}
use Rattle.layout.specs.declared.write.WriteFault.TheVariants.{TooFewBytes}
use Rattle.layout.specs.Written.{written}

-- the number of the refusal
abbrev pub write_number : WriteFault → ℕ
write_number TooFewBytes = 9

-- as it is printed
abbrev pub write_words : WriteFault → List ℕ
write_words TooFewBytes = codes "the bytes given are too few"

-- the sheet and its length, and behind it what was there; or, where that is too short, no byte changes
abbrev pub Writes : Content → List ℕ → List ℕ → Result ℕ WriteFault → Type 0
Writes c before after (Ok n) = (n ≡ length (written c)) × (n ≤ length before) × (after ≡ written c ++ drop n before)
Writes c before after (Err e) = (write_number e ≡ 9) × (length before < length (written c)) × (after ≡ before)

-- whoever takes its sort reads the content back, from at most 64 blocks
pub record ReadsBack (c : Content) : Type 0 where
  pub denotes : (asked : Asked) → takes asked c.head.sort ≡ true → Denotes asked (written c) c
  pub few : length (written c) ≤ 64 * 512
