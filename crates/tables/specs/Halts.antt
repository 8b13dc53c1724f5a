-- Why a search is not opened or widened, in words. Assumes nothing.
use Rattle.std.specs.Prelude.{ℕ, List, codes}
use Rattle.inquiry.specs.Refusal.{refusal_words}
use Rattle.tables.specs.declared.halt.Halt.{Halt}
use Rattle.tables.specs.declared.halt.Halt.TheVariants.{Refused, Memory}

abbrev pub halt_words : Halt → List ℕ
halt_words (Refused r) = refusal_words r
halt_words Memory = codes "no memory for the tables"
