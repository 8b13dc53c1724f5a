-- Each reason why a sheet was not loaded, with the refusal's layer, number and place, and its words. Assumes nothing.
use Rattle.std.specs.Prelude.{ℕ, List, Some, None, Option, codes}
use Rattle.inspect.specs.declared.fault.Refusal.{Refusal}
use Rattle.inspect.specs.Faults.{words}
use Rattle.inspect.specs.Refusals.{block_refusal}
use Rattle.sheet.specs.declared.error.LoadError.{LoadError}
use Rattle.sheet.specs.declared.error.LoadError.TheVariants.{Refused, Memory}

abbrev pub load_refusal : LoadError → Option Refusal
load_refusal (Refused f) = Some (block_refusal f)
load_refusal Memory = None

abbrev pub load_words : LoadError → List ℕ
load_words (Refused f) = words f
load_words Memory = codes "no memory for what the sheet says"
