-- Each fault's layer, number and place. Assumes nothing.
use Rattle.std.specs.Prelude.{ℕ}
use Rattle.inspect.specs.declared.fault.Place.{Place}
use Rattle.inspect.specs.declared.fault.Layer.{Layer}
use Rattle.inspect.specs.declared.fault.Layer.TheVariants as layer
use Rattle.inspect.specs.declared.fault.Refusal.{Refusal}
use Rattle.inspect.specs.declared.fault.FormulaFault.{FormulaFault}
use Rattle.inspect.specs.declared.fault.FormulaFault.TheVariants.{Token, Waiting}
use Rattle.inspect.specs.declared.fault.EntryFault.{EntryFault}
use Rattle.inspect.specs.declared.fault.EntryFault.TheVariants.{Entry, Tokens, Formula}
use Rattle.inspect.specs.declared.fault.BlockFault.{BlockFault}
use Rattle.inspect.specs.declared.fault.BlockFault.TheVariants.{Length, Check, Kind, Head, Entry as InEntry}

abbrev pub place : ℕ → ℕ → Place
place block byte = record { block = block; byte = byte }

abbrev pub refused : Layer → ℕ → Place → Refusal
refused layer number place = record { layer = layer; number = number; place = place }

abbrev pub formula_refusal : FormulaFault → Refusal
formula_refusal (Token p) = refused layer.Formula 6 p
formula_refusal (Waiting p) = refused layer.Formula 7 p

abbrev pub entry_refusal : EntryFault → Refusal
entry_refusal (Entry p) = refused layer.Entry 5 p
entry_refusal (Tokens p) = refused layer.Entry 8 p
entry_refusal (Formula f) = formula_refusal f

abbrev pub block_refusal : BlockFault → Refusal
block_refusal Length = refused layer.Block 1 (place 0 0)
block_refusal (Check p) = refused layer.Block 2 p
block_refusal (Kind p) = refused layer.Block 3 p
block_refusal (Head p) = refused layer.Block 4 p
block_refusal (InEntry f) = entry_refusal f
