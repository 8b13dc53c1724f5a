-- The table that a fill says a slice of places holds. Assumes nothing.
use Rattle.std.specs.Prelude.{List, take, Some, None, Option}
use Rattle.graph.specs.Adding.{Table}
use Rattle.antichain.specs.declared.fill.Fill.{Fill}

-- the held states come first, and what lies past them is free
abbrev pub table_of : {S : Type 0} → Fill → List S → Table S
table_of f places = record { held = take f.held places; changed = f.changed }

abbrev pub tabled : {S : Type 0} → Option Fill → List S → Option (Table S)
tabled (Some f) places = Some (table_of f places)
tabled None places = None
