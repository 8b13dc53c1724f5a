-- The entries of a block as they come one by one. Assumes nothing.
use Rattle.std.specs.Prelude.{◌≡◌, ℕ, true, false, List, [], ◌∷◌, Some, None, Ok, Err, Option, Result}
use Rattle.inspect.specs.declared.fault.EntryFault.{EntryFault}
use Rattle.inspect.specs.declared.fault.EntryFault.TheVariants.{Entry as EntryOut}
use Rattle.inspect.specs.declared.fault.Place.{Place}
use Rattle.inspect.specs.declared.placed.PlacedEntry.{PlacedEntry}
use Rattle.inspect.specs.Entries.{Placed, placed}

abbrev pub placed_entry : PlacedEntry → Placed
placed_entry e = placed e.place.block e.place.byte e.location e.letter e.tokens.now true

-- the next of the entries es, and those left after it: none at the end, and none after one that does not fit
abbrev pub NextEntry : List Placed → Option (Result PlacedEntry EntryFault) → List Placed → Type 0
NextEntry es None left = (es ≡ []) × (left ≡ [])
NextEntry es (Some (Ok e)) left = es ≡ placed_entry e ∷ left
NextEntry es (Some (Err f)) left = ((p : Place) × (l : ℕ) × (es ≡ placed p.block p.byte l 0 [] false ∷ []) × (f ≡ EntryOut p)) × (left ≡ [])
