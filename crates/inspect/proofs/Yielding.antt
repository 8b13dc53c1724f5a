-- What came next of a block's entries: an entry, or one that does not fit.
use Rattle.std.proofs.Common.{◌≡◌, ◌∷◌, List, Ok, Err, Some, Result, subst}
use Rattle.inspect.specs.declared.fault.EntryFault.{EntryFault}
use Rattle.inspect.specs.declared.placed.PlacedEntry.{PlacedEntry}
use Rattle.inspect.specs.Entries.{Placed}
use Rattle.inspect.specs.Yielded.{placed_entry, NextEntry}

module _ (es left : List Placed) (r : Result PlacedEntry EntryFault) (steps : NextEntry es (Some r) left) where
  pub next_entry : (e : PlacedEntry) → r ≡ Ok e → es ≡ placed_entry e ∷ left
  next_entry e is = subst (λ o. NextEntry es (Some o) left) is steps

  pub next_fault : (f : EntryFault) → r ≡ Err f → NextEntry es (Some (Err f)) left
  next_fault f is = subst (λ o. NextEntry es (Some o) left) is steps
