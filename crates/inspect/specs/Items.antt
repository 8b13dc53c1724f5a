-- What the readers of an item answer. Assumes nothing.
use Rattle.std.specs.Prelude.{◌≡◌, ℕ, ◌<◌, ◌≤◌, ◌⊎◌, List, length, take, drop, Some, None, Ok, Err, Option, Result}
use Rattle.inspect.specs.declared.fault.BlockFault.{BlockFault}
use Rattle.inspect.specs.declared.fault.BlockFault.TheVariants.{Length, Entry as InEntry}
use Rattle.inspect.specs.declared.fault.EntryFault.{EntryFault}
use Rattle.inspect.specs.declared.fault.EntryFault.TheVariants.{Entry as EntryOut}
use Rattle.inspect.specs.declared.fault.Place.{Place}
use Rattle.inspect.specs.declared.head.Asked.{Asked}
use Rattle.inspect.specs.declared.item.Item.{Item}
use Rattle.inspect.specs.declared.item.Item.TheVariants.{Head, Entry, End}
use Rattle.inspect.specs.declared.placed.PlacedEntry.{PlacedEntry}
use Rattle.inspect.specs.Checks.{first, head_checks}
use Rattle.inspect.specs.Entries.{begins, nothing, past, an_entry}
use Rattle.inspect.specs.Format.{block, head}
use Rattle.inspect.specs.Refusals.{block_refusal}

-- the entry that begins at the first of these bytes, which end with byte 509; none where the entries end
abbrev pub EntryAt : List ℕ → Place → Result (Option PlacedEntry) EntryFault → Type 0
EntryAt rest place (Ok None) = begins rest ≡ nothing
EntryAt rest place (Ok (Some e)) = (begins rest ≡ an_entry e.location e.letter e.tokens.now) × (length e.tokens.now ≤ 255) × (e.place ≡ place)
EntryAt rest place (Err f) = ((l : ℕ) × (begins rest ≡ past l)) × (f ≡ EntryOut place)

-- block 0 of a sheet that is too short for one, or whose head is out of range, or an entry past byte 509
abbrev pub Amiss : Asked → List ℕ → Place → BlockFault → Type 0
Amiss asked xs p f =
    ((p.block ≡ 0) × (length xs < 512) × (f ≡ Length))
    ⊎ (((p.block ≡ 0) × (512 ≤ length xs) × (first (head_checks asked (block xs 0)) ≡ Some (block_refusal f)))
    ⊎ ((0 < p.block) × ((l : ℕ) × (begins (drop p.byte (take 510 (block xs p.block))) ≡ past l)) × (f ≡ InEntry (EntryOut p))))

-- the item that begins at a place of a sheet
abbrev pub ItemIn : Asked → List ℕ → Place → Result Item BlockFault → Type 0
ItemIn asked xs p (Ok (Head h)) = (p.block ≡ 0) × (512 ≤ length xs) × (first (head_checks asked (block xs 0)) ≡ None) × (h ≡ head (block xs 0))
ItemIn asked xs p (Ok (Entry l a ts)) = (0 < p.block) × (begins (drop p.byte (take 510 (block xs p.block))) ≡ an_entry l a ts.now) × (length ts.now ≤ 255)
ItemIn asked xs p (Ok End) = (0 < p.block) × (begins (drop p.byte (take 510 (block xs p.block))) ≡ nothing)
ItemIn asked xs p (Err f) = Amiss asked xs p f
