-- What loading a sheet answers, and what it leaves. Assumes nothing.
use Rattle.std.specs.Prelude.{◌≡◌, ℕ, List, Ok, Err, Result}
use Rattle.inspect.specs.declared.head.Asked.{Asked}
use Rattle.inspect.specs.declared.head.Head.{Head}
use Rattle.inspect.specs.Checks.{FirstFault}
use Rattle.inspect.specs.Denotes.{Content, Denotes}
use Rattle.inspect.specs.Refusals.{block_refusal}
use Rattle.sheet.specs.declared.error.LoadError.{LoadError}
use Rattle.sheet.specs.declared.error.LoadError.TheVariants.{Refused, Memory}

-- a sheet that denotes something, and its head
abbrev pub Denoted : List ℕ → Head → Type 0
Denoted xs h = (asked : Asked) × (c : Content) × Denotes asked xs c × (h ≡ c.head)

-- a sheet that was not loaded: by its first fault, or for want of memory, which is found only where there is no fault
abbrev pub NotLoaded : Asked → List ℕ → LoadError → Type 0
NotLoaded asked xs (Refused f) = FirstFault asked xs (block_refusal f)
NotLoaded asked xs Memory = (c : Content) × Denotes asked xs c

-- what the sheet denotes, or why it was not loaded
abbrev pub ReadAs : {R : Type 0} → Asked → List ℕ → (R → Content → Type 0) → Result R LoadError → Type 0
ReadAs asked xs Means (Ok x) = (c : Content) × Denotes asked xs c × Means x c
ReadAs asked xs Means (Err e) = NotLoaded asked xs e

-- the record is what the sheet denotes, or it is as it was
abbrev pub Loaded : {R T : Type 0} → Asked → List ℕ → (R → Content → Type 0) → R → R → Result T LoadError → Type 0
Loaded asked xs Means before after (Ok _) = (c : Content) × Denotes asked xs c × Means after c
Loaded asked xs Means before after (Err e) = NotLoaded asked xs e × (after ≡ before)
