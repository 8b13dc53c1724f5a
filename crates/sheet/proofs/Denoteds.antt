-- A sheet that denotes something: its entries fit, its head is the one of what it denotes, and that can be written again.
use Rattle.std.proofs.Common.{◌≡◌, ℕ, ◌-◌, ◌<◌, ◌≤◌, true, List, get_or, ap, ◌∙◌, arith, w8, Fits}
use Rattle.std.specs.Coded.{Coded-set}
use Rattle.std.specs.List.{AllByRecursion}
use Rattle.std.proofs.ByRecursion.{All-from_get_or}
use Rattle.std.proofs.Math.Logic.{∥∥₁_elim}
use Rattle.std.proofs.Props.{props}
use Rattle.inspect.specs.contracts.head.Head.{the_row}
use Rattle.inspect.specs.declared.head.Head.{Head}
use Rattle.inspect.specs.Contents.{contents}
use Rattle.inspect.specs.Entries.{all_entries}
use Rattle.inspect.specs.Format.{blocks}
use Rattle.inspect.proofs.Meaning.{denotes_sound}
use Rattle.inspect.proofs.Passing.{Fitting}
use Rattle.inspect.proofs.Phases.{sound_fits}
use Rattle.layout.specs.Valid.{is_valid}
use Rattle.layout.proofs.Denoted.{denotes_valid}
use Rattle.layout.proofs.Valids.{valid_test}
use Rattle.sheet.specs.Loads.{Denoted}

module _ (xs : List ℕ) (h : Head) (denoted : ∥ Denoted xs h ∥₁) where
  pub denoted_few : blocks xs ≤ 64
  denoted_few = ∥∥₁_elim denoted (search props) (λ d. d.2.few)

  pub denoted_fits : Fitting (all_entries xs 1 (blocks xs - 1))
  denoted_fits = ∥∥₁_elim denoted (search props) (λ d. sound_fits d.0 xs (denotes_sound d.0 xs d.1 d.2).0)

  pub denoted_head : h ≡ (contents xs).head
  denoted_head = ∥∥₁_elim denoted (Coded-set the_row.coded _ _) (λ d. d.3 ∙ ap (λ c. c.head) (denotes_sound d.0 xs d.1 d.2).1)

pub denoted_valid : (xs : List ℕ) (h : Head) → Denoted xs h → ((i : ℕ) → Fits w8 (get_or xs i 0)) → is_valid (contents xs) ≡ true
denoted_valid xs h d bytes =
    let all : AllByRecursion (λ b. b < 256) xs = All-from_get_or (λ b. b < 256) xs 0 (λ i inside. omega (arith, bytes i)) in
    valid_test (contents xs) (rw (← (denotes_sound d.0 xs d.1 d.2).1) (denotes_valid d.0 xs d.1 all d.2))
