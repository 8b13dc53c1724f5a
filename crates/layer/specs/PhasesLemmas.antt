-- There are two phases, and they are not the same. Assumes nothing.
use Rattle.std.specs.Prelude.{◌≡◌, true, List, [], ◌∷◌, refl}
use Rattle.std.proofs.Common.{inl, inr}
use denote.Enum.Bare.{same_true, same_false}
use Rattle.graph.specs.Lists.{In, Distinct}
use Rattle.layer.specs.contracts.layered.Phase.{the_type}
use Rattle.layer.specs.declared.layered.Phase.{Phase}
use Rattle.layer.specs.declared.layered.Phase.TheVariants.{Above, Below}
use Rattle.layer.specs.Phases.{awaits}

abbrev pub phases : List Phase
phases = Above ∷ Below ∷ []

pub phase_in : (p : Phase) → In p phases
phase_in Above = inl refl
phase_in Below = inr (inl refl)

pub apart : Above ≡ Below → ⊥
apart = same_false the_type Above Below refl

pub phases_once : Distinct phases
phases_once = (λ i. elim i [ inl e ↦ apart e | inr j ↦ j ], (λ i. i, tt))

pub awaiting : (p : Phase) → awaits p ≡ true → p ≡ Below
awaiting p = same_true the_type tt p Below
