-- The phases of a layer, and how a step changes them. Assumes nothing.
use Rattle.std.specs.Prelude.{Bool, cond}
use denote.Enum.Bare.{sameb}
use Rattle.layer.specs.contracts.layered.Phase.{the_type}
use Rattle.layer.specs.declared.layered.Phase.{Phase}
use Rattle.layer.specs.declared.layered.Phase.TheVariants.{Above, Below}

-- `==` on phases
abbrev pub same : Phase → Phase → Bool
same = sameb the_type

-- whether it is the state below that is waited for
abbrev pub awaits : Phase → Bool
awaits p = same p Below

-- the phase after a state is left, by whether its location and its state below accept
abbrev pub phase_after : Bool → Bool → Phase → Phase
phase_after location state Above = cond location Below Above
phase_after location state Below = cond state Above Below
