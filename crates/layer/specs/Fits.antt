-- What fitting a model answers, and what it leaves. Assumes nothing.
use Rattle.std.specs.Prelude.{◌≡◌, true, cond, Some, None, Ok, Err, Option, Result}
use Rattle.graph.specs.Meaning.{Meaning}
use Rattle.sheet.specs.Models.{Model}
use Rattle.layer.specs.declared.Layer.{Layer}
use Rattle.layer.specs.declared.misfit.Misfit.{Misfit}
use Rattle.layer.specs.declared.misfit.Misfit.TheVariants.{Letters, Counts}
use Rattle.layer.specs.Layers.{same_letters, few, fits}

-- why a model is refused, if it is
abbrev pub misfit : {S : Type 0} → Model → Meaning S → Option Misfit
misfit t m = cond (same_letters t m) (cond (few t m) None (Some (Counts t))) (Some (Letters t))

-- the layer has that model over the same graph, or it is as it was
abbrev pub Fit : {S G T : Type 0} → Model → Meaning S → Layer G → Layer G → Result T Misfit → Type 0
Fit t m before after (Ok _) = (fits t m ≡ true) × (after ≡ record { below = before.below; model = Some t })
Fit t m before after (Err e) = (misfit t m ≡ Some e) × (after ≡ before)
