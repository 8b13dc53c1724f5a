-- A layer whose model fits means that model laid over the graph. Assumes nothing.
use Rattle.std.proofs.Common.{◌≡◌, true, Some, None, Option, sym, subst}
use Rattle.std.proofs.lemmas.Option.{cond_some, none-some}
use Rattle.graph.specs.Meaning.{Meaning}
use Rattle.sheet.specs.Models.{Model}
use Rattle.layer.specs.declared.layered.Layered.{Layered}
use Rattle.layer.specs.Layers.{fits, laid, layer_means, fitted_model}

pub as_fitted : {S : Type 0} (o : Option Model) (m : Meaning S) (t : Model) → fitted_model o m ≡ Some t → (P : Meaning (Layered S) → Type 0) → (fits t m ≡ true → P (laid true t m)) → P (layer_means o m)
as_fitted None m t e P h = absurd (none-some t e)
as_fitted (Some u) m t e P h =
    let r = cond_some (fits u m) u t e in
    let same = subst (λ z. fits z m ≡ true) r.1 r.0 in
    subst (λ z. P (laid (fits z m) z m)) (sym r.1) (subst (λ b. P (laid b t m)) (sym same) (h same))
