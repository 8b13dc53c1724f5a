-- The number of each misfit, and its words. Assumes nothing.
use Rattle.std.specs.Prelude.{ℕ, List, codes}
use Rattle.layer.specs.declared.misfit.Misfit.{Misfit}
use Rattle.layer.specs.declared.misfit.Misfit.TheVariants.{Letters, Counts}

abbrev pub number : Misfit → ℕ
number (Letters model) = 10
number (Counts model) = 11

-- as it is printed
abbrev pub misfit_words : Misfit → List ℕ
misfit_words (Letters model) = codes "the model's letters are not those below"
misfit_words (Counts model) = codes "more than 65,536 tops or slots"
