-- What the bench answers to a sheet. Assumes nothing.
use Rattle.std.specs.Fmt.{decimal}
use Rattle.std.specs.Prelude.{ℕ, List, ◌++◌, Ok, Err, Result, codes}
use Rattle.inquiry.specs.declared.report.Report.{Report}
use Rattle.inquiry.specs.Standing.{standing_name}
use Rattle.inspect.specs.declared.head.Asked.TheVariants as asked
use Rattle.inspect.specs.Denotes.{Content, Denotes}
use Rattle.model_graph.specs.ModelGraph.{content_means}
use Rattle.sheet.specs.declared.error.LoadError.{LoadError}
use Rattle.sheet.specs.Loads.{NotLoaded}
use Rattle.bench.specs.declared.Answer.{Answer}
use Rattle.bench.specs.Concludes.{Concludes}

-- what a report says of the end
abbrev pub answer_of : Report → Answer
answer_of r = record { standing = r.standing; round = r.round; count = r.count }

-- an answer as it is printed
abbrev pub answer_words : Answer → List ℕ
answer_words a = standing_name a.standing ++ codes " " ++ decimal a.round ++ codes " " ++ decimal a.count

-- the inquiry over the model that the sheet denotes, the sheet's first fault, or want of memory where it has no fault
abbrev pub Answered : List ℕ → Result Answer LoadError → Type 0
Answered xs (Ok a) = (c : Content) × Denotes asked.Model xs c × Concludes (content_means c) a.standing a.round a.count
Answered xs (Err e) = NotLoaded asked.Model xs e
