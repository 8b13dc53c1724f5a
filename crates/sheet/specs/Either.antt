-- What a sheet of either sort holds, and what loading one answers. Assumes nothing.
use Rattle.std.specs.Prelude.{ℕ, List, Ok, Err, Result}
use Rattle.inspect.specs.declared.head.Asked.TheVariants as asked
use Rattle.inspect.specs.Denotes.{Content, Denotes}
use Rattle.layout.specs.Valid.{Valid}
use Rattle.layout.proofs.Valids.{test_valid}
use Rattle.sheet.specs.declared.automaton.Automaton.{Automaton}
use Rattle.sheet.specs.declared.automaton.Automaton.TheVariants.{Rule, Model}
use Rattle.sheet.specs.declared.error.LoadError.{LoadError}
use Rattle.sheet.specs.Loads.{NotLoaded}
use Rattle.sheet.specs.Models.{IsModel, model_content}
use Rattle.sheet.specs.Rules.{IsRule, rule_content}

abbrev pub IsAutomaton : Automaton → Content → Type 0
IsAutomaton (Rule r) c = IsRule r c
IsAutomaton (Model m) c = IsModel m c

-- the content that is written for it
abbrev pub automaton_content : Automaton → Content
automaton_content (Rule r) = rule_content r
automaton_content (Model m) = model_content m

-- a sheet can hold it
pub automaton_valid : (a : Automaton) → Valid (automaton_content a)
automaton_valid (Rule r) = test_valid (rule_content r) r.valid
automaton_valid (Model m) = test_valid (model_content m) m.valid

abbrev pub Read : List ℕ → Result Automaton LoadError → Type 0
Read xs (Ok a) = (c : Content) × Denotes asked.Either xs c × IsAutomaton a c
Read xs (Err e) = NotLoaded asked.Either xs e
