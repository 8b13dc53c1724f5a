use Rattle.std.proofs.Common.{rules}
use Rattle.layout.proofs.Valids.{test_valid}
use Rattle.sheet.specs.Models.{model_content}
use Rattle.model_graph.proofs.location.Goals as goal

pub returns : goal.returns
returns c = let m = c.args.model.now in let f = (test_valid (model_content m) m.valid).fields in search (rules, f.locations)
