-- A course to the record keeps the promise.
use Rattle.inquiry.specs.Record.{reported, position}
use Rattle.inquiry.proofs.Courses.{promised}
use Rattle.inquiry.proofs.record.Inquiry.report.Goals as goal

pub returns-clause-onward : goal.returns-clause-onward
returns-clause-onward g c = λ graph outer inner. promised (g.G.Graph.means graph) (g.met.G.Graph.lawful graph) (position (reported c.args.self.now) outer inner)
