-- What the record of an inquiry says, and its position with its held states. Assumes nothing.
use Rattle.std.specs.Prelude.{List, take}
use Rattle.inquiry.specs.declared.record.Inquiry.{Inquiry}
use Rattle.inquiry.specs.declared.report.Report.{Report}
use Rattle.inquiry.specs.Position.{Position}

abbrev pub reported : Inquiry → Report
reported i = i.report

-- the held states come first in outer and inner; what lies past them is free, and so is work
abbrev pub position : {S : Type 0} → Report → List S → List S → Position S
position r outer inner =
    record { standing = r.standing; round = r.round; sweep = r.sweep; count = r.count; limit = r.limit; places = r.places; outer = take r.outer outer; inner = take r.inner inner }
