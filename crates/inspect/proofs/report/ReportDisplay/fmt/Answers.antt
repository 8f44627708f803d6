-- The five lines, one behind the other.
-- Assumes nothing.
use Rattle.std.proofs.Common.{rules}
use Rattle.std.proofs.Output.{has_written_append, has_written_of_eq}
use Rattle.inspect.proofs.Lines.{whole}
use Rattle.inspect.proofs.report.ReportDisplay.fmt.Goals as goal

pub returns-clause-writes : goal.returns-clause-writes
returns-clause-writes g c = λ plain ok.
    let sectors = c.writeln.ensures.writes plain (search rules) in
    let readable = c.writeln-2.ensures.writes sectors.plain (search rules) in
    let blank = c.writeln-3.ensures.writes readable.plain (search rules) in
    let torn = c.writeln-4.ensures.writes blank.plain (search rules) in
    let verdict = c.write.ensures.writes torn.plain ok in
    has_written_of_eq _ _ _ _ _
    (whole c.args.self.now.conditions.now c.args.self.now.verdict c.readable-readable.result c.new-blank.result c.new-torn.result c.readable-readable.ensures c.new-blank.ensures c.new-torn.ensures)
    (has_written_append _ _ _ _ _ _ (has_written_append _ _ _ _ _ _ (has_written_append _ _ _ _ _ _ (has_written_append _ _ _ _ _ _ sectors readable) blank) torn) verdict)
