-- Two lines, one behind the other.
-- Assumes nothing.
use Rattle.std.proofs.Common.{rules}
use Rattle.std.proofs.lemmas.List.{append_assoc}
use Rattle.std.proofs.Output.{has_written_append, has_written_of_eq}
use Rattle.inspect.proofs.heap.HeapReportDisplay.fmt.Goals as goal

pub returns-in_ok-writeln-in-Ok-clause-writes : goal.returns-in_ok-writeln-in-Ok-clause-writes
returns-in_ok-writeln-in-Ok-clause-writes g c = λ plain ok.
    let a = c.writeln.ensures.writes plain (search rules) in
    let b = c.write.ensures.writes a.plain ok in
    rw c.in-Ok.is (has_written_of_eq _ _ _ _ _ (simp append_assoc) (has_written_append _ _ _ _ _ _ a b))
