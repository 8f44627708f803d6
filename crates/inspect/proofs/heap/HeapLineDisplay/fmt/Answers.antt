-- The line is written in one piece.
-- Assumes nothing.
use Rattle.std.proofs.lemmas.List.{append_assoc}
use Rattle.std.proofs.Output.{has_written_of_eq}
use Rattle.inspect.proofs.heap.HeapLineDisplay.fmt.Goals as goal

pub returns-clause-writes : goal.returns-clause-writes
returns-clause-writes g c = λ plain ok. let w = c.write.ensures.writes plain ok in has_written_of_eq _ _ _ _ _ (simp append_assoc) w
