-- The words so far are visited.
-- Assumes nothing.
use Rattle.std.proofs.Common.{◌≡◌}
use Rattle.device.specs.Queues.{waiting, places}
use Rattle.audit.proofs.Marking.{Visited}
use Rattle.audit.proofs.walk.visit_all.Given as goal

abbrev pub invariant-loop-word : goal.invariant-loop-word
invariant-loop-word l = record {
  visited : Visited l.words l.word-index l.fn.marks (waiting l.fn.queue) l.marks (waiting l.queue);
  places : places l.queue ≡ places l.fn.queue;
}
