-- So many objects were taken out of the queue, and all others that are marked wait in it.
-- Assumes nothing.
use Rattle.std.proofs.Common.{◌≡◌, ◌+◌, ◌≤◌, true, length}
use Rattle.std.specs.List.{All}
use Rattle.device.specs.Queues.{waiting}
use Rattle.image.specs.Heaps.{Heap}
use Rattle.image.specs.Looking.{Looked}
use Rattle.image.specs.Stages.{IsJudgedOf, judged_log}
use Rattle.audit.specs.Order.{IsBody}
use Rattle.audit.specs.Visits.{unmarked, HasRoom}
use Rattle.audit.proofs.Walks.{Walked}
use Rattle.audit.proofs.walk.count_reachable.Given as goal

abbrev pub invariant-loop-number : goal.invariant-loop-number
invariant-loop-number g l = record {
  looked : Looked g.D.Device l.fn.device l.device (λ ws. All (IsBody (judged_log l.judged)) ws × (length ws ≡ l.count + 1));
  on : g.D.Device.on l.device ≡ true;
  walked : (H : Heap) → IsJudgedOf (g.D.Device.count l.fn.device) (g.D.Device.current l.fn.device) H l.judged
      → Walked H l.marks (waiting l.queue) l.count;
  room : HasRoom l.marks l.queue;
  fits : l.count + (length (waiting l.queue) + unmarked l.marks) ≤ length l.marks;
}

abbrev pub decreases-loop-number : goal.decreases-loop-number
decreases-loop-number g l = length (waiting l.queue) + unmarked l.marks
