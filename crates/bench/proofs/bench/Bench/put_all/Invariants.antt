-- What is left to be stored, and no content is lost so far.
-- Assumes nothing.
use Rattle.std.proofs.Common.{◌≡◌, length}
use Rattle.device.specs.Queues.{waiting}
use Rattle.device.specs.Waiting.{with_waiting, Keeps}
use Rattle.bench.specs.Rows.{rows_mean}
use Rattle.bench.specs.Waits.{stored_all}
use Rattle.bench.proofs.bench.Bench.put_all.Given as goal

abbrev pub invariant-loop-oldest : goal.invariant-loop-oldest
invariant-loop-oldest l =
    (stored_all (waiting l.self.pending) l.self.rows.bytes.now ≡ stored_all (waiting l.initial.self.pending) l.initial.self.rows.bytes.now)
    × Keeps (with_waiting (waiting l.initial.self.pending) (rows_mean l.initial.self.rows.bytes.now)) (with_waiting (waiting l.self.pending) (rows_mean l.self.rows.bytes.now))
    × (l.self.pending.slots.now ≡ l.initial.self.pending.slots.now)
    × (l.self.rows.bytes.ghost_name ≡ l.initial.self.rows.bytes.ghost_name)
    × (l.self.pending.slots.ghost_name ≡ l.initial.self.pending.slots.ghost_name)

abbrev pub decreases-loop-oldest : goal.decreases-loop-oldest
decreases-loop-oldest l = length (waiting l.self.pending)
