-- The sectors of the writes before the next one are settled.
-- Assumes nothing.
use Rattle.std.proofs.Common.{◌≡◌, length}
use Rattle.bench.specs.Benches.{memory, memory_at, queued}
use Rattle.bench.proofs.Settled.{SettlesFirst}
use Rattle.bench.proofs.bench.Bench.settle.Given as goal

abbrev pub invariant-loop-k : goal.invariant-loop-k
invariant-loop-k l = record {
  pending : l.self.pending ≡ l.initial.self.pending;
  count : l.k-end ≡ length (queued l.initial.self);
  same : memory_at l.self ≡ memory_at l.initial.self;
  settled : SettlesFirst l.k l.numbers (queued l.initial.self) (memory l.initial.self) (memory l.self);
}
