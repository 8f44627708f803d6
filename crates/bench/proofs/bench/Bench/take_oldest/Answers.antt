-- One fewer waits.
-- Assumes nothing.
use Rattle.std.proofs.Common.{length, ap, arith}
use Rattle.bench.proofs.Storing.{taken_few}
use Rattle.bench.proofs.bench.Bench.take_oldest.Goals as goal

pub invariant_of-self : goal.invariant_of-self
invariant_of-self c = record {
  few = taken_few c.args.self.now.pending _ _ c.pop.ensures.taken c.args.self.now.few;
  room = let e = ap length c.pop.ensures.untouched in let r = c.args.self.now.room in omega arith;
}
