-- The write joins those that wait once there is room.
-- Assumes nothing.
use Rattle.std.proofs.Common.{ℕ, ◌<◌, sym, refl, subst, rules, arith}
use Rattle.device.proofs.Waits.{keeps_write}
use Rattle.bench.specs.Benches.{queued}
use Rattle.bench.proofs.Storing.{lets_join, joined_few}
use Rattle.bench.proofs.bench.Bench.let_wait.Goals as goal

pub returns-clause-rules : goal.returns-clause-rules
returns-clause-rules c is h =
    let k = c.make_room.ensures.kept in
    keeps_write _ _ _ _ _ refl k (lets_join c.args.write _ _ _ is (search rules) (subst (λ (n : ℕ). c.args.write.sector < n) (sym k.count) h))

pub invariant_of-self : goal.invariant_of-self
invariant_of-self c = record {
  few = joined_few (queued c.args.self.now) c.args.write c.make_room.new.self.pending c.push.new.self c.push.result c.make_room.ensures.pending c.args.self.now.few c.push.ensures.put;
  room = let e = c.push.ensures.room in let r = c.make_room.new.self.room in omega arith;
}
