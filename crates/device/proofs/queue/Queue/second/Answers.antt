-- The place of the second oldest, where the oldest does not stand at the last place and where it does.
-- Assumes nothing.
use Rattle.std.proofs.Common.{arith}
use Rattle.device.proofs.Turned.{rest_near, rest_round}
use Rattle.device.proofs.queue.Queue.second.Goals as goal

pub returns-then-next-self-clause-rest : goal.returns-then-next-self-clause-rest
returns-then-next-self-clause-rest g c x = let q = c.args.self.now in let f = q.fits in rest_near q.slots.now q.first q.len x (omega arith) c.requires (omega arith)

pub returns-else-next-self-clause-rest : goal.returns-else-next-self-clause-rest
returns-else-next-self-clause-rest g c x = let q = c.args.self.now in let f = q.fits in rest_round q.slots.now q.first q.len x (omega arith) (omega arith) c.requires (omega arith)
