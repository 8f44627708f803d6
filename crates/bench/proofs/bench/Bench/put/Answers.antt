-- The write's row is put, if there is such a sector.
-- Assumes nothing.
use Rattle.std.proofs.Common.{rules}
use Rattle.bench.proofs.Storing.{durable_made}
use Rattle.bench.proofs.bench.Bench.put.Goals as goal

pub returns-clause-memory : goal.returns-clause-memory
returns-clause-memory c = durable_made c.args.write c.args.self.now.rows.bytes.now _ _ c.put.result (search rules) c.marked.ensures c.put.ensures.put
