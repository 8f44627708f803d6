-- With too little memory no call is made, and otherwise nothing but reads.
-- Assumes nothing.
use Rattle.std.proofs.Common.{arith}
use Rattle.audit.proofs.Ordering.{failed_calls, failed_stays, failed_checks, zeroed}
use Rattle.device.proofs.Calling.{read_all}
use Rattle.audit.proofs.check.Goals as goal

pub returns-in_err-count_with-clause-calls : goal.returns-in_err-count_with-clause-calls
returns-in_err-count_with-clause-calls g c =
    failed_calls g.D.Device _ _ _ _ c.in_err-count_with.ensures.found c.from_residual.ensures.1

pub returns-in_err-count_with-clause-stays : goal.returns-in_err-count_with-clause-stays
returns-in_err-count_with-clause-stays g c = failed_stays g.D.Device _ _ _ c.in_err-count_with.ensures.found

pub returns-in_err-count_with-clause-checked : goal.returns-in_err-count_with-clause-checked
returns-in_err-count_with-clause-checked g c =
    let e = c.in_err-count_with.ensures in
    failed_checks g.D.Device _ _ _ _ _ _ _ _ e.found
    (zeroed _ _ _ _ c.count.ensures (omega arith) e.marks) (zeroed _ _ _ _ c.count.ensures (omega arith) e.numbers) c.from_residual.ensures.1

pub returns-clause-stays : goal.returns-clause-stays
returns-clause-stays g c = let (on, (ss, ran, x)) = c.in_ok-count_with.ensures.found in read_all g.D.Device ss _ _ ran
