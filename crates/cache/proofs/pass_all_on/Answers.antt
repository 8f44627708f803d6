-- Each turn passes one more on.
-- Assumes nothing.
use Rattle.std.proofs.Common.{arith}
use Rattle.std.proofs.lemmas.Result.{err_from_is_err_and}
use Rattle.cache.proofs.Passing.{one_more_on, all_cut, one_more_sent, last_sent}
use Rattle.cache.proofs.pass_all_on.Goals as goal

pub loop-write-preserved : goal.loop-write-preserved
loop-write-preserved g c =
    let inv = c.loop-write.invariant in
    let p = c.in_ok-pass_on.ensures in
    record {
      keeps = one_more_on c.args.writes.now c.loop-write.write-index _ _ _ _ (omega arith) inv.keeps p.rules;
      sent = one_more_sent _ c.loop-write.write-index c.args.writes.now _ _ _ _ (omega arith) inv.sent p.on;
    }

pub returns-in_err-pass_on-clause-rules : goal.returns-in_err-pass_on-clause-rules
returns-in_err-pass_on-clause-rules g c =
    let p = err_from_is_err_and c.from_residual.result c.from_residual.ensures.1 in
    rw (p.1, p.2) (all_cut c.args.writes.now c.loop-write.write-index _ _ _ _ (omega arith) c.loop-write.invariant.keeps _ c.in_err-pass_on.ensures.rules)

pub returns-in_err-pass_on-clause-on : goal.returns-in_err-pass_on-clause-on
returns-in_err-pass_on-clause-on g c =
    let p = err_from_is_err_and c.from_residual.result c.from_residual.ensures.1 in
    let inv = c.loop-write.invariant in
    rw (p.1, p.2) (last_sent _ c.loop-write.write-index c.args.writes.now _ _ _ _ (omega arith) inv.sent _ c.in_err-pass_on.ensures.on)
