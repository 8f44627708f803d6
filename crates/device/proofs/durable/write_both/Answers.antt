-- `write_both` ends at its first write, at its second, or at the flush.
-- Assumes nothing.
use Rattle.std.proofs.Common.{Err, sym, ap, ◌∙◌}
use Rattle.std.proofs.lemmas.Result.{err_from_is_err_and}
use Rattle.device.specs.Faults.{returned}
use Rattle.device.proofs.Calls.{err_returned}
use Rattle.device.proofs.Both.{ends_first, ends_second, ends_flush}
use Rattle.device.proofs.durable.write_both.Goals as goal

pub returns-in_err-write-clause-rules : goal.returns-in_err-write-clause-rules
returns-in_err-write-clause-rules g c =
    let p = err_from_is_err_and c.from_residual.result c.from_residual.ensures.1 in
    let was = c.in_err-write.was in
    ends_first _ _ _ _ _ _ _ c.write.ensures.rules (g.D.Device.laws c.args.device.now).some _ (was ∙ ap Err (sym p.2) ∙ sym p.1) (err_returned _ _ was)

pub returns-in_err-write-2-clause-rules : goal.returns-in_err-write-2-clause-rules
returns-in_err-write-2-clause-rules g c =
    let p = err_from_is_err_and c.from_residual-in_err-write-2.result c.from_residual-in_err-write-2.ensures.1 in
    let was = c.in_err-write-2.was in
    ends_second _ _ _ _ _ _ _ c.write.ensures.rules (g.D.Device.laws c.args.device.now).some (ap returned c.in_ok-write.was) (g.D.Device.laws c.write.new.self).some _ _ c.write-2.ensures.rules _
    (was ∙ ap Err (sym p.2) ∙ sym p.1) (err_returned _ _ was)

pub returns-clause-rules : goal.returns-clause-rules
returns-clause-rules g c =
    ends_flush _ _ _ _ _ _ _ c.write.ensures.rules (g.D.Device.laws c.args.device.now).some (ap returned c.in_ok-write.was) (g.D.Device.laws c.write.new.self).some _ _ c.write-2.ensures.rules _ _
    (ap returned c.in_ok-write-2.was) (g.D.Device.laws c.write-2.new.self).kept c.flush.ensures.rules
