-- The word's handle is marked and queued, unless it was.
-- Assumes nothing.
use Rattle.std.proofs.Common.{arith}
use Rattle.audit.proofs.Marking.{visits_number, visits_marked, visits_new}
use Rattle.audit.proofs.walk.visit.Goals as goal

pub returns-in_default-clause-visits : goal.returns-in_default-clause-visits
returns-in_default-clause-visits c = visits_number _ _ _ _ c.in_default.is

pub bounds-marks-at : goal.bounds-marks-at
bounds-marks-at c = c.requires.inside c.in-Reference.handle.0 c.in-Reference.is

pub returns-then-marks-at-ne0-clause-visits : goal.returns-then-marks-at-ne0-clause-visits
returns-then-marks-at-ne0-clause-visits c = visits_marked _ _ _ c.in-Reference.handle.0 c.in-Reference.is c.if-marks-at-ne0.true

pub bounds-marks-at-2 : goal.bounds-marks-at-2
bounds-marks-at-2 c = c.requires.inside c.in-Reference.handle.0 c.in-Reference.is

pub overflow_cast-handle : goal.overflow_cast-handle
overflow_cast-handle c = omega (arith, c.requires.inside c.in-Reference.handle.0 c.in-Reference.is)

pub returns-clause-visits : goal.returns-clause-visits
returns-clause-visits c =
    visits_new _ _ c.args.queue.now c.push.new.self _ c.in-Reference.handle.0 c.in-Reference.is
    (c.requires.inside c.in-Reference.handle.0 c.in-Reference.is) c.if-marks-at-ne0.false c.requires.room c.push.ensures.put
