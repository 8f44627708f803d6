-- The youngest write that is to the sector is what it holds.
-- Assumes nothing.
use Rattle.std.proofs.Common.{◌+◌, refl}
use Rattle.std.proofs.lemmas.List.{get_or_default}
use Rattle.device.proofs.Lists.{absent_from, none_absent}
use Rattle.device.proofs.Waits.{place_holds}
use Rattle.bench.proofs.bench.last_to.Goals as goal

pub returns-in_err-at-clause-found : goal.returns-in_err-at-clause-found
returns-in_err-at-clause-found c = rw c.from_residual.ensures (none_absent c.args.sector c.args.writes.now c.in_err-at.ensures)

pub returns-clause-found : goal.returns-clause-found
returns-clause-found c is =
    let y = c.in_ok-at.ensures in
    place_holds c.args.sector c.args.writes.now c.in_ok-at.at (c.in_ok-at.at + 1) _ refl (y.0, λ d. get_or_default c.args.writes.now c.in_ok-at.at d _ y.0) (y.1 _) (absent_from c.args.sector c.args.writes.now (c.in_ok-at.at + 1) y.2) is
