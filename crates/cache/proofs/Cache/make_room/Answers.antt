-- Eight are held, and the one held longest goes.
-- Assumes nothing.
use Rattle.std.proofs.Common.{rules}
use Rattle.std.proofs.lemmas.Result.{err_from_is_err_and}
use Rattle.cache.proofs.Passing.{made_room, room_cut}
use Rattle.cache.proofs.Cache.make_room.Goals as goal

pub returns-in_ok-pass_on-clause-room : goal.returns-in_ok-pass_on-clause-room
returns-in_ok-pass_on-clause-room g c = made_room _ _ _ _ _ (search rules) c.remove.ensures.items (rw c.deref.ensures.0 at c.in_ok-pass_on.ensures.rules)

pub returns-in_err-pass_on-clause-room : goal.returns-in_err-pass_on-clause-room
returns-in_err-pass_on-clause-room g c =
    let p = err_from_is_err_and c.from_residual.result c.from_residual.ensures.1 in
    rw (p.1, p.2) (room_cut _ _ _ _ _ (search rules) (rw c.deref.ensures.0 at c.in_err-pass_on.ensures.rules))
