-- A sector that is not the home's.
-- Assumes nothing.
use Rattle.std.proofs.Common.{inr, refl}
use Rattle.image.proofs.Bodied.{wrong_home}
use Rattle.image.proofs.pages.home_at.Goals as goal

pub returns-then-not-is_home_of : goal.returns-then-not-is_home_of
returns-then-not-is_home_of g c =
    let (on, (ss, ran, (row, x))) = c.in_ok-bytes.ensures in
    let m = rw c.in-Some.is at x in
    (on, (ss, ran, (row, (inr refl, λ _. wrong_home (g.D.Device.current c.args.device.now) _ _ _ m.1 c.is_home_of.ensures c.if-not-is_home_of.true))))
