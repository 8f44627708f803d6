-- The calls are counted down from the one within which the switch turns off.
-- Assumes nothing.
use Rattle.std.proofs.Common.{◌≡◌, subst, rules}
use Rattle.switch.specs.declared.fuse.Fuse.{Fuse}
use Rattle.switch.specs.Fates.{fuse_for, AfterCalls}
use Rattle.switch.proofs.Plans.{planned}
use Rattle.switch.proofs.switch.Switch.new.Goals as goal

pub returns-clause-planned : goal.returns-clause-planned
returns-clause-planned g c n f r =
    let e : c.map_or-fuse.result ≡ fuse_for c.args.call = search rules in
    planned c.args.call n f (subst (λ (x : Fuse). AfterCalls n x f) e r)
