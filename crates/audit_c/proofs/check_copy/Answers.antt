-- The copy holds the image's bytes, and the check only reads it.
-- Assumes nothing.
use Rattle.std.proofs.Common.{◌≡◌, rules}
use Rattle.media.specs.Cards.{memory}
use Rattle.media.specs.contracts.row_image.RowImageDevice.TheImpl.{ghosts}
use Rattle.audit_c.proofs.Same.{same, checked}
use Rattle.audit_c.proofs.check_copy.Goals as goal

pub returns : goal.returns
returns c =
    let bytes : memory c.in-Ok.card ≡ c.args.image.now = search rules in
    checked _ _ _ _ _ _ _ _ (same ghosts (λ d s x y r e still. still) _ _ _ c.check.ensures.calls) bytes c.check.ensures.checked
