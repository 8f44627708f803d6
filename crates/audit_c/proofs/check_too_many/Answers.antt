-- No header is valid on more sectors than a card has, and the memory is left as after any check.
-- Assumes nothing.
use Rattle.std.proofs.Common.{◌≡◌, ◌*◌, arith}
use Rattle.device.specs.Memory.{row_count}
use Rattle.audit.specs.Checks.{wanted}
use Rattle.audit_c.proofs.Many.{no_header, zeroed}
use Rattle.audit_c.proofs.check_too_many.Goals as goal

pub returns : goal.returns
returns c =
    let few : 16 * c.sectors_of.result ≡ wanted (row_count 64 c.args.image.now) = omega (arith, c.sectors_of.ensures) in
    no_header c.args.image.now c.requires.whole c.requires.long (16 * c.sectors_of.result) _ _ _ _ few
    (zeroed _ _ _ c.if-marks-wanted.false (c.fill.ensures.after (λ y e. e))) (zeroed _ _ _ c.if-numbers-wanted.false (c.fill-2.ensures.after (λ y e. e)))
