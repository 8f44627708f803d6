-- A sector that can be read is what its bytes are.
-- Assumes nothing.
use Rattle.std.proofs.Common.{ℕ, ◌+◌, [], ◌∷◌, ap, ◌∙◌}
use Rattle.image.proofs.entry.entry_at.Goals as goal

pub returns-in-Some : goal.returns-in-Some
returns-in-Some g c =
    let (on, (ss, ran, (row, x))) = c.in_ok-bytes.ensures in
    let m = rw c.in-Some.is at x in
    (on, (ss, ran, (row ∙ ap (λ (k : ℕ). (2 + k) ∷ []) c.from.ensures, λ _. c.entry_of.ensures (g.D.Device.current c.args.device.now) (cc (m.1, c.from.ensures)))))
