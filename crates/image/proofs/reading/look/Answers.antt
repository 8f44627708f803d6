-- One read, by its answer.
-- Assumes nothing.
use Rattle.std.proofs.Common.{refl, inl, ap, Err}
use Rattle.image.proofs.Lookings.{looked_once, cut_once, read_inside, read_payload, look_fault}
use Rattle.image.proofs.reading.look.Goals as goal

pub returns-in-Ok : goal.returns-in-Ok
returns-in-Ok g c =
    let r = c.in-Ok.ensures.rules in (
      r.power,
      (
        _,
        looked_once g.D.Device _ _ _ _ _ _ r c.in-Ok.ensures.made (λ e. cc),
        (refl, (read_inside _ _ _ _ _ _ r (inl refl), r.reads.copied refl, read_payload _ _ _ _ _ _ r (g.D.Device.laws c.args.device.now) refl r.power)),
      ),
    )

pub returns-in-Err-Off : goal.returns-in-Err-Off
returns-in-Err-Off g c =
    (_, cut_once g.D.Device _ _ _ _ _ _ c.in-Err-Off.ensures.rules c.in-Err-Off.ensures.made (ap Err c.in-Err-Off.field-0-is), refl)

pub returns-in-Err-NoSector : goal.returns-in-Err-NoSector
returns-in-Err-NoSector g c =
    let e = c.in-Err-NoSector in
    let f = look_fault _ _ _ _ _ _ e.field-0-is e.ensures.rules in
    (f.0, (_, looked_once g.D.Device _ _ _ _ _ _ e.ensures.rules e.ensures.made (λ z. cc (e.field-0-is)), (refl, f.1)))

pub returns-in-Err-Torn : goal.returns-in-Err-Torn
returns-in-Err-Torn g c =
    let e = c.in-Err-Torn in
    let f = look_fault _ _ _ _ _ _ e.field-0-is e.ensures.rules in
    (f.0, (_, looked_once g.D.Device _ _ _ _ _ _ e.ensures.rules e.ensures.made (λ z. cc (e.field-0-is)), (refl, f.1)))
