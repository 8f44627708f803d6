-- Both headers are read, one after the other.
-- Assumes nothing.
use Rattle.std.proofs.Common.{◌≡◌, [], ◌∷◌, refl}
use Rattle.image.specs.Phases.{Just}
use Rattle.image.proofs.Lookings.{looked_then, off_then, off_before, turned_off, both_lists}
use Rattle.image.proofs.Newest.{ReadAs, chosen}
use Rattle.image.proofs.headers.newest.Goals as goal

pub returns-in_err-first : goal.returns-in_err-first
returns-in_err-first g c =
    turned_off _ _ _ (off_before g.D.Device (Just (0 ∷ [])) (Just (0 ∷ 1 ∷ [])) _ _ c.in_err-first.ensures (λ ts e. (1 ∷ [], both_lists e refl))) c.from_residual.ensures.0

pub returns-in_err-second : goal.returns-in_err-second
returns-in_err-second g c =
    let a = c.in_ok-first.ensures.1 in
    turned_off _ _ _ (off_then g.D.Device _ (Just (1 ∷ [])) (Just (0 ∷ 1 ∷ [])) _ _ _ a.1 c.in_err-second.ensures (λ ts e. both_lists a.2.0 e))
    c.from_residual-in_err-second.ensures.0

pub returns : goal.returns
returns g c =
    let m = c.args.device.now in
    let a = c.in_ok-first.ensures.1 in
    let b = c.in_ok-second.ensures in (
      b.0,
      looked_then g.D.Device _ (λ ts n σ. (ts ≡ 1 ∷ []) × ReadAs n σ 1 c.in_ok-second.second) _ _ _ _ a.1 b.1
          (λ ts x. (both_lists a.2.0 x.0, chosen (g.D.Device.count m) (g.D.Device.current m) _ _ _ a.2.1 x.1 c.newer.ensures.none c.newer.ensures.one c.newer.ensures.newest)),
    )
