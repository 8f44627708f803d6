-- Held writes that are passed on to the device below, d before and d' after. g is what that device's type says of its devices.
-- Assumes nothing.
use Rattle.std.specs.Prelude.{◌≡◌, ◌<◌, ◌≤◌, ◌⊎◌, List, [], ◌∷◌, Ok, ◌≢◌}
use Rattle.device.specs.declared.Device.{Ghosts}
use Rattle.device.specs.declared.pending.PendingWrite.{PendingWrite}
use Rattle.device.specs.Faults.{Answer}
use Rattle.device.specs.Rules.{WriteCall}
use Rattle.device.specs.Means.{means}

-- The write w is passed on, by one write below, with the same answer; or dropped if that device has no such sector.
pub record PassedOn {D : Type 0} (g : Ghosts D) (w : PendingWrite) (r : Answer) (d d' : D)
    : Type 0 where
  pub made : w.sector < g.count d → g.writes d w.sector w.bytes r d'
  pub rules : w.sector < g.count d → WriteCall w.sector w.bytes r (means g d) (means g d')
  pub dropped : g.count d ≤ w.sector → (r ≡ Ok tt) × (d' ≡ d)

-- The writes ws are passed on, the first of them first, until one is refused; r is the last answer.
abbrev pub AllPassedOn : {D : Type 0} → Ghosts D → List PendingWrite → Answer → D → D → Type 0
AllPassedOn g [] r d d' = (r ≡ Ok tt) × (d' ≡ d)
AllPassedOn {D} g (w ∷ ws) r d d' = ((r ≢ Ok tt) × PassedOn g w r d d')
    ⊎ ((e : D) × PassedOn g w (Ok tt) d e × AllPassedOn g ws r e d')
