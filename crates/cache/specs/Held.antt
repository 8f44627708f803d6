-- What a cache holds: written sectors that the device below does not have yet, the one held longest first.
-- Assumes nothing.
use Rattle.std.specs.Prelude.{◌≡◌, ℕ, ◌<◌, ◌≤◌, true, false, ◌⊎◌, List, [], ◌∷◌, ◌++◌, length, Ok, Err}
use Rattle.std.specs.Coded.{×_prop, →_prop, Unit-prop}
use Rattle.device.specs.declared.fault.Fault.{Fault}
use Rattle.device.specs.declared.fault.Fault.TheVariants.{Off, NoSector, Torn}
use Rattle.device.specs.declared.pending.PendingWrite.{PendingWrite}
use Rattle.device.specs.Faults.{Answer}
use Rattle.device.specs.Sector.{IsPayload}
use Rattle.device.specs.Rules.{Meaning, WriteCall}
use Rattle.device.specs.Waiting.{Absent, room_in, with_waiting, Keeps, Cut, Untouched}

-- no two are to one sector
abbrev pub Distinct : List PendingWrite → Type 0
Distinct [] = Unit {0}
Distinct (w ∷ ws) = Absent w.sector ws × Distinct ws

Absent-prop : (s : ℕ) (ws : List PendingWrite) → IsProp (Absent s ws)
Absent-prop s [] = Unit-prop
Absent-prop s (w ∷ ws) = ×_prop (→_prop (λ x y. absurd x)) (Absent-prop s ws)

-- there is one proof of it at most, as a ghost field wants
pub Distinct-prop : (ws : List PendingWrite) → IsProp (Distinct ws)
Distinct-prop [] = Unit-prop
Distinct-prop (w ∷ ws) = ×_prop (Absent-prop w.sector ws) (Distinct-prop ws)

-- w takes the place of a write to its sector, the youngest one
pub record Replaced (w : PendingWrite) (ws ws' : List PendingWrite) : Type 0 where
  pub before : List PendingWrite
  pub old : PendingWrite
  pub after : List PendingWrite
  pub held : ws ≡ before ++ old ∷ after
  pub same : old.sector ≡ w.sector
  pub last : Absent w.sector after
  pub now_held : ws' ≡ before ++ w ∷ after

-- what is held once the write w is accepted: in the place of an earlier write to its sector, or else as the youngest
abbrev pub TakesIn : PendingWrite → List PendingWrite → List PendingWrite → Type 0
TakesIn w ws ws' = Replaced w ws ws' ⊎ (Absent w.sector ws × (ws' ≡ room_in ws ++ w ∷ []))

-- what is held after a write of b to sector s, by its answer: refused, it changes nothing that is held
abbrev pub HeldAfter : ℕ → List ℕ → Answer → List PendingWrite → List PendingWrite → Type 0
HeldAfter s b (Ok _) ws ws' = TakesIn (record { sector = s; bytes = b }) ws ws'
HeldAfter s b (Err _) ws ws' = ws' ≡ ws

-- after a flush nothing is held; refused, all that was
abbrev pub HeldAfterFlush : Answer → List PendingWrite → List PendingWrite → Type 0
HeldAfterFlush (Ok _) ws ws' = ws' ≡ []
HeldAfterFlush (Err _) ws ws' = ws' ≡ ws

-- why a device that means m turns away a call that names sector s: it is off, or else it does not have the sector
abbrev pub TurnsAway : ℕ → Meaning → Fault → Type 0
TurnsAway s m Off = m.on ≡ false
TurnsAway s m NoSector = (m.on ≡ true) × (m.count ≤ s)
TurnsAway s m Torn = ⊥

-- The write w is passed on to the device below, which means m before and m' after, or dropped if that does not have the sector.
pub record Passed (w : PendingWrite) (r : Answer) (m m' : Meaning) : Type 0 where
  pub whole : IsPayload w.bytes
  pub written : w.sector < m.count → WriteCall w.sector w.bytes r m m'
  pub dropped : m.count ≤ w.sector → (r ≡ Ok tt) × Untouched m m'

-- there is room for one more; refused, the device below turned off and all that was held still is
abbrev pub MakesRoom : Answer → List PendingWrite → List PendingWrite → Meaning → Meaning → Type 0
MakesRoom (Ok _) ws ws' m m' = (ws' ≡ room_in ws) × (length ws' < 8)
    × Keeps (with_waiting ws m) (with_waiting ws' m') × (m.on ≡ true → m'.on ≡ true)
MakesRoom (Err e) ws ws' m m' = (e ≡ Off) × (ws' ≡ ws)
    × Cut (with_waiting ws m) (with_waiting ws m')

-- all that is held is below; refused, the device below turned off
abbrev pub PassesAll : Answer → List PendingWrite → Meaning → Meaning → Type 0
PassesAll (Ok _) ws m m' = Keeps (with_waiting ws m) (with_waiting [] m')
PassesAll (Err e) ws m m' = (e ≡ Off) × Cut (with_waiting ws m) (with_waiting ws m')
