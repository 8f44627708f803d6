-- What a call on a switch does: it counts the call, and passes it on to the device below or not. g is what the type of the device below
-- says of its devices and of their own calls, so that a call passed on is one call there. Assumes nothing.
use Rattle.std.specs.Prelude.{◌≡◌, ℕ, Bool, true, ◌&&◌, List, Err, ◌≢◌}
use Rattle.std.proofs.lemmas.Bool.{and_parts}
use Rattle.device.specs.declared.Device.{Ghosts}
use Rattle.device.specs.declared.fault.Fault.TheVariants.{Off}
use Rattle.device.specs.Faults.{Answer}
use Rattle.device.specs.Rules.{Meaning, meaning, Laws, WriteCall}
use Rattle.device.specs.Means.{means}
use Rattle.switch.specs.Fates.{fate, CountsDown}
use Rattle.switch.specs.declared.fuse.Fate.TheVariants.{Refused, Cut, Passed}
use Rattle.switch.specs.declared.fuse.Fuse.{Fuse}
use Rattle.switch.specs.declared.fuse.LastWrite.{LastWrite}
use Rattle.switch.specs.declared.fuse.LastWrite.TheVariants.{Lost, Reached}
use Rattle.switch.specs.declared.switch.Switch.{Switch}

-- what a switch is made of: the device below, the fuse, and the choice for the last write
abbrev pub device_below : {D : Type 0} → Switch D → D
device_below d = d.below

abbrev pub fuse_of : {D : Type 0} → Switch D → Fuse
fuse_of d = d.fuse

abbrev pub last_of : {D : Type 0} → Switch D → LastWrite
last_of d = d.last

-- the call is counted, and the choice for the last write stays
pub record CallCounted {D : Type 0} (d d' : Switch D) : Type 0 where
  pub fuse : CountsDown (fuse_of d) (fuse_of d')
  pub last : last_of d' ≡ last_of d

-- A read of sector s: passed on, it is one read below, with the same bytes and answer. Else it answers that the device is off, and leaves
-- the device below and the caller's bytes, which held x and then hold y.
pub record ReadsBelow {D : Type 0} (g : Ghosts D)
    (s : ℕ) (x y : List ℕ) (r : Answer) (d d' : Switch D) : Type 0 where
  pub counted : CallCounted d d'
  pub passed : fate (fuse_of d) ≡ Passed → g.reads (device_below d) s x y r (device_below d')
  pub stopped : (fate (fuse_of d) ≢ Passed)
      → (r ≡ Err Off) × (y ≡ x) × (device_below d' ≡ device_below d)

-- The write of b to sector s within which the switch turns off: below, it is one write with some answer, by the rules, or nothing.
abbrev pub LastWrites : {D : Type 0} → Ghosts D → LastWrite → ℕ → List ℕ → D → D → Type 0
LastWrites g Lost s b d d' = d' ≡ d
LastWrites g Reached s b d d' = (a : Answer) × g.writes d s b a d'
    × WriteCall s b a (means g d) (means g d')

-- A write of b to sector s: passed on, it is one write below, with the same answer. Else it answers that the device is off.
pub record WritesBelow {D : Type 0} (g : Ghosts D)
    (s : ℕ) (b : List ℕ) (r : Answer) (d d' : Switch D) : Type 0 where
  pub counted : CallCounted d d'
  pub passed : fate (fuse_of d) ≡ Passed → g.writes (device_below d) s b r (device_below d')
  pub stopped : (fate (fuse_of d) ≢ Passed) → r ≡ Err Off
  pub cut : fate (fuse_of d) ≡ Cut
      → LastWrites g (last_of d) s b (device_below d) (device_below d')
  pub refused : fate (fuse_of d) ≡ Refused → device_below d' ≡ device_below d

-- A flush: passed on, it is one flush below, with the same answer. Else it answers that the device is off, and does nothing below.
pub record FlushesBelow {D : Type 0} (g : Ghosts D) (r : Answer) (d d' : Switch D) : Type 0 where
  pub counted : CallCounted d d'
  pub passed : fate (fuse_of d) ≡ Passed → g.flushes (device_below d) r (device_below d')
  pub stopped : (fate (fuse_of d) ≢ Passed)
      → (r ≡ Err Off) × (device_below d' ≡ device_below d)

-- what a device that means m is under a switch: it is on while both are
abbrev pub switched : Bool → Meaning → Meaning
switched on m = meaning m.count (on && m.on) m.current m.possible

-- what is on together with its switch is on
pub both_on : (a b : Bool) → a && b ≡ true → b ≡ true
both_on a b e = (and_parts a b e).1

-- a switch keeps the laws
pub switched_laws : (on : Bool) (m : Meaning) → Laws m → Laws (switched on m)
switched_laws on m l = record {
  some = l.some;
  kept = λ e. l.kept (both_on on m.on e);
  lawful = l.lawful;
}
