-- What a cache holds, the one held longest first, and what a call does to that and to the device below, of a cache c before and c' after.
-- g is what the type of the device below says of its devices and of their own calls. Assumes nothing.
use Rattle.std.specs.Prelude.{◌≡◌, ℕ, ◌<◌, ◌≤◌, true, false, ◌⊎◌, List, length, Ok, slice_index_or, ◌≢◌}
use Rattle.device.specs.declared.Device.{Ghosts}
use Rattle.device.specs.declared.pending.PendingWrite.{PendingWrite}
use Rattle.device.specs.Faults.{Answer}
use Rattle.device.specs.Rules.{Meaning, ReadCall, FlushCall}
use Rattle.device.specs.Means.{means}
use Rattle.device.specs.Waiting.{Absent, with_waiting}
use Rattle.cache.specs.declared.Cache.{Cache}
use Rattle.cache.specs.Held.{HeldAfter, HeldAfterFlush}
use Rattle.cache.specs.Below.{PassedOn, AllPassedOn}

-- what it holds, the one held longest first, and the device below
abbrev pub held_writes : {D : Type 0} → Cache D → List PendingWrite
held_writes c = c.held.items

abbrev pub device_below : {D : Type 0} → Cache D → D
device_below c = c.below

-- what a cache means: the device below, with what is held waiting in front of it
abbrev pub cached : {D : Type 0} → Ghosts D → Cache D → Meaning
cached g c = with_waiting (held_writes c) (means g (device_below c))

-- A read of sector s: turned away, or with the sector held, it does nothing below; else it is one read there, with the same bytes,
-- x before and y after, and the same answer. What is held stays.
pub record ReadsBelow {D : Type 0} (g : Ghosts D)
    (s : ℕ) (x y : List ℕ) (r : Answer) (c c' : Cache D) : Type 0 where
  pub kept : held_writes c' ≡ held_writes c
  pub turned : (g.on (device_below c) ≡ false) ⊎ (g.count (device_below c) ≤ s)
      → device_below c' ≡ device_below c
  pub held : (Absent s (held_writes c) → ⊥) → device_below c' ≡ device_below c
  pub passed : g.on (device_below c) ≡ true → s < g.count (device_below c)
      → Absent s (held_writes c) → g.reads (device_below c) s x y r (device_below c')
      × ReadCall s x y r (means g (device_below c)) (means g (device_below c'))

-- A write of b to sector s: turned away, or with fewer than eight held, or with the sector held, it does nothing below. Else the one held
-- longest is passed on, and no more, and its answer is the answer to that.
pub record WritesBelow {D : Type 0} (g : Ghosts D)
    (s : ℕ) (b : List ℕ) (r : Answer) (c c' : Cache D) : Type 0 where
  pub taken : HeldAfter s b r (held_writes c) (held_writes c')
  pub turned : (g.on (device_below c) ≡ false) ⊎ (g.count (device_below c) ≤ s)
      → device_below c' ≡ device_below c
  pub few : length (held_writes c) < 8 → device_below c' ≡ device_below c
  pub held : (Absent s (held_writes c) → ⊥) → device_below c' ≡ device_below c
  pub evicts : g.on (device_below c) ≡ true → s < g.count (device_below c)
      → length (held_writes c) ≡ 8 → Absent s (held_writes c) → (w : PendingWrite)
      → PassedOn g (slice_index_or (held_writes c) 0 w) r (device_below c) (device_below c')

-- A flush: all that is held is passed on, the one held longest first, and then the device below is flushed, once; a call that is refused is
-- the last one.
pub record FlushesBelow {D : Type 0} (g : Ghosts D) (r : Answer) (c c' : Cache D) : Type 0 where
  pub let_go : HeldAfterFlush r (held_writes c) (held_writes c')
  pub below : ((r ≢ Ok tt) × AllPassedOn g (held_writes c) r (device_below c) (device_below c'))
      ⊎ ((d : D) × AllPassedOn g (held_writes c) (Ok tt) (device_below c) d
      × g.flushes d r (device_below c') × FlushCall r (means g d) (means g (device_below c')))
