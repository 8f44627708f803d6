-- What a check of a card tells, and what it leaves of the caller's memory: the marks are ms before and ms' after, the numbers ns and ns'.
-- m and m' are what the device means before and after. Assumes nothing.
use Rattle.std.specs.Prelude.{◌≡◌, ℕ, ◌*◌, ◌<◌, ◌≤◌, true, false, ◌⊎◌, List, ◌++◌, length, drop, replicate, Ok, Err, Result}
use Rattle.device.specs.Rules.{Meaning}
use Rattle.image.specs.declared.counts.Counts.{Counts}
use Rattle.audit.specs.declared.error.CheckError.{CheckError}
use Rattle.audit.specs.declared.error.CheckError.TheVariants.{Off, ShortMemory, NoHeap}
use Rattle.image.specs.Heaps.{Heap, Counted}
use Rattle.image.specs.Images.{Holds, Judged}

-- how many marks and how many numbers a check of n sectors wants
abbrev pub wanted : ℕ → ℕ
wanted n = 16 * n

-- the first k are zero, and the others are as they were
abbrev pub ZeroedFirst : ℕ → List ℕ → List ℕ → Type 0
ZeroedFirst k xs ys = (k ≤ length xs) × (ys ≡ replicate k 0 ++ drop k xs)

-- Accepted: the image holds a heap, and these are its numbers. Refused as short: there are too few marks or too few numbers, and they are
-- not touched. Refused otherwise: the device is off, or this is the refusal that the image gets. But for short memory, it is zero afterwards.
abbrev pub Checks : Meaning → Meaning → List ℕ → List ℕ → List ℕ → List ℕ
    → Result Counts CheckError → Type 0
Checks m m' ms ms' ns ns' (Ok c) = ZeroedFirst (wanted m.count) ms ms'
    × ZeroedFirst (wanted m.count) ns ns' × (m'.on ≡ true)
    × ((H : Heap) × Holds m.count m.current H × Counted H c)
Checks m m' ms ms' ns ns' (Err ShortMemory) =
    ((length ms < wanted m.count) ⊎ (length ns < wanted m.count)) × (ms' ≡ ms) × (ns' ≡ ns)
Checks m m' ms ms' ns ns' (Err Off) = ZeroedFirst (wanted m.count) ms ms'
    × ZeroedFirst (wanted m.count) ns ns' × (m'.on ≡ false)
Checks m m' ms ms' ns ns' (Err (NoHeap q)) = ZeroedFirst (wanted m.count) ms ms'
    × ZeroedFirst (wanted m.count) ns ns' × (m'.on ≡ true) × Judged m.count m.current q
