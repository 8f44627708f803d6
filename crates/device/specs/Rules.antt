-- The seven rules of a device, as relations between its meaning before a call (m) and after it (m').
-- s is the sector asked for, b the bytes to write, r the answer. Assumes nothing.
use Rattle.std.specs.Prelude.{◌≡◌, ℕ, ◌<◌, ◌≤◌, Bool, true, false, not, ◌⊎◌, List, ◌==◌, ◌≢◌}
use Rattle.device.specs.Faults.{Answer, returned}
use Rattle.device.specs.Sector.{Content, payload, torn, Image, Possible, Found, Lawful}

-- what a device means at one moment: its count of sectors, whether it is on,
-- what each sector holds, and what a cut may leave in each
pub record Meaning : Type 1 where
  pub count : ℕ
  pub on : Bool
  pub current : Image
  pub possible : Possible

abbrev pub meaning : ℕ → Bool → Image → Possible → Meaning
meaning n o f p = record { count = n; on = o; current = f; possible = p }

-- the same of a device, by what its type says of its devices: `means` is shorter where there is a bound
abbrev pub means_by : {D : Type 0} → (D → ℕ) → (D → Bool) → (D → Image) → (D → Possible)
    → D → Meaning
means_by count on current possible d = meaning (count d) (on d) (current d) (possible d)

-- what a type of device says of each call of its own, in its own terms: of a read by the device before, the sector, the caller's
-- bytes before and after, the answer, and the device after
abbrev pub ReadMade : Type 0 → Type 1
ReadMade D = D → ℕ → List ℕ → List ℕ → Answer → D → Type 0

abbrev pub WriteMade : Type 0 → Type 1
WriteMade D = D → ℕ → List ℕ → Answer → D → Type 0

abbrev pub FlushMade : Type 0 → Type 1
FlushMade D = D → Answer → D → Type 0

-- The laws of a device, of what it means at any moment. A cut leaves something in every sector; while the device is on,
-- it may leave what is current; and a payload that it leaves is 60 bytes.
pub record Laws (m : Meaning) : Type 0 where
  pub some : (s : ℕ) → (c : Content) × m.possible s c
  pub kept : m.on ≡ true → Found m.possible m.current
  pub lawful : (s : ℕ) (c : Content) → m.possible s c → Lawful c

-- no possible content is added, in any sector
abbrev pub NoneAdded : Possible → Possible → Type 0
NoneAdded p q = (s : ℕ) (c : Content) → q s c → p s c

-- no content changes, current or possible
pub record Unchanged (m m' : Meaning) : Type 0 where
  pub current : (s : ℕ) → m'.current s ≡ m.current s
  pub added : NoneAdded m.possible m'.possible
  pub lost : NoneAdded m'.possible m.possible

-- b is current in sector s, and the others keep their current content
pub record Puts (s : ℕ) (b : List ℕ) (f g : Image) : Type 0 where
  pub here : g s ≡ payload b
  pub there : (t : ℕ) → (t ≢ s) → g t ≡ f t

-- sector s gains no possible content but b and torn, and the others gain none
pub record Gains (s : ℕ) (b : List ℕ) (p q : Possible) : Type 0 where
  pub here : (c : Content) → q s c → p s c ⊎ ((c ≡ payload b) ⊎ (c ≡ torn))
  pub there : (t : ℕ) (c : Content) → (t ≢ s) → q t c → p t c

-- each current content is the only possible one
abbrev pub Settled : Image → Possible → Type 0
Settled f p = (s : ℕ) (c : Content) → p s c → c ≡ f s

-- Rule 1. The count never changes. Read and write refuse a sector with 2 exactly if it is not below the count,
-- unless they answer 1. (`WriteRule` and `FlushRule` say that a write below it, and any flush, is accepted unless it answers 1.)
abbrev pub CountStays : Meaning → Meaning → Type 0
CountStays m m' = m'.count ≡ m.count

pub record Numbered (s : ℕ) (r : Answer) (m : Meaning) : Type 0 where
  pub past : m.count ≤ s → (returned r ≡ 2) ⊎ (returned r ≡ 1)
  pub below : s < m.count → returned r ≢ 2

-- Rule 2. An off device stays off, answers 1 (also where 2 would apply), and gains no possible content.
pub record StaysOff (r : Answer) (m m' : Meaning) : Type 0 where
  pub stays : m.on ≡ false → m'.on ≡ false
  pub answers : m.on ≡ false → returned r ≡ 1
  pub added : m.on ≡ false → NoneAdded m.possible m'.possible

-- Rule 3. The world may turn a device off within any of these calls: a call answers 1 exactly if the device is off when it ends.
abbrev pub TellsPower : Answer → Meaning → Type 0
TellsPower r m' = m'.on ≡ not (returned r == 1)

-- Rule 4. A read copies the current payload into the caller's bytes, which held x and then hold y, or answers 3 if it is torn.
-- Refused, it leaves these bytes. Whatever it answers, it changes no content, current or possible.
pub record ReadRule (s : ℕ) (x y : List ℕ) (r : Answer) (m m' : Meaning) : Type 0 where
  pub copied : returned r ≡ 0 → m.current s ≡ payload y
  pub unreadable : returned r ≡ 3 → (s < m.count) × (m.current s ≡ torn)
  pub left : (returned r ≢ 0) → y ≡ x
  pub unchanged : Unchanged m m'

-- Rule 5. A write below the count is accepted unless it answers 1. Accepted, it makes b current in s; s gains at most b and torn
-- as possible contents; other sectors keep their current content and gain no possible one. Refused with 2, it changes nothing.
pub record WriteRule (s : ℕ) (b : List ℕ) (r : Answer) (m m' : Meaning) : Type 0 where
  pub answers : s < m.count → (returned r ≡ 0) ⊎ (returned r ≡ 1)
  pub puts : returned r ≡ 0 → Puts s b m.current m'.current
  pub gains : returned r ≡ 0 → Gains s b m.possible m'.possible
  pub refused : returned r ≡ 2 → Unchanged m m'

-- Rule 6. A flush is accepted unless it answers 1. Accepted, it leaves each current content, as the only possible one.
pub record FlushRule (r : Answer) (m m' : Meaning) : Type 0 where
  pub answers : (returned r ≡ 0) ⊎ (returned r ≡ 1)
  pub current : returned r ≡ 0 → (s : ℕ) → m'.current s ≡ m.current s
  pub settled : returned r ≡ 0 → Settled m'.current m'.possible

-- Rule 7. A write that answers 1 gains at most what an accepted one may; a read or a flush that answers 1 gains nothing.
-- (Of a read, rule 4 says more.)
abbrev pub CutWrite : ℕ → List ℕ → Answer → Meaning → Meaning → Type 0
CutWrite s b r m m' = returned r ≡ 1 → Gains s b m.possible m'.possible

abbrev pub CutOther : Answer → Meaning → Meaning → Type 0
CutOther r m m' = returned r ≡ 1 → NoneAdded m.possible m'.possible

-- The rules of each call, together.
pub record ReadCall (s : ℕ) (x y : List ℕ) (r : Answer) (m m' : Meaning) : Type 0 where
  pub count : CountStays m m'
  pub numbered : Numbered s r m
  pub off : StaysOff r m m'
  pub power : TellsPower r m'
  pub reads : ReadRule s x y r m m'
  pub cut : CutOther r m m'

pub record WriteCall (s : ℕ) (b : List ℕ) (r : Answer) (m m' : Meaning) : Type 0 where
  pub count : CountStays m m'
  pub numbered : Numbered s r m
  pub off : StaysOff r m m'
  pub power : TellsPower r m'
  pub writes : WriteRule s b r m m'
  pub cut : CutWrite s b r m m'

pub record FlushCall (r : Answer) (m m' : Meaning) : Type 0 where
  pub count : CountStays m m'
  pub off : StaysOff r m m'
  pub power : TellsPower r m'
  pub flushes : FlushRule r m m'
  pub cut : CutOther r m m'
