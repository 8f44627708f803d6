-- Writes that wait in front of a device, oldest first: what each sector then holds, and what a cut may leave there.
-- Assumes nothing.
use Rattle.std.specs.Prelude.{◌≡◌, ℕ, ◌+◌, ◌<◌, ◌≤◌, false, cond, ◌&&◌, ◌⊎◌, List, [], ◌∷◌, length, drop, ◌==◌, ◌≢◌, nat_lt, slice_index_or, refl}
use Rattle.std.proofs.Common.{sym, subst, inl, inr, arith}
use Rattle.device.specs.declared.pending.PendingWrite.{PendingWrite}
use Rattle.device.specs.Sector.{Content, payload, torn, Image, Possible, Found, Lawful}
use Rattle.device.specs.Bytes.{content, content_lawful}
use Rattle.device.specs.Rules.{Meaning, meaning, Laws, NoneAdded, Unchanged}

-- the bytes that wait for sector s of a device of n sectors, oldest first
unfoldable pub waiting_at : ℕ → List PendingWrite → ℕ → List (List ℕ)
waiting_at n [] s = []
waiting_at n (w ∷ ws) s = cond (w.sector == s && nat_lt s n)
    (w.bytes ∷ waiting_at n ws s) (waiting_at n ws s)

-- the youngest of these, or c where none waits
abbrev pub youngest : List (List ℕ) → Content → Content
youngest [] c = c
youngest (b ∷ bs) c = youngest bs (content b)

-- c is one of them
abbrev pub OneOf : List (List ℕ) → Content → Type 0
OneOf [] c = ⊥
OneOf (b ∷ bs) c = (c ≡ content b) ⊎ OneOf bs c

-- what a cut may leave where bs wait: what it may leave without them, one of them, and torn if one waits
abbrev pub MayLeave : List (List ℕ) → (Content → Type 0) → Content → Type 0
MayLeave bs p c = p c ⊎ (OneOf bs c ⊎ ((0 < length bs) × (c ≡ torn)))

-- the current contents, where f are those without the writes
abbrev pub shown : ℕ → List PendingWrite → Image → Image
shown n ws f s = youngest (waiting_at n ws s) (f s)

-- the possible contents, where p are those without the writes
abbrev pub may : ℕ → List PendingWrite → Possible → Possible
may n ws p s = MayLeave (waiting_at n ws s) (p s)

-- no write to sector s is among ws
abbrev pub Absent : ℕ → List PendingWrite → Type 0
Absent s [] = Unit {0}
Absent s (w ∷ ws) = (w.sector ≢ s) × Absent s ws

-- no write at place k of ws or later is to sector s
abbrev pub NoneFrom : ℕ → List PendingWrite → ℕ → Type 0
NoneFrom s ws k = (i : ℕ) (d : PendingWrite) → k ≤ i → i < length ws
    → (slice_index_or ws i d).sector ≢ s

-- the youngest write to sector s stands at place k
abbrev pub YoungestAt : ℕ → List PendingWrite → ℕ → Type 0
YoungestAt s ws k = (k < length ws) × ((d : PendingWrite) → (slice_index_or ws k d).sector ≡ s)
    × NoneFrom s ws (k + 1)

-- nothing waits for sector s, in a device of any count
abbrev pub NoneFor : ℕ → List PendingWrite → Type 0
NoneFor s ws = (n : ℕ) → waiting_at n ws s ≡ []

-- b is what sector s holds by these writes, in a device that has the sector
abbrev pub IsYoungest : ℕ → List ℕ → List PendingWrite → Type 0
IsYoungest s b ws = (n : ℕ) (c : Content) → s < n → youngest (waiting_at n ws s) c ≡ payload b

-- eight wait at most: before a ninth, the oldest goes
abbrev pub room_in : List PendingWrite → List PendingWrite
room_in ws = cond (nat_lt (length ws) 8) ws (drop 1 ws)

-- what a device that means m is, with ws waiting in front of it
abbrev pub with_waiting : List PendingWrite → Meaning → Meaning
with_waiting ws m = meaning m.count m.on (shown m.count ws m.current) (may m.count ws m.possible)

-- a device that is off stays off, contents stay current, and none is added to the possible ones
pub record Keeps (m m' : Meaning) : Type 0 where
  pub count : m'.count ≡ m.count
  pub off : m.on ≡ false → m'.on ≡ false
  pub current : (s : ℕ) → m'.current s ≡ m.current s
  pub added : NoneAdded m.possible m'.possible

-- nothing about the device has changed
pub record Untouched (m m' : Meaning) : Type 0 where
  pub count : m'.count ≡ m.count
  pub on : m'.on ≡ m.on
  pub contents : Unchanged m m'

-- the device turned off, and no possible content is added
pub record Cut (m m' : Meaning) : Type 0 where
  pub count : m'.count ≡ m.count
  pub off : m'.on ≡ false
  pub added : NoneAdded m.possible m'.possible

-- The laws of a device hold with writes waiting if they hold without.
youngest_left : (bs : List (List ℕ)) (p : Content → Type 0) (c : Content) → p c
    → MayLeave bs p (youngest bs c)
youngest_left [] p c h = inl h
youngest_left (b ∷ bs) p c h = elim (youngest_left bs (λ d. d ≡ content b) (content b) refl) [
  | inl e ↦ inr (inl (inl e))
  | inr o ↦ elim o [
    | inl i ↦ inr (inl (inr i))
    | inr t ↦ inr (inr (let k = t.0 in omega arith, t.1))
  ]
]

pub kept_waiting : (n : ℕ) (ws : List PendingWrite) (f : Image) (p : Possible) → Found p f
    → Found (may n ws p) (shown n ws f)
kept_waiting n ws f p h s = youngest_left (waiting_at n ws s) (p s) (f s) (h s)

one_lawful : (bs : List (List ℕ)) (c : Content) → OneOf bs c → Lawful c
one_lawful [] c h = elim h [ ]
one_lawful (b ∷ bs) c (inl e) = subst Lawful (sym e) (content_lawful b)
one_lawful (b ∷ bs) c (inr h) = one_lawful bs c h

pub lawful_waiting : (n : ℕ) (ws : List PendingWrite) (p : Possible)
    → ((s : ℕ) (c : Content) → p s c → Lawful c)
    → (s : ℕ) (c : Content) → may n ws p s c → Lawful c
lawful_waiting n ws p h s c (inl x) = h s c x
lawful_waiting n ws p h s c (inr (inl x)) = one_lawful (waiting_at n ws s) c x
lawful_waiting n ws p h s c (inr (inr x)) = subst Lawful (sym x.1) tt

pub laws_waiting : (ws : List PendingWrite) (m : Meaning) → Laws m → Laws (with_waiting ws m)
laws_waiting ws m l = record {
  some = λ s. ((l.some s).0, inl (l.some s).1);
  kept = λ on. kept_waiting m.count ws m.current m.possible (l.kept on);
  lawful = lawful_waiting m.count ws m.possible l.lawful;
}
