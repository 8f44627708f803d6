-- Memory as rows of w bytes, one for each sector; and devices in which what is written lasts at once.
-- Assumes nothing.
use Rattle.std.specs.Prelude.{◌≡◌, ℕ, ◌+◌, ◌*◌, ◌/◌, ◌<◌, ◌≤◌, min, true, List, ◌++◌, length, take, drop, MatchResult, refl}
use Rattle.std.proofs.Common.{sym, subst}
use Rattle.device.specs.declared.fault.Fault.{Fault}
use Rattle.device.specs.declared.rows.Rows.{Rows}
use Rattle.device.specs.declared.fault.Fault.TheVariants.{NoSector}
use Rattle.device.specs.Faults.{Answer}
use Rattle.device.specs.Sector.{Content, Image, Possible, Lawful}
use Rattle.device.specs.Rules.{Meaning, meaning, Laws}

-- the bytes of such rows, and which piece of the caller's memory they are
abbrev pub bytes_of : {w : ℕ} → Rows w → List ℕ
bytes_of r = r.bytes.now

abbrev pub bytes_at : {w : ℕ} → Rows w → ℕ
bytes_at r = r.bytes.ghost_name

-- how many sectors memory m has room for; their numbers and their count have 32 bits
abbrev pub row_count : ℕ → List ℕ → ℕ
row_count w m = min (length m / w) 4294967295

-- the row of sector s in memory m
unfoldable pub row_in : ℕ → List ℕ → ℕ → List ℕ
row_in w m s = take w (drop (s * w) m)

-- memory m with r in place of the row of sector s
unfoldable pub with_row : ℕ → List ℕ → ℕ → List ℕ → List ℕ
with_row w m s r = take (s * w) m ++ (r ++ drop (s * w + w) m)

-- f is the answer where memory m has no sector s
abbrev pub Lacks : ℕ → List ℕ → ℕ → Fault → Type 0
Lacks w m s f = (row_count w m ≤ s) × (f ≡ NoSector)

-- row r is put in sector s of memory m, by the answer a: it is there then, or else nothing is changed
abbrev pub PutsRow : ℕ → List ℕ → ℕ → List ℕ → Answer → List ℕ → Type 0
PutsRow w m s r a m' = MatchResult a
    (λ _. (s < row_count w m) × (m' ≡ with_row w m s r))
    (λ f. Lacks w m s f × (m' ≡ m))

-- a device whose only possible contents are the current ones
abbrev pub only : Image → Possible
only f s c = c ≡ f s

-- what memory m holds in sector s, where h says what each row of a sector holds
unfoldable pub held_by : (ℕ → List ℕ → Content) → ℕ → List ℕ → Image
held_by h w m s = h s (row_in w m s)

-- what a device over memory m means: it is on, and its only possible contents are the current ones
abbrev pub lasting : (ℕ → List ℕ → Content) → ℕ → List ℕ → Meaning
lasting h w m = meaning (row_count w m) true (held_by h w m) (only (held_by h w m))

-- the laws of a device hold of any memory, if no row holds a payload that is none
pub lasting_laws : (h : ℕ → List ℕ → Content) → ((s : ℕ) (r : List ℕ) → Lawful (h s r))
    → (w : ℕ) (m : List ℕ) → Laws (lasting h w m)
unfolding held_by
lasting_laws h lawful w m = record {
  some = λ s. (h s (row_in w m s), refl);
  kept = λ _ s. refl;
  lawful = λ s c e. subst Lawful (sym e) (lawful s (row_in w m s));
}
