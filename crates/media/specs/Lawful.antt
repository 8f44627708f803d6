-- A payload that a row image holds is 60 bytes.
-- Assumes nothing.
use Rattle.std.specs.Prelude.{◌≡◌, ℕ, ◌+◌, true, List, length, take}
use Rattle.std.proofs.Common.{ap, ◌∙◌, arith}
use Rattle.std.specs.Str.{bytes_eq}
use Rattle.std.proofs.lemmas.Bool.{and_parts}
use Rattle.std.proofs.lemmas.List.{length-take, length-append}
use Rattle.std.proofs.lemmas.Slice.Eq.{bytes_eq-Decides}
use Rattle.device.specs.Sector.{IsPayload, Lawful}
use Rattle.device.specs.Bytes.{all_bytes, bytes_below, lawful_if}
use Rattle.device.specs.Rules.{Laws}
use Rattle.device.specs.Memory.{lasting_laws}
use Rattle.media.specs.Rows.{row_for, sound, row_holds, rows_mean}

row_for_length : (s : ℕ) (b : List ℕ) → length (row_for s b) ≡ length b + 4
unfolding row_for
row_for_length s b = length-append b _

pub sound_payload : (s : ℕ) (r : List ℕ) → sound s r ≡ true → IsPayload (take 60 r)
sound_payload s r e =
    let p = and_parts (bytes_eq r (row_for s (take 60 r))) (all_bytes (take 60 r)) e in
    let h = ap length ((bytes_eq-Decides r (row_for s (take 60 r))).0 p.0)
    ∙ row_for_length s (take 60 r) in
    let n = length-take 60 r in
    record { sixty = omega arith; bytes = bytes_below (take 60 r) p.1 }

row_lawful : (s : ℕ) (r : List ℕ) → Lawful (row_holds s r)
unfolding row_holds
row_lawful s r = lawful_if (sound s r) (take 60 r) (sound_payload s r)

-- the laws of a device hold of any memory
pub rows_laws : (m : List ℕ) → Laws (rows_mean m)
rows_laws m = lasting_laws row_holds row_lawful 64 m
