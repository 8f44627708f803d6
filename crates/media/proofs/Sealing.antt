-- Rows of a row image: when one is sound, and that the row which is made for a payload is.
-- Assumes nothing.
use Rattle.std.proofs.Common.{◌≡◌, ℕ, ◌<◌, Bool, true, false, List, [], ◌∷◌, ◌++◌, length, get_or, take, drop, Decides, ◌↔◌, sym, refl, ap, ap₂, ◌∙◌, subst, append-nil, arith}
use borrow.Rule.Slice.PartMut.{put_mid}
use Rattle.std.proofs.lemmas.Bool.{and_parts, and_from, cond-true, cond-false}
use Rattle.std.proofs.lemmas.List.{length-append, take-append-drop, take_at, drop_all, append_cancel_left}
use Rattle.std.proofs.lemmas.Slice.{put_mid-paste}
use Rattle.std.proofs.lemmas.List.Edits.{paste_all}
use Rattle.std.proofs.lemmas.Slice.Eq.{bytes_eq-Decides}
use Rattle.crc32c.specs.Crc.{crc}
use Rattle.device.specs.Sector.{payload, torn, IsPayload}
use Rattle.device.specs.Bytes.{all_bytes, below_bytes}
use Rattle.device.proofs.Lasting.{take_bytes}
use Rattle.media.specs.Rows.{word_bytes, row_for, sound, row_holds}

-- two tests that imply each other are one
same_test : (a b : Bool) → (a ≡ true → b ≡ true) → (b ≡ true → a ≡ true) → a ≡ b
same_test true b f g = sym (f refl)
same_test false true f g = g refl
same_test false false f g = refl

-- A row of 64 bytes, cut into the payload b and the tail t, is sound exactly if the tail is the payload's seal k.
module _ (s : ℕ) (r : List ℕ) (fits : (i : ℕ) → get_or r i 0 < 256) (b t k : List ℕ) (front : b ≡ take 60 r) (back : t ≡ drop 60 r)
    (sealed : k ≡ word_bytes (crc (b ++ word_bytes s))) (x : Bool) (d : Decides x (t ≡ k)) where
  whole : (t ≡ k) ↔ (r ≡ row_for s (take 60 r))
  unfolding row_for
  whole = (
    (λ e. sym (take-append-drop 60 r) ∙ ap (λ (z : List ℕ). take 60 r ++ z) (sym back ∙ e ∙ sealed ∙ ap (λ (z : List ℕ). word_bytes (crc (z ++ word_bytes s))) front)),
    (λ e. back ∙ append_cancel_left (take 60 r) (drop 60 r) _ (take-append-drop 60 r ∙ e) ∙ sym (sealed ∙ ap (λ (z : List ℕ). word_bytes (crc (z ++ word_bytes s))) front)),
  )

  is_sound : x ≡ sound s r
  is_sound = let e = bytes_eq-Decides r (row_for s (take 60 r)) in
      same_test x (sound s r)
      (λ y. and_from _ _ (e.1 (whole.0 (d.0 y))) (below_bytes (take 60 r) (take_bytes 60 r fits)))
      (λ y. d.1 (whole.1 (e.0 (and_parts _ (all_bytes (take 60 r)) y).0)))

  pub holds_payload : x ≡ true → row_holds s r ≡ payload b
  unfolding row_holds
  holds_payload e = cond-true (sound s r) _ _ (sym is_sound ∙ e) ∙ ap payload (sym front)

  pub holds_torn : x ≡ false → row_holds s r ≡ torn
  unfolding row_holds
  holds_torn e = cond-false (sound s r) _ _ (sym is_sound ∙ e)

-- the two copies that make a row
pub copied : (s : ℕ) (b y z : List ℕ) → length b ≡ 60 → y ≡ b → z ≡ word_bytes (crc (b ++ word_bytes s)) → put_mid 60 4 (y ++ 0 ∷ 0 ∷ 0 ∷ 0 ∷ []) z ≡ row_for s b
unfolding row_for
copied s b y z long ey ez =
    put_mid-paste 60 4 _ z _ 4 ez refl refl
    ∙ paste_all (y ++ 0 ∷ 0 ∷ 0 ∷ 0 ∷ []) 60 (word_bytes (crc (b ++ word_bytes s))) 4 refl
    ∙ ap₂ (λ (u v : List ℕ). u ++ (word_bytes (crc (b ++ word_bytes s)) ++ v)) (take_at y _ 60 (ap length ey ∙ long) ∙ ey)
    (drop_all 64 (y ++ 0 ∷ 0 ∷ 0 ∷ 0 ∷ []) (let n = length-append y (0 ∷ 0 ∷ 0 ∷ 0 ∷ []) in let k = ap length ey in omega arith))
    ∙ ap (λ (v : List ℕ). b ++ v) (append-nil (word_bytes (crc (b ++ word_bytes s))))

payload_front : (s : ℕ) (b : List ℕ) → length b ≡ 60 → take 60 (row_for s b) ≡ b
unfolding row_for
payload_front s b e = take_at b _ 60 e

pub row_for_long : (s : ℕ) (b : List ℕ) → length b ≡ 60 → length (row_for s b) ≡ 64
unfolding row_for
row_for_long s b e = length-append b (word_bytes (crc (b ++ word_bytes s))) ∙ omega arith

-- a row that was made for a payload holds it
pub made_holds : (s : ℕ) (b : List ℕ) → IsPayload b → row_holds s (row_for s b) ≡ payload b
unfolding row_holds
made_holds s b p =
    let f = payload_front s b p.sixty in
    cond-true (sound s (row_for s b)) _ _ (and_from _ _ ((bytes_eq-Decides (row_for s b) _).1 (ap (row_for s) (sym f))) (below_bytes _ (subst (λ (x : List ℕ). (i : ℕ) → get_or x i 0 < 256) (sym f) p.bytes)))
    ∙ ap payload f
