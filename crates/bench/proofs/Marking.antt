-- What a row holds, by its mark.
-- Assumes nothing.
use Rattle.std.proofs.Common.{◌≡◌, ℕ, ◌<◌, true, false, eqb, List, [], ◌∷◌, ◌++◌, length, get_or, take, drop, sym, ap, ◌∙◌, arith}
use Rattle.std.proofs.lemmas.Bool.{cond-true, cond-false, eq-eqb, ne_eqb}
use Rattle.std.proofs.lemmas.List.{length-take, length-append, take_at, get_or_at, get_or_default, get_or-drop}
use Rattle.device.specs.Sector.{payload, torn, IsPayload}
use Rattle.device.specs.Bytes.{content, payload_content}
use Rattle.device.proofs.Lasting.{take_bytes}
use Rattle.bench.specs.Rows.{readable, torn_row, is_readable, row_holds}

pub holds_marked : (r : List ℕ) → is_readable r ≡ true → row_holds r ≡ content (take 60 r)
unfolding row_holds
holds_marked r e = cond-true (is_readable r) _ _ e

pub holds_torn : (r : List ℕ) → is_readable r ≡ false → row_holds r ≡ torn
unfolding row_holds
holds_torn r e = cond-false (is_readable r) _ _ e

mark_at : (b : List ℕ) (x d : ℕ) → length b ≡ 60 → get_or (b ++ x ∷ []) 60 d ≡ x
mark_at b x d e = get_or_at b x [] d 60 e

marked_long : (b : List ℕ) (x : ℕ) → length b ≡ 60 → length (b ++ x ∷ []) ≡ 61
marked_long b x e = length-append b (x ∷ []) ∙ omega arith

pub readable_long : (b : List ℕ) → length b ≡ 60 → length (readable b) ≡ 61
readable_long b e = marked_long b 0 e

front_long : (r : List ℕ) → length r ≡ 61 → length (take 60 r) ≡ 60
front_long r e = length-take 60 r ∙ omega arith

pub torn_long : (r : List ℕ) → length r ≡ 61 → length (torn_row r) ≡ 61
torn_long r e = marked_long (take 60 r) 1 (front_long r e)

pub holds_readable : (b : List ℕ) → IsPayload b → row_holds (readable b) ≡ payload b
holds_readable b p = holds_marked (readable b) (ap (λ (x : ℕ). eqb x 0) (mark_at b 0 1 p.sixty)) ∙ ap content (take_at b (0 ∷ []) 60 p.sixty) ∙ payload_content b p

pub holds_torn_row : (r : List ℕ) → length r ≡ 61 → row_holds (torn_row r) ≡ torn
holds_torn_row r e = holds_torn (torn_row r) (ap (λ (x : ℕ). eqb x 0) (mark_at (take 60 r) 1 1 (front_long r e)))

-- a row of 61 bytes, cut into the payload b and the mark t
module _ (r : List ℕ) (long : length r ≡ 61) (fits : (i : ℕ) → get_or r i 0 < 256) (b t : List ℕ) (front : b ≡ take 60 r) (back : t ≡ drop 60 r) where
  mark : get_or t 0 0 ≡ get_or r 60 1
  mark = ap (λ (z : List ℕ). get_or z 0 0) back ∙ get_or-drop 60 r 0 0 ∙ get_or_default r 60 0 1 (omega arith)

  pub read_out : get_or t 0 0 ≡ 0 → row_holds r ≡ payload b
  read_out e = holds_marked r (eq-eqb _ 0 (sym mark ∙ e))
      ∙ payload_content (take 60 r) (record { sixty = front_long r long; bytes = take_bytes 60 r fits })
      ∙ ap payload (sym front)

  pub read_torn : (get_or t 0 0 ≡ 0 → ⊥) → row_holds r ≡ torn
  read_torn ne = holds_torn r (ne_eqb _ 0 (λ e. ne (mark ∙ e)))
