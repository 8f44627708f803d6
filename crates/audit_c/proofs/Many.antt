-- No header is valid on more sectors than a card has.
-- Assumes nothing.
use Rattle.std.proofs.Common.{◌≡◌, ℕ, ◌%◌, ◌<◌, ◌≤◌, List, ◌++◌, length, take, drop, replicate, Err, inr, refl, ap, ◌∙◌, subst, arith}
use Rattle.std.proofs.lemmas.List.{length-take-le}
use Rattle.device.specs.Memory.{row_count}
use Rattle.layout.specs.declared.header.Header.{Header}
use Rattle.media.specs.Rows.{rows_mean}
use Rattle.image.specs.declared.refusal.ImageRefusal.TheVariants.{NoHeader}
use Rattle.audit.specs.declared.error.CheckError.TheVariants.{NoHeap}
use Rattle.image.specs.Headers.{IsHeaderIn}
use Rattle.audit.specs.Checks.{wanted, ZeroedFirst}
use Rattle.audit_c.specs.Told.{ChecksRows}

module _ (m : List ℕ) (whole : length m % 64 ≡ 0) (long : 65536 < length m) where
  none_valid : (h : Header) → IsHeaderIn (rows_mean m).count (rows_mean m).current h → ⊥
  none_valid h v = let most = h.geometry.most in let e : h.geometry.sectors ≡ row_count 64 m = v.0.0 in omega (arith, whole, long, e, most)

  -- what a check answers there, by the memory that it leaves
  pub no_header : (w : ℕ) (ms xs ns ys : List ℕ) → w ≡ wanted (row_count 64 m) → ZeroedFirst w ms xs → ZeroedFirst w ns ys → ChecksRows m ms xs ns ys (Err (NoHeap NoHeader))
  no_header w ms xs ns ys e a b =
      (subst (λ (k : ℕ). ZeroedFirst k ms xs) e a, subst (λ (k : ℕ). ZeroedFirst k ns ys) e b, refl, none_valid)

-- the first of the memory are filled with zeros
pub zeroed : (w : ℕ) (xs ys : List ℕ) → w ≤ length xs → ys ≡ replicate (length (take w xs)) 0 → ZeroedFirst w xs (ys ++ drop w xs)
zeroed w xs ys l e = (l, ap (λ (zs : List ℕ). zs ++ drop w xs) (e ∙ ap (λ (n : ℕ). replicate n 0) (length-take-le w xs l)))
