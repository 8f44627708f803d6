-- A check of a row image leaves it as it is, and tells of its memory.
-- Assumes nothing.
use Rattle.std.proofs.Common.{◌≡◌, ℕ, List, [], ◌∷◌, Ok, Err, Result, inl, inr, refl, ◌∙◌, subst}
use Rattle.device.specs.declared.Device.{Ghosts}
use Rattle.device.specs.Faults.{Answer}
use Rattle.device.specs.Calling.{reads, Ran, Stopped}
use Rattle.media.specs.declared.row_image.RowImage.{RowImage}
use Rattle.media.specs.Cards.{memory}
use Rattle.media.specs.Rows.{rows_mean}
use Rattle.image.specs.declared.counts.Counts.{Counts}
use Rattle.audit.specs.declared.error.CheckError.{CheckError}
use Rattle.audit.specs.declared.error.CheckError.TheVariants.{Off, ShortMemory, NoHeap}
use Rattle.audit.specs.Checks.{Checks}
use Rattle.audit.specs.Order.{ChecksBy}

-- a device whose own reads leave it as it is
module _ {D : Type 0} (g : Ghosts D) (still : (d : D) (s : ℕ) (x y : List ℕ) (r : Answer) (e : D) → g.reads d s x y r e → e ≡ d) where
  ran_same : (ss : List ℕ) (d e : D) → Ran g (reads ss) d e → e ≡ d
  ran_same [] d e a = a
  ran_same (s ∷ ss) d e (f, (r, (x, (y, c, m)), ne, a)) = ran_same ss f e a ∙ still d s x y r f m

  stopped_same : (ss : List ℕ) (d e : D) → Stopped g (reads ss) d e → e ≡ d
  stopped_same [] d e a = absurd a
  stopped_same (s ∷ ss) d e (inl (x, (y, c, m))) = still d s x y _ e m
  stopped_same (s ∷ ss) d e (inr (f, (r, (x, (y, c, m)), ne, a))) = stopped_same ss f e a ∙ still d s x y r f m

  pub same : (d e : D) (r : Result Counts CheckError) → ChecksBy g d e r → e ≡ d
  same d e (Ok c) (ss, a, x) = ran_same ss d e a
  same d e (Err Off) (ss, a, x) = stopped_same ss d e a
  same d e (Err ShortMemory) a = a
  same d e (Err (NoHeap q)) (ss, a, x) = ran_same ss d e a

pub checked : (d d' : RowImage) (m ms ms' ns ns' : List ℕ) (r : Result Counts CheckError) → d' ≡ d → memory d ≡ m
    → Checks (rows_mean (memory d)) (rows_mean (memory d')) ms ms' ns ns' r → Checks (rows_mean m) (rows_mean m) ms ms' ns ns' r
checked d d' m ms ms' ns ns' r e f c =
    subst (λ (n : List ℕ). Checks (rows_mean n) (rows_mean n) ms ms' ns ns' r) f
    (subst (λ (g : RowImage). Checks (rows_mean (memory d)) (rows_mean (memory g)) ms ms' ns ns' r) e c)
