-- Which sectors a check reads, in which order. n is the device's count, and σ the image that it shows. Assumes nothing.
use Rattle.std.specs.Prelude.{◌≡◌, ℕ, ◌+◌, ◌-◌, ◌<◌, ◌≤◌, List, [], ◌∷◌, ◌++◌, length, Result, Ok, Err}
use Rattle.std.specs.List.{All}
use Rattle.device.specs.declared.Device.{Ghosts}
use Rattle.device.specs.Sector.{Image}
use Rattle.device.specs.Calling.{each}
use Rattle.layout.specs.declared.header.Header.{Header}
use Rattle.layout.specs.Geometries.{IsPage}
use Rattle.image.specs.declared.counts.Counts.{Counts}
use Rattle.image.specs.declared.log.LogRead.{LogRead}
use Rattle.image.specs.declared.refusal.ImageRefusal.{ImageRefusal}
use Rattle.image.specs.declared.refusal.ImageRefusal.TheVariants.{NoHeader, LaterEpoch, Torn, Unlawful, Dangling}
use Rattle.image.specs.declared.judged.PagesJudged.{PagesJudged}
use Rattle.image.specs.Headers.{IsHeaderOf, log_sector}
use Rattle.image.specs.Images.{Judged}
use Rattle.image.specs.Looking.{Looked, LookedTillOff}
use Rattle.image.specs.Phases.{twice}
use Rattle.image.specs.Stages.{log_division, judged_log, IsReadFrom, body_sector, nth_body, page_count, JudgeEnds}
use Rattle.audit.specs.declared.error.CheckError.{CheckError}
use Rattle.audit.specs.declared.error.CheckError.TheVariants.{Off, ShortMemory, NoHeap}

-- both headers, then us of the log, then vs
abbrev pub behind_log : List ℕ → List ℕ → List ℕ
behind_log us vs = (0 ∷ 1 ∷ []) ++ us ++ vs

-- the log is read to x: all of it, and then once more up to its end
abbrev pub LogReads : ℕ → Image → LogRead → List ℕ → Type 0
LogReads n σ x us = (ws : List ℕ) × IsReadFrom n σ ws x
    × (us ≡ each log_sector (log_division x).log ++ ws)

-- the pages are judged by the log x, up to what the refusal tells of
abbrev pub PageReads : ℕ → Image → ImageRefusal → List ℕ → Type 0
PageReads n σ q ss = (x : LogRead) × ((us : List ℕ) × ((vs : List ℕ)
    × LogReads n σ x us × JudgeEnds x vs q × (ss ≡ behind_log us vs)))

-- What is read of an image that gets this refusal: both headers; the log, up to the sector that shows a later epoch, or to its end; the
-- pages, up to the one that is told.
abbrev pub RefusalReads : ℕ → Image → ImageRefusal → List ℕ → Type 0
RefusalReads n σ NoHeader ss = ss ≡ 0 ∷ 1 ∷ []
RefusalReads n σ (LaterEpoch s) ss = ss ≡ behind_log (each log_sector (s - 1)) []
RefusalReads n σ (Torn s) ss = PageReads n σ (Torn s) ss
RefusalReads n σ (Unlawful s) ss = PageReads n σ (Unlawful s) ss
RefusalReads n σ (Dangling s j) ss = PageReads n σ (Dangling s j) ss

-- sector t is that in which the body of some page stands
abbrev pub IsBody : LogRead → ℕ → Type 0
IsBody x t = (s : ℕ) × IsPage (log_division x) s × (t ≡ body_sector x s)

-- The pages are judged whole by the log x, all bodies twice, and then page bodies are read: ws, one after another.
pub record WalkReads (n : ℕ) (σ : Image) (x : LogRead) (ws ss : List ℕ) : Type 0 where
  pub log : List ℕ
  pub read : LogReads n σ x log
  pub bodies : All (IsBody x) ws
  pub order : ss ≡ behind_log log (twice (nth_body x) (page_count x)) ++ ws

-- An accepted check then reads the body of the root page, and one for each object that can be reached.
abbrev pub CountReads : ℕ → Image → Counts → List ℕ → Type 0
CountReads n σ c ss = (x : LogRead) × ((ws : List ℕ)
    × WalkReads n σ x ws ss × (length ws ≡ c.reachable + 1))

-- What was to be read by a check that is cut in its headers, in its log, in its pages or in its walk.
pub data CheckReads (n : ℕ) (σ : Image) (ss : List ℕ) : Type 0 where
  headers : ss ≡ 0 ∷ 1 ∷ [] → CheckReads n σ ss
  log : (h : Header) → IsHeaderOf n σ h
      → ss ≡ behind_log (twice log_sector h.geometry.log) [] → CheckReads n σ ss
  walk : (x : LogRead) (ws : List ℕ) → WalkReads n σ x ws ss → CheckReads n σ ss

-- The calls that a check makes, by its answer.
abbrev pub ChecksBy : {D : Type 0} → Ghosts D → D → D → Result Counts CheckError → Type 0
ChecksBy g d d' (Ok c) = Looked g d d' (CountReads (g.count d) (g.current d) c)
ChecksBy g d d' (Err Off) = LookedTillOff g d d' (CheckReads (g.count d) (g.current d))
ChecksBy g d d' (Err ShortMemory) = d' ≡ d
ChecksBy g d d' (Err (NoHeap q)) = Looked g d d' (RefusalReads (g.count d) (g.current d) q)

-- all the reads of judging that came to its end
abbrev pub JudgedWhole : ℕ → Image → PagesJudged → List ℕ → Type 0
JudgedWhole n σ y ss = WalkReads n σ (judged_log y) [] ss

-- Each sector that is read is below the count, on a device that has both header sectors.
pub record ReadsBelow : Type 0 where
  pub accepted : (n : ℕ) (σ : Image) (c : Counts) (ss : List ℕ) → 2 ≤ n
      → CountReads n σ c ss → All (λ s. s < n) ss
  pub refused : (n : ℕ) (σ : Image) (q : ImageRefusal) (ss : List ℕ) → 2 ≤ n
      → Judged n σ q → RefusalReads n σ q ss → All (λ s. s < n) ss
  pub cut : (n : ℕ) (σ : Image) (ss : List ℕ) → 2 ≤ n
      → CheckReads n σ ss → All (λ s. s < n) ss
