-- The sectors that a check reads, phase by phase.
-- Assumes nothing.
use Rattle.std.proofs.Common.{◌≡◌, ℕ, ◌+◌, ◌*◌, ◌≤◌, replicate, drop, false, List, [], ◌∷◌, ◌++◌, length, Some, Option, Ok, Err, Result, sym, refl, ap, ◌∙◌, subst, append-nil, arith}
use Rattle.std.specs.List.{All}
use Rattle.std.proofs.lemmas.List.{length_push}
use Rattle.std.proofs.lemmas.List.Elements.{All-push}
use Rattle.std.specs.Result.{IsErrAnd}
use Rattle.device.specs.declared.Device.{Ghosts}
use Rattle.device.specs.Sector.{Image}
use Rattle.device.specs.Means.{means}
use Rattle.device.specs.Calling.{OnlyReads}
use Rattle.device.proofs.Calling.{read_all, read_cut, cut_off}
use Rattle.layout.specs.declared.header.Header.{Header}
use Rattle.layout.specs.declared.page.Page.{Page}
use Rattle.layout.specs.Geometries.{IsPage}
use Rattle.image.specs.declared.counts.Counts.{Counts}
use Rattle.image.specs.declared.log.LogRead.{LogRead}
use Rattle.image.specs.declared.judged.PagesJudged.{PagesJudged}
use Rattle.image.specs.declared.refusal.ImageRefusal.{ImageRefusal}
use Rattle.image.specs.declared.refusal.ImageRefusal.TheVariants.{NoHeader, LaterEpoch, Torn, Unlawful, Dangling}
use Rattle.image.specs.declared.refusal.StageError.{StageError}
use Rattle.image.specs.declared.refusal.StageError.TheVariants.{Off as StageOff, NoHeap as StageNoHeap}
use Rattle.image.specs.Headers.{IsHeaderOf, log_sector}
use Rattle.image.specs.Images.{Judged}
use Rattle.image.specs.Looking.{LookedTillOff, Fails}
use Rattle.image.specs.Phases.{twice}
use Rattle.image.specs.Stages.{judged_log, body_sector, nth_body, page_count, JudgeEnds, IsPageRead, IsJudgedPage}
use Rattle.audit.specs.declared.error.CheckError.{CheckError}
use Rattle.audit.specs.Errors.{as_check_error}
use Rattle.audit.specs.Checks.{wanted, ZeroedFirst, Checks}
use Rattle.audit.specs.Order.{IsBody, behind_log, LogReads, RefusalReads, WalkReads, CheckReads, log, ChecksBy}

-- the log behind the headers, and the pages behind that
pub log_behind : (ss us : List ℕ) → ss ≡ 0 ∷ 1 ∷ [] → ss ++ us ≡ behind_log us []
log_behind ss us e = ap (λ (ts : List ℕ). ts ++ us) e ∙ sym (append-nil ((0 ∷ 1 ∷ []) ++ us))

pub pages_behind : (ss us vs : List ℕ) → ss ≡ 0 ∷ 1 ∷ [] → (ss ++ us) ++ vs ≡ behind_log us vs
pages_behind ss us vs e = ap (λ (ts : List ℕ). (ts ++ us) ++ vs) e

module _ (n : ℕ) (σ : Image) where
  pub log_cut : (h : Header) (ss ts : List ℕ) → IsHeaderOf n σ h → ss ≡ 0 ∷ 1 ∷ [] → ts ≡ twice log_sector h.geometry.log → CheckReads n σ (ss ++ ts)
  log_cut h ss ts a e f = log h a (log_behind ss ts e ∙ ap (λ (us : List ℕ). behind_log us []) f)

  -- judging came to its end, and no page body was read since
  pub judged_whole : (x : LogRead) (ss us vs : List ℕ) → LogReads n σ x us → ss ≡ 0 ∷ 1 ∷ []
      → vs ≡ twice (nth_body x) (page_count x) → WalkReads n σ x [] ((ss ++ us) ++ vs)
  judged_whole x ss us vs r e f = record {
    log = us;
    read = r;
    bodies = λ k d l. absurd (omega arith);
    order = pages_behind ss us vs e ∙ ap (λ (ts : List ℕ). behind_log us ts) f ∙ sym (append-nil _);
  }

  -- a page or a reference is at fault
  pub pages_refused : (x : LogRead) (ss us vs : List ℕ) (q : ImageRefusal) → LogReads n σ x us → ss ≡ 0 ∷ 1 ∷ [] → JudgeEnds x vs q
      → RefusalReads n σ q ((ss ++ us) ++ vs)
  pages_refused x ss us vs NoHeader r e j = absurd j
  pages_refused x ss us vs (LaterEpoch s) r e j = absurd j
  pages_refused x ss us vs (Torn s) r e j = (x, (us, (vs, r, j, pages_behind ss us vs e)))
  pages_refused x ss us vs (Unlawful s) r e j = (x, (us, (vs, r, j, pages_behind ss us vs e)))
  pages_refused x ss us vs (Dangling s k) r e j = (x, (us, (vs, r, j, pages_behind ss us vs e)))

  -- and then the walk
  pub walk_behind : (x : LogRead) (ss ws : List ℕ) → WalkReads n σ x [] ss → All (IsBody x) ws → WalkReads n σ x ws (ss ++ ws)
  walk_behind x ss ws w a =
      let e : ss ≡ behind_log w.log (twice (nth_body x) (page_count x)) = w.order ∙ append-nil _ in
      record {
        log = w.log;
        read = w.read;
        bodies = a;
        order = ap (λ (ts : List ℕ). ts ++ ws) e;
      }

-- what reads leave, whether one of them was cut or not
module _ {D : Type 0} (g : Ghosts D) (d f : D) where
  cut_stays : (P : List ℕ → Type 0) → LookedTillOff g d f P → OnlyReads (means g d) (means g f)
  cut_stays P (ss, a, x) = read_cut g ss d f a

  looked_off : (P : List ℕ → Type 0) → LookedTillOff g d f P → g.on f ≡ false
  looked_off P (ss, a, x) = cut_off g ss d f a

-- the page that is told is the one that is taken out
some_page : {p q : Page} → Some p ≡ Some q → p ≡ q
some_page e = cc

pub told_page : (n : ℕ) (σ : Image) (y : PagesJudged) (s : ℕ) (o : Option Page) (q : Page)
    → (p : Page) × (o ≡ Some p) × IsPageRead σ (judged_log y) s p × IsJudgedPage n σ y s p → o ≡ Some q → IsJudgedPage n σ y s q
told_page n σ y s o q (p, e, r, j) f = subst (λ (z : Page). IsJudgedPage n σ y s z) (some_page (sym e ∙ f)) j

-- page bodies are read one after another
pub first_body : (x : LogRead) (s : ℕ) (ts : List ℕ) → IsPage x.header.geometry s → ts ≡ body_sector x s ∷ []
    → All (IsBody x) ts × (length ts ≡ 0 + 1)
first_body x s ts i e =
    let single : All (IsBody x) (body_sector x s ∷ []) = All-push (IsBody x) [] (body_sector x s) (λ k d l. absurd (omega arith)) (s, i, refl) in
    (subst (All (IsBody x)) (sym e) single, ap (λ (us : List ℕ). length us) e)

pub next_body : (x : LogRead) (s k : ℕ) (ws ts : List ℕ) → IsPage x.header.geometry s → All (IsBody x) ws × (length ws ≡ k + 1)
    → ts ≡ body_sector x s ∷ [] → All (IsBody x) (ws ++ ts) × (length (ws ++ ts) ≡ (k + 1) + 1)
next_body x s k ws ts i a e =
    let more : All (IsBody x) (ws ++ body_sector x s ∷ []) = All-push (IsBody x) ws (body_sector x s) a.0 (s, i, refl) in
    let long : length (ws ++ body_sector x s ∷ []) ≡ (k + 1) + 1 = length_push ws (body_sector x s) ∙ ap (λ (j : ℕ). j + 1) a.1 in
    (subst (λ (us : List ℕ). All (IsBody x) (ws ++ us)) (sym e) more, ap (λ (us : List ℕ). length (ws ++ us)) e ∙ long)

pub zeroed : (n k : ℕ) (xs zs : List ℕ) → k ≡ n → 16 * k ≤ length xs → zs ≡ replicate (wanted n) 0 → ZeroedFirst (wanted n) xs (zs ++ drop (16 * k) xs)
zeroed n k xs zs e l z =
    (subst (λ (j : ℕ). 16 * j ≤ length xs) e l, ap (λ (ys : List ℕ). ys ++ drop (16 * k) xs) z ∙ ap (λ (j : ℕ). replicate (wanted n) 0 ++ drop (16 * j) xs) e)

-- what a check makes of a stage's failure, and what it leaves of the caller's memory
module _ {D : Type 0} (g : Ghosts D) (d f : D) where
  abbrev Failed : StageError → Type 0
  Failed q = Fails g d f (CheckReads (g.count d) (g.current d)) (λ ss n σ q. RefusalReads n σ q ss × Judged n σ q) q

  pub failed_calls : (r : Result Counts CheckError) (q : StageError) → Failed q → IsErrAnd r (λ e. e ≡ as_check_error q) → ChecksBy g d f r
  failed_calls (Ok c) q x h = absurd h
  failed_calls (Err e) StageOff x h = subst (λ (e : CheckError). ChecksBy g d f (Err e)) (sym h) x
  failed_calls (Err e) (StageNoHeap q) (on, (ss, a, (o, j))) h = subst (λ (e : CheckError). ChecksBy g d f (Err e)) (sym h) (ss, a, o)

  pub failed_stays : (q : StageError) → Failed q → OnlyReads (means g d) (means g f)
  failed_stays StageOff x = cut_stays g d f _ x
  failed_stays (StageNoHeap q) (on, (ss, a, x)) = read_all g ss d f a

  pub failed_checks : (ms ms' ns ns' : List ℕ) (r : Result Counts CheckError) (q : StageError) → Failed q
      → ZeroedFirst (wanted (g.count d)) ms ms' → ZeroedFirst (wanted (g.count d)) ns ns' → IsErrAnd r (λ e. e ≡ as_check_error q)
      → Checks (means g d) (means g f) ms ms' ns ns' r
  failed_checks ms ms' ns ns' (Ok c) q x y z h = absurd h
  failed_checks ms ms' ns ns' (Err e) StageOff x y z h =
      subst (λ (e : CheckError). Checks (means g d) (means g f) ms ms' ns ns' (Err e)) (sym h) (y, z, looked_off g d f _ x)
  failed_checks ms ms' ns ns' (Err e) (StageNoHeap q) (on, (ss, a, (o, j))) y z h =
      subst (λ (e : CheckError). Checks (means g d) (means g f) ms ms' ns ns' (Err e)) (sym h) (y, z, on, j)
