-- Each sector that a check reads is below the device's count.
-- Assumes nothing.
use Rattle.std.proofs.Common.{◌≡◌, ℕ, zero, suc, ◌+◌, ◌-◌, ◌<◌, ◌≤◌, min, List, [], ◌∷◌, ◌++◌, sym, subst, inl, inr, arith}
use Rattle.std.specs.List.{All}
use Rattle.std.proofs.lemmas.List.Elements.{All-push, All-append}
use Rattle.device.specs.Sector.{Image}
use Rattle.device.specs.Calling.{each}
use Rattle.layout.specs.declared.header.Header.{Header}
use Rattle.layout.specs.Geometries.{root_of, IsPage}
use Rattle.image.specs.declared.log.LogRead.{LogRead}
use Rattle.image.specs.declared.refusal.ImageRefusal.{ImageRefusal}
use Rattle.image.specs.declared.refusal.ImageRefusal.TheVariants.{NoHeader, LaterEpoch, Torn, Unlawful, Dangling}
use Rattle.image.specs.Headers.{IsHeaderOf, log_sector}
use Rattle.image.specs.Images.{Judged}
use Rattle.image.specs.Phases.{twice}
use Rattle.image.specs.Stages.{IsReadOf, nth_body, page_count, bodies_to, all_bodies, JudgeEnds}
use Rattle.image.proofs.Bodied.{body_inside}
use Rattle.audit.specs.Order.{behind_log, LogReads, PageReads, RefusalReads, WalkReads, CheckReads, headers, log, walk, ReadsBelow}

all_each : (P : ℕ → Type 0) (f : ℕ → ℕ) (k : ℕ) → ((i : ℕ) → i < k → P (f i)) → All P (each f k)
all_each P f zero h = λ j d l. absurd (omega arith)
all_each P f (suc k) h = All-push P (each f k) (f k) (all_each P f k (λ i l. h i (omega arith))) (h k (omega arith))

module _ (n : ℕ) (σ : Image) where
  abbrev Below : List ℕ → Type 0
  Below ss = All (λ s. s < n) ss

  both : 2 ≤ n → Below (0 ∷ 1 ∷ [])
  both l = let one : Below (0 ∷ []) = All-push (λ s. s < n) [] 0 (λ j d m. absurd (omega arith)) (omega arith) in
      All-push (λ s. s < n) (0 ∷ []) 1 one (omega arith)

  behind : 2 ≤ n → (us vs : List ℕ) → Below us → Below vs → Below (behind_log us vs)
  behind l us vs a b = All-append (λ s. s < n) ((0 ∷ 1 ∷ []) ++ us) vs (All-append (λ s. s < n) (0 ∷ 1 ∷ []) us (both l) a) b

  none : Below []
  none = λ j d l. absurd (omega arith)

  log_below : (h : Header) (k : ℕ) → IsHeaderOf n σ h → k ≤ h.geometry.log → Below (each log_sector k)
  log_below h k a l = let room = h.geometry.room in let same = a.valid.0.0 in
      all_each (λ s. s < n) log_sector k (λ i m. omega arith)

  -- under a log that was read
  module _ (x : LogRead) (r : IsReadOf n σ x) where
    bodies_below : (k : ℕ) → k ≤ page_count x → Below (each (nth_body x) k)
    bodies_below k l = all_each (λ s. s < n) (nth_body x) k (λ i m. body_inside n σ x r (root_of x.header.geometry + i) (omega arith, omega arith))

    to_below : (s : ℕ) → IsPage x.header.geometry s → Below (bodies_to x s)
    to_below s i = bodies_below (s + 1 - root_of x.header.geometry) (omega arith)

    all_below : Below (all_bodies x)
    all_below = bodies_below (page_count x) (omega arith)

  read_below : (x : LogRead) (us : List ℕ) → LogReads n σ x us → Below us
  read_below x us (ws, (r, (p, (t, b, e, row))), f) =
      let a = r.reads.header in
      let m = log_below x.header x.header.geometry.log a (omega arith) in
      let w = log_below x.header (min (p + 1) x.header.geometry.log) a (omega arith) in
      subst Below (sym f) (All-append (λ s. s < n) (each log_sector x.header.geometry.log) ws m (subst Below (sym row) w))

  pages_below : 2 ≤ n → (q : ImageRefusal) (ss : List ℕ) → ((x : LogRead) (vs : List ℕ) → IsReadOf n σ x → JudgeEnds x vs q → Below vs)
      → PageReads n σ q ss → Below ss
  pages_below l q ss h (x, (us, (vs, r, j, e))) = subst Below (sym e) (behind l us vs (read_below x us r) (h x vs r.1.0 j))

  twice_below : (x : LogRead) → IsReadOf n σ x → Below (twice (nth_body x) (page_count x))
  twice_below x r = All-append (λ s. s < n) (all_bodies x) (all_bodies x) (all_below x r) (all_below x r)

  ends_below : (x : LogRead) (vs : List ℕ) (s : ℕ) → IsReadOf n σ x → IsPage x.header.geometry s
      → (vs ≡ bodies_to x s) → Below vs
  ends_below x vs s r i e = subst Below (sym e) (to_below x r s i)

  again_below : (x : LogRead) (vs : List ℕ) (s : ℕ) → IsReadOf n σ x → IsPage x.header.geometry s
      → (vs ≡ all_bodies x ++ bodies_to x s) → Below vs
  again_below x vs s r i e = subst Below (sym e) (All-append (λ s. s < n) (all_bodies x) (bodies_to x s) (all_below x r) (to_below x r s i))

  torn_below : (s : ℕ) (x : LogRead) (vs : List ℕ) → IsReadOf n σ x → JudgeEnds x vs (Torn s) → Below vs
  torn_below s x vs r (i, inl e) = ends_below x vs s r i e
  torn_below s x vs r (i, inr e) = again_below x vs s r i e

  unlawful_below : (s : ℕ) (x : LogRead) (vs : List ℕ) → IsReadOf n σ x → JudgeEnds x vs (Unlawful s) → Below vs
  unlawful_below s x vs r (i, inl e) = ends_below x vs s r i e
  unlawful_below s x vs r (i, inr e) = again_below x vs s r i e

  refused_below : 2 ≤ n → (q : ImageRefusal) (ss : List ℕ) → Judged n σ q → RefusalReads n σ q ss → Below ss
  refused_below l NoHeader ss j e = subst Below (sym e) (both l)
  refused_below l (LaterEpoch s) ss (h, a, f) e =
      let i = f.inside in subst Below (sym e) (behind l (each log_sector (s - 1)) [] (log_below h (s - 1) a (omega arith)) none)
  refused_below l (Torn s) ss j p = pages_below l (Torn s) ss (torn_below s) p
  refused_below l (Unlawful s) ss j p = pages_below l (Unlawful s) ss (unlawful_below s) p
  refused_below l (Dangling s k) ss j p = pages_below l (Dangling s k) ss (λ x vs r (i, b, e). again_below x vs s r i e) p

  walk_below : 2 ≤ n → (x : LogRead) (ws ss : List ℕ) → WalkReads n σ x ws ss → Below ss
  walk_below l x ws ss w =
      let r = w.read.1.0 in
      let b : Below ws = λ k d m. let (s, i, e) = w.bodies k d m in subst (λ (t : ℕ). t < n) (sym e) (body_inside n σ x r s i) in
      subst Below (sym w.order) (All-append (λ s. s < n) (behind_log w.log (twice (nth_body x) (page_count x))) ws
      (behind l w.log _ (read_below x w.log w.read) (twice_below x r)) b)

  cut_below : 2 ≤ n → (ss : List ℕ) → CheckReads n σ ss → Below ss
  cut_below l ss (headers e) = subst Below (sym e) (both l)
  cut_below l ss (log h a e) =
      let m = log_below h h.geometry.log a (omega arith) in
      subst Below (sym e) (behind l (twice log_sector h.geometry.log) []
      (All-append (λ s. s < n) (each log_sector h.geometry.log) (each log_sector h.geometry.log) m m) none)
  cut_below l ss (walk x ws w) = walk_below l x ws ss w

pub reads_below : ReadsBelow
reads_below = record {
  accepted = λ n σ c ss l (x, (ws, w, e)). walk_below n σ l x ws ss w;
  refused = λ n σ q ss l j r. refused_below n σ l q ss j r;
  cut = λ n σ ss l r. cut_below n σ l ss r;
}
