-- What visits keep, and how one follows another.
-- Assumes nothing.
use Rattle.std.proofs.Common.{◌≡◌, ℕ, ◌+◌, ◌<◌, ◌==◌, List, [], ◌∷◌, ◌++◌, length, set, cond, sym, refl, ap, ◌∙◌, subst, inl, inr, arith}
use Rattle.std.specs.Prelude.{slice_index, slice_index_or, MatchResult, Ok, Err, Result}
use Rattle.std.proofs.lemmas.Bool.{cases_eq}
use Rattle.std.proofs.lemmas.List.{length_push, get_or-set_same, get_or-set_other}
use Rattle.std.proofs.lemmas.List.Sums.{sum_by-set}
use Rattle.device.specs.declared.queue.Queue.{Queue}
use Rattle.device.specs.Queues.{waiting, places, Joins, IsFull}
use Rattle.layout.specs.declared.handle.Handle.{Handle}
use Rattle.layout.specs.declared.word.Word.{Word}
use Rattle.layout.specs.declared.word.Word.TheVariants.{Number, Reference}
use Rattle.audit.specs.Visits.{handle, IsMarked, unmarked, HasRoom, Refer, Marks, Visits}
use Rattle.audit.specs.Visits.Marks.{none, more}

pub marked_here : (ms : List ℕ) (k : ℕ) → k < length ms → IsMarked (set ms k 1) k
marked_here ms k l = omega (arith, get_or-set_same ms k 1 0 l)

-- a mark stays
pub marked_still : (ms : List ℕ) (k j : ℕ) → k < length ms → IsMarked ms j → IsMarked (set ms k 1) j
marked_still ms k j l m = elim (cases_eq j k) [
  | inl e ↦ subst (λ (i : ℕ). IsMarked (set ms k 1) i) (sym e) (marked_here ms k l)
  | inr ne ↦ subst (λ (x : ℕ). 0 < x) (sym (get_or-set_other ms k j 1 0 ne)) m
]

-- and no other appears
pub marked_before : (ms : List ℕ) (k j : ℕ) → (j ≡ k → ⊥) → IsMarked (set ms k 1) j → IsMarked ms j
marked_before ms k j ne m = subst (λ (x : ℕ). 0 < x) (get_or-set_other ms k j 1 0 ne) m

one_fewer : (ms : List ℕ) (k : ℕ) → k < length ms → slice_index ms k ≡ 0 → unmarked (set ms k 1) + 1 ≡ unmarked ms
one_fewer ms k l e =
    let s : unmarked (set ms k 1) + cond (slice_index ms k == 0) 1 0 ≡ unmarked ms + 0 =
    sum_by-set (λ (m : ℕ). cond (m == 0) 1 0) ms k 1 0 l in
    omega (arith, rw e at s)

module _ (P : ℕ → Type 0) (ms q : List ℕ) where
  pub marks_room : (ms' q' : List ℕ) → Marks P ms q ms' q' → length q' + unmarked ms' ≡ length q + unmarked ms
  marks_room _ _ none = refl
  marks_room _ _ (more ms' q' k m p l z) = omega (arith, marks_room ms' q' m, length_push q' k, one_fewer ms' k l z)

  pub marks_keep : (ms' q' : List ℕ) → Marks P ms q ms' q' → (j : ℕ) → IsMarked ms j → IsMarked ms' j
  marks_keep _ _ none j h = h
  marks_keep _ _ (more ms' q' k m p l z) j h = marked_still ms' k j l (marks_keep ms' q' m j h)

  -- more of another kind
  pub marks_then : (Q : ℕ → Type 0) (ms' q' ms'' q'' : List ℕ) → ((k : ℕ) → Q k → P k) → Marks P ms q ms' q' → Marks Q ms' q' ms'' q''
      → Marks P ms q ms'' q''
  marks_then Q ms' q' _ _ f a none = a
  marks_then Q ms' q' _ _ f a (more ms'' q'' k m p l z) = more ms'' q'' k (marks_then Q ms' q' ms'' q'' f a m) (f k p) l z

-- the word is a number, what it refers to is marked already, or it is marked and queued
pub visits_number : (ms q : List ℕ) (w : Word) (n : ℕ) → w ≡ Number n → Visits (λ k. w ≡ Reference (handle k)) ms q ms q
visits_number ms q w n e = record { marks = none; all = λ k f. absurd (apart (sym e ∙ f)) }
  where
    apart : {a : ℕ} {b : ℕ} → Number a ≡ Reference (handle b) → ⊥
    apart x = cc

one_reference : {g h : Handle} → Reference g ≡ Reference h → g ≡ h
one_reference x = cc

one_handle : {a b : ℕ} → Reference (handle a) ≡ Reference (handle b) → a ≡ b
one_handle x = ap (λ (h : Handle). h.0) (one_reference x)

pub visits_marked : (ms q : List ℕ) (w : Word) (h : ℕ) → w ≡ Reference (handle h) → (slice_index ms h ≡ 0 → ⊥)
    → Visits (λ k. w ≡ Reference (handle k)) ms q ms q
visits_marked ms q w h e ne = record { marks = none; all = λ k f. subst (IsMarked ms) (one_handle (sym e ∙ f)) (omega arith) }

pushed : {A : Type 0} (r : Result A ℕ) (q q' : Queue ℕ) (h : ℕ) → length (waiting q) < places q
    → MatchResult r (λ _. Joins h q q') (λ y. (y ≡ h) × IsFull q × (q' ≡ q)) → waiting q' ≡ waiting q ++ h ∷ []
pushed (Ok _) q q' h l j = j.0
pushed (Err y) q q' h l f = absurd (omega (arith, f.1))

pub visits_new : {A : Type 0} (r : Result A ℕ) (ms : List ℕ) (q q' : Queue ℕ) (w : Word) (h : ℕ) → w ≡ Reference (handle h)
    → h < length ms → slice_index ms h ≡ 0 → HasRoom ms q
    → MatchResult r (λ _. Joins h q q') (λ y. (y ≡ h) × IsFull q × (q' ≡ q))
    → Visits (λ k. w ≡ Reference (handle k)) ms (waiting q) (set ms h 1) (waiting q')
visits_new r ms q q' w h e l z room p = subst (Visits (λ k. w ≡ Reference (handle k)) ms (waiting q) (set ms h 1))
    (sym (pushed r q q' h (omega (arith, one_fewer ms h l z)) p)) (record {
      marks = more ms (waiting q) h none e l z;
      all = λ k f. subst (IsMarked (set ms h 1)) (one_handle (sym e ∙ f)) (marked_here ms h l);
    })

-- the words before place i are visited, of ws
pub record Visited (ws : List Word) (i : ℕ) (ms q ms' q' : List ℕ) : Type 0 where
  pub marks : Marks (Refer ws) ms q ms' q'
  pub all : (k j : ℕ) → j < i → slice_index_or ws j (Number 0) ≡ Reference (handle k) → IsMarked ms' k

pub visited_more : (ws : List Word) (i : ℕ) (ms q ms' q' ms'' q'' : List ℕ) → i < length ws → Visited ws i ms q ms' q'
    → Visits (λ k. slice_index_or ws i (Number 0) ≡ Reference (handle k)) ms' q' ms'' q'' → Visited ws (i + 1) ms q ms'' q''
visited_more ws i ms q ms' q' ms'' q'' l a v = record {
  marks = marks_then (Refer ws) ms q _ ms' q' ms'' q'' (λ k e. (i, l, e)) a.marks v.marks;
  all = λ k j m e. elim (cases_eq j i) [
    | inl z ↦ v.all k (subst (λ (x : ℕ). slice_index_or ws x (Number 0) ≡ Reference (handle k)) z e)
    | inr ne ↦ marks_keep _ ms' q' ms'' q'' v.marks k (a.all k j (omega arith) e)
  ];
}
