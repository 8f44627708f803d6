-- The walk: all that is marked is reached, and stands once among what was taken out of the queue and what waits in it.
-- Assumes nothing.
use Rattle.std.proofs.Common.{◌≡◌, ◌≢◌, ℕ, ◌+◌, ◌/◌, ◌%◌, ◌<◌, List, [], ◌∷◌, ◌++◌, length, set, map, replicate, sym, refl, ap, ◌∙◌, subst, inl, inr, arith}
use Rattle.std.specs.Prelude.{slice_index}
use Rattle.std.specs.List.{AllPairs, Contains}
use Rattle.std.proofs.lemmas.Bool.{cases_eq, cases_lt}
use Rattle.std.proofs.lemmas.List.{length_push, length-map, get_or-map, get_or-replicate, get_or_past, length-replicate, append_assoc, append-nil}
use Rattle.std.proofs.lemmas.List.Elements.{Contains-get_or, Contains-append_left, Contains-append_right, Contains-push, Contains-push_cases}
use Rattle.std.proofs.lemmas.List.Quantifiers.{all_pairs_push}
use Rattle.layout.specs.declared.handle.Handle.{Handle}
use Rattle.layout.specs.declared.word.Word.{Word}
use Rattle.layout.specs.declared.page.Page.{Page}
use Rattle.layout.specs.Classes.{Takes}
use Rattle.image.specs.Heaps.{Heap, page_of, RefersTo, Reaches, CountsReached}
use Rattle.image.specs.Heaps.Reaches.{root, object}
use Rattle.image.specs.Images.{Holds}
use Rattle.device.specs.Sector.{Image}
use Rattle.audit.specs.Visits.{handle, IsMarked, Refer, Marks, Visits}
use Rattle.audit.specs.Visits.Marks.{none, more}
use Rattle.audit.proofs.Marking.{marked_here, marked_still, marked_before, marks_keep}
use Rattle.audit.proofs.Objects.{object_words, root_reaches, root_refers, object_reaches, object_refers}

-- the marked handles are listed, each once, and they are reached
pub record Listed (H : Heap) (ms all : List ℕ) : Type 0 where
  pub once : AllPairs (λ g h. g ≢ h) all
  pub listed : (k : ℕ) → IsMarked ms k → Contains all k
  pub marked : (k : ℕ) → Contains all k → IsMarked ms k
  pub reached : (k : ℕ) → Contains all k → Reaches H (handle k)

module _ (H : Heap) where
  zero_at : (n k : ℕ) → slice_index (replicate n 0) k ≡ 0
  zero_at n k = elim (cases_lt k n) [
    | inl l ↦ get_or-replicate n k 0 0 l
    | inr l ↦ get_or_past (replicate n 0) k 0 (omega (arith, length-replicate {A = ℕ} n 0))
  ]

  pub listed_none : (ms : List ℕ) (n : ℕ) → ms ≡ replicate n 0 → Listed H ms []
  listed_none ms n e = record {
    once = λ i j d l m. absurd (omega arith);
    listed = λ k m.
        let w : IsMarked (replicate n 0) k = subst (λ (xs : List ℕ). IsMarked xs k) e m in
        absurd (omega (arith, zero_at n k));
    marked = λ k c. absurd (omega (arith, c.1));
    reached = λ k c. absurd (omega (arith, c.1));
  }

  listed_more : (ms all : List ℕ) (k : ℕ) → k < length ms → slice_index ms k ≡ 0 → Reaches H (handle k) → Listed H ms all
      → Listed H (set ms k 1) (all ++ k ∷ [])
  listed_more ms all k l z r a = record {
    once = all_pairs_push (λ (g h : ℕ). g ≢ h) all k a.once (λ i d m e.
        let x : IsMarked ms k = subst (IsMarked ms) e (a.marked _ (Contains-get_or all i d m)) in omega arith);
    listed = λ j m. elim (cases_eq j k) [
      | inl e ↦ subst (Contains (all ++ k ∷ [])) (sym e) (Contains-push all k)
      | inr ne ↦ Contains-append_left all (k ∷ []) j (a.listed j (marked_before ms k j ne m))
    ];
    marked = λ j c. elim (Contains-push_cases all k j c) [
      | inl d ↦ marked_still ms k j l (a.marked j d)
      | inr e ↦ subst (IsMarked (set ms k 1)) e (marked_here ms k l)
    ];
    reached = λ j c. elim (Contains-push_cases all k j c) [
      | inl d ↦ a.reached j d
      | inr e ↦ subst (λ (i : ℕ). Reaches H (handle i)) e r
    ];
  }

  pub listed_then : (P : ℕ → Type 0) (done ms q ms' q' : List ℕ) → ((k : ℕ) → P k → Reaches H (handle k)) → Marks P ms q ms' q'
      → Listed H ms (done ++ q) → Listed H ms' (done ++ q')
  listed_then P done ms q _ _ f none a = a
  listed_then P done ms q _ _ f (more ms' q' k m p l z) a =
      subst (Listed H (set ms' k 1)) (append_assoc done q' (k ∷ []))
      (listed_more ms' (done ++ q') k l z (f k p) (listed_then P done ms q ms' q' f m a))

-- so many were taken out, and what the roots and those refer to is marked
pub record Walked (H : Heap) (ms q : List ℕ) (n : ℕ) : Type 0 where
  pub done : List ℕ
  pub many : length done ≡ n
  pub listed : Listed H ms (done ++ q)
  pub roots : (k j : ℕ) → RefersTo (page_of H H.root) j (handle k) → IsMarked ms k
  pub closed : (g : ℕ) → Contains done g → (k j : ℕ) → Takes (page_of H (g / 16)).class (g % 16) j
      → RefersTo (page_of H (g / 16)) j (handle k) → IsMarked ms k

pub walk_reached : (H : Heap) (ms q q' : List ℕ) (m g : ℕ) → Walked H ms q m → q ≡ g ∷ q' → Reaches H (handle g)
walk_reached H ms q q' m g w taken =
    w.listed.reached g (subst (λ (xs : List ℕ). Contains (w.done ++ xs) g) (sym taken)
    (Contains-append_right w.done (g ∷ q') g (0, omega arith, refl)))

module _ (n : ℕ) (σ : Image) (H : Heap) (a : Holds n σ H) where
  pub walk_starts : (p : Page) (ms q ms' q' : List ℕ) (m : ℕ) → p ≡ page_of H H.root → ms ≡ replicate m 0 → q ≡ []
      → Visits (Refer p.words) ms q ms' q' → Walked H ms' q' 0
  walk_starts p ms q ms' q' m f e z v =
      let roots = λ (k : ℕ) (r : Refer p.words k). root_reaches n σ H a k (subst (λ (r : Page). Refer r.words k) f r) in
      record {
        done = [];
        many = refl;
        listed = listed_then H _ [] ms q ms' q' roots v.marks (subst (Listed H ms) (sym z) (listed_none H ms m e));
        roots = λ k j r. v.all k (subst (λ (r : Page). Refer r.words k) (sym f) (root_refers n σ H a k j r));
        closed = λ g c. absurd (omega (arith, c.1));
      }

  pub walk_goes_on : (ms q q' : List ℕ) (m g : ℕ) → Walked H ms q m → q ≡ g ∷ q' → (ws : List Word) (ms' q'' : List ℕ)
      → ws ≡ object_words H g
      → Visits (Refer ws) ms q' ms' q'' → Walked H ms' q'' (m + 1)
  walk_goes_on ms q q' m g w taken ws ms' q'' f v =
      let r = walk_reached H ms q q' m g w taken in
      let reaches = λ (k : ℕ) (x : Refer ws k). object_reaches n σ H a g r k (subst (λ (xs : List Word). Refer xs k) f x) in
      record {
        done = w.done ++ g ∷ [];
        many = length_push w.done g ∙ ap (λ (i : ℕ). i + 1) w.many;
        listed = listed_then H _ (w.done ++ g ∷ []) ms q' ms' q'' reaches v.marks
            (subst (Listed H ms) (ap (λ (xs : List ℕ). w.done ++ xs) taken ∙ sym (append_assoc w.done (g ∷ []) q')) w.listed);
        roots = λ k j x. marks_keep _ ms q' ms' q'' v.marks k (w.roots k j x);
        closed = λ h c. elim (Contains-push_cases w.done g h c) [
          | inl d ↦ λ k j t x. marks_keep _ ms q' ms' q'' v.marks k (w.closed h d k j t x)
          | inr e ↦ subst (λ (i : ℕ). (k j : ℕ) → Takes (page_of H (i / 16)).class (i % 16) j
              → RefersTo (page_of H (i / 16)) j (handle k) → IsMarked ms' k) e
              (λ k j t x. v.all k (subst (λ (xs : List Word). Refer xs k) (sym f) (object_refers n σ H a g r k j t x)))
        ];
      }

  pub walk_ends : (ms q : List ℕ) (m : ℕ) → q ≡ [] → Walked H ms q m → CountsReached H m
  walk_ends ms q m e w = record {
    handles = map handle w.done;
    long = length-map w.done handle ∙ w.many;
    once = λ i j d l k f.
        let k' : j < length w.done = omega (arith, length-map w.done handle) in
        all.once i j d.0 l k' (ap (λ (h : Handle). h.0) (sym (get_or-map handle w.done i d.0 d (omega arith)) ∙ f
        ∙ get_or-map handle w.done j d.0 d k'));
    exactly = λ h. (λ c. reached h c, λ r. found h r);
  }
    where
      all : Listed H ms w.done
      all = subst (Listed H ms) (ap (λ (xs : List ℕ). w.done ++ xs) e ∙ append-nil w.done) w.listed

      reached : (h : Handle) → Contains (map handle w.done) h → Reaches H h
      reached h (i, l, f) = let l' : i < length w.done = omega (arith, length-map w.done handle) in
          subst (Reaches H) (sym (get_or-map handle w.done i h.0 h l') ∙ f) (all.reached _ (Contains-get_or w.done i h.0 l'))

      marked : (h : Handle) → Reaches H h → IsMarked ms h.0
      marked _ (root j h r) = w.roots h.0 j r
      marked _ (object g j h r t f) = w.closed g.0 (all.listed g.0 (marked g r)) h.0 j t f

      found : (h : Handle) → Reaches H h → Contains (map handle w.done) h
      found h r = let c = all.listed h.0 (marked h r) in
          (c.0, omega (arith, c.1, length-map w.done handle), get_or-map handle w.done c.0 h.0 h c.1 ∙ ap handle c.2)
