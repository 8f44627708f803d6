-- The pages as they are judged, one after another.
-- Assumes nothing.
use Rattle.std.proofs.Common.{◌≡◌, ℕ, ◌+◌, ◌-◌, ◌<◌, ◌≤◌, List, [], ◌∷◌, ◌++◌, length, drop, Some, None, Option, MatchOption, sym, refl, ap, ◌∙◌, subst, inl, inr, arith}
use Rattle.std.specs.Prelude.{◌↔◌, IfSome}
use Rattle.std.proofs.lemmas.List.{get_or_append_left, get_or_push, length_push}
use Rattle.std.proofs.lemmas.Bool.{cases_lt}
use Rattle.device.specs.Sector.{Image}
use Rattle.layout.specs.declared.header.Header.{Header}
use Rattle.layout.specs.declared.page.Page.{Page}
use Rattle.layout.specs.Geometries.{root_of, IsPage}
use Rattle.layout.specs.Pages.{Shaped}
use Rattle.layout.specs.Bodies.{body_bytes}
use Rattle.image.specs.declared.refusal.ImageRefusal.{ImageRefusal}
use Rattle.image.specs.declared.refusal.ImageRefusal.TheVariants.{Unlawful, Dangling}
use Rattle.image.specs.declared.log.LogRead.{LogRead}
use Rattle.image.specs.declared.tally.Tally.{Tally}
use Rattle.image.specs.declared.judged.PagesJudged.{PagesJudged}
use Rattle.image.specs.Logs.{Change}
use Rattle.image.specs.Heaps.{Heap, HasPage, page_of, free_page, DanglesIn, Dangles, NoneDangles, FirstDangling}
use Rattle.image.specs.Images.{HasBody, IsPageAt, Shows, FirstFault, Judged}
use Rattle.image.specs.Stages.{IsReadOf, IsFaultOf, IsPageFault, EndsAtFault, EndsAtDangling, JudgeEnds, all_bodies, IsBodyRead, IsPageRead, FindsBody, FindsNoBody, FindsPage, FindsNoPage, FindsShown, FindsNoneShown, IsJudgedOf, division_of, IsJudgedPage, IsAnother}
use Rattle.image.specs.Tallies.{page_at, IsTallyOf, IsTallyOfHeap}
use Rattle.image.proofs.Lookings.{both_lists}
use Rattle.image.proofs.Single.{header_one, log_one, body_one, page_inside, inside_page}

module _ (n : ℕ) (σ : Image) (x : LogRead) (r : IsReadOf n σ x) where
  -- the pages before sector s are lawful, and counted
  pub record PagesSoFar (s : ℕ) (t : Tally) : Type 0 where
    pub pages : List Page
    pub at : root_of x.header.geometry + length pages ≡ s
    pub lawful : (i : ℕ) → i < length pages → IsPageAt σ x.header r.log (root_of x.header.geometry + i) (page_at pages i)
    pub tally : IsTallyOf (root_of x.header.geometry) pages t

  pub no_page_yet : (s : ℕ) (t : Tally) → s ≡ root_of x.header.geometry → IsTallyOf (root_of x.header.geometry) [] t → PagesSoFar s t
  no_page_yet s t e y = record { pages = []; at = omega arith; lawful = λ i l. absurd (omega arith); tally = y }

  pub one_more_page : (s : ℕ) (t u : Tally) (p : Page) → IsPage x.header.geometry s → (y : PagesSoFar s t) → FindsPage n σ x s p
      → IsTallyOf (root_of x.header.geometry) (y.pages ++ p ∷ []) u → PagesSoFar (s + 1) u
  one_more_page s t u p inside y f z = record {
    pages = y.pages ++ p ∷ [];
    at = omega (arith, y.at, length_push y.pages p);
    lawful = λ i l. elim (cases_lt i (length y.pages)) [
      | inl m ↦ subst (λ (q : Page). IsPageAt σ x.header r.log (root_of x.header.geometry + i) q) (sym (get_or_append_left y.pages (p ∷ []) free_page i m)) (y.lawful i m)
      | inr m ↦
          let e : length y.pages ≡ i = omega (arith, length_push y.pages p) in
          let w : s ≡ root_of x.header.geometry + i = omega (arith, y.at) in
          subst (λ (q : Page). IsPageAt σ x.header r.log (root_of x.header.geometry + i) q) (sym (get_or_push y.pages p free_page i e))
          (subst (λ (k : ℕ). IsPageAt σ x.header r.log k p) w (f r inside))
    ];
    tally = z;
  }

  pub fault_judged : (s : ℕ) (t : Tally) (q : ImageRefusal) → IsPage x.header.geometry s → PagesSoFar s t → FindsNoPage n σ x s q → Judged n σ q
  fault_judged s t q inside y f =
      let g = f r inside in
      let first : FirstFault σ x.header r.log s = record { page = inside; fault = g.0; before = λ u i l. earlier u i l } in
      told first g.1
    where
      earlier : (u : ℕ) → IsPage x.header.geometry u → u < s → (p : Page) × IsPageAt σ x.header r.log u p
      earlier u i l =
          let k = u - root_of x.header.geometry in
          let e : root_of x.header.geometry + k ≡ u = omega arith in
          (page_at y.pages k, subst (λ (v : ℕ). IsPageAt σ x.header r.log v (page_at y.pages k)) e (y.lawful k (omega (arith, y.at))))

      told : FirstFault σ x.header r.log s → IsFaultOf σ r.log s q → Judged n σ q
      told a (inl (e, b)) = subst (λ (p : ImageRefusal). Judged n σ p) (sym e) (x.header, (r.log, r.reads, a, b))
      told a (inr (e, b)) = subst (λ (p : ImageRefusal). Judged n σ p) (sym e) (x.header, (r.log, r.reads, a, b))

  -- all pages are lawful: this is the heap
  pub all_pages : (t : Tally) → PagesSoFar x.header.geometry.sectors t → (H : Heap) × Shows n σ H × IsTallyOfHeap H t
  all_pages t y =
      let z : x.header.geometry.sectors ≡ n = r.reads.header.valid.0.0 in
      let m = x.header.geometry.most in
      let H : Heap = record { transactions = x.transactions; root = root_of x.header.geometry; pages = y.pages } in (
        H,
        record {
          header = x.header;
          log = r.log;
          read = r.reads;
          transactions = r.has.transactions;
          root = refl;
          sectors = y.at ∙ z;
          pages = λ s i. let k = s - root_of x.header.geometry in
              let e : root_of x.header.geometry + k ≡ s = omega arith in
              subst (λ (v : ℕ). IsPageAt σ x.header r.log v (page_at y.pages k)) e (y.lawful k (omega (arith, y.at)));
        },
        record { of = y.tally; fits = omega (arith, y.at) },
      )

  -- the count and the root of the heap
  pub shown : (H : Heap) → Shows n σ H → (x.transactions ≡ H.transactions) × (root_of x.header.geometry ≡ H.root)
  shown H a =
      let e : a.header ≡ x.header = header_one n σ a.header x.header a.read.header r.reads.header in
      let f : a.log ≡ r.log = log_one n σ _ _ _ _ e a.read.log r.reads.log in
      (r.has.transactions ∙ sym (a.transactions ∙ cc (e, f)), sym (a.root ∙ ap (λ (h : Header). root_of h.geometry) e))

  -- what the image has as the body of a page is the body of the heap's
  shown_body : (H : Heap) → Shows n σ H → (s : ℕ) → IsPage x.header.geometry s → Shaped (page_of H s) × HasBody σ r.log s (body_bytes (page_of H s))
  shown_body H a s inside =
      let e = header_one n σ x.header a.header r.reads.header a.read.header in
      let g = log_one n σ _ _ _ _ e r.reads.log a.read.log in
      let p = a.pages s (subst (λ (h : Header). IsPage h.geometry s) e inside) in
      (p.0.shaped, subst (λ (us : List (List Change)). HasBody σ us s (body_bytes (page_of H s))) (sym g) p.1)

  pub shown_page : (H : Heap) → Shows n σ H → (s : ℕ) → IsPage x.header.geometry s → (body : List ℕ) (o : Option Page) → FindsBody n σ x s body
      → ((p : Page) → Shaped p → body_bytes p ≡ body → o ≡ Some p) → o ≡ Some (page_of H s)
  shown_page H a s inside body o f only =
      let p = shown_body H a s inside in
      only (page_of H s) p.0 (body_one σ x.header r.log s _ _ p.1 (f r inside))

  pub body_shown : (H : Heap) → Shows n σ H → (s : ℕ) (q : ImageRefusal) → IsPage x.header.geometry s → FindsNoBody n σ x s q → ⊥
  body_shown H a s q inside f = (f r inside).0 (body_bytes (page_of H s)) (shown_body H a s inside).1

  -- no data word of the pages before sector s dangles
  abbrev pub NoneBefore : Tally → ℕ → Type 0
  NoneBefore t s = (H : Heap) → Shows n σ H → IsTallyOfHeap H t → (u k : ℕ) → HasPage H u → u < s → Dangles H u k → ⊥

  pub none_yet : (t : Tally) (s : ℕ) → s ≡ root_of x.header.geometry → NoneBefore t s
  none_yet t s e H a y u k h l d =
      let f : a.header ≡ x.header = header_one n σ a.header x.header a.read.header r.reads.header in
      let root : H.root ≡ root_of x.header.geometry = a.root ∙ ap (λ (g : Header). root_of g.geometry) f in
      omega (arith, h.0)

  pub none_more : (t : Tally) (s : ℕ) (p : Page) → IsPage x.header.geometry s → FindsShown n σ x s p → ((H : Heap) → IsTallyOfHeap H t → (j : ℕ) → DanglesIn H p j → ⊥)
      → NoneBefore t s → NoneBefore t (s + 1)
  none_more t s p inside f none before H a y u k h l d = elim (cases_lt u s) [
    | inl m ↦ before H a y u k h m d
    | inr m ↦
        let e : u ≡ s = omega arith in
        let q = f r inside H a in
        none H y k (subst (λ (z : Page). DanglesIn H z k) (sym q) (subst (λ (v : ℕ). Dangles H v k) e d))
  ]

  pub first_found : (t : Tally) (s j : ℕ) (p : Page) → IsPage x.header.geometry s → FindsShown n σ x s p
      → ((H : Heap) → IsTallyOfHeap H t → DanglesIn H p j × ((k : ℕ) → k < j → DanglesIn H p k → ⊥))
      → NoneBefore t s → (H : Heap) → Shows n σ H → IsTallyOfHeap H t → FirstDangling H s j
  first_found t s j p inside f here before H a y =
      let q = f r inside H a in
      let d = here H y in
      record {
        page = inside_page n σ H a s (subst (λ (h : Header). IsPage h.geometry s) (header_one n σ x.header a.header r.reads.header a.read.header) inside);
        dangles = subst (λ (z : Page). DanglesIn H z j) q d.0;
        before = λ k l e. d.1 k l (subst (λ (z : Page). DanglesIn H z k) (sym q) e);
        pages_before = λ u k h l e. before H a y u k h l e;
      }

  -- the pages are all that a heap has
  pub none_at_all : (t : Tally) (s : ℕ) → x.header.geometry.sectors ≤ s → NoneBefore t s → (H : Heap) → Shows n σ H → IsTallyOfHeap H t → NoneDangles H
  none_at_all t s l before H a y u k h =
      let z : x.header.geometry.sectors ≡ n = r.reads.header.valid.0.0 in
      before H a y u k h (omega (arith, a.sectors))

no_option : {p : Page} → ◌≡◌ {A = Option Page} None (Some p) → ⊥
no_option e = cc

one_option : {p q : Page} → Some p ≡ Some q → p ≡ q
one_option e = cc

-- the page with the body that was found is that of the heap
module _ (n : ℕ) (σ : Image) (x : LogRead) (s : ℕ) where
  pub shown_finds : (body : List ℕ) (o : Option Page) → FindsBody n σ x s body → ((p : Page) → Shaped p → body_bytes p ≡ body → o ≡ Some p)
      → IfSome o (λ p. Shaped p × (body_bytes p ≡ body))
      → MatchOption o (IsPageFault s (Unlawful s) × FindsNoneShown n σ x s) (λ p. (body_bytes p ≡ body) × FindsShown n σ x s p)
  shown_finds body None f only found = (inr refl, λ r i H a. no_option (shown_page n σ x r H a s i body None f only))
  shown_finds body (Some p) f only found = (found.1, λ r i H a. one_option (shown_page n σ x r H a s i body (Some p) f only))

  -- and it stands in the bytes that were read
  pub page_read : (b body : List ℕ) (o : Option Page) → IsBodyRead σ x s b → body ≡ drop 12 b
      → MatchOption o (IsPageFault s (Unlawful s) × FindsNoneShown n σ x s) (λ p. (body_bytes p ≡ body) × FindsShown n σ x s p)
      → MatchOption o (IsPageFault s (Unlawful s) × FindsNoneShown n σ x s) (λ p. IsPageRead σ x s p × FindsShown n σ x s p)
  page_read b body None r e y = y
  page_read b body (Some p) r e y = ((b, r, y.0 ∙ e), y.1)

-- a fault in the first pass over the pages, or in the second, and a reference without object
module _ (x : LogRead) (ss : List ℕ) where
  pub fault_first : (q : ImageRefusal) → EndsAtFault x ss q → JudgeEnds x ss q
  fault_first q (s, i, inl e, r) = subst (λ (p : ImageRefusal). JudgeEnds x ss p) (sym e) (i, inl r)
  fault_first q (s, i, inr e, r) = subst (λ (p : ImageRefusal). JudgeEnds x ss p) (sym e) (i, inl r)

  pub fault_again : (ts : List ℕ) (q : ImageRefusal) → ss ≡ all_bodies x → EndsAtFault x ts q → JudgeEnds x (ss ++ ts) q
  fault_again ts q f (s, i, inl e, r) = subst (λ (p : ImageRefusal). JudgeEnds x (ss ++ ts) p) (sym e) (i, inr (both_lists f r))
  fault_again ts q f (s, i, inr e, r) = subst (λ (p : ImageRefusal). JudgeEnds x (ss ++ ts) p) (sym e) (i, inr (both_lists f r))

  pub dangling_again : (ts : List ℕ) (s j : ℕ) → ss ≡ all_bodies x → EndsAtDangling x ts (Some (s, j)) → JudgeEnds x (ss ++ ts) (Dangling s j)
  dangling_again ts s j f (i, l, r) = (i, l, both_lists f r)

-- of an image whose pages were judged
module _ (n : ℕ) (σ : Image) (y : PagesJudged) (s : ℕ) (H : Heap) (j : IsJudgedOf n σ H y) where
  same_division : j.holds.shows.header ≡ y.log.header
  same_division = header_one n σ j.holds.shows.header y.log.header j.holds.shows.read.header j.read.reads.header

  -- the heap's pages have their homes where the geometry says
  pub judged_inside : IsPage y.log.header.geometry s ↔ HasPage H s
  judged_inside = (
    λ i. inside_page n σ H j.holds.shows s (subst (λ (h : Header). IsPage h.geometry s) (sym same_division) i),
    λ h. subst (λ (g : Header). IsPage g.geometry s) same_division (page_inside n σ H j.holds.shows s h),
  )

-- the page that is read again is the heap's; or the image is another
module _ (n : ℕ) (σ : Image) (y : PagesJudged) (s : ℕ) (i : IsPage (division_of y) s) where
  pub judged_again : (p : Page) → FindsShown n σ y.log s p → IsJudgedPage n σ y s p
  judged_again p f H j = f j.read i H j.holds.shows

  pub another : FindsNoneShown n σ y.log s → IsAnother n σ y
  another f H j = f j.read i H j.holds.shows
