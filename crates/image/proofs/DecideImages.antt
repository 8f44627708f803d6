-- Decided of an image: whether it holds a heap, and which refusal it gets if not.
-- Assumes nothing.
use Rattle.std.proofs.Common.{◌≡◌, ℕ, suc, ◌+◌, ◌-◌, ◌<◌, ◌≤◌, ◌⊎◌, List, length, drop, Some, None, Option, MatchOption}
use Rattle.std.proofs.Common.{sym, refl, ap, ◌∙◌, subst, inl, inr, arith}
use Rattle.std.proofs.Math.Logic.{⊎_map, ⊎_swap}
use Rattle.device.specs.Sector.{Content, payload, torn, Image}
use Rattle.layout.specs.declared.header.Header.{Header}
use Rattle.layout.specs.declared.handle.Handle.{Handle}
use Rattle.layout.specs.declared.word.Word.{Word}
use Rattle.layout.specs.declared.word.Word.TheVariants.{Number, Reference}
use Rattle.layout.specs.declared.page.Page.{Page}
use Rattle.layout.specs.Geometries.{root_of}
use Rattle.layout.specs.Homes.{home_bytes}
use Rattle.layout.specs.Bodies.{body_bytes}
use Rattle.layout.specs.Pages.{word_at}
use Rattle.layout.proofs.Homes.{body-home_bytes}
use Rattle.image.specs.declared.refusal.ImageRefusal.{ImageRefusal}
use Rattle.image.specs.declared.refusal.ImageRefusal.TheVariants.{Torn, NoHeader, LaterEpoch, Unlawful, Dangling}
use Rattle.image.specs.Logs.{Change, last_record}
use Rattle.image.specs.Heaps.{Heap, free_page, page_of, HasObject, DanglesIn, Dangles, NoneDangles, FirstDangling}
use Rattle.image.specs.Images.{Reads, HasBody, IsPageAt, Shows, Holds, FirstFault, Judged}
use Rattle.image.proofs.Readings.{read_log}
use Rattle.image.proofs.Single.{body_one}
use Rattle.image.proofs.Decide.{Decided, like, both_or, if_or, le_or, true_or, lists_or, payload_or, first, lowest_or, listed}
use Rattle.image.proofs.DecideHeaders.{image_header_or, first_later_or}
use Rattle.image.proofs.DecideReadings.{reads}
use Rattle.image.proofs.DecidePages.{page_or}

-- whether a handle has an object, whether a word (j of page p) dangles, and the first that does
module _ (H : Heap) where
  has_object_or : (h : Handle) → Decided (HasObject H h)
  has_object_or h = both_or (grind arith) (true_or _)

  dangles_or : (p : Page) (j : ℕ) (w : Word) → word_at p j ≡ w → Decided (DanglesIn H p j)
  dangles_or p j (Number n) e = inr (λ x. cc (e, x.1.1))
  dangles_or p j (Reference h) e = like (λ (l, n). (h, (l, e), n))
      (λ (g, r, n). let z : g ≡ h = cc (e, r.1) in (r.0, subst (λ (k : Handle). HasObject H k → ⊥) z n))
      (both_or (le_or (suc j) 10) (if_or (has_object_or h) (inr (λ x. x))))

  first_dangling_or : ((s : ℕ) × ((j : ℕ) × FirstDangling H s j)) ⊎ NoneDangles H
  first_dangling_or = ⊎_map
      (λ (s, l, m, (j, (d, b)), before).
      (s, (j, record { page = (l, m); dangles = d; before = b; pages_before = λ t k i n. before t i.0 n k })))
      (λ none s j i. none s i.0 i.1 j)
      (first (λ s. (j : ℕ) × (Dangles H s j × ((k : ℕ) → k < j → Dangles H s k → ⊥))) (λ s. (j : ℕ) → Dangles H s j → ⊥)
      H.root (H.root + length H.pages) (λ s. lowest_or (Dangles H s) 10 (λ j. dangles_or (page_of H s) j _ refl) (λ j d. d.1.0)))

-- whether a page without a committed record has a torn home
torn_home_or : (o : Option (List ℕ)) (c : Content) → Decided ((o ≡ None) × (c ≡ torn))
torn_home_or None torn = inl (refl, refl)
torn_home_or _ _ = inr (λ x. cc)

-- sector s has a lawful page
abbrev HasLawful : Image → Header → List (List Change) → ℕ → Type 0
HasLawful σ h ts s = (p : Page) × IsPageAt σ h ts s p

module _ (n : ℕ) (σ : Image) (h : Header) (ts : List (List Change)) where
  -- the body of a page, if it has one, and the lawful page that it is
  body_or : (s : ℕ) → Decided ((body : List ℕ) × HasBody σ ts s body)
  body_or s = elim (last_record s ts)
      as (λ o. Decided ((body : List ℕ) × MatchOption o (σ s ≡ payload (home_bytes s body)) (λ b. body ≡ b))) [
        | None ↦ payload_or (home_bytes s) (σ s) (λ b. like (λ e. (drop 12 b, e))
            (λ (c, e). ap (home_bytes s) (ap (drop 12) (sym e) ∙ body-home_bytes s c) ∙ e) (lists_or (home_bytes s (drop 12 b)) b))
        | Some b ↦ inl (b, refl)
      ]

  page_at_or : (s : ℕ) → Decided (HasLawful σ h ts s)
  page_at_or s = elim (body_or s) [
    | inl (body, b) ↦ like (λ (p, (l, e)). (p, (l, subst (HasBody σ ts s) (sym e) b))) (λ (p, (l, c)). (p, (l, body_one σ h ts s _ _ c b)))
        (page_or _ body)
    | inr none ↦ inr (λ (p, (l, b)). none (body_bytes p, b))
  ]

  -- the heap, where each sector from the root page's on has a lawful page
  shown : Reads n σ h ts → ((s : ℕ) → root_of h.geometry ≤ s → s < h.geometry.sectors → HasLawful σ h ts s) → (H : Heap) × Shows n σ H
  shown r all =
      let root = root_of h.geometry in
      let room = h.geometry.room in
      let here : h.geometry.sectors ≡ n = r.header.valid.0.0 in
      let x = listed free_page (λ i p. IsPageAt σ h ts (root + i) p) (h.geometry.sectors - root)
      (λ i l. all (root + i) (omega arith) (omega arith)) in
      let H : Heap = record { transactions = h.transactions + length ts; root = root; pages = x.0 } in (
        H,
        record {
          header = h;
          log = ts;
          read = r;
          transactions = refl;
          root = refl;
          sectors = omega (arith, x.1);
          pages = λ s i. let e : root + (s - root) ≡ s = omega arith in
              subst (λ t. IsPageAt σ h ts t (page_of H s)) e (x.2 (s - root) (omega arith));
        },
      )

  -- the pages and the references judged
  pages_or : Reads n σ h ts → ((H : Heap) × Holds n σ H) ⊎ ((q : ImageRefusal) × Judged n σ q)
  pages_or r = elim (first (λ s. HasLawful σ h ts s → ⊥) (HasLawful σ h ts) (root_of h.geometry) h.geometry.sectors
      (λ s. ⊎_swap (page_at_or s))) [
        | inl (s, l, m, none, before) ↦
            let f : FirstFault σ h ts s = record { page = (l, m); fault = λ p a. none (p, a); before = λ t i k. before t i.0 k } in
            inr (elim (torn_home_or (last_record s ts) (σ s)) [
              | inl t ↦ (Torn s, (h, (ts, r, f, t)))
              | inr ne ↦ (Unlawful s, (h, (ts, r, f, ne)))
            ])
        | inr all ↦ let (H, x) = shown r all in elim (first_dangling_or H) [
          | inl (s, (j, d)) ↦ inr (Dangling s j, (H, x, d))
          | inr none ↦ inl (H, record { shows = x; none_dangles = none })
        ]
      ]

-- Whatever its sectors hold, an image holds a heap or gets a refusal.
pub always_one : (n : ℕ) (σ : Image) → ((H : Heap) × Holds n σ H) ⊎ ((r : ImageRefusal) × Judged n σ r)
always_one n σ = elim (image_header_or n σ) [
  | inr none ↦ inr (NoHeader, none)
  | inl (h, a) ↦ elim (first_later_or σ h) [
    | inl (s, f) ↦ inr (LaterEpoch s, (h, a, f))
    | inr none ↦ let (ts, x) = reads σ h in pages_or n σ h ts (record { header = a; none_later = none; log = read_log σ h ts x })
  ]
]
