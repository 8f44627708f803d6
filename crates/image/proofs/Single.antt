-- An image has one header, one log and one heap at most, or gets one refusal.
-- Assumes nothing.
use Rattle.std.proofs.Common.{◌≡◌, ℕ, suc, ◌+◌, ◌-◌, ◌%◌, ◌<◌, ◌⊎◌, inl, inr, List, [], ◌∷◌, length, drop, Some, None, MatchOption, sym, refl, ap, ◌∙◌, subst, arith}
use Rattle.std.specs.Prelude.{slice_index_or}
use Rattle.std.proofs.lemmas.Bool.{cases_order}
use Rattle.device.specs.Sector.{payload, Image}
use Rattle.layout.specs.declared.header.Header.{Header}
use Rattle.layout.specs.declared.page.Page.{Page}
use Rattle.layout.specs.Geometries.{root_of, IsPage}
use Rattle.layout.specs.Headers.{header_bytes}
use Rattle.layout.specs.Homes.{home_bytes}
use Rattle.layout.proofs.Headers.{one_header}
use Rattle.layout.proofs.Homes.{body-home_bytes}
use Rattle.layout.proofs.OneBody.{body_same}
use Rattle.image.specs.declared.refusal.ImageRefusal.{ImageRefusal}
use Rattle.image.specs.declared.refusal.ImageRefusal.TheVariants.{Torn, NoHeader, LaterEpoch, Unlawful, Dangling}
use Rattle.image.specs.Headers.{IsHeaderIn, IsHeaderOf, InLog, IsLater, NoneLater, FirstLater}
use Rattle.image.specs.Logs.{In, Change, IsLog, last_record}
use Rattle.image.specs.Heaps.{Heap, HasPage, page_of, free_page, Dangles, FirstDangling}
use Rattle.image.specs.Images.{Reads, HasBody, IsPageAt, Shows, Holds, FirstFault, IsTornHome, Judged}
use Rattle.image.proofs.Readings.{payload_one, one_log}

home_body : (s : ℕ) (b c : List ℕ) → home_bytes s b ≡ home_bytes s c → b ≡ c
home_body s b c e = sym (body-home_bytes s b) ∙ ap (λ (bs : List ℕ). drop 12 bs) e ∙ body-home_bytes s c

module _ (n : ℕ) (σ : Image) where
  -- two valid headers of one epoch stand in one sector
  pub header_one : (h g : Header) → IsHeaderOf n σ h → IsHeaderOf n σ g → h ≡ g
  header_one h g a b =
      let e : g.epoch ≡ h.epoch = let x = a.newest g b.valid in let y = b.newest h a.valid in omega arith in
      let z = subst (λ (k : ℕ). σ (k % 2) ≡ payload (header_bytes g)) e b.valid.1 in
      one_header h g (payload_one _ _ (sym a.valid.1 ∙ z))

  pub log_one : (h g : Header) (ts us : List (List Change)) → h ≡ g → IsLog (In σ) h ts → IsLog (In σ) g us → ts ≡ us
  log_one h g ts us e a b = one_log σ h ts us a (subst (λ (k : Header). IsLog (In σ) k us) (sym e) b)

module _ (σ : Image) (h : Header) (ts : List (List Change)) (s : ℕ) where
  pub body_one : (b c : List ℕ) → HasBody σ ts s b → HasBody σ ts s c → b ≡ c
  body_one b c x y = elim (last_record s ts) as (λ o. MatchOption o (σ s ≡ payload (home_bytes s b)) (λ d. b ≡ d) → MatchOption o (σ s ≡ payload (home_bytes s c)) (λ d. c ≡ d) → b ≡ c) [
    | None ↦ λ x y. home_body s b c (payload_one _ _ (sym x ∙ y))
    | (Some d) ↦ λ x y. x ∙ sym y
  ] x y

  pub page_one : (p q : Page) → IsPageAt σ h ts s p → IsPageAt σ h ts s q → p ≡ q
  page_one p q x y = body_same p q x.0.shaped y.0.shaped (body_one _ _ x.1 y.1)

-- two lists of one length with the same elements are one
pub list_one : {X : Type 0} (d : X) (xs ys : List X) → length xs ≡ length ys → ((i : ℕ) → i < length xs → slice_index_or xs i d ≡ slice_index_or ys i d) → xs ≡ ys
list_one d [] [] l e = refl
list_one d [] (y ∷ ys) l e = absurd (omega arith)
list_one d (x ∷ xs) [] l e = absurd (omega arith)
list_one d (x ∷ xs) (y ∷ ys) l e = let a = e 0 (omega arith) in let b = list_one d xs ys (omega arith) (λ i k. e (suc i) (omega arith)) in cc

pub heap_one : (H K : Heap) → H.transactions ≡ K.transactions → H.root ≡ K.root → H.pages ≡ K.pages → H ≡ K
heap_one H K e f g = ap (λ (x : ℕ). record { transactions = x; root = H.root; pages = H.pages }) e
    ∙ ap (λ (x : ℕ). record { transactions = K.transactions; root = x; pages = H.pages }) f
    ∙ ap (λ (x : List Page). record { transactions = K.transactions; root = K.root; pages = x }) g

-- the pages of a heap have their homes where the geometry says
pub page_inside : (n : ℕ) (σ : Image) (H : Heap) (a : Shows n σ H) (s : ℕ) → HasPage H s → IsPage a.header.geometry s
page_inside n σ H a s p = let z = a.read.header.valid.0.0 in (omega (arith, a.root), omega (arith, a.sectors))

pub inside_page : (n : ℕ) (σ : Image) (H : Heap) (a : Shows n σ H) (s : ℕ) → IsPage a.header.geometry s → HasPage H s
inside_page n σ H a s p = let z = a.read.header.valid.0.0 in (omega (arith, a.root), omega (arith, a.sectors))

module _ (n : ℕ) (σ : Image) where
  -- the image shows one heap at most
  pub shows_one : (H K : Heap) → Shows n σ H → Shows n σ K → H ≡ K
  shows_one H K a b =
      let e : a.header ≡ b.header = header_one n σ _ _ a.read.header b.read.header in
      let f : a.log ≡ b.log = log_one n σ _ _ _ _ e a.read.log b.read.log in
      let r : H.root ≡ K.root = a.root ∙ ap (λ (h : Header). root_of h.geometry) e ∙ sym b.root in
      heap_one H K
      (a.transactions ∙ cc (e, f) ∙ sym b.transactions) r
      (list_one free_page H.pages K.pages (omega (arith, a.sectors, b.sectors)) (λ i l.
      let s = H.root + i in
      let k : s - H.root ≡ i = omega arith in
      let m : s - K.root ≡ i = omega arith in
      let x = a.pages s (page_inside n σ H a s (omega arith, omega arith)) in
      let y = subst (λ (h : Header). IsPageAt σ h b.log s (page_of K s)) (sym e) (b.pages s (page_inside n σ K b s (omega arith, omega (arith, a.sectors, b.sectors)))) in
      let z = subst (λ (ts : List (List Change)). IsPageAt σ a.header ts s (page_of K s)) (sym f) y in
      let p : page_of H s ≡ page_of K s = page_one σ a.header a.log s _ _ x z in
      subst (λ (j : ℕ). slice_index_or H.pages j free_page ≡ slice_index_or K.pages i free_page) k (subst (λ (j : ℕ). slice_index_or H.pages (s - H.root) free_page ≡ slice_index_or K.pages j free_page) m p)))

-- the judgement, stage by stage: once the header and the log are read, and once the header is
abbrev OfPages : ℕ → Image → Header → List (List Change) → ImageRefusal → Type 0
OfPages n σ h ts r = ((s : ℕ) × FirstFault σ h ts s × ((IsTornHome σ ts s × (r ≡ Torn s)) ⊎ ((IsTornHome σ ts s → ⊥) × (r ≡ Unlawful s))))
    ⊎ ((H : Heap) × Shows n σ H × ((s : ℕ) × ((j : ℕ) × FirstDangling H s j × (r ≡ Dangling s j))))

abbrev OfLog : ℕ → Image → Header → ImageRefusal → Type 0
OfLog n σ h r = ((s : ℕ) × FirstLater σ h s × (r ≡ LaterEpoch s)) ⊎ ((ts : List (List Change)) × Reads n σ h ts × OfPages n σ h ts r)

abbrev Stages : ℕ → Image → ImageRefusal → Type 0
Stages n σ r = (((h : Header) → IsHeaderIn n σ h → ⊥) × (r ≡ NoHeader)) ⊎ ((h : Header) × IsHeaderOf n σ h × OfLog n σ h r)

staged : (n : ℕ) (σ : Image) (r : ImageRefusal) → Judged n σ r → Stages n σ r
staged n σ NoHeader j = inl (j, refl)
staged n σ (LaterEpoch s) (h, a, b) = inr (h, a, inl (s, b, refl))
staged n σ (Torn s) (h, (ts, a, b, c)) = inr (h, a.header, inr (ts, a, inl (s, b, inl (c, refl))))
staged n σ (Unlawful s) (h, (ts, a, b, c)) = inr (h, a.header, inr (ts, a, inl (s, b, inr (c, refl))))
staged n σ (Dangling s k) (H, a, b) = inr (a.header, a.read.header, inr (a.log, a.read, inr (H, a, (s, (k, b, refl)))))

-- the lowest number of which something holds is one
lowest_one : (P : ℕ → Type 0) (s t : ℕ) → P s → P t → ((u : ℕ) → u < s → P u → ⊥) → ((u : ℕ) → u < t → P u → ⊥) → s ≡ t
lowest_one P s t a b f g = elim (cases_order s t) [
  | inl e ↦ e
  | inr (inl l) ↦ absurd (g s l a)
  | inr (inr l) ↦ absurd (f t l b)
]

first_later : (σ : Image) (h : Header) (s t : ℕ) → FirstLater σ h s → FirstLater σ h t → s ≡ t
first_later σ h s t a b = lowest_one (λ u. InLog h.geometry u × IsLater h.epoch (σ u)) s t (a.inside, a.later) (b.inside, b.later)
    (λ u l x. a.before u x.0 l x.1) (λ u l x. b.before u x.0 l x.1)

first_fault : (σ : Image) (h : Header) (ts : List (List Change)) (s t : ℕ) → FirstFault σ h ts s → FirstFault σ h ts t → s ≡ t
first_fault σ h ts s t a b = lowest_one (λ u. IsPage h.geometry u × ((p : Page) → IsPageAt σ h ts u p → ⊥)) s t (a.page, a.fault) (b.page, b.fault)
    (λ u l x. let y = a.before u x.0 l in x.1 y.0 y.1) (λ u l x. let y = b.before u x.0 l in x.1 y.0 y.1)

first_dangling : (H : Heap) (s j t k : ℕ) → FirstDangling H s j → FirstDangling H t k → (s ≡ t) × (j ≡ k)
first_dangling H s j t k a b =
    let e : s ≡ t = lowest_one (λ u. HasPage H u × ((i : ℕ) × Dangles H u i)) s t (a.page, (j, a.dangles)) (b.page, (k, b.dangles))
    (λ u l x. a.pages_before u x.1.0 x.0 l x.1.1) (λ u l x. b.pages_before u x.1.0 x.0 l x.1.1) in
    let c = subst (λ (u : ℕ). FirstDangling H u k) (sym e) b in
    (e, lowest_one (λ i. Dangles H s i) j k a.dangles c.dangles a.before c.before)

-- the refusals of one stage, and of two
module _ (n : ℕ) (σ : Image) (h : Header) (ts : List (List Change)) where
  no_fault : (H : Heap) (a : Shows n σ H) (s : ℕ) → h ≡ a.header → ts ≡ a.log → FirstFault σ h ts s → ⊥
  no_fault H a s e f x =
      let y = subst (λ (g : Header). IsPage g.geometry s) e x.page in
      let z = subst (λ (g : Header). IsPageAt σ g a.log s (page_of H s)) (sym e) (a.pages s y) in
      x.fault (page_of H s) (subst (λ (us : List (List Change)). IsPageAt σ h us s (page_of H s)) (sym f) z)

  fault_one : (q r : ImageRefusal) (s t : ℕ) → s ≡ t
      → ((IsTornHome σ ts s × (q ≡ Torn s)) ⊎ ((IsTornHome σ ts s → ⊥) × (q ≡ Unlawful s)))
      → ((IsTornHome σ ts t × (r ≡ Torn t)) ⊎ ((IsTornHome σ ts t → ⊥) × (r ≡ Unlawful t))) → q ≡ r
  fault_one q r s t e (inl (a, f)) (inl (b, g)) = cc (e, f, g)
  fault_one q r s t e (inl (a, f)) (inr (b, g)) = absurd (b (subst (λ (u : ℕ). IsTornHome σ ts u) e a))
  fault_one q r s t e (inr (a, f)) (inl (b, g)) = absurd (a (subst (λ (u : ℕ). IsTornHome σ ts u) (sym e) b))
  fault_one q r s t e (inr (a, f)) (inr (b, g)) = cc (e, f, g)

  pages_one : (q r : ImageRefusal) → Reads n σ h ts → OfPages n σ h ts q → OfPages n σ h ts r → q ≡ r
  pages_one q r z (inl (s, a, x)) (inl (t, b, y)) = fault_one q r s t (first_fault σ h ts s t a b) x y
  pages_one q r z (inl (s, a, x)) (inr (H, b, y)) = absurd (no_fault H b s (header_one n σ _ _ z.header b.read.header) (log_one n σ _ _ _ _ (header_one n σ _ _ z.header b.read.header) z.log b.read.log) a)
  pages_one q r z (inr (H, a, x)) (inl (t, b, y)) = absurd (no_fault H a t (header_one n σ _ _ z.header a.read.header) (log_one n σ _ _ _ _ (header_one n σ _ _ z.header a.read.header) z.log a.read.log) b)
  pages_one q r z (inr (H, a, (s, (j, x, e)))) (inr (K, b, (t, (k, y, f)))) =
      let d = first_dangling K s j t k (subst (λ (L : Heap). FirstDangling L s j) (shows_one n σ H K a b) x) y in
      cc (d.0, d.1, e, f)

module _ (n : ℕ) (σ : Image) (h : Header) where
  later_or_none : (s : ℕ) → FirstLater σ h s → NoneLater σ h → ⊥
  later_or_none s a b = b s a.inside a.later

  of_log_one : (q r : ImageRefusal) → OfLog n σ h q → OfLog n σ h r → q ≡ r
  of_log_one q r (inl (s, a, e)) (inl (t, b, f)) = let d = first_later σ h s t a b in cc (d, e, f)
  of_log_one q r (inl (s, a, e)) (inr (us, b, y)) = absurd (later_or_none s a b.none_later)
  of_log_one q r (inr (ts, a, x)) (inl (t, b, f)) = absurd (later_or_none t b a.none_later)
  of_log_one q r (inr (ts, a, x)) (inr (us, b, y)) =
      pages_one n σ h ts q r a x (subst (λ (vs : List (List Change)). OfPages n σ h vs r) (one_log σ h us ts b.log a.log) y)

stages_one : (n : ℕ) (σ : Image) (q r : ImageRefusal) → Stages n σ q → Stages n σ r → q ≡ r
stages_one n σ q r (inl (a, e)) (inl (b, f)) = e ∙ sym f
stages_one n σ q r (inl (a, e)) (inr (h, b, y)) = absurd (a h b.valid)
stages_one n σ q r (inr (h, a, x)) (inl (b, f)) = absurd (b h a.valid)
stages_one n σ q r (inr (h, a, x)) (inr (g, b, y)) = of_log_one n σ h q r x (subst (λ (k : Header). OfLog n σ k r) (header_one n σ g h b a) y)

pub refusal_one : (n : ℕ) (σ : Image) (q r : ImageRefusal) → Judged n σ q → Judged n σ r → q ≡ r
refusal_one n σ q r a b = stages_one n σ q r (staged n σ q a) (staged n σ r b)

-- an image that holds a heap gets no refusal
not_staged : (n : ℕ) (σ : Image) (H : Heap) (r : ImageRefusal) → Holds n σ H → Stages n σ r → ⊥
not_staged n σ H r a (inl (b, e)) = b a.shows.header a.shows.read.header.valid
not_staged n σ H r a (inr (h, b, inl (s, x, e))) =
    later_or_none n σ a.shows.header s (subst (λ (g : Header). FirstLater σ g s) (header_one n σ _ _ b a.shows.read.header) x) a.shows.read.none_later
not_staged n σ H r a (inr (h, b, inr (ts, x, inl (s, f, y)))) =
    let e = header_one n σ _ _ b a.shows.read.header in
    no_fault n σ h ts H a.shows s e (log_one n σ _ _ _ _ e x.log a.shows.read.log) f
not_staged n σ H r a (inr (h, b, inr (ts, x, inr (K, c, (s, (j, d, e)))))) =
    let q = subst (λ (L : Heap). FirstDangling L s j) (shows_one n σ K H c a.shows) d in
    a.none_dangles s j q.page q.dangles

pub not_both : (n : ℕ) (σ : Image) (H : Heap) (r : ImageRefusal) → Holds n σ H → Judged n σ r → ⊥
not_both n σ H r a b = not_staged n σ H r a (staged n σ r b)

pub heap_held : (n : ℕ) (σ : Image) (H K : Heap) → Holds n σ H → Holds n σ K → H ≡ K
heap_held n σ H K a b = shows_one n σ H K a.shows b.shows
