-- Which body a page has: that of the last record that the log has for it, or else its home's.
-- Assumes nothing.
use Rattle.std.proofs.Common.{◌≡◌, ◌≢◌, ℕ, zero, suc, ◌+◌, ◌<◌, ◌≤◌, ◌⊎◌, ◌==◌, Bool, true, false, List, [], ◌∷◌, length, drop, Some, None, Option, MatchOption, sym, refl, ap, ◌∙◌, subst, inl, inr, arith}
use Rattle.std.specs.Prelude.{slice_index_or, IsTrue, ◌↔◌, IfSome}
use Rattle.std.proofs.lemmas.Bool.{both_ways, eq-eqb, ne_eqb}
use Rattle.device.specs.Sector.{Content, payload, torn, Image, IsPayload}
use Rattle.layout.specs.declared.page.Page.{Page}
use Rattle.layout.specs.Geometries.{root_of, IsPage}
use Rattle.layout.specs.Pages.{Lawful}
use Rattle.layout.specs.Bodies.{body_bytes}
use Rattle.layout.specs.Homes.{home_bytes}
use Rattle.layout.proofs.Homes.{body-home_bytes}
use Rattle.layout.proofs.Records.{body-page_record_bytes}
use Rattle.image.specs.declared.refusal.ImageRefusal.{ImageRefusal}
use Rattle.image.specs.declared.refusal.ImageRefusal.TheVariants.{Torn, Unlawful}
use Rattle.image.specs.declared.log.LogRead.{LogRead}
use Rattle.image.specs.Logs.{Change, span, last_record}
use Rattle.image.specs.Images.{HasBody, IsTornHome}
use Rattle.image.specs.Stages.{committed_homes, home_at, homes_of, IsRecordFor, is_home, place_behind, last_place, sector_for, body_sector, IsBodyRead, IsPageFault, IsReadOf, IsFaultOf, NoHome, FindsBody, FindsNoBody, FindsPage, FindsNoPage}
use Rattle.image.proofs.Readings.{payload_one, span_inside}
use Rattle.image.proofs.Records.{no_record_of, IsRecordAt, record_at}
use Rattle.image.proofs.Single.{body_one}
use Rattle.image.proofs.Taking.{length-homes_of}

-- the last place of a list at which a home stands, by what stands at each place
not_at : (s : ℕ) (o : Option ℕ) → o ≢ Some s → is_home s o ≡ false
not_at s None h = refl
not_at s (Some t) h = ne_eqb t s (λ e. h (ap Some e))

is_at : (s : ℕ) (o : Option ℕ) → o ≡ Some s → is_home s o ≡ true
is_at s o e = subst (λ (p : Option ℕ). is_home s p ≡ true) (sym e) (eq-eqb s s refl)

last_none : (s : ℕ) (os : List (Option ℕ)) → ((i : ℕ) → i < length os → slice_index_or os i None ≢ Some s) → last_place s os ≡ None
last_none s [] h = refl
last_none s (o ∷ os) h =
    let e = last_none s os (λ i l. h (suc i) (omega arith)) in let b = not_at s o (h 0 (omega arith)) in rw (e, b) refl

last_some : (s : ℕ) (os : List (Option ℕ)) (i : ℕ) → i < length os → slice_index_or os i None ≡ Some s
    → ((k : ℕ) → i < k → k < length os → slice_index_or os k None ≢ Some s) → last_place s os ≡ Some i
last_some s [] i l e after = absurd (omega arith)
last_some s (o ∷ os) zero l e after =
    let n = last_none s os (λ k m. after (suc k) (omega arith) (omega arith)) in let b = is_at s o e in rw (n, b) refl
last_some s (o ∷ os) (suc i) l e after =
    let n = last_some s os i (omega arith) e (λ k m z. after (suc k) (omega arith) (omega arith)) in rw n refl

pub record_is : (x : LogRead) (s : ℕ) (o : Option ℕ) → IsRecordFor x s o → last_place s (committed_homes x) ≡ o
record_is x s None h = last_none s (committed_homes x) h
record_is x s (Some i) h = last_some s (committed_homes x) i h.0 h.1 h.2

no_place : {i : ℕ} → ◌≡◌ {A = Option ℕ} (Some i) None → ⊥
no_place e = cc

one_place : {i k : ℕ} → Some i ≡ Some k → i ≡ k
one_place e = cc

-- that place is one of the list's
behind_inside : (o : Option ℕ) (b : Bool) (m i : ℕ) → ((k : ℕ) → o ≡ Some k → k < m) → place_behind o b ≡ Some i → i < suc m
behind_inside (Some k) b m i h e = let l = h k refl in let q : suc k ≡ i = one_place e in omega arith
behind_inside None true m i h e = let q : 0 ≡ i = one_place e in omega arith
behind_inside None false m i h e = absurd (no_place (sym e))

place_inside : (s : ℕ) (os : List (Option ℕ)) (i : ℕ) → last_place s os ≡ Some i → i < length os
place_inside s [] i e = absurd (no_place (sym e))
place_inside s (o ∷ os) i e = behind_inside (last_place s os) (is_home s o) (length os) i (place_inside s os) e

no_some : {p : Page} → ◌≡◌ {A = Option Page} None (Some p) → ⊥
no_some e = cc

not_torn : {b : List ℕ} {c : Content} → c ≡ payload b → c ≡ torn → ⊥
not_torn e f = cc

module _ (n : ℕ) (σ : Image) (x : LogRead) (r : IsReadOf n σ x) (s : ℕ) where
  long : length (committed_homes x) ≡ span r.log
  long = ap length r.has.homes ∙ length-homes_of r.log

  same_home : (i : ℕ) → home_at x i ≡ slice_index_or (homes_of r.log) i None
  same_home i = ap (λ (os : List (Option ℕ)). slice_index_or os i None) r.has.homes

  covers : (i : ℕ) → IsRecordFor x s (Some i) → IsRecordAt σ x.header s i r.log
  covers i (l, e, after) = record_at σ x.header s r.log r.reads.log.run i (omega (arith, long)) (sym (same_home i) ∙ e)
      (λ k a b f. after k a (omega (arith, long)) (same_home k ∙ f))

  uncovered : IsRecordFor x s None → last_record s r.log ≡ None
  uncovered none = no_record_of σ x.header s r.log (λ i l e. none i (omega (arith, long)) (same_home i ∙ e))

  pub covered_body : (i : ℕ) (b : List ℕ) → IsRecordFor x s (Some i) → σ (2 + i) ≡ payload b → HasBody σ r.log s (drop 12 b)
  covered_body i b a e = let c = covers i a in
      rw c.1 (ap (λ (bs : List ℕ). drop 12 bs) (payload_one _ _ (sym e ∙ c.2)) ∙ body-page_record_bytes _ _ _ _)

  pub covered_read : (i : ℕ) → IsRecordFor x s (Some i) → (n ≤ 2 + i) ⊎ (σ (2 + i) ≡ torn) → ⊥
  covered_read i a (inl l) =
      let g = x.header.geometry.room in
      let z : x.header.geometry.sectors ≡ n = r.reads.header.valid.0.0 in
      omega (arith, a.0, long, span_inside σ x.header r.log r.reads.log.run)
  covered_read i a (inr e) = let c = covers i a in not_torn c.2 e

  pub home_body : (b : List ℕ) → IsRecordFor x s None → σ s ≡ payload b → home_bytes s (drop 12 b) ≡ b → HasBody σ r.log s (drop 12 b)
  home_body b a e f = rw (uncovered a) (e ∙ ap payload (sym f))

  pub no_home : (q : ImageRefusal) → IsRecordFor x s None → NoHome σ s q → ((body : List ℕ) → HasBody σ r.log s body → ⊥) × IsFaultOf σ r.log s q
  no_home q a (inl (e, f)) = (λ body h. let h' = rw (uncovered a) at h in not_torn h' f, inl (e, (uncovered a, f)))
  no_home q a (inr (e, (b, f, g))) =
      (λ body h. let h' = rw (uncovered a) at h in g body (payload_one _ _ (sym h' ∙ f)), inr (e, λ t. not_torn f t.1))

-- the sector in which a body stands is one of the card's
pub body_inside : (n : ℕ) (σ : Image) (x : LogRead) → IsReadOf n σ x → (s : ℕ) → IsPage x.header.geometry s → body_sector x s < n
body_inside n σ x r s i = inside (last_place s (committed_homes x)) refl
  where
    inside : (o : Option ℕ) → last_place s (committed_homes x) ≡ o → sector_for s o < n
    inside None e = let z : x.header.geometry.sectors ≡ n = r.reads.header.valid.0.0 in omega arith
    inside (Some k) e =
        let z : x.header.geometry.sectors ≡ n = r.reads.header.valid.0.0 in
        let g = x.header.geometry.room in
        omega (arith, place_inside s (committed_homes x) k e, long n σ x r s, span_inside σ x.header r.log r.reads.log.run)

not_home : (a : Bool) (s : ℕ) (b : List ℕ) → IsTrue a ↔ (home_bytes s (drop 12 b) ≡ b) → a ≡ false → (body : List ℕ) → home_bytes s body ≡ b → ⊥
not_home a s b t f body e =
    let d : drop 12 b ≡ body = ap (λ (bs : List ℕ). drop 12 bs) (sym e) ∙ body-home_bytes s body in
    both_ways a f (t.1 (ap (λ (bs : List ℕ). home_bytes s bs) d ∙ e))

-- a sector that can be read is a home that is not this sector's
pub wrong_home : (σ : Image) (s : ℕ) (b : List ℕ) (a : Bool) → σ s ≡ payload b → IsTrue a ↔ (home_bytes s (drop 12 b) ≡ b) → a ≡ false → NoHome σ s (Unlawful s)
wrong_home σ s b a e t f = inr (refl, (b, e, not_home a s b t f))

module _ (n : ℕ) (σ : Image) (x : LogRead) (s : ℕ) where
  -- what a read at the last record's sector finds
  pub covered_finds : (i : ℕ) (o : Option (List ℕ)) → IsRecordFor x s (Some i)
      → MatchOption o ((n ≤ 2 + i) ⊎ (σ (2 + i) ≡ torn)) (λ b. (2 + i < n) × (σ (2 + i) ≡ payload b) × IsPayload b)
      → MatchOption o (IsPageFault s (Torn s) × FindsNoBody n σ x s (Torn s)) (λ b. IsBodyRead σ x s b × FindsBody n σ x s (drop 12 b))
  covered_finds i None a y = (inl refl, λ r l. absurd (covered_read n σ x r s i a y))
  covered_finds i (Some b) a y =
      let z = record_is x s (Some i) a in
      ((subst (λ (o : Option ℕ). σ (sector_for s o) ≡ payload b) (sym z) y.1, λ e. absurd (no_place (sym z ∙ e))), λ r l. covered_body n σ x r s i b a y.1)

  -- what the home's sector has, where there is no record
  pub home_finds : (b : List ℕ) → IsRecordFor x s None → (σ s ≡ payload b) × (home_bytes s (drop 12 b) ≡ b)
      → IsBodyRead σ x s b × FindsBody n σ x s (drop 12 b)
  home_finds b a y =
      let z = record_is x s None a in
      ((subst (λ (o : Option ℕ). σ (sector_for s o) ≡ payload b) (sym z) y.0, λ e. y.1), λ r l. home_body n σ x r s b a y.0 y.1)

  pub no_home_finds : (q : ImageRefusal) → IsRecordFor x s None → (s < n → NoHome σ s q) → FindsNoBody n σ x s q
  no_home_finds q a y = λ r l. let z : x.header.geometry.sectors ≡ n = r.reads.header.valid.0.0 in no_home n σ x r s q a (y (omega (arith, l.1)))

  read_not_torn : (ts : List (List Change)) (b : List ℕ) → HasBody σ ts s b → IsTornHome σ ts s → ⊥
  read_not_torn ts b h t = let h' = rw t.0 at h in not_torn h' t.1

  pub page_finds : (root : Bool) (body : List ℕ) (o : Option Page) → root ≡ (s == root_of x.header.geometry)
      → IfSome o (λ p. Lawful root p × (body_bytes p ≡ body)) → ((p : Page) → Lawful root p → body_bytes p ≡ body → o ≡ Some p) → FindsBody n σ x s body
      → MatchOption o (IsPageFault s (Unlawful s) × FindsNoPage n σ x s (Unlawful s)) (FindsPage n σ x s)
  page_finds root body None e found only y = (
    inr refl,
    λ r l. let h = y r l in
        (λ p w. no_some (only p (subst (λ (a : Bool). Lawful a p) (sym e) w.0) (body_one σ x.header r.log s (body_bytes p) body w.1 h)), inr (refl, read_not_torn r.log body h)),
  )
  page_finds root body (Some p) e found only y = λ r l.
      (subst (λ (a : Bool). Lawful a p) e found.0, subst (λ (b : List ℕ). HasBody σ r.log s b) (sym found.1) (y r l))
