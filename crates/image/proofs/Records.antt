-- The last committed record for a page, by the homes of a log's records.
-- Assumes nothing.
use Rattle.std.proofs.Common.{◌≡◌, ◌≢◌, ℕ, zero, suc, ◌+◌, ◌-◌, ◌<◌, ◌≤◌, List, [], ◌∷◌, ◌++◌, length, Some, None, Option, sym, refl, ap, ◌∙◌, subst, inl, inr, arith}
use Rattle.std.specs.Prelude.{slice_index_or}
use Rattle.std.proofs.lemmas.List.{get_or_append_left, get_or-append-add, get_or_at, length-append, length-map}
use Rattle.std.proofs.lemmas.Bool.{cases_lt, eq-eqb, ne_eqb}
use Rattle.device.specs.Sector.{payload, Image}
use Rattle.layout.specs.declared.header.Header.{Header}
use Rattle.layout.specs.Records.{page_record_bytes}
use Rattle.image.specs.Logs.{In, Change, change_at, span, next_number, Good, Run, last_in, last_record}
use Rattle.image.specs.Stages.{homes_in, homes_of}
use Rattle.image.proofs.Taking.{length-homes_of}

some_one : {a b : ℕ} → Some a ≡ Some b → a ≡ b
some_one e = cc

none_some : {a : ℕ} → ◌≡◌ {A = Option ℕ} None (Some a) → ⊥
none_some e = cc

-- of a transaction
pub none_in : (s : ℕ) (t : List Change) → ((j : ℕ) → j < length t → (change_at t j).home ≢ s) → last_in s t ≡ None
unfolding last_in
none_in s [] h = refl
none_in s (c ∷ t) h = let i = none_in s t (λ j l. h (suc j) (omega arith)) in let e = ne_eqb c.home s (h 0 (omega arith)) in rw (i, e) refl

pub last_is : (s : ℕ) (t : List Change) (j : ℕ) → j < length t → (change_at t j).home ≡ s → ((k : ℕ) → j < k → k < length t → (change_at t k).home ≢ s)
    → last_in s t ≡ Some (change_at t j).body
unfolding last_in
last_is s [] j l e after = absurd (omega arith)
last_is s (c ∷ t) zero l e after =
    let i = none_in s t (λ k m. after (suc k) (omega arith) (omega arith)) in let q = eq-eqb c.home s e in rw (i, q) refl
last_is s (c ∷ t) (suc j) l e after = let i = last_is s t j (omega arith) e (λ k m o. after (suc k) (omega arith) (omega arith)) in rw i refl

home_in : (t : List Change) (j : ℕ) → j < length t → slice_index_or (homes_in t) j None ≡ Some (change_at t j).home
home_in [] j l = absurd (omega arith)
home_in (c ∷ t) zero l = refl
home_in (c ∷ t) (suc j) l = home_in t j (omega arith)

-- where the homes of a log stand
module _ (t : List Change) (ts : List (List Change)) where
  in_earlier : (i : ℕ) → i < span ts → slice_index_or (homes_of (t ∷ ts)) i None ≡ slice_index_or (homes_of ts) i None
  in_earlier i l =
      get_or_append_left (homes_of ts ++ homes_in t) (None ∷ []) None i (omega (arith, length-append (homes_of ts) (homes_in t), length-homes_of ts))
      ∙ get_or_append_left (homes_of ts) (homes_in t) None i (omega (arith, length-homes_of ts))

  in_last : (j : ℕ) → j < length t → slice_index_or (homes_of (t ∷ ts)) (span ts + j) None ≡ Some (change_at t j).home
  in_last j l =
      let m : length (homes_in t) ≡ length t = length-map t (λ (c : Change). Some c.home) in
      let e : length (homes_of ts) ≡ span ts = length-homes_of ts in
      get_or_append_left (homes_of ts ++ homes_in t) (None ∷ []) None (span ts + j) (omega (arith, length-append (homes_of ts) (homes_in t)))
      ∙ ap (λ (i : ℕ). slice_index_or (homes_of ts ++ homes_in t) (i + j) None) (sym e)
      ∙ get_or-append-add (homes_of ts) (homes_in t) j None ∙ home_in t j l

  at_end : slice_index_or (homes_of (t ∷ ts)) (span ts + length t) None ≡ None
  at_end =
      let m : length (homes_in t) ≡ length t = length-map t (λ (c : Change). Some c.home) in
      get_or_at (homes_of ts ++ homes_in t) None [] None (span ts + length t) (omega (arith, length-append (homes_of ts) (homes_in t), length-homes_of ts))

module _ (σ : Image) (h : Header) (s : ℕ) where
  -- no record for the page among the committed ones
  pub no_record_of : (ts : List (List Change)) → ((i : ℕ) → i < span ts → slice_index_or (homes_of ts) i None ≢ Some s) → last_record s ts ≡ None
  unfolding last_record
  no_record_of [] a = refl
  no_record_of (t ∷ ts) a =
      let x = none_in s t (λ j l e. a (span ts + j) (omega arith) (in_last t ts j l ∙ ap Some e)) in
      let y = no_record_of ts (λ i l e. a i (omega arith) (in_earlier t ts i l ∙ e)) in
      rw (x, y) refl

  -- the last record for the page is the one at position i
  abbrev pub IsRecordAt : ℕ → List (List Change) → Type 0
  IsRecordAt i ts = (b : List ℕ) × (last_record s ts ≡ Some b) × (σ (2 + i) ≡ payload (page_record_bytes h.epoch i s b))

  in_newest : (t : List Change) (ts : List (List Change)) → Good (In σ) h (span ts) (next_number h ts) t → (i : ℕ) → span ts ≤ i → i < span (t ∷ ts)
      → slice_index_or (homes_of (t ∷ ts)) i None ≡ Some s → ((k : ℕ) → i < k → k < span (t ∷ ts) → slice_index_or (homes_of (t ∷ ts)) k None ≢ Some s) → IsRecordAt i (t ∷ ts)
  unfolding last_record
  in_newest t ts g i m l e after =
      let j = i - span ts in
      let q : span ts + j ≡ i = omega arith in
      elim (cases_lt j (length t)) [
        | inl n ↦
            let here : (change_at t j).home ≡ s = some_one (sym (in_last t ts j n) ∙ ap (λ (k : ℕ). slice_index_or (homes_of (t ∷ ts)) k None) q ∙ e) in
            let x = last_is s t j n here (λ k a b f. after (span ts + k) (omega arith) (omega arith) (in_last t ts k b ∙ ap Some f)) in
            let y = subst (λ (k : ℕ). σ (2 + k) ≡ payload (page_record_bytes h.epoch k (change_at t j).home (change_at t j).body)) q (g.pages j n) in
            ((change_at t j).body, rw x refl, subst (λ (k : ℕ). σ (2 + i) ≡ payload (page_record_bytes h.epoch i k (change_at t j).body)) here y)
        | inr n ↦
            let z : span ts + length t ≡ i = omega arith in
            absurd (none_some (sym (at_end t ts) ∙ ap (λ (k : ℕ). slice_index_or (homes_of (t ∷ ts)) k None) z ∙ e))
      ]

  pub record_at : (ts : List (List Change)) → Run (In σ) h ts → (i : ℕ) → i < span ts → slice_index_or (homes_of ts) i None ≡ Some s
      → ((k : ℕ) → i < k → k < span ts → slice_index_or (homes_of ts) k None ≢ Some s) → IsRecordAt i ts
  unfolding last_record
  record_at [] r i l e after = absurd (omega arith)
  record_at (t ∷ ts) (r, g) i l e after = elim (cases_lt i (span ts)) [
    | inl m ↦
        let x = none_in s t (λ j n f. after (span ts + j) (omega arith) (omega arith) (in_last t ts j n ∙ ap Some f)) in
        let y = record_at ts r i m (sym (in_earlier t ts i m) ∙ e) (λ k n o f. after k n (omega arith) (in_earlier t ts k o ∙ f)) in
        (y.0, rw x y.1, y.2)
    | inr m ↦ in_newest t ts g i m l e after
  ]
