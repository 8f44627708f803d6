-- The log's meaning and its reading sector by sector come to the same.
-- Assumes nothing.
use Rattle.std.proofs.Common.{◌≡◌, ℕ, zero, suc, ◌+◌, ◌^◌, ◌<◌, ◌≤◌, List, [], ◌∷◌, ◌++◌, length, take, sym, refl, ap, ◌∙◌, subst, inl, inr, arith}
use Rattle.std.proofs.lemmas.List.{get_or_append_left, get_or_push, length_push}
use Rattle.std.proofs.Math.Seq.{take-length, take-suc}
use Rattle.std.proofs.lemmas.Bool.{cases_lt, cases_eq, cases_order}
use Rattle.device.specs.Sector.{payload, Image}
use Rattle.layout.specs.declared.header.Header.{Header}
use Rattle.layout.specs.Geometries.{IsPage}
use Rattle.layout.specs.Records.{page_record_bytes, commit_record_bytes, most_records}
use Rattle.image.specs.Logs.{In, Change, change_at, span, Good, next_number, Run, Ended, IsLog}
use Rattle.image.specs.Reading.{IsPageRecordAt, CommitsAt, Reading, Ends, whole_log, torn_sector, no_record, other_epoch, other_position, wrong_count, wrong_number, ReadsTo}
use Rattle.image.proofs.Apart.{page_position, page_epoch, page_home, page_body, commit_position, commit_epoch, commit_count, commit_number}
use Rattle.layout.proofs.Records.{page_is_no_commit}

pub payload_one : (a b : List ℕ) → payload a ≡ payload b → a ≡ b
payload_one a b e = cc

pub one_change : (c d : Change) → c.home ≡ d.home → c.body ≡ d.body → c ≡ d
one_change c d e f = ap (λ (x : ℕ). record { home = x; body = c.body }) e ∙ ap (λ (y : List ℕ). record { home = d.home; body = y }) f

module _ (σ : Image) (h : Header) where
  -- what has been read, as it stands
  pub record ReadSoFar (p : ℕ) (ts : List (List Change)) (t : List Change) : Type 0 where
    pub at : p ≡ span ts + length t
    pub within : p ≤ h.geometry.log
    pub run : Run (In σ) h ts
    pub homes : (i : ℕ) → i < length t → IsPage h.geometry (change_at t i).home
    pub pages : (i : ℕ) → i < length t → σ (2 + (span ts + i)) ≡ payload (page_record_bytes h.epoch (span ts + i) (change_at t i).home (change_at t i).body)

  good_from : (p : ℕ) (us : List (List Change)) (u : List Change) → ReadSoFar p us u → p < h.geometry.log → CommitsAt σ h p us u → Good (In σ) h (span us) (next_number h us) u
  good_from p us u r l c = record {
    fits = omega arith;
    few = c.0;
    number = c.1;
    homes = r.homes;
    pages = r.pages;
    commit = subst (λ (q : ℕ). σ (2 + q) ≡ payload (commit_record_bytes h.epoch q (length u) (next_number h us))) r.at c.2;
  }

  -- one more page record
  one_more : (p : ℕ) (ts : List (List Change)) (u : List Change) (c : Change) → ReadSoFar p ts u → p < h.geometry.log → IsPageRecordAt σ h p c → ReadSoFar (suc p) ts (u ++ c ∷ [])
  one_more p ts u c r l a =
      let e : length (u ++ c ∷ []) ≡ suc (length u) = omega (arith, length_push u c) in
      let last : change_at (u ++ c ∷ []) (length u) ≡ c = get_or_push u c _ (length u) refl in
      let early : (i : ℕ) → i < length u → change_at (u ++ c ∷ []) i ≡ change_at u i = λ i k. get_or_append_left u (c ∷ []) _ i k in
      record {
        at = omega (arith, r.at);
        within = omega arith;
        run = r.run;
        homes = λ i k. elim (cases_lt i (length u)) [
          | inl m ↦ subst (λ (x : Change). IsPage h.geometry x.home) (sym (early i m)) (r.homes i m)
          | inr m ↦ let q : length u ≡ i = omega arith in
              subst (λ (x : Change). IsPage h.geometry x.home) (sym (ap (λ (j : ℕ). change_at (u ++ c ∷ []) j) (sym q) ∙ last)) a.0
        ];
        pages = λ i k. elim (cases_lt i (length u)) [
          | inl m ↦ subst (λ (x : Change). σ (2 + (span ts + i)) ≡ payload (page_record_bytes h.epoch (span ts + i) x.home x.body)) (sym (early i m)) (r.pages i m)
          | inr m ↦ let q : length u ≡ i = omega arith in
              let z : p ≡ span ts + i = omega (arith, r.at) in
              subst (λ (x : Change). σ (2 + (span ts + i)) ≡ payload (page_record_bytes h.epoch (span ts + i) x.home x.body))
              (sym (ap (λ (j : ℕ). change_at (u ++ c ∷ []) j) (sym q) ∙ last))
              (subst (λ (y : ℕ). σ (2 + y) ≡ payload (page_record_bytes h.epoch y c.home c.body)) z a.1)
        ];
      }

  pub read_so_far : (p : ℕ) (ts : List (List Change)) (t : List Change) → Reading σ h p ts t → ReadSoFar p ts t
  read_so_far zero ts t (es, e) = rw (es, e) (record { at = refl; within = omega arith; run = tt; homes = λ i k. absurd (omega arith); pages = λ i k. absurd (omega arith) })
  read_so_far (suc p) ts t (l, inl (u, (c, r, at, e))) = rw e (one_more p ts u c (read_so_far p ts u r) l at)
  read_so_far (suc p) ts t (l, inr (us, (u, r, at, es, e))) =
      let s = read_so_far p us u r in
      rw (es, e) (record {
        at = omega (arith, s.at);
        within = omega arith;
        run = (s.run, good_from p us u s l at);
        homes = λ i k. absurd (omega arith);
        pages = λ i k. absurd (omega arith);
      })

  -- the sector at a position that was read cannot be read in two ways
  bounds : (p : ℕ) → p < h.geometry.log → p < 2 ^ 16
  bounds p l = let k = h.geometry.most_log in omega arith

  same_change : (p : ℕ) (c d : Change) → p < h.geometry.log → IsPageRecordAt σ h p c → IsPageRecordAt σ h p d → c ≡ d
  same_change p c d l x y =
      let m = h.geometry.most in
      let e = payload_one _ _ (sym x.1 ∙ y.1) in
      one_change c d (page_home _ _ _ _ _ _ _ _ e (omega (arith, x.0.1)) (omega (arith, y.0.1))) (page_body _ _ _ _ _ _ _ _ e)

  not_both : (p n k : ℕ) (c : Change) → IsPageRecordAt σ h p c → σ (2 + p) ≡ payload (commit_record_bytes h.epoch p n k) → ⊥
  not_both p n k c x y = page_is_no_commit h.epoch p c.home h.epoch p n k c.body (payload_one _ _ (sym x.1 ∙ y))

  -- reading up to a position gives one outcome
  pub one_reading : (p : ℕ) (ts us : List (List Change)) (t u : List Change) → Reading σ h p ts t → Reading σ h p us u → (ts ≡ us) × (t ≡ u)
  one_reading zero ts us t u r s = (r.0 ∙ sym s.0, r.1 ∙ sym s.1)
  one_reading (suc p) ts us t u (l, inl (t', (c, r, x, e))) (m, inl (u', (d, s, y, f))) =
      let i = one_reading p ts us t' u' r s in
      let j = same_change p c d l x y in
      (i.0, e ∙ cc (i.1, j) ∙ sym f)
  one_reading (suc p) ts us t u (l, inl (t', (c, r, x, e))) (m, inr (us', (u', s, y, fs, f))) = absurd (not_both p _ _ c x y.2)
  one_reading (suc p) ts us t u (l, inr (ts', (t', r, x, es, e))) (m, inl (u', (d, s, y, f))) = absurd (not_both p _ _ d y x.2)
  one_reading (suc p) ts us t u (l, inr (ts', (t', r, x, es, e))) (m, inr (us', (u', s, y, fs, f))) =
      let i = one_reading p ts' us' t' u' r s in
      (es ∙ cc (i.0, i.1) ∙ sym fs, e ∙ sym f)

  -- a run is read: up to each of its transactions' page records, and up to its end
  run_page : (ts : List (List Change)) (t : List Change) (k : ℕ) → Good (In σ) h (span ts) k t → Reading σ h (span ts) ts [] → (i : ℕ) → i ≤ length t
      → Reading σ h (span ts + i) ts (take i t)
  run_page ts t k g r zero l = let e : span ts ≡ span ts + 0 = omega arith in subst (λ (q : ℕ). Reading σ h q ts []) e r
  run_page ts t k g r (suc i) l =
      let e : suc (span ts + i) ≡ span ts + suc i = omega arith in
      let m : i < length t = omega arith in
      let f : take i t ++ change_at t i ∷ [] ≡ take (suc i) t = sym (take-suc t i _ m) in
      subst (λ (q : ℕ). Reading σ h q ts (take (suc i) t)) e
      (omega (arith, g.fits), inl (take i t, (change_at t i, run_page ts t k g r i (omega arith), (g.homes i m, g.pages i m), sym f)))

  pub run_reading : (ts : List (List Change)) → Run (In σ) h ts → Reading σ h (span ts) ts []
  run_reading [] r = (refl, refl)
  run_reading (t ∷ ts) (r, g) =
      let e : suc (span ts + length t) ≡ span ts + (length t + 1) = omega arith in
      let all : Reading σ h (span ts + length t) ts t = subst (λ (u : List Change). Reading σ h (span ts + length t) ts u) (take-length t) (run_page ts t _ g (run_reading ts r) (length t) (omega arith)) in
      subst (λ (q : ℕ). Reading σ h q (t ∷ ts) []) e (g.fits, inr (ts, (t, all, (g.few, g.number, g.commit), refl, refl)))

  at_end : (ts : List (List Change)) → IsLog (In σ) h ts → (p : ℕ) (us : List (List Change)) (u : List Change) → span ts ≡ p → Reading σ h p us u → us ≡ ts
  at_end ts log p us u e r = (one_reading p us ts u [] r (subst (λ (q : ℕ). Reading σ h q ts []) e (run_reading ts log.run))).0

  later : (ts : List (List Change)) → IsLog (In σ) h ts → (p : ℕ) → ((vs : List (List Change)) (v : List Change) → Reading σ h p vs v → vs ≡ ts)
      → (us : List (List Change)) (u : List Change) → Reading σ h (suc p) us u → us ≡ ts
  later ts log p same us u (m, inl (v, (c, r, x, e))) = same us v r
  later ts log p same us u (m, inr (vs, (v, r, x, es, e))) =
      let g = good_from p vs v (read_so_far p vs v r) m x in
      absurd (log.ended v (subst (λ (ws : List (List Change)). Good (In σ) h (span ws) (next_number h ws) v) (same vs v r) g))

  -- what is read behind the last good transaction commits nothing
  pub no_more : (ts : List (List Change)) → IsLog (In σ) h ts → (p : ℕ) (us : List (List Change)) (u : List Change) → span ts ≤ p → Reading σ h p us u → us ≡ ts
  no_more ts log zero us u l r = at_end ts log zero us u (omega arith) r
  no_more ts log (suc p) us u l r = elim (cases_eq (span ts) (suc p)) [
    | inl e ↦ at_end ts log (suc p) us u e r
    | inr ne ↦ later ts log p (λ vs v s. no_more ts log p vs v (omega arith) s) us u r
  ]

  pub one_log : (ts us : List (List Change)) → IsLog (In σ) h ts → IsLog (In σ) h us → ts ≡ us
  one_log ts us a b = elim (cases_lt (span ts) (span us)) [
    | inl l ↦ sym (no_more ts a (span us) us [] (omega arith) (run_reading us b.run))
    | inr l ↦ no_more us b (span ts) ts [] l (run_reading ts a.run)
  ]

  -- where reading ends stands no page record that could be read, and no commit record
  no_page_end : (p : ℕ) (ts : List (List Change)) (t : List Change) (c : Change) → p < h.geometry.log → IsPageRecordAt σ h p c → Ends σ h p ts t → ⊥
  no_page_end p ts t c l x (whole_log e) = omega arith
  no_page_end p ts t c l x (torn_sector e) = cc (x.1, e)
  no_page_end p ts t c l x (no_record b e n) = n.no_page h.epoch p c.home c.body x.0 (payload_one _ _ (sym x.1 ∙ e))
  no_page_end p ts t c l x (other_epoch b e q f (g, k, inl (s, (y, z))) ne) = ne (sym (page_epoch _ _ _ _ _ _ _ _ (payload_one _ _ (sym x.1 ∙ f) ∙ z) h.epoch_bits g))
  no_page_end p ts t c l x (other_epoch b e q f (g, k, inr (n, (m, z))) ne) = page_is_no_commit _ _ _ _ _ _ _ _ (payload_one _ _ (sym x.1 ∙ f) ∙ z)
  no_page_end p ts t c l x (other_position b e q f (g, k, inl (s, (y, z))) ne) = ne (sym (page_position _ _ _ _ _ _ _ _ (payload_one _ _ (sym x.1 ∙ f) ∙ z) (bounds p l) k))
  no_page_end p ts t c l x (other_position b e q f (g, k, inr (n, (m, z))) ne) = page_is_no_commit _ _ _ _ _ _ _ _ (payload_one _ _ (sym x.1 ∙ f) ∙ z)
  no_page_end p ts t c l x (wrong_count n k b f ne) = not_both p n k c x f
  no_page_end p ts t c l x (wrong_number n k b f ne) = not_both p n k c x f

  no_commit_end : (p : ℕ) (ts : List (List Change)) (t : List Change) → p < h.geometry.log → CommitsAt σ h p ts t → Ends σ h p ts t → ⊥
  no_commit_end p ts t l x (whole_log e) = omega arith
  no_commit_end p ts t l x (torn_sector e) = cc (x.2, e)
  no_commit_end p ts t l x (no_record b e n) = n.no_commit h.epoch p (length t) (next_number h ts) x.0 (payload_one _ _ (sym x.2 ∙ e))
  no_commit_end p ts t l x (other_epoch b e q f (g, k, inl (s, (y, z))) ne) = page_is_no_commit _ _ _ _ _ _ _ _ (sym z ∙ payload_one _ _ (sym f ∙ x.2))
  no_commit_end p ts t l x (other_epoch b e q f (g, k, inr (n, (m, z))) ne) = ne (sym (commit_epoch _ _ _ _ _ _ _ _ (payload_one _ _ (sym x.2 ∙ f) ∙ z) h.epoch_bits g))
  no_commit_end p ts t l x (other_position b e q f (g, k, inl (s, (y, z))) ne) = page_is_no_commit _ _ _ _ _ _ _ _ (sym z ∙ payload_one _ _ (sym f ∙ x.2))
  no_commit_end p ts t l x (other_position b e q f (g, k, inr (n, (m, z))) ne) = ne (sym (commit_position _ _ _ _ _ _ _ _ (payload_one _ _ (sym x.2 ∙ f) ∙ z) (bounds p l) k))
  no_commit_end p ts t l x (wrong_count n k b f ne) = ne (commit_count _ _ _ _ _ _ _ _ (payload_one _ _ (sym f ∙ x.2)) b (omega (arith, x.0)))
  no_commit_end p ts t l x (wrong_number n k b f ne) = ne (commit_number _ _ _ _ _ _ _ _ (payload_one _ _ (sym f ∙ x.2)) b x.1)

  -- where reading ends, no good transaction follows
  pub ended : (p : ℕ) (ts : List (List Change)) (t : List Change) → Reading σ h p ts t → Ends σ h p ts t → Ended (In σ) h ts
  ended p ts t r e u g = let s = read_so_far p ts t r in elim (cases_order (length u) (length t)) [
    | inl q ↦
        let z : span ts + length u ≡ p = omega (arith, s.at) in
        let x = subst (λ (j : ℕ). σ (2 + j) ≡ payload (commit_record_bytes h.epoch j (length u) (next_number h ts))) z g.commit in
        let y = subst (λ (m : ℕ). σ (2 + p) ≡ payload (commit_record_bytes h.epoch p m (next_number h ts))) q x in
        no_commit_end p ts t (omega (arith, g.fits)) (subst (λ (m : ℕ). m ≤ most_records) q g.few, g.number, y) e
    | inr (inl l) ↦ page_is_no_commit _ _ _ _ _ _ _ _ (payload_one _ _ (sym (s.pages (length u) l) ∙ g.commit))
    | inr (inr l) ↦
        let x = subst (λ (j : ℕ). σ (2 + j) ≡ payload (page_record_bytes h.epoch j (change_at u (length t)).home (change_at u (length t)).body)) (sym s.at) (g.pages (length t) l) in
        no_page_end p ts t (change_at u (length t)) (omega (arith, g.fits, s.at)) (g.homes (length t) l, x) e
  ]

  pub read_log : (ts : List (List Change)) → ReadsTo σ h ts → IsLog (In σ) h ts
  read_log ts (p, (t, r, e)) = record { run = (read_so_far p ts t r).run; ended = ended p ts t r e }

  -- a run stands in the log
  pub span_inside : (ts : List (List Change)) → Run (In σ) h ts → span ts ≤ h.geometry.log
  span_inside [] r = omega arith
  span_inside (t ∷ ts) (r, g) = omega (arith, g.fits)
