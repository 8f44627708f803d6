-- Decided of each position of a log: what stands there. So every log is read to an end.
-- Assumes nothing.
use Rattle.std.proofs.Common.{◌≡◌, ℕ, zero, suc, ◌+◌, ◌^◌, ◌<◌, ◌≤◌, ◌⊎◌, List, [], ◌∷◌, ◌++◌, length, drop}
use Rattle.std.proofs.Common.{sym, refl, ap, ◌∙◌, subst, inl, inr, arith}
use Rattle.std.specs.Prelude.{◌↔◌}
use Rattle.std.proofs.lemmas.Bool.{cases_eq}
use Rattle.device.specs.Sector.{Content, payload, torn, Image}
use Rattle.layout.specs.declared.geometry.Geometry.{Geometry}
use Rattle.layout.specs.declared.header.Header.{Header}
use Rattle.layout.specs.Numbers.{two_at, four_at}
use Rattle.layout.specs.Geometries.{IsPage}
use Rattle.layout.specs.Records.{page_record_bytes, commit_record_bytes, most_records, IsNoRecord}
use Rattle.layout.proofs.Records.{page_as_read, commit_as_read, home-page_record_bytes, pages-commit_record_bytes}
use Rattle.image.specs.Logs.{In, Change, IsLog, next_number}
use Rattle.image.specs.Reading.{IsRecordOf, Reading, Ends, ReadsTo}
use Rattle.image.specs.Reading.{whole_log, torn_sector, no_record, other_epoch, other_position, wrong_count, wrong_number}
use Rattle.image.proofs.Readings.{read_log, one_log}
use Rattle.image.proofs.Decide.{Decided, both_or, le_or, lists_or}

-- the numbers that stand in a record's bytes have the bits that they are stored in
page_bits : (e p s : ℕ) (body b : List ℕ) → page_record_bytes e p s body ≡ b → (four_at b 4 < 2 ^ 32) × (two_at b 2 < 2 ^ 16)
unfolding page_record_bytes two_at four_at
page_bits e p s body b x = rw (← x) (omega arith, omega arith)

commit_bits : (e p n k : ℕ) (b : List ℕ) → commit_record_bytes e p n k ≡ b
    → (four_at b 4 < 2 ^ 32) × (two_at b 2 < 2 ^ 16) × (four_at b 12 < 2 ^ 32)
unfolding commit_record_bytes two_at four_at
commit_bits e p n k b x = rw (← x) (omega arith, omega arith, omega arith)

-- whether bytes are a record's: only one whose numbers stand at their places can have them
abbrev IsPageRead : Geometry → List ℕ → Type 0
IsPageRead g b = IsPage g (four_at b 8) × (page_record_bytes (four_at b 4) (two_at b 2) (four_at b 8) (drop 12 b) ≡ b)

abbrev IsCommitRead : List ℕ → Type 0
IsCommitRead b = (four_at b 8 ≤ most_records) × (commit_record_bytes (four_at b 4) (two_at b 2) (four_at b 8) (four_at b 12) ≡ b)

neither_read : (g : Geometry) (b : List ℕ) → (IsPageRead g b → ⊥) → (IsCommitRead b → ⊥) → IsNoRecord g b
neither_read g b none ne = record {
  no_page = λ e p s body i x.
      let s' = sym (ap (λ bs. four_at bs 8) x) ∙ home-page_record_bytes e p s body (let m = g.most in omega arith) in
      none ((omega arith, omega arith), page_as_read e p s body b x);
  no_commit = λ e p n k l x.
      let n' = sym (ap (λ bs. four_at bs 8) x) ∙ pages-commit_record_bytes e p n k (omega arith) in
      ne (omega arith, commit_as_read e p n k b x);
}

-- The positions before p are read: reading ends there, or goes past it.
module _ (σ : Image) (h : Header) (p : ℕ) (ts : List (List Change)) (t : List Change)
    (r : Reading σ h p ts t) (l : p < h.geometry.log) where
  abbrev Next : Type 0
  Next = Ends σ h p ts t ⊎ ((us : List (List Change)) × ((u : List Change) × Reading σ h (suc p) us u))

  at_record : (b : List ℕ) → σ (2 + p) ≡ payload b → IsRecordOf b (four_at b 4) (two_at b 2)
      → (four_at b 4 ≡ h.epoch → two_at b 2 ≡ p → Next) → Next
  at_record b at f next = elim (cases_eq (four_at b 4) h.epoch) [
    | inr ne ↦ inl (other_epoch b _ _ at f ne)
    | inl e ↦ elim (cases_eq (two_at b 2) p) [ inr ne ↦ inl (other_position b _ _ at f ne) | inl q ↦ next e q ]
  ]

  at_commit : (n k : ℕ) → n ≤ most_records → k < 2 ^ 32 → σ (2 + p) ≡ payload (commit_record_bytes h.epoch p n k) → Next
  at_commit n k m f at = elim (cases_eq n (length t)) [
    | inr ne ↦ inl (wrong_count n k (omega arith) at ne)
    | inl x ↦ elim (cases_eq k (next_number h ts)) [
      | inr ne ↦ inl (wrong_number n k f at ne)
      | inl y ↦ inr (t ∷ ts, ([], (l, inr (ts, (t, r, rw (← x, ← y) (m, f, at), refl, refl)))))
    ]
  ]

  at_payload : (b : List ℕ) → σ (2 + p) ≡ payload b → Decided (IsPageRead h.geometry b) → Decided (IsCommitRead b) → Next
  at_payload b at (inl (i, x)) d = let f = page_bits _ _ _ _ b x in
      let c : Change = record { home = four_at b 8; body = drop 12 b } in
      at_record b at (f.0, f.1, inl (_, (_, sym x))) (λ e q. inr (ts, (t ++ c ∷ [], (l, inl (t, (c, r, (i, cc), refl))))))
  at_payload b at (inr none) (inl (m, x)) = let f = commit_bits _ _ _ _ b x in
      at_record b at (f.0, f.1, inr (_, (_, sym x))) (λ e q. at_commit (four_at b 8) (four_at b 12) m f.2 (cc))
  at_payload b at (inr none) (inr ne) = inl (no_record b at (neither_read h.geometry b none ne))

  next_or : (c : Content) → σ (2 + p) ≡ c → Next
  next_or torn at = inl (torn_sector at)
  next_or (payload b) at = at_payload b at
      (both_or (grind arith) (lists_or _ b)) (both_or (le_or (four_at b 8) most_records) (lists_or _ b))

-- so with so many positions left
module _ (σ : Image) (h : Header) where
  reads_on : (left p : ℕ) (ts : List (List Change)) (t : List Change) → p + left ≡ h.geometry.log → Reading σ h p ts t
      → (us : List (List Change)) × ReadsTo σ h us
  reads_on zero p ts t e r = (ts, (p, (t, r, whole_log (omega arith))))
  reads_on (suc left) p ts t e r = elim (next_or σ h p ts t r (omega arith) (σ (2 + p)) refl) [
    | inl end ↦ (ts, (p, (t, r, end)))
    | inr (us, (u, s)) ↦ reads_on left (suc p) us u (omega arith) s
  ]

  pub reads : (us : List (List Change)) × ReadsTo σ h us
  reads = reads_on h.geometry.log 0 [] [] (omega arith) (refl, refl)

  pub reads_as_meant : (ts : List (List Change)) → IsLog (In σ) h ts ↔ ReadsTo σ h ts
  reads_as_meant ts =
      (λ a. subst (λ (us : List (List Change)). ReadsTo σ h us) (one_log σ h _ ts (read_log σ h _ reads.1) a) reads.1, read_log σ h ts)
