-- Decided of an image: its header, and the first later epoch in its log.
-- Assumes nothing.
use Rattle.std.proofs.Common.{◌≡◌, ℕ, suc, ◌+◌, ◌%◌, ◌^◌, ◌<◌, ◌≤◌, ◌⊎◌, List, Some, None, sym, refl, ap, ◌∙◌, inl, inr, arith}
use Rattle.std.specs.Prelude.{slice_index}
use Rattle.std.proofs.Math.Logic.{⊎_map}
use Rattle.std.proofs.lemmas.Bool.{cases_lt, cases_eq}
use Rattle.device.specs.Sector.{Content, payload, torn, Image}
use Rattle.layout.specs.declared.geometry.Geometry.{Geometry}
use Rattle.layout.specs.declared.header.Header.{Header}
use Rattle.layout.specs.Numbers.{two_at, four_at}
use Rattle.layout.specs.Headers.{header_bytes}
use Rattle.layout.proofs.Headers.{header_numbers, same_as_read, one_header}
use Rattle.image.specs.Headers.{IsHeaderAt, IsHeaderIn, IsHeaderOf, IsLater, NoneLater, FirstLater}
use Rattle.image.proofs.Readings.{payload_one}
use Rattle.image.proofs.Newest.{chosen}
use Rattle.image.proofs.Decide.{Decided, like, both_or, one_or, le_or, lists_or, payload_or, narrow_or, first}

-- whether these are the numbers of a header: sectors, log, epoch, transactions
fits_or : (s l e t : ℕ) → Decided ((9 ≤ l) × (l ≤ 64) × (l + 4 ≤ s) × (s ≤ 1024) × (1 ≤ e) × (e < 2 ^ 32) × (t < 2 ^ 32))
fits_or s l e t = grind arith

-- whether bytes are a header's: only that whose numbers stand at their places can have them
header_or : (b : List ℕ) → Decided ((h : Header) × (header_bytes h ≡ b))
header_or b = elim (fits_or (four_at b 8) (two_at b 2) (four_at b 4) (four_at b 12)) [
  | inl f ↦
      let g : Geometry = record { sectors = four_at b 8; log = two_at b 2; least_log = f.0; most_log = f.1; room = f.2; most = f.3 } in
      let k : Header = record {
        geometry = g;
        epoch = four_at b 4;
        transactions = four_at b 12;
        started = f.4;
        epoch_bits = f.5;
        transactions_bits = f.6;
      } in
      like (λ x. (k, x)) (λ (h, x). ap header_bytes (same_as_read h k b x refl refl refl refl) ∙ x) (lists_or (header_bytes k) b)
  | inr ne ↦ inr (λ (h, x). let g = h.geometry in ne (rw (← x) (simp header_numbers (omega arith))))
]

module _ (n : ℕ) (σ : Image) where
  -- whether a sector has a valid header
  header_at_or : (s : ℕ) → Decided ((h : Header) × IsHeaderAt n σ s h)
  header_at_or s = narrow_or (λ h k x y. one_header h k (payload_one _ _ (sym x ∙ y))) (payload_or header_bytes (σ s) header_or)
      (λ h. both_or (cases_eq h.geometry.sectors n) (cases_eq (h.epoch % 2) s))

  -- the newer of the valid headers in sectors 0 and 1, or neither has one
  newest_or : Decided ((h : Header) × IsHeaderAt n σ 0 h) → Decided ((h : Header) × IsHeaderAt n σ 1 h)
      → ((h : Header) × IsHeaderOf n σ h) ⊎ ((h : Header) → IsHeaderIn n σ h → ⊥)
  newest_or (inl (g, x)) (inl (h, y)) = elim (cases_lt g.epoch h.epoch) [
    | inl l ↦ inl (h, chosen n σ (Some g) (Some h) (Some h) x y (λ z. cc) (inr refl) (omega arith, omega arith))
    | inr l ↦ inl (g, chosen n σ (Some g) (Some h) (Some g) x y (λ z. cc) (inl refl) (omega arith, l))
  ]
  newest_or (inl (g, x)) (inr ne) = inl (g, chosen n σ (Some g) None (Some g) x (λ h y. ne (h, y)) (λ z. cc) (inl refl) (omega arith, tt))
  newest_or (inr ne) (inl (h, y)) = inl (h, chosen n σ None (Some h) (Some h) (λ g x. ne (g, x)) y (λ z. cc) (inr refl) (tt, omega arith))
  newest_or (inr ne) (inr none) = inr (chosen n σ None None None (λ g x. ne (g, x)) (λ h y. none (h, y)) (λ z. (z, z)) tt tt)

  pub image_header_or : ((h : Header) × IsHeaderOf n σ h) ⊎ ((h : Header) → IsHeaderIn n σ h → ⊥)
  image_header_or = newest_or (header_at_or 0) (header_at_or 1)

-- whether a sector shows a later epoch, and the first of the log that does
later_or : (e : ℕ) (c : Content) → Decided (IsLater e c)
later_or e torn = inr (λ x. cc (x.1))
later_or e (payload b) = like (λ x. (b, refl, x.0, x.1))
    (λ (d, x, k, l). let same = payload_one b d x in rw same (k, l))
    (both_or (one_or (cases_eq (slice_index b 0) 1) (cases_eq (slice_index b 0) 2)) (le_or (suc e) (four_at b 4)))

pub first_later_or : (σ : Image) (h : Header) → ((s : ℕ) × FirstLater σ h s) ⊎ NoneLater σ h
first_later_or σ h = ⊎_map
    (λ (s, l, m, x, before). (s, record { inside = (l, m); later = x; before = λ t i k. before t i.0 k }))
    (λ none s i. none s i.0 i.1)
    (first (λ s. IsLater h.epoch (σ s)) (λ s. IsLater h.epoch (σ s) → ⊥) 2 (2 + h.geometry.log) (λ s. later_or h.epoch (σ s)))
