-- The worked examples hold.
-- Assumes nothing.
use Rattle.std.proofs.Common.{◌≡◌, ℕ, ◌+◌, ◌^◌, ◌<◌, ◌≤◌, List, [], ◌∷◌, refl, subst, inl, inr, arith}
use Rattle.crc32c.proofs.Worked.{worked}
use Rattle.device.specs.Sector.{payload, torn, Image}
use Rattle.layout.specs.declared.class.Class.{Class}
use Rattle.layout.specs.declared.class.Class.TheVariants.{Free, One, Two, Three, Five, Ten, Root}
use Rattle.layout.specs.declared.header.Header.{Header}
use Rattle.layout.specs.Classes.{size_of}
use Rattle.layout.specs.Bodies.{marks}
use Rattle.layout.specs.Records.{commit_record_bytes}
use Rattle.image.specs.Headers.{IsHeaderAt, IsHeaderOf}
use Rattle.image.specs.Logs.{In, Change, next_number, IsLog}
use Rattle.image.specs.Reading.{IsPageRecordAt, CommitsAt, Reading, torn_sector}
use Rattle.image.proofs.Newest.{one_of_two, in_its_sector, same_header}
use Rattle.image.proofs.Readings.{read_log}
use Rattle.model.specs.Sizes.{TakesNew}
use Rattle.model.specs.Examples.{FourInZero, TwoAndCommit, TornAndCommit, WorkedExamples}

least_four : (d : Class) → TakesNew d → 4 ≤ size_of d → 5 ≤ size_of d
least_four Free s l = absurd (omega arith)
least_four One s l = absurd (omega arith)
least_four Two s l = absurd (omega arith)
least_four Three s l = absurd (omega arith)
least_four Five s l = omega arith
least_four Ten s l = omega arith
least_four Root s l = absurd (omega arith)

least_six : (d : Class) → TakesNew d → 6 ≤ size_of d → 10 ≤ size_of d
least_six Free s l = absurd (omega arith)
least_six One s l = absurd (omega arith)
least_six Two s l = absurd (omega arith)
least_six Three s l = absurd (omega arith)
least_six Five s l = absurd (omega arith)
least_six Ten s l = omega arith
least_six Root s l = absurd (omega arith)

greater : (n : ℕ) (σ : Image) (g h : Header) → FourInZero n σ g → IsHeaderAt n σ 1 h → h.epoch ≡ 5 → IsHeaderOf n σ h
greater n σ g h (a, e) b f = record {
  valid = in_its_sector n σ 1 h b;
  newest = λ k x. elim (one_of_two n σ k x) [
    | inl y ↦ let z = same_header n σ 0 k g y a in omega (arith, z)
    | inr y ↦ let z = same_header n σ 1 k h y b in omega (arith, z)
  ];
}

unread : (n : ℕ) (σ : Image) (g : Header) → FourInZero n σ g → σ 1 ≡ torn → IsHeaderOf n σ g
unread n σ g (a, e) t = record {
  valid = in_its_sector n σ 0 g a;
  newest = λ k x. elim (one_of_two n σ k x) [
    | inl y ↦ let z = same_header n σ 0 k g y a in omega (arith, z)
    | inr y ↦ absurd (torn_header (y.1) t)
  ];
}
  where
    torn_header : {b : List ℕ} → σ 1 ≡ payload b → σ 1 ≡ torn → ⊥
    torn_header p q = cc

module _ (σ : Image) (h : Header) where
  one_page_read : (a : Change) → IsPageRecordAt σ h 0 a → Reading σ h 1 [] (a ∷ [])
  one_page_read a x = let l = h.geometry.least_log in (omega arith, inl ([], (a, (refl, refl), x, refl)))

  both_read : (a b : Change) → h.transactions + 1 < 2 ^ 32 → TwoAndCommit σ h a b → IsLog (In σ) h ((a ∷ b ∷ []) ∷ [])
  both_read a b l x =
      let k = h.geometry.least_log in
      let two : Reading σ h 2 [] (a ∷ b ∷ []) = (omega arith, inl (a ∷ [], (b, one_page_read a x.first, x.second, refl))) in
      let number : h.transactions + 1 ≡ next_number h [] = omega arith in
      let commits : CommitsAt σ h 2 [] (a ∷ b ∷ []) = (omega arith, omega arith, subst (λ (i : ℕ). σ 4 ≡ payload (commit_record_bytes h.epoch 2 2 i)) number x.commit) in
      read_log σ h ((a ∷ b ∷ []) ∷ []) (3, ([], (omega arith, inr ([], (a ∷ b ∷ [], two, commits, refl, refl))), torn_sector x.behind))

  none_read : (a : Change) → TornAndCommit σ h a → IsLog (In σ) h []
  none_read a x = read_log σ h [] (1, (a ∷ [], one_page_read a x.first, torn_sector x.second))

pub examples : WorkedExamples
unfolding marks
examples = record {
  checksums = worked;
  four_words = (record { some = omega arith; serves = omega arith; holds = omega arith; least = least_four }, refl);
  six_words = (record { some = omega arith; serves = omega arith; holds = omega arith; least = least_six }, refl);
  handle = (refl, refl, refl);
  head_word = refl;
  greater_epoch = greater;
  other_torn = unread;
  both = both_read;
  none = none_read;
}
