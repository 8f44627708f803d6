-- Records tell themselves apart, by each of their numbers.
-- Assumes nothing.
use Rattle.std.proofs.Common.{◌≡◌, ℕ, ◌^◌, ◌<◌, List, drop, sym, ap, ◌∙◌}
use Rattle.layout.specs.Numbers.{two_at, four_at}
use Rattle.layout.specs.Records.{page_record_bytes, commit_record_bytes}
use Rattle.layout.proofs.Records.{position-page_record_bytes, epoch-page_record_bytes, home-page_record_bytes, body-page_record_bytes, position-commit_record_bytes, epoch-commit_record_bytes, pages-commit_record_bytes, number-commit_record_bytes}

-- the bytes of two page records
module _ (e p s : ℕ) (b : List ℕ) (e' p' s' : ℕ) (b' : List ℕ) (same : page_record_bytes e p s b ≡ page_record_bytes e' p' s' b') where
  pub page_position : p < 2 ^ 16 → p' < 2 ^ 16 → p ≡ p'
  page_position h k = sym (position-page_record_bytes e p s b h) ∙ ap (λ (bs : List ℕ). two_at bs 2) same ∙ position-page_record_bytes e' p' s' b' k

  pub page_epoch : e < 2 ^ 32 → e' < 2 ^ 32 → e ≡ e'
  page_epoch h k = sym (epoch-page_record_bytes e p s b h) ∙ ap (λ (bs : List ℕ). four_at bs 4) same ∙ epoch-page_record_bytes e' p' s' b' k

  pub page_home : s < 2 ^ 32 → s' < 2 ^ 32 → s ≡ s'
  page_home h k = sym (home-page_record_bytes e p s b h) ∙ ap (λ (bs : List ℕ). four_at bs 8) same ∙ home-page_record_bytes e' p' s' b' k

  pub page_body : b ≡ b'
  page_body = sym (body-page_record_bytes e p s b) ∙ ap (λ (bs : List ℕ). drop 12 bs) same ∙ body-page_record_bytes e' p' s' b'

-- the bytes of two commit records
module _ (e p n k e' p' n' k' : ℕ) (same : commit_record_bytes e p n k ≡ commit_record_bytes e' p' n' k') where
  pub commit_position : p < 2 ^ 16 → p' < 2 ^ 16 → p ≡ p'
  commit_position h g = sym (position-commit_record_bytes e p n k h) ∙ ap (λ (bs : List ℕ). two_at bs 2) same ∙ position-commit_record_bytes e' p' n' k' g

  pub commit_epoch : e < 2 ^ 32 → e' < 2 ^ 32 → e ≡ e'
  commit_epoch h g = sym (epoch-commit_record_bytes e p n k h) ∙ ap (λ (bs : List ℕ). four_at bs 4) same ∙ epoch-commit_record_bytes e' p' n' k' g

  pub commit_count : n < 2 ^ 32 → n' < 2 ^ 32 → n ≡ n'
  commit_count h g = sym (pages-commit_record_bytes e p n k h) ∙ ap (λ (bs : List ℕ). four_at bs 8) same ∙ pages-commit_record_bytes e' p' n' k' g

  pub commit_number : k < 2 ^ 32 → k' < 2 ^ 32 → k ≡ k'
  commit_number h g = sym (number-commit_record_bytes e p n k h) ∙ ap (λ (bs : List ℕ). four_at bs 12) same ∙ number-commit_record_bytes e' p' n' k' g
