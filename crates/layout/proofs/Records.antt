-- What a record's bytes tell of it.
use Rattle.std.proofs.Common.{◌≡◌, ◌≢◌, ℕ, ◌<◌, ◌^◌, List, drop, refl, ap, sym, ◌∙◌}
use Rattle.std.proofs.lemmas.Nat.{from_le_bytes-to_le_bytes_2, from_le_bytes-to_le_bytes_4}
use Rattle.layout.specs.Numbers.{two_at, four_at}
use Rattle.layout.specs.Records.{page_record_bytes, commit_record_bytes}
use Rattle.layout.proofs.Numbers.{two-read, four-read}

-- the epoch of a page record stands in bytes 4 to 7
pub epoch-page_record_bytes : (e p s : ℕ) (body : List ℕ) → e < 2 ^ 32 → four_at (page_record_bytes e p s body) 4 ≡ e
unfolding page_record_bytes four_at
epoch-page_record_bytes e p s body h = from_le_bytes-to_le_bytes_4 e h

-- and so does that of a commit record
pub epoch-commit_record_bytes : (e p n k : ℕ) → e < 2 ^ 32 → four_at (commit_record_bytes e p n k) 4 ≡ e
unfolding commit_record_bytes four_at
epoch-commit_record_bytes e p n k h = from_le_bytes-to_le_bytes_4 e h

-- the position of a page record stands in bytes 2 and 3
pub position-page_record_bytes : (e p s : ℕ) (body : List ℕ) → p < 2 ^ 16 → two_at (page_record_bytes e p s body) 2 ≡ p
unfolding page_record_bytes two_at
position-page_record_bytes e p s body h = from_le_bytes-to_le_bytes_2 p h

-- and so does that of a commit record
pub position-commit_record_bytes : (e p n k : ℕ) → p < 2 ^ 16 → two_at (commit_record_bytes e p n k) 2 ≡ p
unfolding commit_record_bytes two_at
position-commit_record_bytes e p n k h = from_le_bytes-to_le_bytes_2 p h

-- the home in bytes 8 to 11
pub home-page_record_bytes : (e p s : ℕ) (body : List ℕ) → s < 2 ^ 32 → four_at (page_record_bytes e p s body) 8 ≡ s
unfolding page_record_bytes four_at
home-page_record_bytes e p s body h = from_le_bytes-to_le_bytes_4 s h

-- the count of page records in bytes 8 to 11
pub pages-commit_record_bytes : (e p n k : ℕ) → n < 2 ^ 32 → four_at (commit_record_bytes e p n k) 8 ≡ n
unfolding commit_record_bytes four_at
pages-commit_record_bytes e p n k h = from_le_bytes-to_le_bytes_4 n h

-- the transaction's number in bytes 12 to 15
pub number-commit_record_bytes : (e p n k : ℕ) → k < 2 ^ 32 → four_at (commit_record_bytes e p n k) 12 ≡ k
unfolding commit_record_bytes four_at
number-commit_record_bytes e p n k h = from_le_bytes-to_le_bytes_4 k h

-- the body from byte 12 on
pub body-page_record_bytes : (e p s : ℕ) (body : List ℕ) → drop 12 (page_record_bytes e p s body) ≡ body
unfolding page_record_bytes
body-page_record_bytes e p s body = refl

-- one page record's bytes are no other's
pub one_page_record : (e p s e' p' s' : ℕ) (body body' : List ℕ)
    → e < 2 ^ 32 → p < 2 ^ 16 → s < 2 ^ 32 → e' < 2 ^ 32 → p' < 2 ^ 16 → s' < 2 ^ 32
    → page_record_bytes e p s body ≡ page_record_bytes e' p' s' body' → (e ≡ e') × (p ≡ p') × (s ≡ s') × (body ≡ body')
one_page_record e p s e' p' s' body body' he hp hs he' hp' hs' h = (
  sym (epoch-page_record_bytes e p s body he) ∙ ap (λ b. four_at b 4) h ∙ epoch-page_record_bytes e' p' s' body' he',
  sym (position-page_record_bytes e p s body hp) ∙ ap (λ b. two_at b 2) h ∙ position-page_record_bytes e' p' s' body' hp',
  sym (home-page_record_bytes e p s body hs) ∙ ap (λ b. four_at b 8) h ∙ home-page_record_bytes e' p' s' body' hs',
  sym (body-page_record_bytes e p s body) ∙ ap (drop 12) h ∙ body-page_record_bytes e' p' s' body',
)

-- one commit record's bytes are no other's
pub one_commit_record : (e p n k e' p' n' k' : ℕ)
    → e < 2 ^ 32 → p < 2 ^ 16 → n < 2 ^ 32 → k < 2 ^ 32 → e' < 2 ^ 32 → p' < 2 ^ 16 → n' < 2 ^ 32 → k' < 2 ^ 32
    → commit_record_bytes e p n k ≡ commit_record_bytes e' p' n' k' → (e ≡ e') × (p ≡ p') × (n ≡ n') × (k ≡ k')
one_commit_record e p n k e' p' n' k' he hp hn hk he' hp' hn' hk' h = (
  sym (epoch-commit_record_bytes e p n k he) ∙ ap (λ b. four_at b 4) h ∙ epoch-commit_record_bytes e' p' n' k' he',
  sym (position-commit_record_bytes e p n k hp) ∙ ap (λ b. two_at b 2) h ∙ position-commit_record_bytes e' p' n' k' hp',
  sym (pages-commit_record_bytes e p n k hn) ∙ ap (λ b. four_at b 8) h ∙ pages-commit_record_bytes e' p' n' k' hn',
  sym (number-commit_record_bytes e p n k hk) ∙ ap (λ b. four_at b 12) h ∙ number-commit_record_bytes e' p' n' k' hk',
)

-- no sector is a record of either kind
pub page_is_no_commit : (e p s e' p' n k : ℕ) (body : List ℕ) → page_record_bytes e p s body ≢ commit_record_bytes e' p' n k
unfolding page_record_bytes commit_record_bytes
page_is_no_commit e p s e' p' n k body h = cc

-- the numbers read from a page record's bytes have the same bytes, even if they are other numbers
pub page_as_read : (e p s : ℕ) (body b : List ℕ) → page_record_bytes e p s body ≡ b
    → page_record_bytes (four_at b 4) (two_at b 2) (four_at b 8) (drop 12 b) ≡ b
unfolding page_record_bytes two_at four_at
page_as_read e p s body b h =
    let x = two-read p in
    let y = four-read e in
    let z = four-read s in
    rw (← h) (cc)

-- the same of a commit record's
pub commit_as_read : (e p n k : ℕ) (b : List ℕ) → commit_record_bytes e p n k ≡ b
    → commit_record_bytes (four_at b 4) (two_at b 2) (four_at b 8) (four_at b 12) ≡ b
unfolding commit_record_bytes two_at four_at
commit_as_read e p n k b h =
    let x = two-read p in
    let y = four-read e in
    let z = four-read n in
    let w = four-read k in
    rw (← h) (cc)
