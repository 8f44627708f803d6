-- Whether a list is a payload, as a test, and the content that bytes are: a payload, or else torn.
-- Assumes nothing.
use Rattle.std.specs.Prelude.{◌≡◌, ℕ, zero, suc, ◌<◌, Bool, true, false, cond, ◌&&◌, List, [], ◌∷◌, length, ◌==◌, nat_lt, slice_index, refl}
use Rattle.std.proofs.Common.{arith}
use Rattle.std.proofs.lemmas.Bool.{ltb-true, lt-ltb, and_parts, and_from, eqb-true, eq-eqb, cond-true}
use Rattle.device.specs.Sector.{Content, payload, torn, IsPayload, Lawful}

abbrev pub all_bytes : List ℕ → Bool
all_bytes [] = true
all_bytes (x ∷ xs) = nat_lt x 256 && all_bytes xs

abbrev pub is_payload : List ℕ → Bool
is_payload b = length b == 60 && all_bytes b

-- the content that bytes are
unfoldable pub content : List ℕ → Content
content b = cond (is_payload b) (payload b) torn

pub bytes_below : (xs : List ℕ) → all_bytes xs ≡ true → (i : ℕ) → slice_index xs i < 256
bytes_below [] e i = omega arith
bytes_below (x ∷ xs) e zero = ltb-true x 256 (and_parts (nat_lt x 256) (all_bytes xs) e).0
bytes_below (x ∷ xs) e (suc i) = bytes_below xs (and_parts (nat_lt x 256) (all_bytes xs) e).1 i

pub below_bytes : (xs : List ℕ) → ((i : ℕ) → slice_index xs i < 256) → all_bytes xs ≡ true
below_bytes [] h = refl
below_bytes (x ∷ xs) h = and_from (nat_lt x 256) (all_bytes xs) (lt-ltb x 256 (h 0))
    (below_bytes xs (λ i. h (suc i)))

pub payload_content : (b : List ℕ) → IsPayload b → content b ≡ payload b
unfolding content
payload_content b p = cond-true (is_payload b) (payload b) torn
    (and_from (length b == 60) (all_bytes b) (eq-eqb (length b) 60 p.sixty) (below_bytes b p.bytes))

pub lawful_if : (t : Bool) (b : List ℕ) → (t ≡ true → IsPayload b)
    → Lawful (cond t (payload b) torn)
lawful_if true b h = h refl
lawful_if false b h = tt

pub content_lawful : (b : List ℕ) → Lawful (content b)
unfolding content
content_lawful b = lawful_if (is_payload b) b (λ e. record {
  sixty = eqb-true (length b) 60 (and_parts (length b == 60) (all_bytes b) e).0;
  bytes = bytes_below b (and_parts (length b == 60) (all_bytes b) e).1;
})
