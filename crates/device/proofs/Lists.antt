-- The bytes that wait for one sector, as writes join, leave and are replaced.
-- Assumes nothing.
use Rattle.std.proofs.Common.{◌≡◌, ℕ, zero, suc, ◌+◌, ◌<◌, ◌≤◌, ◌&&◌, eqb, ltb, ◌⊎◌, List, [], ◌∷◌, ◌++◌, length, drop, sym, refl, ap, ◌∙◌, inl, inr, arith}
use Rattle.std.proofs.lemmas.List.{drop_more}
use Rattle.std.proofs.lemmas.Bool.{cases_Bool, cases_eq, and_from, and_right, eq-eqb, ne_eqb, lt-ltb, le-ltb, cond-true, cond-false}
use Rattle.device.specs.declared.pending.PendingWrite.{PendingWrite}
use Rattle.device.specs.Sector.{Content, torn}
use Rattle.device.specs.Bytes.{content}
use Rattle.device.specs.Queues.{At}
use Rattle.device.specs.Waiting.{waiting_at, youngest, OneOf, MayLeave, Absent, NoneFrom, NoneFor}

module _ (n : ℕ) (w : PendingWrite) (ws : List PendingWrite) (s : ℕ) where
  pub first_here : w.sector ≡ s → s < n → waiting_at n (w ∷ ws) s ≡ w.bytes ∷ waiting_at n ws s
  unfolding waiting_at
  first_here e h = cond-true (eqb w.sector s && ltb s n) _ _ (and_from (eqb w.sector s) (ltb s n) (eq-eqb w.sector s e) (lt-ltb s n h))

  pub first_there : (w.sector ≡ s → ⊥) → waiting_at n (w ∷ ws) s ≡ waiting_at n ws s
  unfolding waiting_at
  first_there ne = let t = ne_eqb w.sector s ne in rw t

  -- a write to a sector that the device does not have waits nowhere
  pub first_past : n ≤ w.sector → waiting_at n (w ∷ ws) s ≡ waiting_at n ws s
  unfolding waiting_at
  first_past h = elim (cases_eq w.sector s) [
    | inl e ↦ cond-false (eqb w.sector s && ltb s n) _ _ (and_right (eqb w.sector s) (ltb s n) (le-ltb s n (omega arith)))
    | inr ne ↦ first_there ne
  ]

-- what is absent waits nowhere
pub absent_waiting : (s : ℕ) (ws : List PendingWrite) → Absent s ws → NoneFor s ws
unfolding waiting_at
absent_waiting s [] h n = refl
absent_waiting s (w ∷ ws) h n = first_there n w ws s h.0 ∙ absent_waiting s ws h.1 n

-- what no place has from k on is absent from there on
pub absent_from : (s : ℕ) (ws : List PendingWrite) (k : ℕ) → NoneFrom s ws k → Absent s (drop k ws)
absent_from s [] zero h = tt
absent_from s [] (suc k) h = tt
absent_from s (w ∷ ws) zero h = (h 0 w (omega arith) (omega arith), absent_from s ws zero (λ i d l m. h (suc i) d (omega arith) (omega arith)))
absent_from s (w ∷ ws) (suc k) h = absent_from s ws k (λ i d l m. h (suc i) d (omega arith) (omega arith))

pub none_absent : (s : ℕ) (ws : List PendingWrite) → NoneFrom s ws 0 → Absent s ws
none_absent s ws h = absent_from s ws 0 h

pub absent_append : (s : ℕ) (xs ys : List PendingWrite) → Absent s xs → Absent s ys → Absent s (xs ++ ys)
absent_append s [] ys g h = h
absent_append s (x ∷ xs) ys g h = (g.0, absent_append s xs ys g.1 h)

-- those from place j on, where w stands
pub from_place : (ws : List PendingWrite) (j k : ℕ) (w : PendingWrite) → k ≡ j + 1 → At ws j w → drop j ws ≡ w ∷ drop k ws
from_place ws j k w e h = drop_more ws j w h.0 ∙ ap (λ (v : PendingWrite). v ∷ drop (j + 1) ws) (h.1 w) ∙ ap (λ (i : ℕ). w ∷ drop i ws) (sym e)

pub waiting_append : (n : ℕ) (xs ys : List PendingWrite) (s : ℕ) → waiting_at n (xs ++ ys) s ≡ waiting_at n xs s ++ waiting_at n ys s
unfolding waiting_at
waiting_append n [] ys s = refl
waiting_append n (x ∷ xs) ys s = elim (cases_Bool (eqb x.sector s && ltb s n)) [
  | inl e ↦ let r = waiting_append n xs ys s in rw (e, r)
  | inr e ↦ let r = waiting_append n xs ys s in rw (e, r)
]

pub youngest_last : (bs : List (List ℕ)) (b : List ℕ) (c : Content) → youngest (bs ++ b ∷ []) c ≡ content b
youngest_last [] b c = refl
youngest_last (x ∷ bs) b c = youngest_last bs b (content x)

pub youngest_append : (bs cs : List (List ℕ)) (c : Content) → youngest (bs ++ cs) c ≡ youngest cs (youngest bs c)
youngest_append [] cs c = refl
youngest_append (b ∷ bs) cs c = youngest_append bs cs (content b)

one_last : (bs : List (List ℕ)) (b : List ℕ) (c : Content) → OneOf (bs ++ b ∷ []) c → OneOf bs c ⊎ (c ≡ content b)
one_last [] b c (inl e) = inr e
one_last [] b c (inr h) = elim h [ ]
one_last (x ∷ bs) b c (inl e) = inl (inl e)
one_last (x ∷ bs) b c (inr h) = elim (one_last bs b c h) [ inl o ↦ inl (inr o) | inr e ↦ inr e ]

one_more : (bs : List (List ℕ)) (b : List ℕ) (c : Content) → OneOf bs c → OneOf (bs ++ b ∷ []) c
one_more [] b c h = elim h [ ]
one_more (x ∷ bs) b c (inl e) = inl e
one_more (x ∷ bs) b c (inr h) = inr (one_more bs b c h)

-- one more that waits adds itself and torn
pub leave_last : (bs : List (List ℕ)) (b : List ℕ) (p : Content → Type 0) (c : Content) → MayLeave (bs ++ b ∷ []) p c → MayLeave bs p c ⊎ ((c ≡ content b) ⊎ (c ≡ torn))
leave_last bs b p c (inl h) = inl (inl h)
leave_last bs b p c (inr (inl h)) = elim (one_last bs b c h) [ inl o ↦ inl (inr (inl o)) | inr e ↦ inr (inl e) ]
leave_last bs b p c (inr (inr h)) = inr (inr h.1)

waits : (bs : List (List ℕ)) (b : List ℕ) → 0 < length (bs ++ b ∷ [])
waits [] b = omega arith
waits (x ∷ bs) b = let k = waits bs b in omega arith

leave_more : (bs : List (List ℕ)) (b : List ℕ) (p : Content → Type 0) (c : Content) → MayLeave bs p c → MayLeave (bs ++ b ∷ []) p c
leave_more bs b p c (inl h) = inl h
leave_more bs b p c (inr (inl h)) = inr (inl (one_more bs b c h))
leave_more bs b p c (inr (inr h)) = inr (inr (waits bs b, h.1))

-- the youngest one replaced
pub leave_replaced : (bs : List (List ℕ)) (a b : List ℕ) (p : Content → Type 0) (c : Content) → MayLeave (bs ++ b ∷ []) p c → MayLeave (bs ++ a ∷ []) p c ⊎ ((c ≡ content b) ⊎ (c ≡ torn))
leave_replaced bs a b p c h = elim (leave_last bs b p c h) [ inl o ↦ inl (leave_more bs a p c o) | inr o ↦ inr o ]

-- the oldest one may have been written, or have torn the sector
pub leave_first : (bs : List (List ℕ)) (b : List ℕ) (p q : Content → Type 0) (c : Content) → (q c → p c ⊎ ((c ≡ content b) ⊎ (c ≡ torn))) → MayLeave bs q c → MayLeave (b ∷ bs) p c
leave_first bs b p q c g (inl h) = elim (g h) [
  | inl x ↦ inl x
  | inr o ↦ elim o [ inl e ↦ inr (inl (inl e)) | inr e ↦ inr (inr (omega arith, e)) ]
]
leave_first bs b p q c g (inr (inl h)) = inr (inl (inr h))
leave_first bs b p q c g (inr (inr h)) = inr (inr (omega arith, h.1))

pub leave_map : (bs : List (List ℕ)) (p q : Content → Type 0) (c : Content) → (q c → p c) → MayLeave bs q c → MayLeave bs p c
leave_map bs p q c g (inl h) = inl (g h)
leave_map bs p q c g (inr h) = inr h
