-- Rows of memory of any length: what a write to one leaves; and the rules of a write that lasts at once.
-- Assumes nothing.
use Rattle.std.proofs.Common.{◌≡◌, ℕ, zero, suc, ◌+◌, ◌-◌, ◌*◌, ◌/◌, ◌<◌, ◌≤◌, min, ◌⊎◌, List, [], ◌∷◌, ◌++◌, length, get_or, take, drop, Ok, Err, sym, refl, ap, ap₂, ◌∙◌, subst, inl, inr, mul-le-mul_right, suc-mul, div-mul-le_self, arith}
use borrow.Rule.Slice.PartMut.{put_mid}
use Rattle.std.proofs.lemmas.Bool.{cases_order}
use Rattle.std.proofs.lemmas.Slice.{put_mid-paste}
use Rattle.std.proofs.lemmas.List.Edits.{paste_all}
use Rattle.std.proofs.lemmas.List.{length-take, length-drop, length-append, take_at, drop_at, same_lists, get_or-take, get_or-drop, get_or_append_left, get_or-append_right}
use Rattle.device.specs.declared.fault.Fault.{Fault}
use Rattle.device.specs.Faults.{Answer}
use Rattle.device.specs.Sector.{Content, payload, Image}
use Rattle.device.specs.Rules.{Puts, Gains, WriteCall}
use Rattle.device.specs.Memory.{row_count, row_in, with_row, PutsRow, only, held_by, lasting}
use Rattle.device.proofs.Waits.{accepted_write, refused_write}

-- a row as code cuts it out of the memory, and as code puts it into it
pub row_cut : (w : ℕ) (m : List ℕ) (s at : ℕ) → at ≡ s * w → take (at + w - at) (drop at m) ≡ row_in w m s
unfolding row_in
row_cut w m s at e = ap₂ (λ (k i : ℕ). take k (drop i m)) (omega arith) e

pub row_put : (w : ℕ) (m : List ℕ) (s at : ℕ) (r y : List ℕ) → at ≡ s * w → length r ≡ w → y ≡ r → put_mid at (at + w - at) m y ≡ with_row w m s r
unfolding with_row
row_put w m s at r y here long e =
    put_mid-paste at _ m y r w e (omega arith) (sym long) ∙ paste_all m at r w (sym long)
    ∙ ap (λ (i : ℕ). take i m ++ (r ++ drop (i + w) m)) here

pub take_bytes : (n : ℕ) (xs : List ℕ) → ((i : ℕ) → get_or xs i 0 < 256) → (i : ℕ) → get_or (take n xs) i 0 < 256
take_bytes zero xs h i = omega arith
take_bytes (suc n) [] h i = omega arith
take_bytes (suc n) (x ∷ xs) h zero = h 0
take_bytes (suc n) (x ∷ xs) h (suc i) = take_bytes n xs (λ j. h (suc j)) i

pub row_long : (w : ℕ) (m : List ℕ) (s : ℕ) → s * w + w ≤ length m → length (row_in w m s) ≡ w
unfolding row_in
row_long w m s room = let k = length-drop (s * w) m in length-take w (drop (s * w) m) ∙ omega arith

-- no two rows share a byte
apart : (w s t k : ℕ) → (t ≡ s → ⊥) → k < w → (t * w + k < s * w) ⊎ (s * w + w ≤ t * w + k)
apart w s t k ne q = elim (cases_order t s) [
  | inl e ↦ absurd (ne e)
  | inr o ↦ elim o [ inl h ↦ inl (let x = after t s h in omega arith) | inr h ↦ inr (let x = after s t h in omega arith) ]
]
  where
    after : (a b : ℕ) → a < b → a * w + w ≤ b * w
    after a b h = let x : suc a * w ≤ b * w = mul-le-mul_right w h in let y = suc-mul a w in omega arith

module _ (w : ℕ) (m : List ℕ) (s : ℕ) (r : List ℕ) (room : s * w + w ≤ length m) (long : length r ≡ w) where
  front : length (take (s * w) m) ≡ s * w
  front = length-take (s * w) m ∙ omega arith

  pub row_here : row_in w (with_row w m s r) s ≡ r
  unfolding row_in with_row
  row_here = ap (take w) (drop_at (take (s * w) m) (r ++ drop (s * w + w) m) (s * w) front) ∙ take_at r (drop (s * w + w) m) w long

  pub long_kept : length (with_row w m s r) ≡ length m
  unfolding with_row
  long_kept = let f = front in let k = length-drop (s * w + w) m in length-append (take (s * w) m) (r ++ drop (s * w + w) m) ∙ omega (arith, length-append r (drop (s * w + w) m))

  byte_there : (k d : ℕ) → (k < s * w) ⊎ (s * w + w ≤ k) → get_or (with_row w m s r) k d ≡ get_or m k d
  unfolding with_row
  byte_there k d (inl h) = let f = front in get_or_append_left (take (s * w) m) _ d k (omega arith) ∙ get_or-take (s * w) m k d h
  byte_there k d (inr h) = get_or-append_right (take (s * w) m) _ (s * w) k d front (omega arith)
      ∙ get_or-append_right r (drop (s * w + w) m) w (k - s * w) d long (omega arith)
      ∙ get_or-drop (s * w + w) m (k - s * w - w) d ∙ ap (λ (i : ℕ). get_or m i d) (omega arith)

  pub row_there : (t : ℕ) → (t ≡ s → ⊥) → row_in w (with_row w m s r) t ≡ row_in w m t
  unfolding row_in
  row_there t ne = same_lists _ _
      (let q = long_kept in length-take w (drop (t * w) (with_row w m s r)) ∙ ap (min w) (length-drop (t * w) (with_row w m s r) ∙ omega (arith, length-drop (t * w) m)) ∙ sym (length-take w (drop (t * w) m)))
      (λ k d h. let q : k < w = omega (arith, length-take w (drop (t * w) (with_row w m s r)), h) in
      get_or-take w (drop (t * w) (with_row w m s r)) k d q ∙ get_or-drop (t * w) (with_row w m s r) k d
      ∙ byte_there (t * w + k) d (apart w s t k ne q)
      ∙ sym (get_or-take w (drop (t * w) m) k d q ∙ get_or-drop (t * w) m k d))

-- what a write puts, and no more, is what may then be found
puts_gains : (s : ℕ) (b : List ℕ) (f g : Image) → Puts s b f g → Gains s b (only f) (only g)
puts_gains s b f g p = record { here = λ c e. inr (inl (e ∙ p.here)); there = λ t c ne e. e ∙ p.there t ne }

-- a sector's row lies within the memory
pub room : (w : ℕ) (m : List ℕ) (s : ℕ) → s < row_count w m → s * w + w ≤ length m
room w m s h = let x : suc s * w ≤ length m / w * w = mul-le-mul_right w (omega arith) in let y = suc-mul s w in let z = div-mul-le_self (length m) w in omega arith

-- what one row put into the memory leaves
module _ (h : ℕ → List ℕ → Content) (w : ℕ) (m : List ℕ) (s : ℕ) (r : List ℕ) (here : s < row_count w m) (long : length r ≡ w) where
  pub held_here : held_by h w (with_row w m s r) s ≡ h s r
  unfolding held_by
  held_here = ap (h s) (row_here w m s r (room w m s here) long)

  pub held_there : (t : ℕ) → (t ≡ s → ⊥) → held_by h w (with_row w m s r) t ≡ held_by h w m t
  unfolding held_by
  held_there t ne = ap (h t) (row_there w m s r (room w m s here) long t ne)

  pub count_kept : row_count w (with_row w m s r) ≡ row_count w m
  count_kept = ap (λ (k : ℕ). min (k / w) 4294967295) (long_kept w m s r (room w m s here) long)

  -- a row that holds the payload b is a write of b that lasts at once
  pub row_written : (b : List ℕ) → h s r ≡ payload b → WriteCall s b (Ok tt) (lasting h w m) (lasting h w (with_row w m s r))
  row_written b e =
      let p : Puts s b (held_by h w m) (held_by h w (with_row w m s r)) = record { here = held_here ∙ e; there = held_there } in
      accepted_write s b (lasting h w m) (lasting h w (with_row w m s r)) refl refl count_kept here p (puts_gains s b _ _ p)

-- what putting a row that holds the payload b answers is what a write of b answers
pub put_written : (h : ℕ → List ℕ → Content) (w : ℕ) (m m' : List ℕ) (s : ℕ) (r b : List ℕ) (a : Answer) → length r ≡ w → h s r ≡ payload b
    → PutsRow w m s r a m' → WriteCall s b a (lasting h w m) (lasting h w m')
put_written h w m m' s r b (Ok _) long e p = subst (λ (x : List ℕ). WriteCall s b (Ok tt) (lasting h w m) (lasting h w x)) (sym p.1) (row_written h w m s r p.0 long b e)
put_written h w m m' s r b (Err f) long e p =
    subst (λ (x : List ℕ). WriteCall s b (Err f) (lasting h w m) (lasting h w x)) (sym p.1)
    (subst (λ (x : Fault). WriteCall s b (Err x) (lasting h w m) (lasting h w m)) (sym p.0.1) (refused_write s b (lasting h w m) refl p.0.0))
