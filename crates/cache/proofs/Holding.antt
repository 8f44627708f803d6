-- A write is taken: its rules are kept, and writes to distinct sectors stay so.
-- Assumes nothing.
use Rattle.std.proofs.Common.{◌≡◌, ℕ, zero, suc, ◌+◌, ◌-◌, ◌<◌, Bool, true, false, cond, ltb, List, [], ◌∷◌, ◌++◌, length, get_or, take, drop, set, Ok, sym, ap, ◌∙◌, subst, inl, inr, arith}
use Rattle.std.specs.List.{refill}
use Rattle.std.proofs.lemmas.List.{take-append-drop, drop_more, length-take-le, set-append_right, length-set, take-append-le, take_all}
use Rattle.device.specs.declared.pending.PendingWrite.{PendingWrite}
use Rattle.device.specs.Sector.{IsPayload}
use Rattle.device.specs.Rules.{Meaning, WriteCall}
use Rattle.device.specs.Waiting.{Absent, YoungestAt, room_in, with_waiting}
use Rattle.device.proofs.Lists.{absent_waiting, absent_from}
use Rattle.device.proofs.Waits.{joins, replaces, keeps_write}
use Rattle.cache.specs.Held.{Distinct, Replaced, TakesIn, MakesRoom}

absent_at : (s : ℕ) (ws : List PendingWrite) (k : ℕ) (d : PendingWrite) → Absent s ws → k < length ws → (get_or ws k d).sector ≡ s → ⊥
absent_at s [] k d a h e = omega arith
absent_at s (w ∷ ws) zero d a h e = a.0 e
absent_at s (w ∷ ws) (suc k) d a h e = absent_at s ws k d a.1 (omega arith) e

-- a sector with a write at some place is not absent
pub not_absent : (s : ℕ) (ws : List PendingWrite) (k : ℕ) → PendingWrite → YoungestAt s ws k → Absent s ws → ⊥
not_absent s ws k d p a = absent_at s ws k d a p.0 (p.1 d)

-- what an assignment to a place leaves
pub assigned : (ws : List PendingWrite) (k : ℕ) (w : PendingWrite) → refill (length ws) ws (set ws k w) ≡ set ws k w
assigned ws k w = let l = length-set ws k w in take-append-le (length ws) (set ws k w) (drop (length (set ws k w)) ws) (omega arith) ∙ take_all (length ws) (set ws k w) (omega arith)

pub replaced : (w : PendingWrite) (ws : List PendingWrite) (k : ℕ) → YoungestAt w.sector ws k → Replaced w ws (set ws k w)
replaced w ws k p = record {
  before = take k ws;
  old = get_or ws k w;
  after = drop (k + 1) ws;
  held = whole;
  same = p.1 w;
  last = absent_from w.sector ws (k + 1) p.2;
  now_held = ap (λ (z : List PendingWrite). set z k w) whole
      ∙ set-append_right (take k ws) (get_or ws k w ∷ drop (k + 1) ws) k k w (length-take-le k ws (let l = p.0 in omega arith)) (omega arith)
      ∙ ap (λ (i : ℕ). take k ws ++ set (get_or ws k w ∷ drop (k + 1) ws) i w) (let z : k - k ≡ 0 = omega arith in z);
}
  where
    whole : ws ≡ take k ws ++ get_or ws k w ∷ drop (k + 1) ws
    whole = sym (take-append-drop k ws) ∙ ap (λ (z : List PendingWrite). take k ws ++ z) (drop_more ws k w p.0)

pub replaced_rules : (w : PendingWrite) (ws ws' : List PendingWrite) (m : Meaning) → IsPayload w.bytes → Replaced w ws ws' → m.on ≡ true → w.sector < m.count → WriteCall w.sector w.bytes (Ok tt) (with_waiting ws m) (with_waiting ws' m)
replaced_rules w ws ws' m is p on here =
    subst (λ (z : List PendingWrite). WriteCall w.sector w.bytes (Ok tt) (with_waiting z m) (with_waiting ws' m)) (sym p.held)
    (subst (λ (z : List PendingWrite). WriteCall w.sector w.bytes (Ok tt) (with_waiting (p.before ++ p.old ∷ p.after) m) (with_waiting z m)) (sym p.now_held)
    (replaces p.before p.after m p.old w p.same (absent_waiting w.sector p.after p.last m.count) here is on))

pub joined_rules : (w : PendingWrite) (ws ws₁ : List PendingWrite) (m m₁ : Meaning) → IsPayload w.bytes → MakesRoom (Ok tt) ws ws₁ m m₁ → m.on ≡ true → w.sector < m.count → WriteCall w.sector w.bytes (Ok tt) (with_waiting ws m) (with_waiting (ws₁ ++ w ∷ []) m₁)
joined_rules w ws ws₁ m m₁ is r on here =
    keeps_write w.sector w.bytes (with_waiting ws m) (with_waiting ws₁ m₁) (with_waiting (ws₁ ++ w ∷ []) m₁) on r.2
    (joins ws₁ m₁ w (subst (λ (n : ℕ). w.sector < n) (sym r.2.count) here) is (r.3 on))

pub joined : (w : PendingWrite) (ws ws₁ : List PendingWrite) → Absent w.sector ws → ws₁ ≡ room_in ws → TakesIn w ws (ws₁ ++ w ∷ [])
joined w ws ws₁ none r = inr (none, ap (λ (z : List PendingWrite). z ++ w ∷ []) r)

absent_last : (s : ℕ) (ws : List PendingWrite) (w : PendingWrite) → Absent s ws → (w.sector ≡ s → ⊥) → Absent s (ws ++ w ∷ [])
absent_last s [] w h ne = (ne, tt)
absent_last s (v ∷ ws) w h ne = (h.0, absent_last s ws w h.1 ne)

distinct_last : (ws : List PendingWrite) (w : PendingWrite) → Distinct ws → Absent w.sector ws → Distinct (ws ++ w ∷ [])
distinct_last [] w d h = (tt, tt)
distinct_last (v ∷ ws) w d h = (absent_last v.sector ws w d.0 (λ e. h.0 (sym e)), distinct_last ws w d.1 h.1)

absent_placed : (s : ℕ) (us vs : List PendingWrite) (v w : PendingWrite) → v.sector ≡ w.sector → Absent s (us ++ v ∷ vs) → Absent s (us ++ w ∷ vs)
absent_placed s [] vs v w e h = (λ x. h.0 (e ∙ x), h.1)
absent_placed s (u ∷ us) vs v w e h = (h.0, absent_placed s us vs v w e h.1)

distinct_placed : (us vs : List PendingWrite) (v w : PendingWrite) → v.sector ≡ w.sector → Distinct (us ++ v ∷ vs) → Distinct (us ++ w ∷ vs)
distinct_placed [] vs v w e d = (subst (λ (s : ℕ). Absent s vs) e d.0, d.1)
distinct_placed (u ∷ us) vs v w e d = (absent_placed u.sector us vs v w e d.0, distinct_placed us vs v w e d.1)

distinct_room : (b : Bool) (ws : List PendingWrite) (w : PendingWrite) → Distinct ws → Absent w.sector ws → Distinct (cond b ws (drop 1 ws) ++ w ∷ [])
distinct_room true ws w d h = distinct_last ws w d h
distinct_room false [] w d h = distinct_last [] w d h
distinct_room false (v ∷ ws) w d h = distinct_last ws w d.1 h.1

pub takes_distinct : (w : PendingWrite) (ws ws' : List PendingWrite) → TakesIn w ws ws' → Distinct ws → Distinct ws'
takes_distinct w ws ws' (inl p) d = subst Distinct (sym p.now_held) (distinct_placed p.before p.after p.old w p.same (subst Distinct p.held d))
takes_distinct w ws ws' (inr p) d = subst Distinct (sym p.1) (distinct_room (ltb (length ws) 8) ws w d p.0)
