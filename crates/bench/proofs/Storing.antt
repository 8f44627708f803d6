-- Writes that wait are made durable, one or all.
-- Assumes nothing.
use Rattle.std.proofs.Common.{◌≡◌, ℕ, ◌<◌, ◌≤◌, ltb, List, [], ◌∷◌, ◌++◌, length, take, drop, Ok, Err, Some, None, Option, MatchOption, Result, MatchResult, append-nil, sym, refl, ap, ◌∙◌, subst, inl, inr, arith}
use Rattle.device.specs.declared.queue.Queue.{Queue}
use Rattle.device.specs.Queues.{waiting, Joins, IsFull}
use Rattle.std.proofs.lemmas.List.{length-append, length-drop}
use Rattle.std.proofs.lemmas.Bool.{cases_lt, lt-ltb, le-ltb, cond-true, cond-false}
use Rattle.device.specs.declared.pending.PendingWrite.{PendingWrite}
use Rattle.device.specs.Faults.{Answer}
use Rattle.device.specs.Sector.{payload, IsPayload}
use Rattle.device.specs.Rules.{WriteCall, FlushCall}
use Rattle.device.specs.Waiting.{waiting_at, youngest, Absent, NoneFor, IsYoungest, room_in, with_waiting, Keeps}
use Rattle.device.proofs.Lists.{absent_waiting, absent_append, waiting_append, youngest_append}
use Rattle.device.proofs.Waits.{passed_on, past_dropped, flushed, accepted_flush, joins}
use Rattle.device.specs.Memory.{PutsRow, row_count, with_row}
use Rattle.device.proofs.Lasting.{row_written}
use Rattle.bench.specs.Rows.{readable, row_holds, rows_mean}
use Rattle.bench.proofs.Marking.{readable_long, holds_readable}
use Rattle.bench.specs.Waits.{MakesDurable, stored, stored_all, room_made}

-- putting the write's row makes it durable
pub durable_made : (w : PendingWrite) (m m' r : List ℕ) (a : Answer) → IsPayload w.bytes → r ≡ readable w.bytes
    → PutsRow 61 m w.sector r a m' → MakesDurable w m m'
durable_made w m m' r (Ok _) is e p =
    let whole : m' ≡ with_row 61 m w.sector (readable w.bytes) = p.1 ∙ ap (with_row 61 m w.sector) e in
    record {
      whole = is;
      here = λ _. whole;
      rules = λ h. subst (λ (z : List ℕ). WriteCall w.sector w.bytes (Ok tt) (rows_mean m) (rows_mean z)) (sym whole)
          (row_written (λ _. row_holds) 61 m w.sector (readable w.bytes) h (readable_long w.bytes is.sixty) w.bytes (holds_readable w.bytes is));
      past = λ h. let k = p.0 in absurd (omega arith);
    }
durable_made w m m' r (Err f) is e p = record {
  whole = is;
  here = λ h. let k = p.0.0 in absurd (omega arith);
  rules = λ h. let k = p.0.0 in absurd (omega arith);
  past = λ _. p.1;
}

module _ (w : PendingWrite) (m m' : List ℕ) (d : MakesDurable w m m') where
  pub made_stored : m' ≡ stored w m
  made_stored = elim (cases_lt w.sector (row_count 61 m)) [
    | inl h ↦ d.here h ∙ sym (cond-true (ltb w.sector (row_count 61 m)) _ m (lt-ltb w.sector (row_count 61 m) h))
    | inr h ↦ d.past h ∙ sym (cond-false (ltb w.sector (row_count 61 m)) _ m (le-ltb w.sector (row_count 61 m) h))
  ]

  pub made_keeps : (ws : List PendingWrite) → Keeps (with_waiting (w ∷ ws) (rows_mean m)) (with_waiting ws (rows_mean m'))
  made_keeps ws = elim (cases_lt w.sector (row_count 61 m)) [
    | inl h ↦ passed_on w ws (rows_mean m) (rows_mean m') (Ok tt) h d.whole (d.rules h) refl
    | inr h ↦ subst (λ (z : List ℕ). Keeps (with_waiting (w ∷ ws) (rows_mean m)) (with_waiting ws (rows_mean z))) (sym (d.past h))
        (past_dropped w ws (rows_mean m) (rows_mean m) h (record { count = refl; on = refl; contents = record { current = λ s. refl; added = λ s c x. x; lost = λ s c x. x } }))
  ]

-- the oldest of those that wait is made durable
module _ (w : PendingWrite) (ws ws' : List PendingWrite) (m m' : List ℕ) (e : ws ≡ w ∷ ws') (d : MakesDurable w m m') where
  pub oldest_stored : m' ≡ stored_all (take 1 ws) m
  oldest_stored = made_stored w m m' d ∙ ap (λ (z : List PendingWrite). stored_all (take 1 z) m) (sym e)

  pub oldest_keeps : Keeps (with_waiting ws (rows_mean m)) (with_waiting ws' (rows_mean m'))
  oldest_keeps = subst (λ (z : List PendingWrite). Keeps (with_waiting z (rows_mean m)) (with_waiting ws' (rows_mean m'))) (sym e) (made_keeps w m m' d ws')

  pub oldest_gone : ws' ≡ drop 1 ws
  oldest_gone = ap (drop 1) (sym e)

  pub all_stored : stored_all ws' m' ≡ stored_all ws m
  all_stored = ap (stored_all ws') (made_stored w m m' d) ∙ ap (λ (z : List PendingWrite). stored_all z m) (sym e)

  -- eight waited
  module _ (full : 8 ≤ length ws) where
    pub full_stored : m' ≡ room_made ws m
    full_stored = oldest_stored ∙ sym (cond-false (ltb (length ws) 8) m (stored_all (take 1 ws) m) (le-ltb (length ws) 8 full))

    pub full_gone : ws' ≡ room_in ws
    full_gone = oldest_gone ∙ sym (cond-false (ltb (length ws) 8) ws (drop 1 ws) (le-ltb (length ws) 8 full))

-- nothing is left to be stored
pub all_flushed : (ws ws₁ ws₂ : List PendingWrite) (m m₁ m₂ : List ℕ) → m₂ ≡ m₁ → ws₁ ≡ [] → ws₂ ≡ [] → stored_all ws₁ m₁ ≡ stored_all ws m → Keeps (with_waiting ws (rows_mean m)) (with_waiting ws₁ (rows_mean m₁))
    → (m₂ ≡ stored_all ws m) × Keeps (with_waiting ws (rows_mean m)) (with_waiting ws₂ (rows_mean m₂)) × FlushCall (Ok tt) (with_waiting ws (rows_mean m)) (with_waiting ws₂ (rows_mean m₂))
unfolding waiting_at
all_flushed ws ws₁ ws₂ m m₁ m₂ e e₁ e₂ s k =
    let k₁ = subst (λ (z : List PendingWrite). Keeps (with_waiting ws (rows_mean m)) (with_waiting z (rows_mean m₁))) e₁ k in
    let k₂ = subst (λ (z : List ℕ). Keeps (with_waiting ws (rows_mean m)) (with_waiting [] (rows_mean z))) (sym e) k₁ in (
      e ∙ ap (λ (z : List PendingWrite). stored_all z m₁) (sym e₁) ∙ s,
      subst (λ (z : List PendingWrite). Keeps (with_waiting ws (rows_mean m)) (with_waiting z (rows_mean m₂))) (sym e₂) k₂,
      subst (λ (z : List PendingWrite). FlushCall (Ok tt) (with_waiting ws (rows_mean m)) (with_waiting z (rows_mean m₂))) (sym e₂)
          (flushed ws (rows_mean m) (rows_mean m₂) (rows_mean m₂) (Ok tt) k₂ (accepted_flush (rows_mean m₂) (rows_mean m₂) refl refl refl (λ s. refl) (λ s c h. h)) refl),
    )

-- A write joins those that wait.
pub lets_join : (w : PendingWrite) (ws ws' : List PendingWrite) (m : List ℕ) → IsPayload w.bytes → ws' ≡ ws ++ w ∷ [] → w.sector < row_count 61 m → WriteCall w.sector w.bytes (Ok tt) (with_waiting ws (rows_mean m)) (with_waiting ws' (rows_mean m))
lets_join w ws ws' m is e h = subst (λ (z : List PendingWrite). WriteCall w.sector w.bytes (Ok tt) (with_waiting ws (rows_mean m)) (with_waiting z (rows_mean m))) (sym e) (joins ws (rows_mean m) w h is refl)

-- one fewer waits once the oldest was taken, and none more if none was
pub taken_few : (q q' : Queue PendingWrite) (r : Option PendingWrite) → MatchOption r ((waiting q ≡ []) × (q' ≡ q)) (λ x. waiting q ≡ x ∷ waiting q')
    → length (waiting q) ≤ 8 → length (waiting q') ≤ 8
taken_few q q' None e h = subst (λ (z : Queue PendingWrite). length (waiting z) ≤ 8) (sym e.1) h
taken_few q q' (Some x) e h = let k = ap length e in omega arith

-- with room made, one more may wait
room_few : (ws : List PendingWrite) → length ws ≤ 8 → length (room_in ws) < 8
room_few ws h = elim (cases_lt (length ws) 8) [
  | inl few ↦ let e = ap length (cond-true (ltb (length ws) 8) ws (drop 1 ws) (lt-ltb (length ws) 8 few)) in omega arith
  | inr full ↦ let e = ap length (cond-false (ltb (length ws) 8) ws (drop 1 ws) (le-ltb (length ws) 8 full)) in let l = length-drop 1 ws in omega arith
]

pub joined_few : (ws : List PendingWrite) (w : PendingWrite) (q q' : Queue PendingWrite) (r : Result (Unit {0}) PendingWrite) → waiting q ≡ room_in ws → length ws ≤ 8
    → MatchResult r (λ _. Joins w q q') (λ y. (y ≡ w) × IsFull q × (q' ≡ q)) → length (waiting q') ≤ 8
joined_few ws w q q' (Ok _) e h p = let k = ap length e in let f = room_few ws h in let l = ap length p.0 in let m = length-append (waiting q) (w ∷ []) in omega arith
joined_few ws w q q' (Err y) e h p = let k = ap length e in let f = room_few ws h in subst (λ (z : Queue PendingWrite). length (waiting z) ≤ 8) (sym p.2) (omega arith)

-- The youngest write to a sector among xs and then ys: that among ys, or else that among xs.
pub first_piece : (s : ℕ) (ws xs ys : List PendingWrite) → ws ≡ xs ++ ys → (r : Option PendingWrite) → Absent s ys → MatchOption r (Absent s xs) (λ w. IsPayload w.bytes → IsYoungest s w.bytes xs)
    → MatchOption r (NoneFor s ws) (λ w. IsPayload w.bytes → IsYoungest s w.bytes ws)
first_piece s ws xs ys e None none h = absent_waiting s ws (subst (Absent s) (sym e) (absent_append s xs ys h none))
first_piece s ws xs ys e (Some w) none h = λ is n c m. subst (λ (z : List PendingWrite). youngest (waiting_at n z s) c ≡ payload w.bytes) (sym e)
    (ap (λ (z : List (List ℕ)). youngest z c) (waiting_append n xs ys s ∙ ap (λ (z : List (List ℕ)). waiting_at n xs s ++ z) (absent_waiting s ys none n) ∙ append-nil (waiting_at n xs s)) ∙ h is n c m)

pub second_piece : (s : ℕ) (ws xs ys : List PendingWrite) → ws ≡ xs ++ ys → (w : PendingWrite) → (IsPayload w.bytes → IsYoungest s w.bytes ys) → IsPayload w.bytes → IsYoungest s w.bytes ws
second_piece s ws xs ys e w h is n c m = subst (λ (z : List PendingWrite). youngest (waiting_at n z s) c ≡ payload w.bytes) (sym e)
    (ap (λ (z : List (List ℕ)). youngest z c) (waiting_append n xs ys s) ∙ youngest_append (waiting_at n xs s) (waiting_at n ys s) c ∙ h is n (youngest (waiting_at n xs s) c) m)
