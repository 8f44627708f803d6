-- Settling the sector of one write after another leaves in each what its number chooses.
-- Assumes nothing.
use Rattle.std.proofs.Common.{◌≡◌, ℕ, zero, suc, ◌+◌, ◌*◌, ◌/◌, ◌<◌, ◌≤◌, min, Bool, true, false, cond, ◌&&◌, ◌⊎◌, eqb, ltb, List, [], ◌∷◌, ◌++◌, map, length, get_or, take, drop, Some, None, Option, Ok, Err, sym, refl, ap, ◌∙◌, subst, inl, inr, arith}
use Rattle.std.specs.List.{range_with_len, slice_get, filter}
use Rattle.std.specs.Option.{is_some}
use Rattle.std.proofs.lemmas.Bool.{cases_Bool, cases_eq, cases_lt, and_right, lt-ltb, le-ltb, cond-false}
use Rattle.std.proofs.lemmas.List.{take_more, take_all, take_at, length-take-le, take-append-drop, drop-drop, get_or_past, get_or_default}
use Rattle.std.proofs.lemmas.List.FromFn.{length-map-range_with_len, get_or-map-range_with_len}
use Rattle.device.specs.declared.pending.PendingWrite.{PendingWrite}
use Rattle.device.specs.Faults.{Answer}
use Rattle.device.specs.Sector.{Content, torn, Image, IsPayload, Found}
use Rattle.device.specs.Bytes.{content, payload_content}
use Rattle.device.specs.Rules.{Settled}
use Rattle.device.specs.Cuts.{IsFoundOf}
use Rattle.device.specs.Memory.{PutsRow, row_count, row_in, with_row, only}
use Rattle.device.specs.Queues.{At}
use Rattle.device.specs.Waiting.{waiting_at, youngest, MayLeave, Absent, shown, may, with_waiting}
use Rattle.device.proofs.Lists.{absent_append, absent_waiting}
use Rattle.device.proofs.Lasting.{room, row_long, row_here, row_there, long_kept, held_here, held_there}
use Rattle.bench.specs.Rows.{durable, row_holds, torn_row, readable, rows_mean}
use Rattle.bench.specs.Settling.{choose, chosen_row, chosen, Settles, SettlesAt, SettlesFor, SettlesToEach}
use Rattle.bench.proofs.Marking.{readable_long, torn_long, holds_readable, holds_torn_row}
use Rattle.bench.proofs.Choosing.{chooses_torn, chooses_whole, chooses_one, was_possible, number_of}

-- those that wait for a sector are the writes to it
pub waiting_filter : (n s : ℕ) (ws : List PendingWrite) → s < n → waiting_at n ws s ≡ map (λ (w : PendingWrite). w.bytes) (filter (λ (w : PendingWrite). eqb w.sector s) ws)
unfolding waiting_at
waiting_filter n s [] h = refl
waiting_filter n s (w ∷ ws) h = let l = lt-ltb s n h in let r = waiting_filter n s ws h in elim (cases_Bool (eqb w.sector s)) [
  | inl e ↦ rw (e, l, r)
  | inr e ↦ rw (e, r)
]

-- What a number chooses, by the write that it stands for.
module _ {X : Type 0} (f : List ℕ → X) (t r : X) (n s : ℕ) (ws : List PendingWrite) (here : s < n) where
  at_one : (fs : List PendingWrite) (j : ℕ) (w : PendingWrite) → slice_get fs j ≡ Some w → get_or (map f (map (λ (v : PendingWrite). v.bytes) fs)) j r ≡ f w.bytes
  at_one [] j w e = cc
  at_one (v ∷ fs) zero w e = cc
  at_one (v ∷ fs) (suc j) w e = at_one fs j w e

  at_none : (fs : List PendingWrite) (j : ℕ) → slice_get fs j ≡ None → get_or (map f (map (λ (v : PendingWrite). v.bytes) fs)) j r ≡ r
  at_none [] j e = refl
  at_none (v ∷ fs) zero e = cc
  at_none (v ∷ fs) (suc j) e = at_none fs j e

  pub takes_one : (k j : ℕ) (w : PendingWrite) → (k ≡ 9 → ⊥) → k ≡ suc j → slice_get (filter (λ (v : PendingWrite). eqb v.sector s) ws) j ≡ Some w → choose f t k (waiting_at n ws s) r ≡ f w.bytes
  takes_one k j w ne e h = chooses_one f t k (waiting_at n ws s) r ne
      ∙ ap (λ (i : ℕ). get_or (r ∷ map f (waiting_at n ws s)) i r) e
      ∙ ap (λ (z : List (List ℕ)). get_or (map f z) j r) (waiting_filter n s ws here)
      ∙ at_one (filter (λ (v : PendingWrite). eqb v.sector s) ws) j w h

  pub takes_none : (k j : ℕ) → (k ≡ 9 → ⊥) → k ≡ suc j → slice_get (filter (λ (v : PendingWrite). eqb v.sector s) ws) j ≡ None → choose f t k (waiting_at n ws s) r ≡ r
  takes_none k j ne e h = chooses_one f t k (waiting_at n ws s) r ne
      ∙ ap (λ (i : ℕ). get_or (r ∷ map f (waiting_at n ws s)) i r) e
      ∙ ap (λ (z : List (List ℕ)). get_or (map f z) j r) (waiting_filter n s ws here)
      ∙ at_none (filter (λ (v : PendingWrite). eqb v.sector s) ws) j h

-- whether a write waits for a sector
some_waits : (fs : List PendingWrite) (w : PendingWrite) → slice_get fs 0 ≡ Some w → 0 < length (map (λ (v : PendingWrite). v.bytes) fs)
some_waits [] w e = cc
some_waits (v ∷ fs) w e = omega arith

none_waits : (fs : List PendingWrite) → slice_get fs 0 ≡ None → length (map (λ (v : PendingWrite). v.bytes) fs) ≤ 0
none_waits [] e = omega arith
none_waits (v ∷ fs) e = cc

pub tears : {X : Type 0} (f : List ℕ → X) (t r : X) (n s : ℕ) (ws : List PendingWrite) → s < n → (w : PendingWrite) → slice_get (filter (λ (v : PendingWrite). eqb v.sector s) ws) 0 ≡ Some w → choose f t 9 (waiting_at n ws s) r ≡ t
tears f t r n s ws h w e = chooses_torn f t 9 (waiting_at n ws s) r refl (subst (λ (z : List (List ℕ)). 0 < length z) (sym (waiting_filter n s ws h)) (some_waits _ w e))

pub tears_not : {X : Type 0} (f : List ℕ → X) (t r : X) (n s : ℕ) (ws : List PendingWrite) → s < n → slice_get (filter (λ (v : PendingWrite). eqb v.sector s) ws) 0 ≡ None → choose f t 9 (waiting_at n ws s) r ≡ r
tears_not f t r n s ws h e = chooses_whole f t 9 (waiting_at n ws s) r refl (subst (λ (z : List (List ℕ)). length z ≤ 0) (sym (waiting_filter n s ws h)) (none_waits _ e))

-- a row put where it stands
same_row : (w : ℕ) (m : List ℕ) (s : ℕ) → with_row w m s (row_in w m s) ≡ m
unfolding with_row row_in
same_row w m s =
    ap (λ (z : List ℕ). take (s * w) m ++ (take w (drop (s * w) m) ++ z)) (sym (drop-drop w (s * w) m))
    ∙ ap (λ (z : List ℕ). take (s * w) m ++ z) (take-append-drop w (drop (s * w) m))
    ∙ take-append-drop (s * w) m

-- one sector is settled: as it was, or by a row of its own
pub settles_idle : (k s : ℕ) (ws : List PendingWrite) (m : List ℕ) → s < row_count 61 m → chosen_row k (waiting_at (row_count 61 m) ws s) (row_in 61 m s) ≡ row_in 61 m s → chosen k (waiting_at (row_count 61 m) ws s) (durable m s) ≡ durable m s → SettlesAt k s ws m m
settles_idle k s ws m here row content = record {
  memory = sym (ap (with_row 61 m s) row ∙ same_row 61 m s);
  whole = ap length row ∙ row_long 61 m s (room 61 m s here);
  content = sym content;
}

pub settles_by : (k s : ℕ) (ws : List PendingWrite) (m m' r : List ℕ) → s < row_count 61 m → length r ≡ 61 → m' ≡ with_row 61 m s r → chosen_row k (waiting_at (row_count 61 m) ws s) (row_in 61 m s) ≡ r → chosen k (waiting_at (row_count 61 m) ws s) (durable m s) ≡ row_holds r → SettlesAt k s ws m m'
settles_by k s ws m m' r here long e row content = record {
  memory = e ∙ ap (with_row 61 m s) (sym row);
  whole = ap length row ∙ long;
  content = ap (λ (z : List ℕ). durable z s) e ∙ held_here (λ _. row_holds) 61 m s r here long ∙ sym content;
}

-- One sector, by what the number says: keep, tear, or take the write that comes after so many others.
module _ (s : ℕ) (ws : List PendingWrite) (m : List ℕ) (here : s < row_count 61 m) where
  whole_row : length (row_in 61 m s) ≡ 61
  whole_row = row_long 61 m s (room 61 m s here)

  pub keeps : (k : ℕ) → k ≡ 0 → SettlesAt k s ws m m
  keeps k e = subst (λ (i : ℕ). SettlesAt i s ws m m) (sym e) (settles_idle 0 s ws m here refl refl)

  pub torn_now : (k : ℕ) (m' : List ℕ) (o : Option PendingWrite) → k ≡ 9 → o ≡ slice_get (filter (λ (w : PendingWrite). eqb w.sector s) ws) 0 → is_some o ≡ true → m' ≡ with_row 61 m s (torn_row (row_in 61 m s)) → SettlesAt k s ws m m'
  torn_now k m' None e h x p = cc
  torn_now k m' (Some w) e h x p = subst (λ (i : ℕ). SettlesAt i s ws m m') (sym e)
      (settles_by 9 s ws m m' (torn_row (row_in 61 m s)) here (torn_long _ whole_row) p
      (tears readable (torn_row (row_in 61 m s)) (row_in 61 m s) (row_count 61 m) s ws here w (sym h))
      (tears content torn (durable m s) (row_count 61 m) s ws here w (sym h) ∙ sym (holds_torn_row (row_in 61 m s) whole_row)))

  pub torn_not : (k : ℕ) (o : Option PendingWrite) → k ≡ 9 → o ≡ slice_get (filter (λ (w : PendingWrite). eqb w.sector s) ws) 0 → is_some o ≡ false → SettlesAt k s ws m m
  torn_not k (Some w) e h x = cc
  torn_not k None e h x = subst (λ (i : ℕ). SettlesAt i s ws m m) (sym e)
      (settles_idle 9 s ws m here
      (tears_not readable (torn_row (row_in 61 m s)) (row_in 61 m s) (row_count 61 m) s ws here (sym h))
      (tears_not content torn (durable m s) (row_count 61 m) s ws here (sym h)))

  pub taken : (k j : ℕ) (m' r : List ℕ) (w : PendingWrite) (a : Answer) → (k ≡ 9 → ⊥) → k ≡ suc j → Some w ≡ slice_get (filter (λ (v : PendingWrite). eqb v.sector s) ws) j → IsPayload w.bytes → r ≡ readable w.bytes
      → PutsRow 61 m s r a m' → SettlesAt k s ws m m'
  taken k j m' r w (Ok _) ne e h is row p = settles_by k s ws m m' r here (ap length row ∙ readable_long w.bytes is.sixty) p.1
      (takes_one readable (torn_row (row_in 61 m s)) (row_in 61 m s) (row_count 61 m) s ws here k j w ne e (sym h) ∙ sym row)
      (takes_one content torn (durable m s) (row_count 61 m) s ws here k j w ne e (sym h) ∙ payload_content w.bytes is ∙ sym (ap row_holds row ∙ holds_readable w.bytes is))
  taken k j m' r w (Err f) ne e h is row p = let x = p.0.0 in absurd (omega arith)

  pub taken_not : (k j : ℕ) → (k ≡ 9 → ⊥) → k ≡ suc j → None ≡ slice_get (filter (λ (v : PendingWrite). eqb v.sector s) ws) j → SettlesAt k s ws m m
  taken_not k j ne e h = settles_idle k s ws m here
      (takes_none readable (torn_row (row_in 61 m s)) (row_in 61 m s) (row_count 61 m) s ws here k j ne e (sym h))
      (takes_none content torn (durable m s) (row_count 61 m) s ws here k j ne e (sym h))

-- What a number chooses, chosen again.
again_one : {X : Type 0} (xs : List X) (r : X) (k : ℕ) → get_or (get_or (r ∷ xs) k r ∷ xs) k (get_or (r ∷ xs) k r) ≡ get_or (r ∷ xs) k r
again_one xs r zero = refl
again_one xs r (suc k) = elim (cases_lt k (length xs)) [
  | inl h ↦ get_or_default xs k (get_or xs k r) r h
  | inr h ↦ get_or_past xs k (get_or xs k r) h
]

again : {X : Type 0} (f : List ℕ → X) (t : X) (k : ℕ) (bs : List (List ℕ)) (r : X) → choose f t k bs (choose f t k bs r) ≡ choose f t k bs r
again f t k bs r = elim (cases_eq k 9) [
  | inl e ↦ elim (cases_lt 0 (length bs)) [
    | inl h ↦ chooses_torn f t k bs _ e h ∙ sym (chooses_torn f t k bs r e h)
    | inr h ↦ chooses_whole f t k bs _ e h
  ]
  | inr ne ↦ chooses_one f t k bs _ ne
      ∙ ap (λ (x : _). get_or (x ∷ map f bs) k x) (chooses_one f t k bs r ne)
      ∙ again_one (map f bs) r k
      ∙ sym (chooses_one f t k bs r ne)
]

torn_again : (r : List ℕ) → length r ≡ 61 → torn_row (torn_row r) ≡ torn_row r
torn_again r e = ap (λ (z : List ℕ). z ++ 1 ∷ []) (take_at (take 60 r) (1 ∷ []) 60 (length-take-le 60 r (omega arith)))

again_row : (k : ℕ) (bs : List (List ℕ)) (r : List ℕ) → length r ≡ 61 → chosen_row k bs (chosen_row k bs r) ≡ chosen_row k bs r
again_row k bs r l = elim (cases_eq k 9) [
  | inl e ↦ elim (cases_lt 0 (length bs)) [
    | inl h ↦ chooses_torn readable _ k bs _ e h ∙ ap torn_row (chooses_torn readable (torn_row r) k bs r e h) ∙ torn_again r l ∙ sym (chooses_torn readable (torn_row r) k bs r e h)
    | inr h ↦ chooses_whole readable _ k bs _ e h
  ]
  | inr ne ↦ chooses_one readable _ k bs _ ne ∙ sym (chooses_one readable (torn_row r) k bs _ ne) ∙ again readable (torn_row r) k bs r
]

-- the sector of the k-th write is settled, if there are both
pub settles_for : (k : ℕ) (cs : List ℕ) (ws : List PendingWrite) (m m' : List ℕ) (w : PendingWrite) → At ws k w
    → (w.sector < row_count 61 m → SettlesAt (get_or cs w.sector 0) w.sector ws m m') → (row_count 61 m ≤ w.sector → m' ≡ m) → SettlesFor k cs ws m m'
settles_for k cs ws m m' w at here past = record {
  here = λ v h. subst (λ (u : PendingWrite). u.sector < row_count 61 m → SettlesAt (get_or cs u.sector 0) u.sector ws m m') (sym (at.1 w) ∙ h.1 w) here;
  past = λ v h. subst (λ (u : PendingWrite). row_count 61 m ≤ u.sector → m' ≡ m) (sym (at.1 w) ∙ h.1 w) past;
  none = λ h. let l = at.0 in absurd (omega arith);
}

-- a sector is settled; it is as it was
abbrev pub IsSettled : List ℕ → List PendingWrite → List ℕ → List ℕ → ℕ → Type 0
IsSettled cs ws m m' s = (row_in 61 m' s ≡ chosen_row (get_or cs s 0) (waiting_at (row_count 61 m) ws s) (row_in 61 m s))
    × (durable m' s ≡ chosen (get_or cs s 0) (waiting_at (row_count 61 m) ws s) (durable m s))

abbrev pub IsKept : List ℕ → List ℕ → ℕ → Type 0
IsKept m m' s = (row_in 61 m' s ≡ row_in 61 m s) × (durable m' s ≡ durable m s)

-- each sector is settled, or it is as it was and none of the first k writes is to it
pub record SettlesFirst (k : ℕ) (cs : List ℕ) (ws : List PendingWrite) (m m' : List ℕ) : Type 0 where
  pub long : length m' ≡ length m
  pub each : (s : ℕ) → IsSettled cs ws m m' s ⊎ (Absent s (take k ws) × IsKept m m' s)

pub settles_none : (cs : List ℕ) (ws : List PendingWrite) (m : List ℕ) → SettlesFirst 0 cs ws m m
settles_none cs ws m = record {
  long = refl;
  each = λ s. inr (tt, (refl, refl));
}

past_bare : (n s : ℕ) (ws : List PendingWrite) → n ≤ s → waiting_at n ws s ≡ []
unfolding waiting_at
past_bare n s [] h = refl
past_bare n s (w ∷ ws) h = cond-false (eqb w.sector s && ltb s n) _ _ (and_right (eqb w.sector s) (ltb s n) (le-ltb s n h)) ∙ past_bare n s ws h

-- where nothing waits, every number leaves what is there
only_one : {X : Type 0} (k : ℕ) (r : X) → get_or (r ∷ []) k r ≡ r
only_one zero r = refl
only_one (suc k) r = refl

none : {X : Type 0} (f : List ℕ → X) (t : X) (k : ℕ) (r : X) → choose f t k [] r ≡ r
none f t k r = elim (cases_eq k 9) [
  | inl e ↦ chooses_whole f t k [] r e (omega arith)
  | inr ne ↦ chooses_one f t k [] r ne ∙ only_one k r
]

-- a sector for which nothing waits is settled as it is
pub bare_settled : (cs : List ℕ) (ws : List PendingWrite) (m m' : List ℕ) (s : ℕ) → waiting_at (row_count 61 m) ws s ≡ [] → IsKept m m' s → IsSettled cs ws m m' s
bare_settled cs ws m m' s e kept = (
  kept.0 ∙ sym (ap (λ (z : List (List ℕ)). chosen_row (get_or cs s 0) z (row_in 61 m s)) e ∙ none readable (torn_row (row_in 61 m s)) (get_or cs s 0) (row_in 61 m s)),
  kept.1 ∙ sym (ap (λ (z : List (List ℕ)). chosen (get_or cs s 0) z (durable m s)) e ∙ none content torn (get_or cs s 0) (durable m s)),
)

-- the sector of one more write is settled
module _ (k : ℕ) (cs : List ℕ) (ws : List PendingWrite) (m m₁ m₂ : List ℕ) (w : PendingWrite) (at : At ws k w) (g : SettlesFirst k cs ws m m₁) where
  same_count : row_count 61 m₁ ≡ row_count 61 m
  same_count = ap (λ (n : ℕ). min (n / 61) 4294967295) g.long

  one_more : take (k + 1) ws ≡ take k ws ++ w ∷ []
  one_more = take_more ws k w at.0 ∙ ap (λ (v : PendingWrite). take k ws ++ v ∷ []) (at.1 w)

  -- another sector stays
  elsewhere : (s : ℕ) → (s ≡ w.sector → ⊥) → IsKept m₁ m₂ s → IsSettled cs ws m m₂ s ⊎ (Absent s (take (k + 1) ws) × IsKept m m₂ s)
  elsewhere s ne kept = elim (g.each s) [
    | inl x ↦ inl (kept.0 ∙ x.0, kept.1 ∙ x.1)
    | inr x ↦ inr (
      subst (Absent s) (sym one_more) (absent_append s (take k ws) (w ∷ []) x.0 ((λ e. ne (sym e)), tt)),
      (kept.0 ∙ x.1.0, kept.1 ∙ x.1.1),
    )
  ]

  -- nothing is done for a sector that is not there
  passed_over : row_count 61 m ≤ w.sector → m₂ ≡ m₁ → (s : ℕ) → IsSettled cs ws m m₂ s ⊎ (Absent s (take (k + 1) ws) × IsKept m m₂ s)
  passed_over past e s =
      let kept : IsKept m₁ m₂ s = (ap (λ (z : List ℕ). row_in 61 z s) e, ap (λ (z : List ℕ). durable z s) e) in
      elim (cases_eq s w.sector) [
        | inr ne ↦ elsewhere s ne kept
        | inl i ↦ elim (g.each s) [
          | inl x ↦ inl (kept.0 ∙ x.0, kept.1 ∙ x.1)
          | inr x ↦ inl (bare_settled cs ws m m₂ s (past_bare (row_count 61 m) s ws (omega arith)) (kept.0 ∙ x.1.0, kept.1 ∙ x.1.1))
        ]
      ]

  module _ (here : w.sector < row_count 61 m) (one : SettlesAt (get_or cs w.sector 0) w.sector ws m₁ m₂) where
    here₁ : w.sector < row_count 61 m₁
    here₁ = let e = same_count in omega arith

    long_row : length (row_in 61 m w.sector) ≡ 61
    long_row = row_long 61 m w.sector (room 61 m w.sector here)

    there : (s : ℕ) → (s ≡ w.sector → ⊥) → IsKept m₁ m₂ s
    there s ne = (
      ap (λ (z : List ℕ). row_in 61 z s) one.memory ∙ row_there 61 m₁ w.sector _ (room 61 m₁ w.sector here₁) one.whole s ne,
      ap (λ (z : List ℕ). durable z s) one.memory ∙ held_there (λ _. row_holds) 61 m₁ w.sector _ here₁ one.whole s ne,
    )

    -- what the sector holds is chosen of what it held just before
    row : row_in 61 m₂ w.sector ≡ chosen_row (get_or cs w.sector 0) (waiting_at (row_count 61 m) ws w.sector) (row_in 61 m₁ w.sector)
    row = ap (λ (z : List ℕ). row_in 61 z w.sector) one.memory ∙ row_here 61 m₁ w.sector _ (room 61 m₁ w.sector here₁) one.whole
        ∙ ap (λ (n : ℕ). chosen_row (get_or cs w.sector 0) (waiting_at n ws w.sector) (row_in 61 m₁ w.sector)) same_count

    holds : durable m₂ w.sector ≡ chosen (get_or cs w.sector 0) (waiting_at (row_count 61 m) ws w.sector) (durable m₁ w.sector)
    holds = one.content ∙ ap (λ (n : ℕ). chosen (get_or cs w.sector 0) (waiting_at n ws w.sector) (durable m₁ w.sector)) same_count

    settled : IsSettled cs ws m m₂ w.sector
    settled = elim (g.each w.sector) [
      | inl x ↦ (
        row ∙ ap (chosen_row (get_or cs w.sector 0) (waiting_at (row_count 61 m) ws w.sector)) x.0
            ∙ again_row (get_or cs w.sector 0) (waiting_at (row_count 61 m) ws w.sector) (row_in 61 m w.sector) long_row,
        holds ∙ ap (chosen (get_or cs w.sector 0) (waiting_at (row_count 61 m) ws w.sector)) x.1
            ∙ again content torn (get_or cs w.sector 0) (waiting_at (row_count 61 m) ws w.sector) (durable m w.sector),
      )
      | inr x ↦ (
        row ∙ ap (chosen_row (get_or cs w.sector 0) (waiting_at (row_count 61 m) ws w.sector)) x.1.0,
        holds ∙ ap (chosen (get_or cs w.sector 0) (waiting_at (row_count 61 m) ws w.sector)) x.1.1,
      )
    ]

    in_place : (s : ℕ) → IsSettled cs ws m m₂ s ⊎ (Absent s (take (k + 1) ws) × IsKept m m₂ s)
    in_place s = elim (cases_eq s w.sector) [
      | inl e ↦ inl (subst (IsSettled cs ws m m₂) (sym e) settled)
      | inr ne ↦ elsewhere s ne (there s ne)
    ]

  settles_more : SettlesFor k cs ws m₁ m₂ → SettlesFirst (k + 1) cs ws m m₂
  settles_more one = elim (cases_lt w.sector (row_count 61 m)) [
    | inl here ↦
        let here₁ : w.sector < row_count 61 m₁ = let e = same_count in omega arith in
        let by = one.here w at here₁ in
        record {
          long = ap length by.memory ∙ long_kept 61 m₁ w.sector _ (room 61 m₁ w.sector here₁) by.whole ∙ g.long;
          each = in_place here by;
        }
    | inr past ↦
        let e = one.past w at (let e = same_count in omega arith) in
        record {
          long = ap length e ∙ g.long;
          each = passed_over past e;
        }
  ]

-- at each place before the last stands a write
pub at_place : (ws : List PendingWrite) (k : ℕ) → k < length ws → (w : PendingWrite) × At ws k w
at_place [] k h = absurd (omega arith)
at_place (w ∷ ws) zero h = (w, (h, λ d. refl))
at_place (w ∷ ws) (suc k) h = let p = at_place ws k (omega arith) in (p.0, (h, p.1.1))

pub settles_next : (k : ℕ) (cs : List ℕ) (ws : List PendingWrite) (m m₁ m₂ : List ℕ) → k < length ws → SettlesFirst k cs ws m m₁ → SettlesFor k cs ws m₁ m₂ → SettlesFirst (k + 1) cs ws m m₂
settles_next k cs ws m m₁ m₂ h g one = let p = at_place ws k h in settles_more k cs ws m m₁ m₂ p.0 p.1 g one

-- all are settled
pub settles_all : (k : ℕ) (cs : List ℕ) (ws : List PendingWrite) (m m' : List ℕ) → length ws ≤ k → SettlesFirst k cs ws m m' → Settles cs ws m m'
settles_all k cs ws m m' all g = record {
  long = g.long;
  rows = λ s. (settled s).0;
  contents = λ s. (settled s).1;
}
  where
    settled : (s : ℕ) → IsSettled cs ws m m' s
    settled s = elim (g.each s) [
      | inl x ↦ x
      | inr x ↦ bare_settled cs ws m m' s (absent_waiting s ws (subst (Absent s) (take_all k ws all) x.0) (row_count 61 m)) x.1
    ]

-- where nothing waits, only what is durable can be left
alone : {c d : Content} → MayLeave [] (λ (x : Content). x ≡ d) c → c ≡ d
alone (inl e) = e
alone (inr (inl x)) = elim x [ ]
alone (inr (inr x)) = let z = x.0 in absurd (omega arith)

-- all are settled
module _ (cs : List ℕ) (ws ws' : List PendingWrite) (m m' : List ℕ) (empty : ws' ≡ []) (g : Settles cs ws m m') where
  bare : (s : ℕ) → waiting_at (row_count 61 m') ws' s ≡ []
  unfolding waiting_at
  bare s = ap (λ (z : List PendingWrite). waiting_at (row_count 61 m') z s) empty

  pub settled_current : (s : ℕ) → shown (row_count 61 m') ws' (durable m') s ≡ chosen (get_or cs s 0) (waiting_at (row_count 61 m) ws s) (durable m s)
  settled_current s = ap (λ (z : List (List ℕ)). youngest z (durable m' s)) (bare s) ∙ g.contents s

  pub settled_only : Settled (shown (row_count 61 m') ws' (durable m')) (may (row_count 61 m') ws' (only (durable m')))
  settled_only s c h = alone (subst (λ (z : List (List ℕ)). MayLeave z (λ (x : Content). x ≡ durable m' s) c) (bare s) h) ∙ sym (ap (λ (z : List (List ℕ)). youngest z (durable m' s)) (bare s))

  pub settled_found : Found (may (row_count 61 m) ws (only (durable m))) (shown (row_count 61 m') ws' (durable m'))
  settled_found s = subst (MayLeave (waiting_at (row_count 61 m) ws s) (λ (x : Content). x ≡ durable m s)) (sym (settled_current s)) (was_possible (get_or cs s 0) (waiting_at (row_count 61 m) ws s) (durable m s))

  pub settled_cut : IsFoundOf (with_waiting ws (rows_mean m)) (with_waiting ws' (rows_mean m'))
  settled_cut = record {
    count = ap (λ (k : ℕ). min (k / 61) 4294967295) g.long;
    found = λ s _. settled_found s;
    only = λ s c _. settled_only s c;
  }

-- Every image that can be found is settled to by some numbers.
few_waiting : (n s : ℕ) (ws : List PendingWrite) → length (waiting_at n ws s) ≤ length ws
unfolding waiting_at
few_waiting n s [] = omega arith
few_waiting n s (w ∷ ws) = let k = few_waiting n s ws in few (waiting_at n ws s) w.bytes (eqb w.sector s && ltb s n) k
  where
    few : (bs : List (List ℕ)) (b : List ℕ) (t : Bool) → length bs ≤ length ws → length (cond t (b ∷ bs) bs) ≤ length (w ∷ ws)
    few bs b true k = omega arith
    few bs b false k = omega arith

module _ (ws : List PendingWrite) (m : List ℕ) (few : length ws ≤ 8) (σ : Image) (found : Found (may (row_count 61 m) ws (only (durable m))) σ) where
  number : (s : ℕ) → (k : ℕ) × (k < 256) × (chosen k (waiting_at (row_count 61 m) ws s) (durable m s) ≡ σ s)
  number s = number_of (waiting_at (row_count 61 m) ws s) (durable m s) (σ s) (let k = few_waiting (row_count 61 m) s ws in omega arith) (found s)

  numbers : List ℕ
  numbers = map (λ (s : ℕ). (number s).0) (range_with_len 0 (row_count 61 m))

  at_number : (s : ℕ) → s < row_count 61 m → get_or numbers s 0 ≡ (number s).0
  unfolding numbers
  at_number s h = get_or-map-range_with_len (λ (s : ℕ). (number s).0) 0 (row_count 61 m) s s 0 h (omega arith)

  all_numbers : length numbers ≡ row_count 61 m
  unfolding numbers
  all_numbers = length-map-range_with_len (λ (s : ℕ). (number s).0) 0 (row_count 61 m)

  past_number : (s : ℕ) → row_count 61 m ≤ s → get_or numbers s 0 ≡ 0
  past_number s h = get_or_past numbers s 0 (let l = all_numbers in omega arith)

  chooses : (s : ℕ) → chosen (get_or numbers s 0) (waiting_at (row_count 61 m) ws s) (durable m s) ≡ σ s
  chooses s = elim (cases_lt s (row_count 61 m)) [
    | inl h ↦ ap (λ (k : ℕ). chosen k (waiting_at (row_count 61 m) ws s) (durable m s)) (at_number s h) ∙ (number s).2
    | inr h ↦ ap (λ (k : ℕ). chosen k (waiting_at (row_count 61 m) ws s) (durable m s)) (past_number s h) ∙ sym (alone (subst (λ (z : List (List ℕ)). MayLeave z (λ (x : Content). x ≡ durable m s) (σ s)) (past_bare (row_count 61 m) s ws h) (found s)))
  ]

  pub reached : (cs : List ℕ) × (length cs ≡ row_count 61 m) × ((i : ℕ) → get_or cs i 0 < 256) × ((s : ℕ) → chosen (get_or cs s 0) (waiting_at (row_count 61 m) ws s) (durable m s) ≡ σ s)
  reached = (
    numbers,
    all_numbers,
    (λ i. elim (cases_lt i (row_count 61 m)) [
      | inl h ↦ let e = at_number i h in let k = (number i).1 in omega arith
      | inr h ↦ let e = past_number i h in omega arith
    ]),
    chooses,
  )

pub reaches : (ws : List PendingWrite) (m : List ℕ) → length ws ≤ 8 → SettlesToEach ws m
reaches ws m few σ found = reached ws m few σ found
