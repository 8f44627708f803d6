-- A device with writes waiting in front of it keeps the rules: as one is taken up, is passed on, or is cut.
-- Assumes nothing.
use Rattle.std.proofs.Common.{◌≡◌, ℕ, ◌+◌, ◌<◌, ◌≤◌, true, ◌⊎◌, List, [], ◌∷◌, ◌++◌, length, take, drop, Ok, Err, sym, refl, ap, ◌∙◌, subst, inl, inr, append-nil, arith}
use Rattle.std.proofs.lemmas.List.{take-append-drop}
use Rattle.std.proofs.lemmas.Bool.{cases_eq, cases_Bool, both_ways}
use Rattle.device.specs.declared.fault.Fault.TheVariants.{NoSector}
use Rattle.device.specs.declared.pending.PendingWrite.{PendingWrite}
use Rattle.device.specs.Faults.{Answer, returned}
use Rattle.device.specs.Sector.{Content, torn, Image, Possible, IsPayload}
use Rattle.device.specs.Bytes.{content, payload_content}
use Rattle.device.specs.Rules.{Meaning, NoneAdded, Puts, Gains, WriteCall, FlushCall}
use Rattle.device.specs.Queues.{At}
use Rattle.device.specs.Waiting.{waiting_at, youngest, OneOf, MayLeave, shown, may, with_waiting, Absent, IsYoungest, Keeps, Untouched}
use Rattle.device.proofs.Calls.{accepted_below, write_gains}
use Rattle.device.proofs.Lists.{first_here, first_there, first_past, absent_waiting, from_place, waiting_append, youngest_last, leave_last, leave_replaced, leave_first, leave_map}

-- what an accepted write shows, for a device that is on
pub accepted_write : (s : ℕ) (b : List ℕ) (m m' : Meaning) → m.on ≡ true → m'.on ≡ true → m'.count ≡ m.count → s < m.count
    → Puts s b m.current m'.current → Gains s b m.possible m'.possible → WriteCall s b (Ok tt) m m'
accepted_write s b m m' on on' count h p g = record {
  count = count;
  numbered = record { past = λ k. absurd (omega arith); below = λ _ z. omega arith };
  off = record { stays = λ x. absurd (both_ways m.on x on); answers = λ x. absurd (both_ways m.on x on); added = λ x. absurd (both_ways m.on x on) };
  power = on';
  writes = record { answers = λ _. inl refl; puts = λ _. p; gains = λ _. g; refused = λ z. absurd (omega arith) };
  cut = λ z. absurd (omega arith);
}

-- a write to a sector that is not there, for a device that is on
pub refused_write : (s : ℕ) (b : List ℕ) (m : Meaning) → m.on ≡ true → m.count ≤ s → WriteCall s b (Err NoSector) m m
refused_write s b m on past = record {
  count = refl;
  numbered = record { past = λ _. inl refl; below = λ k _. omega arith };
  off = record { stays = λ x. x; answers = λ x. absurd (both_ways m.on x on); added = λ x. absurd (both_ways m.on x on) };
  power = on;
  writes = record {
    answers = λ k. absurd (omega arith);
    puts = λ z. absurd (omega arith);
    gains = λ z. absurd (omega arith);
    refused = λ _. record { current = λ t. refl; added = λ t c h. h; lost = λ t c h. h };
  };
  cut = λ z. absurd (omega arith);
}

pub accepted_flush : (m m' : Meaning) → m.on ≡ true → m'.on ≡ true → m'.count ≡ m.count → ((s : ℕ) → m'.current s ≡ m.current s)
    → ((s : ℕ) (c : Content) → m'.possible s c → c ≡ m'.current s) → FlushCall (Ok tt) m m'
accepted_flush m m' on on' count f p = record {
  count = count;
  off = record { stays = λ x. absurd (both_ways m.on x on); answers = λ x. absurd (both_ways m.on x on); added = λ x. absurd (both_ways m.on x on) };
  power = on';
  flushes = record { answers = inl refl; current = λ _. f; settled = λ _. p };
  cut = λ z. absurd (omega arith);
}

-- what keeps the contents may come before an accepted write, before a flush, or before what keeps them again
pub keeps_refl : (m : Meaning) → Keeps m m
keeps_refl m = record { count = refl; off = λ z. z; current = λ s. refl; added = λ s c h. h }

pub keeps_then : (m m₁ m₂ : Meaning) → Keeps m m₁ → Keeps m₁ m₂ → Keeps m m₂
keeps_then m m₁ m₂ k l = record {
  count = l.count ∙ k.count;
  off = λ z. l.off (k.off z);
  current = λ s. l.current s ∙ k.current s;
  added = λ s c h. k.added s c (l.added s c h);
}

puts_after : (s : ℕ) (b : List ℕ) (f g h : Image) → ((t : ℕ) → g t ≡ f t) → Puts s b g h → Puts s b f h
puts_after s b f g h e p = record { here = p.here; there = λ t ne. p.there t ne ∙ e t }

gains_after : (s : ℕ) (b : List ℕ) (p q r : Possible) → NoneAdded p q → Gains s b q r → Gains s b p r
gains_after s b p q r n g = record {
  here = λ c h. elim (g.here c h) [ inl x ↦ inl (n s c x) | inr x ↦ inr x ];
  there = λ t c ne h. n t c (g.there t c ne h);
}

pub keeps_write : (s : ℕ) (b : List ℕ) (m m₁ m₂ : Meaning) → m.on ≡ true → Keeps m m₁ → WriteCall s b (Ok tt) m₁ m₂ → WriteCall s b (Ok tt) m m₂
keeps_write s b m m₁ m₂ on k w = let below = accepted_below s (Ok tt) m₁ w.numbered refl in
    accepted_write s b m m₂ on w.power (w.count ∙ k.count) (subst (λ (n : ℕ). s < n) k.count below)
    (puts_after s b m.current m₁.current m₂.current k.current (w.writes.puts refl))
    (gains_after s b m.possible m₁.possible m₂.possible k.added (w.writes.gains refl))

-- what the device below can be found with is among what could be found before, and all waits on
pub waits_on : (ws : List PendingWrite) (m m' : Meaning) → m'.count ≡ m.count → NoneAdded (with_waiting ws m).possible m'.possible → NoneAdded (with_waiting ws m).possible (with_waiting ws m').possible
waits_on ws m m' e n s d (inl h) = n s d h
waits_on ws m m' e n s d (inr h) = inr (subst (λ (k : ℕ). OneOf (waiting_at k ws s) d ⊎ ((0 < length (waiting_at k ws s)) × (d ≡ torn))) e h)

-- all that waited is passed on, and the device below is flushed
pub flushed : (ws : List PendingWrite) (m m₁ m₂ : Meaning) (r : Answer) → Keeps (with_waiting ws m) (with_waiting [] m₁) → FlushCall r m₁ m₂ → returned r ≡ 0 → FlushCall (Ok tt) (with_waiting ws m) (with_waiting [] m₂)
unfolding waiting_at
flushed ws m m₁ m₂ r k c ok = accepted_flush (with_waiting ws m) (with_waiting [] m₂) on (c.power ∙ rw ok) (c.count ∙ k.count)
    (λ s. c.flushes.current ok s ∙ k.current s)
    (λ s d h. settled s d h)
  where
    on : m.on ≡ true
    on = elim (cases_Bool m.on) [ inl e ↦ e | inr e ↦ let x = c.off.answers (k.off e) in absurd (omega arith) ]

    settled : (s : ℕ) (d : Content) → may m₂.count [] m₂.possible s d → d ≡ m₂.current s
    settled s d (inl h) = c.flushes.settled ok s d h
    settled s d (inr (inl h)) = elim h [ ]
    settled s d (inr (inr h)) = let x = h.0 in absurd (omega arith)

-- One write joins those that wait, as the youngest.
module _ (ws : List PendingWrite) (m : Meaning) (w : PendingWrite) (here : w.sector < m.count) (is : IsPayload w.bytes) where
  joined_at : waiting_at m.count (ws ++ w ∷ []) w.sector ≡ waiting_at m.count ws w.sector ++ w.bytes ∷ []
  unfolding waiting_at
  joined_at = waiting_append m.count ws (w ∷ []) w.sector ∙ ap (λ (z : List (List ℕ)). waiting_at m.count ws w.sector ++ z) (first_here m.count w [] w.sector refl here)

  joined_there : (t : ℕ) → (t ≡ w.sector → ⊥) → waiting_at m.count (ws ++ w ∷ []) t ≡ waiting_at m.count ws t
  unfolding waiting_at
  joined_there t ne = waiting_append m.count ws (w ∷ []) t ∙ ap (λ (z : List (List ℕ)). waiting_at m.count ws t ++ z) (first_there m.count w [] t (λ e. ne (sym e))) ∙ append-nil (waiting_at m.count ws t)

  pub joins : m.on ≡ true → WriteCall w.sector w.bytes (Ok tt) (with_waiting ws m) (with_waiting (ws ++ w ∷ []) m)
  joins on = accepted_write w.sector w.bytes (with_waiting ws m) (with_waiting (ws ++ w ∷ []) m) on on refl here
      (record {
        here = ap (λ (z : List (List ℕ)). youngest z (m.current w.sector)) joined_at ∙ youngest_last (waiting_at m.count ws w.sector) w.bytes _ ∙ payload_content w.bytes is;
        there = λ t ne. ap (λ (z : List (List ℕ)). youngest z (m.current t)) (joined_there t ne);
      })
      (record {
        here = λ c h. elim (leave_last (waiting_at m.count ws w.sector) w.bytes (m.possible w.sector) c (subst (λ (z : List (List ℕ)). MayLeave z (m.possible w.sector) c) joined_at h)) [
          | inl x ↦ inl x
          | inr o ↦ inr (elim o [ inl e ↦ inl (e ∙ payload_content w.bytes is) | inr e ↦ inr e ])
        ];
        there = λ t c ne h. subst (λ (z : List (List ℕ)). MayLeave z (m.possible t) c) (joined_there t ne) h;
      })

-- The youngest write that waits for its sector, v, makes room for another to the same sector, w.
module _ (before after : List PendingWrite) (m : Meaning) (v w : PendingWrite) (same : v.sector ≡ w.sector) (last : waiting_at m.count after w.sector ≡ [])
    (here : w.sector < m.count) (is : IsPayload w.bytes) where
  placed_at : (x : PendingWrite) → x.sector ≡ w.sector → waiting_at m.count (before ++ x ∷ after) w.sector ≡ waiting_at m.count before w.sector ++ x.bytes ∷ []
  placed_at x e = waiting_append m.count before (x ∷ after) w.sector
      ∙ ap (λ (z : List (List ℕ)). waiting_at m.count before w.sector ++ z) (first_here m.count x after w.sector e here ∙ ap (λ (z : List (List ℕ)). x.bytes ∷ z) last)

  placed_there : (t : ℕ) → (t ≡ w.sector → ⊥) → waiting_at m.count (before ++ w ∷ after) t ≡ waiting_at m.count (before ++ v ∷ after) t
  placed_there t ne = waiting_append m.count before (w ∷ after) t
      ∙ ap (λ (z : List (List ℕ)). waiting_at m.count before t ++ z) (first_there m.count w after t (λ e. ne (sym e)) ∙ sym (first_there m.count v after t (λ e. ne (sym e ∙ same))))
      ∙ sym (waiting_append m.count before (v ∷ after) t)

  pub replaces : m.on ≡ true → WriteCall w.sector w.bytes (Ok tt) (with_waiting (before ++ v ∷ after) m) (with_waiting (before ++ w ∷ after) m)
  replaces on = accepted_write w.sector w.bytes (with_waiting (before ++ v ∷ after) m) (with_waiting (before ++ w ∷ after) m) on on refl here
      (record {
        here = ap (λ (z : List (List ℕ)). youngest z (m.current w.sector)) (placed_at w refl) ∙ youngest_last (waiting_at m.count before w.sector) w.bytes _ ∙ payload_content w.bytes is;
        there = λ t ne. ap (λ (z : List (List ℕ)). youngest z (m.current t)) (placed_there t ne);
      })
      (record {
        here = λ c h. elim (leave_replaced (waiting_at m.count before w.sector) v.bytes w.bytes (m.possible w.sector) c (subst (λ (z : List (List ℕ)). MayLeave z (m.possible w.sector) c) (placed_at w refl) h)) [
          | inl x ↦ inl (subst (λ (z : List (List ℕ)). MayLeave z (m.possible w.sector) c) (sym (placed_at v same)) x)
          | inr o ↦ inr (elim o [ inl e ↦ inl (e ∙ payload_content w.bytes is) | inr e ↦ inr e ])
        ];
        there = λ t c ne h. subst (λ (z : List (List ℕ)). MayLeave z (m.possible t) c) (placed_there t ne) h;
      })

-- The oldest write is passed on: with the answer 0 it no longer waits.
module _ (w : PendingWrite) (ws : List PendingWrite) (m m' : Meaning) (r : Answer) (here : w.sector < m.count) (is : IsPayload w.bytes) (c : WriteCall w.sector w.bytes r m m') where
  -- what is below gains at most the write's content, and torn, in its sector
  gain : (d : Content) → m'.possible w.sector d → m.possible w.sector d ⊎ ((d ≡ content w.bytes) ⊎ (d ≡ torn))
  gain d h = elim ((write_gains w.sector w.bytes r m m' c).here d h) [
    | inl x ↦ inl x
    | inr o ↦ inr (elim o [ inl e ↦ inl (e ∙ sym (payload_content w.bytes is)) | inr e ↦ inr e ])
  ]

  added_below : (t : ℕ) (d : Content) → may m.count ws m'.possible t d → may m.count (w ∷ ws) m.possible t d
  added_below t d h = elim (cases_eq t w.sector) [
    | inl e ↦ subst (λ (z : ℕ). may m.count (w ∷ ws) m.possible z d) (sym e)
        (subst (λ (z : List (List ℕ)). MayLeave z (m.possible w.sector) d) (sym (first_here m.count w ws w.sector refl here))
        (leave_first (waiting_at m.count ws w.sector) w.bytes (m.possible w.sector) (m'.possible w.sector) d (gain d) (subst (λ (z : ℕ). may m.count ws m'.possible z d) e h)))
    | inr ne ↦ subst (λ (z : List (List ℕ)). MayLeave z (m.possible t) d) (sym (first_there m.count w ws t (λ e. ne (sym e))))
        (leave_map (waiting_at m.count ws t) (m.possible t) (m'.possible t) d ((write_gains w.sector w.bytes r m m' c).there t d ne) h)
  ]

  current_below : returned r ≡ 0 → (t : ℕ) → shown m.count ws m'.current t ≡ shown m.count (w ∷ ws) m.current t
  current_below ok t = elim (cases_eq t w.sector) [
    | inl e ↦ subst (λ (z : ℕ). shown m.count ws m'.current z ≡ shown m.count (w ∷ ws) m.current z) (sym e)
        (ap (youngest (waiting_at m.count ws w.sector)) ((c.writes.puts ok).here ∙ sym (payload_content w.bytes is))
        ∙ ap (λ (z : List (List ℕ)). youngest z (m.current w.sector)) (sym (first_here m.count w ws w.sector refl here)))
    | inr ne ↦ ap (youngest (waiting_at m.count ws t)) ((c.writes.puts ok).there t ne)
        ∙ ap (λ (z : List (List ℕ)). youngest z (m.current t)) (sym (first_there m.count w ws t (λ e. ne (sym e))))
  ]

  pub passed_on : returned r ≡ 0 → Keeps (with_waiting (w ∷ ws) m) (with_waiting ws m')
  passed_on ok = record {
    count = c.count;
    off = c.off.stays;
    current = λ t. ap (λ (n : ℕ). shown n ws m'.current t) c.count ∙ current_below ok t;
    added = λ t d h. added_below t d (subst (λ (n : ℕ). may n ws m'.possible t d) c.count h);
  }

  -- whatever the answer, the device below can be found only as it could with the write waiting
  pub added_on : NoneAdded (with_waiting (w ∷ ws) m).possible m'.possible
  added_on t d h = added_below t d (inl h)

-- a write to a sector that the device does not have is dropped
pub past_dropped : (w : PendingWrite) (ws : List PendingWrite) (m m' : Meaning) → m.count ≤ w.sector → Untouched m m' → Keeps (with_waiting (w ∷ ws) m) (with_waiting ws m')
past_dropped w ws m m' h u = record {
  count = u.count;
  off = λ z. u.on ∙ z;
  current = λ t. ap (λ (n : ℕ). shown n ws m'.current t) u.count ∙ ap (youngest (waiting_at m.count ws t)) (u.contents.current t)
      ∙ ap (λ (z : List (List ℕ)). youngest z (m.current t)) (sym (first_past m.count w ws t h));
  added = λ t d k. subst (λ (z : List (List ℕ)). MayLeave z (m.possible t) d) (sym (first_past m.count w ws t h))
      (leave_map (waiting_at m.count ws t) (m.possible t) (m'.possible t) d (u.contents.added t d) (subst (λ (n : ℕ). may n ws m'.possible t d) u.count k));
}

-- the youngest write to a sector is what it holds
pub split_holds : (s : ℕ) (ws before after : List PendingWrite) (w : PendingWrite) → ws ≡ before ++ w ∷ after → w.sector ≡ s → Absent s after → IsPayload w.bytes → IsYoungest s w.bytes ws
split_holds s ws before after w e same last is n c h =
    let waits : waiting_at n ws s ≡ waiting_at n before s ++ w.bytes ∷ [] =
    ap (λ (z : List PendingWrite). waiting_at n z s) e ∙ waiting_append n before (w ∷ after) s
    ∙ ap (λ (z : List (List ℕ)). waiting_at n before s ++ z) (first_here n w after s same h ∙ ap (λ (z : List (List ℕ)). w.bytes ∷ z) (absent_waiting s after last n)) in
    ap (λ (z : List (List ℕ)). youngest z c) waits ∙ youngest_last (waiting_at n before s) w.bytes c ∙ payload_content w.bytes is

pub place_holds : (s : ℕ) (ws : List PendingWrite) (j k : ℕ) (w : PendingWrite) → k ≡ j + 1 → At ws j w → w.sector ≡ s → Absent s (drop k ws) → IsPayload w.bytes → IsYoungest s w.bytes ws
place_holds s ws j k w e h same last is = split_holds s ws (take j ws) (drop k ws) w
    (sym (take-append-drop j ws) ∙ ap (λ (z : List PendingWrite). take j ws ++ z) (from_place ws j k w e h)) same last is
