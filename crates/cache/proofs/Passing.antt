-- Writes that are passed on to the device below, one or all of those held.
-- Assumes nothing.
use Rattle.std.proofs.Common.{◌≡◌, ℕ, ◌+◌, ◌<◌, true, false, ltb, List, [], ◌∷◌, length, get_or, drop, Ok, Err, sym, refl, ap, ◌∙◌, subst, inl, inr, arith}
use Rattle.std.proofs.lemmas.Bool.{cases_lt, le-ltb, cond-false}
use Rattle.std.proofs.lemmas.List.{drop_more}
use Rattle.device.specs.declared.Device.{Ghosts}
use Rattle.device.specs.declared.fault.Fault.TheVariants.{Off, NoSector, Torn}
use Rattle.device.specs.declared.fault.Fault.{Fault}
use Rattle.device.specs.declared.pending.PendingWrite.{PendingWrite}
use Rattle.device.specs.Faults.{Answer, number, returned}
use Rattle.device.specs.Rules.{Meaning, NoneAdded}
use Rattle.device.specs.Waiting.{with_waiting, Keeps, Cut}
use Rattle.device.proofs.Waits.{passed_on, added_on, past_dropped, keeps_refl, keeps_then, waits_on}
use Rattle.device.proofs.Calls.{err_returned}
use Rattle.cache.specs.Held.{Passed, MakesRoom, PassesAll}
use Rattle.cache.specs.Below.{PassedOn, AllPassedOn}

is_off : (e : Fault) → number e ≡ 1 → e ≡ Off
is_off Off h = refl
is_off NoSector h = absurd (omega arith)
is_off Torn h = absurd (omega arith)

-- A write that was held longest is passed on: accepted, it waits no longer and no content is lost.
module _ (w : PendingWrite) (m m' : Meaning) (p : Passed w (Ok tt) m m') where
  goes_on : (ws : List PendingWrite) → Keeps (with_waiting (w ∷ ws) m) (with_waiting ws m')
  goes_on ws = elim (cases_lt w.sector m.count) [
    | inl here ↦ passed_on w ws m m' (Ok tt) here p.whole (p.written here) refl
    | inr past ↦ past_dropped w ws m m' past (p.dropped past).1
  ]

  stays_on : m.on ≡ true → m'.on ≡ true
  stays_on on = elim (cases_lt w.sector m.count) [ inl here ↦ (p.written here).power | inr past ↦ (p.dropped past).1.on ∙ on ]

-- Cut, what is below can be found only as it could with the write waiting.
record Stops (w : PendingWrite) (e : Fault) (m m' : Meaning) : Type 0 where
  off : e ≡ Off
  count : m'.count ≡ m.count
  on : m'.on ≡ false
  added : (ws : List PendingWrite) → NoneAdded (with_waiting (w ∷ ws) m).possible m'.possible

stops : (w : PendingWrite) (e : Fault) (m m' : Meaning) → Passed w (Err e) m m' → Stops w e m m'
stops w e m m' p = elim (cases_lt w.sector m.count) [
  | inl here ↦ let c = p.written here in elim (c.writes.answers here) [
    | inl ok ↦ absurd (err_returned (Err e) e refl ok)
    | inr one ↦ record { off = is_off e one; count = c.count; on = c.power ∙ rw one; added = λ ws. added_on w ws m m' (Err e) here p.whole c }
  ]
  | inr past ↦ absurd (err_returned (Err e) e refl (let same = (p.dropped past).0 in ap returned same))
]

-- what is below can be found only as it could with all of ws waiting, of which the write is passed on now
cut_in : (ws vs : List PendingWrite) (w : PendingWrite) (e : Fault) (m m₁ m₂ : Meaning) → Keeps (with_waiting ws m) (with_waiting (w ∷ vs) m₁) → Stops w e m₁ m₂ → Cut (with_waiting ws m) (with_waiting ws m₂)
cut_in ws vs w e m m₁ m₂ k s = record {
  count = s.count ∙ k.count;
  off = s.on;
  added = waits_on ws m m₂ (s.count ∙ k.count) (λ t d x. k.added t d (s.added vs t d x));
}

-- Eight are held, and the one held longest is passed on.
pub made_room : (ws ws' : List PendingWrite) (d : PendingWrite) (m m' : Meaning) → length ws ≡ 8 → ws' ≡ drop 1 ws → Passed (get_or ws 0 d) (Ok tt) m m' → MakesRoom (Ok tt) ws ws' m m'
made_room [] ws' d m m' full e p = absurd (omega arith)
made_room (w ∷ ws) ws' d m m' full e p = (
  e ∙ sym (cond-false (ltb (length (w ∷ ws)) 8) (w ∷ ws) ws (le-ltb (length (w ∷ ws)) 8 (omega arith))),
  (let n = ap length e in omega arith),
  subst (λ (z : List PendingWrite). Keeps (with_waiting (w ∷ ws) m) (with_waiting z m')) (sym e) (goes_on w m m' p ws),
  stays_on w m m' p,
)

pub room_cut : (ws : List PendingWrite) (d : PendingWrite) (e : Fault) (m m' : Meaning) → length ws ≡ 8 → Passed (get_or ws 0 d) (Err e) m m' → MakesRoom (Err e) ws ws m m'
room_cut [] d e m m' full p = absurd (omega arith)
room_cut (w ∷ ws) d e m m' full p = let s = stops w e m m' p in (s.off, refl, cut_in (w ∷ ws) ws w e m m m' (keeps_refl (with_waiting (w ∷ ws) m)) s)

-- One after another is passed on.
module _ (ws : List PendingWrite) (k : ℕ) (d : PendingWrite) (m m₁ m₂ : Meaning) (inside : k < length ws) (so_far : Keeps (with_waiting ws m) (with_waiting (drop k ws) m₁)) where
  before : Keeps (with_waiting ws m) (with_waiting (get_or ws k d ∷ drop (k + 1) ws) m₁)
  before = subst (λ (z : List PendingWrite). Keeps (with_waiting ws m) (with_waiting z m₁)) (drop_more ws k d inside) so_far

  pub one_more_on : Passed (get_or ws k d) (Ok tt) m₁ m₂ → Keeps (with_waiting ws m) (with_waiting (drop (k + 1) ws) m₂)
  one_more_on p = keeps_then _ _ _ before (goes_on (get_or ws k d) m₁ m₂ p (drop (k + 1) ws))

  pub all_cut : (e : Fault) → Passed (get_or ws k d) (Err e) m₁ m₂ → PassesAll (Err e) ws m m₂
  all_cut e p = let s = stops (get_or ws k d) e m₁ m₂ p in (s.off, cut_in ws (drop (k + 1) ws) (get_or ws k d) e m m₁ m₂ before s)

-- What is still to be passed on carries on what has been: it tells of all.
module _ {D : Type 0} (g : Ghosts D) (k : ℕ) (ws : List PendingWrite) (v : PendingWrite) (d d₁ d₂ : D) (inside : k < length ws)
    (so_far : (r : Answer) (e : D) → AllPassedOn g (drop k ws) r d₁ e → AllPassedOn g ws r d e) where
  all_told : (r : Answer) (e : D) → AllPassedOn g (get_or ws k v ∷ drop (k + 1) ws) r d₁ e → AllPassedOn g ws r d e
  all_told r e h = so_far r e (subst (λ (z : List PendingWrite). AllPassedOn g z r d₁ e) (sym (drop_more ws k v inside)) h)

  pub one_more_sent : PassedOn g (get_or ws k v) (Ok tt) d₁ d₂ → (r : Answer) (e : D) → AllPassedOn g (drop (k + 1) ws) r d₂ e → AllPassedOn g ws r d e
  one_more_sent p r e rest = all_told r e (inr (d₂, p, rest))

  pub last_sent : (f : Fault) → PassedOn g (get_or ws k v) (Err f) d₁ d₂ → AllPassedOn g ws (Err f) d d₂
  last_sent f p = all_told (Err f) d₂ (inl ((λ e. err_returned (Err f) f refl (ap returned e)), p))
