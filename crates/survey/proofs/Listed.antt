-- All runs of a table, by the next one and those behind it.
-- Assumes nothing.
use Rattle.std.proofs.Common.{◌≡◌, ℕ, zero, suc, ◌+◌, ◌-◌, ◌<◌, ◌≤◌, true, false, eqb, List, [], ◌∷◌, ◌++◌, flat_map, codes, append_assoc, append-nil, length, drop, Some, None, refl, sym, ap, subst, ◌∙◌, arith, inl, inr}
use Rattle.std.proofs.lemmas.Bool.{cases_Bool, cases_lt, eq-eqb, ne_eqb}
use Rattle.std.proofs.lemmas.List.{drop_more, drop_all}
use Rattle.survey.specs.declared.condition.Condition.{Condition}
use Rattle.survey.specs.declared.condition.Condition.TheVariants.{Blank, Written, Torn}
use Rattle.survey.specs.declared.condition.Run.{Run}
use Rattle.survey.specs.declared.runs.Runs.{Runs}
use Rattle.survey.specs.Conditions.{at, same}
use Rattle.survey.specs.Runs.{FirstRun, NextRun, GivesRun, joins_runs, runs_in, runs_left}
use Rattle.survey.specs.Texts.{run_text, runs_text}

same_self : (k : Condition) → same k k ≡ true
same_self Blank = refl
same_self Written = refl
same_self Torn = refl

same_other : (k x : Condition) → (x ≡ k → ⊥) → same k x ≡ false
same_other Blank Blank ne = absurd (ne refl)
same_other Blank Written ne = refl
same_other Blank Torn ne = refl
same_other Written Blank ne = refl
same_other Written Written ne = absurd (ne refl)
same_other Written Torn ne = refl
same_other Torn Blank ne = refl
same_other Torn Written ne = refl
same_other Torn Torn ne = absurd (ne refl)

-- no run begins before sector n
Behind : ℕ → List Run → Type 0
Behind n [] = Unit {0}
Behind n (r ∷ rs) = n ≤ r.first

behind_more : (n : ℕ) (rs : List Run) → Behind (n + 1) rs → Behind n rs
unfolding Behind
behind_more n [] h = tt
behind_more n (r ∷ rs) h = omega arith

joins_behind : (n : ℕ) (rs : List Run) → Behind n (joins_runs n rs)
unfolding Behind
joins_behind n [] = omega arith
joins_behind n (r ∷ rs) = elim (cases_Bool (eqb r.first (n + 1))) [ inl e ↦ rw e (omega arith) | inr e ↦ rw e (omega arith) ]

runs_behind : (k : Condition) (n : ℕ) (xs : List Condition) → Behind n (runs_in k n xs)
unfolding runs_in Behind
runs_behind k n [] = tt
runs_behind k n (x ∷ xs) = elim (cases_Bool (same k x)) [
  | inl e ↦ rw e (joins_behind n (runs_in k (n + 1) xs))
  | inr e ↦ rw e (behind_more n (runs_in k (n + 1) xs) (runs_behind k (n + 1) xs))
]

-- a sector joins no run that begins behind its neighbour
joins_none : (n : ℕ) (rs : List Run) → Behind (n + 2) rs → joins_runs n rs ≡ record { first = n; last = n } ∷ rs
unfolding Behind
joins_none n [] h = refl
joins_none n (r ∷ rs) h = rw (ne_eqb r.first (n + 1) (λ e. omega arith)) refl

module _ (k : Condition) (xs : List Condition) where
  abbrev left : ℕ → List Run
  left n = runs_in k n (drop n xs)

  left_here : (n : ℕ) → n < length xs → at xs n ≡ k → left n ≡ joins_runs n (left (n + 1))
  unfolding runs_in
  left_here n h e = rw (drop_more xs n Blank h, e, same_self k) refl

  left_past : (n : ℕ) → n < length xs → (at xs n ≡ k → ⊥) → left n ≡ left (n + 1)
  unfolding runs_in
  left_past n h ne = rw (drop_more xs n Blank h, same_other k (at xs n) ne) refl

  left_none : (n : ℕ) → length xs ≤ n → left n ≡ []
  unfolding runs_in
  left_none n h = rw (drop_all n xs h) refl

  -- sectors in another condition are passed over
  skips : (d n : ℕ) → n + d ≤ length xs → ((s : ℕ) → n ≤ s → s < n + d → at xs s ≡ k → ⊥) → left n ≡ left (n + d)
  skips zero n h not = ap left (let e : n ≡ n + 0 = omega arith in e)
  skips (suc d) n h not =
      let step = left_past n (omega arith) (not n (omega arith) (omega arith)) in
      let rest = skips d (n + 1) (omega arith) (λ s a b. not s (omega arith) (omega arith)) in
      let e : n + 1 + d ≡ n + suc d = omega arith in
      step ∙ rest ∙ ap left e

  -- behind a run there is a sector in another condition, or none
  behind_run : (n : ℕ) → (n + 1 < length xs → at xs (n + 1) ≡ k → ⊥) → Behind (n + 2) (left (n + 1))
  unfolding Behind
  behind_run n ends = elim (cases_lt (n + 1) (length xs)) [
    | inl h ↦ subst (Behind (n + 2)) (sym (left_past (n + 1) h (ends h))) (let e : n + 1 + 1 ≡ n + 2 = omega arith in subst (λ (i : ℕ). Behind (n + 2) (left i)) (sym e) (runs_behind k (n + 2) (drop (n + 2) xs)))
    | inr h ↦ subst (Behind (n + 2)) (sym (left_none (n + 1) h)) tt
  ]

  -- a whole run is the first that is left
  takes : (d n : ℕ) → n + d < length xs → ((s : ℕ) → n ≤ s → s ≤ n + d → at xs s ≡ k) → (n + d + 1 < length xs → at xs (n + d + 1) ≡ k → ⊥)
      → left n ≡ record { first = n; last = n + d } ∷ left (n + d + 1)
  takes zero n h all ends =
      let e : n + 0 ≡ n = omega arith in
      left_here n (omega arith) (all n (omega arith) (omega arith))
      ∙ joins_none n (left (n + 1)) (behind_run n (subst (λ (i : ℕ). i + 1 < length xs → at xs (i + 1) ≡ k → ⊥) e ends))
      ∙ ap (λ (i : ℕ). record { first = n; last = i } ∷ left (i + 1)) (sym e)
  takes (suc d) n h all ends =
      let e : n + suc d ≡ n + 1 + d = omega arith in
      let rest = takes d (n + 1) (omega arith) (λ s a b. all s (omega arith) (omega arith)) (subst (λ (i : ℕ). i + 1 < length xs → at xs (i + 1) ≡ k → ⊥) e ends) in
      left_here n (omega arith) (all n (omega arith) (omega arith)) ∙ ap (joins_runs n) rest
      ∙ rw (eq-eqb (n + 1) (n + 1) refl) (ap (λ (i : ℕ). record { first = n; last = i } ∷ left (i + 1)) (sym e))

  next_of : (from : ℕ) (r : Run) → FirstRun xs k from r → left from ≡ r ∷ left (r.last + 1)
  next_of from r f =
      let i : from + (r.first - from) ≡ r.first = let l = f.later in omega arith in
      let j : r.first + (r.last - r.first) ≡ r.last = let l = f.order in omega arith in
      skips (r.first - from) from (let a = f.order in let b = f.within in omega arith) (λ s a b. f.before s a (omega arith))
      ∙ ap left i
      ∙ takes (r.last - r.first) r.first (let b = f.within in omega arith) (λ s a b. f.all s a (omega arith)) (subst (λ (m : ℕ). m + 1 < length xs → at xs (m + 1) ≡ k → ⊥) (sym j) f.ends)
      ∙ ap (λ (m : ℕ). record { first = r.first; last = m } ∷ left (m + 1)) j

  none_of : (from : ℕ) → NextRun xs k from None → left from ≡ []
  none_of from not = elim (cases_lt from (length xs)) [
    | inl h ↦
        let e : from + (length xs - from) ≡ length xs = omega arith in
        skips (length xs - from) from (omega arith) (λ s a b. not s a (omega arith)) ∙ left_none _ (omega arith)
    | inr h ↦ left_none from h
  ]

-- what an iterator gives is the first run that it has left, and the others stay
pub gives_first : (old new : Runs) (r : Run) → GivesRun old (Some r) new → runs_left old ≡ r ∷ runs_left new
gives_first old new r (first, e) = next_of old.wanted old.conditions.now old.from r first ∙ rw (e.0, e.1, e.2) refl

pub gives_none : (old new : Runs) → GivesRun old None new → runs_left old ≡ []
gives_none old new (none, _) = none_of old.wanted old.conditions.now old.from none

-- the text of the runs, run by run
pub text_of_first : (rs ts : List Run) (r : Run) → rs ≡ r ∷ ts → run_text r ++ flat_map (λ q. codes ", " ++ run_text q) ts ≡ runs_text rs
text_of_first rs ts r e = ap runs_text (sym e)

pub text_of_none : (rs : List Run) → rs ≡ [] → codes "none" ≡ runs_text rs
text_of_none rs e = ap runs_text (sym e)

pub text_of_next : (rs ts : List Run) (r : Run) (done text : List ℕ) → rs ≡ r ∷ ts → done ++ flat_map (λ q. codes ", " ++ run_text q) rs ≡ text
    → (done ++ (codes ", " ++ run_text r)) ++ flat_map (λ q. codes ", " ++ run_text q) ts ≡ text
text_of_next rs ts r done text e h = append_assoc done (codes ", " ++ run_text r) _ ∙ ap (λ (l : List Run). done ++ flat_map (λ (q : Run). codes ", " ++ run_text q) l) (sym e) ∙ h

pub text_of_last : (rs : List Run) (done text : List ℕ) → rs ≡ [] → done ++ flat_map (λ q. codes ", " ++ run_text q) rs ≡ text → done ≡ text
text_of_last rs done text e h = sym (append-nil done) ∙ ap (λ (l : List Run). done ++ flat_map (λ (q : Run). codes ", " ++ run_text q) l) (sym e) ∙ h
