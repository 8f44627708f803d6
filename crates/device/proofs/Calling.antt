-- Calls one after another, and what reads leave.
-- Assumes nothing.
use Rattle.std.proofs.Common.{◌≡◌, ℕ, zero, suc, ◌+◌, ◌<◌, false, List, [], ◌∷◌, ◌++◌, Err, refl, inl, inr, ap, subst, sym, ◌∙◌, add-one, arith}
use Rattle.std.proofs.lemmas.Bool.{cases_lt}
use Rattle.device.specs.declared.Device.{Ghosts}
use Rattle.device.specs.declared.fault.Fault.TheVariants.{Off}
use Rattle.device.specs.Faults.{Answer}
use Rattle.device.specs.Rules.{Meaning}
use Rattle.device.specs.Means.{means}
use Rattle.device.specs.Calling.{Call, reads, each, Called, Ran, Stopped, OnlyReads}
use Rattle.device.specs.Calling.Call.{read}
use Rattle.device.proofs.Calls.{unchanged_then}

-- one more of a list of sectors
pub one_each : (f : ℕ → ℕ) (k : ℕ) → each f (k + 1) ≡ each f k ++ f k ∷ []
one_each f k = rw add-one

pub reads_none : (m : Meaning) → OnlyReads m m
reads_none m = record {
  count = refl;
  contents = record { current = λ s. refl; added = λ s c h. h; lost = λ s c h. h };
  stays_off = λ h. h;
}

pub reads_more : (m m₁ m₂ : Meaning) → OnlyReads m m₁ → OnlyReads m₁ m₂ → OnlyReads m m₂
reads_more m m₁ m₂ a b = record {
  count = b.count ∙ a.count;
  contents = unchanged_then m m₁ m₂ a.contents b.contents;
  stays_off = λ h. b.stays_off (a.stays_off h);
}

module _ {D : Type 0} (g : Ghosts D) where
  -- calls, and then calls
  pub ran_then : (cs es : List Call) (d e f : D) → Ran g cs d e → Ran g es e f → Ran g (cs ++ es) d f
  ran_then [] es d e f a b = subst (λ (x : D). Ran g es x f) a b
  ran_then (c ∷ cs) es d e f a b = (a.0, (a.1.0, a.1.1, a.1.2, ran_then cs es a.0 e f a.1.3 b))

  -- calls, and then calls of which the last one made answers 1
  pub stopped_then : (cs es : List Call) (d e f : D) → Ran g cs d e → Stopped g es e f → Stopped g (cs ++ es) d f
  stopped_then [] es d e f a b = subst (λ (x : D). Stopped g es x f) a b
  stopped_then (c ∷ cs) es d e f a b = inr (a.0, (a.1.0, a.1.1, a.1.2, stopped_then cs es a.0 e f a.1.3 b))

  -- what would have come after the call that answered 1 is not made
  pub stopped_before : (cs es : List Call) (d f : D) → Stopped g cs d f → Stopped g (cs ++ es) d f
  stopped_before [] es d f a = absurd a
  stopped_before (c ∷ cs) es d f (inl a) = inl a
  stopped_before (c ∷ cs) es d f (inr a) = inr (a.0, (a.1.0, a.1.1, a.1.2, stopped_before cs es a.0 f a.1.3))

  reads_append : (ss ts : List ℕ) → reads (ss ++ ts) ≡ reads ss ++ reads ts
  reads_append [] ts = refl
  reads_append (s ∷ ss) ts = let e = reads_append ss ts in cc

  -- the same of reads
  pub read_then : (ss ts : List ℕ) (d e f : D) → Ran g (reads ss) d e → Ran g (reads ts) e f → Ran g (reads (ss ++ ts)) d f
  read_then ss ts d e f a b = subst (λ (cs : List Call). Ran g cs d f) (sym (reads_append ss ts)) (ran_then (reads ss) (reads ts) d e f a b)

  pub cut_then : (ss ts : List ℕ) (d e f : D) → Ran g (reads ss) d e → Stopped g (reads ts) e f → Stopped g (reads (ss ++ ts)) d f
  cut_then ss ts d e f a b = subst (λ (cs : List Call). Stopped g cs d f) (sym (reads_append ss ts)) (stopped_then (reads ss) (reads ts) d e f a b)

  pub cut_before : (ss ts : List ℕ) (d f : D) → Stopped g (reads ss) d f → Stopped g (reads (ss ++ ts)) d f
  cut_before ss ts d f a = subst (λ (cs : List Call). Stopped g cs d f) (sym (reads_append ss ts)) (stopped_before (reads ss) (reads ts) d f a)

  -- sectors f 0, f 1 and so on are read, and then s, the one that follows
  pub read_next : (f : ℕ → ℕ) (k s : ℕ) (d e h : D) → s ≡ f k → Ran g (reads (each f k)) d e → Ran g (reads (s ∷ [])) e h
      → Ran g (reads (each f (k + 1))) d h
  read_next f k s d e h is a b =
      subst (λ (ss : List ℕ). Ran g (reads ss) d h) (sym (one_each f k))
      (read_then (each f k) (f k ∷ []) d e h a (subst (λ (t : ℕ). Ran g (reads (t ∷ [])) e h) is b))

  -- the same where the read of s answers 1: of n sectors, those after s are not read
  pub cut_next : (f : ℕ → ℕ) (k n s : ℕ) (d e h : D) → s ≡ f k → k < n → Ran g (reads (each f k)) d e → Stopped g (reads (s ∷ [])) e h
      → Stopped g (reads (each f n)) d h
  cut_next f k zero s d e h is below a b = absurd (omega arith)
  cut_next f k (suc n) s d e h is below a b = elim (cases_lt k n) [
    | inl lt ↦ cut_before (each f n) (f n ∷ []) d h (cut_next f k n s d e h is lt a b)
    | inr ge ↦
        let last : k ≡ n = omega arith in
        cut_then (each f n) (f n ∷ []) d e h
        (subst (λ (i : ℕ). Ran g (reads (each f i)) d e) last a)
        (subst (λ (t : ℕ). Stopped g (reads (t ∷ [])) e h) (is ∙ ap f last) b)
  ]

  read_once : (s : ℕ) (r : Answer) (d e : D) → Called g (read s) r d e → OnlyReads (means g d) (means g e)
  read_once s r d e (x, (y, c, m)) = record { count = c.count; contents = c.reads.unchanged; stays_off = c.off.stays }

  -- reads change nothing, and a device that is off stays off
  pub read_all : (ss : List ℕ) (d e : D) → Ran g (reads ss) d e → OnlyReads (means g d) (means g e)
  read_all [] d e a = subst (λ (x : D). OnlyReads (means g d) (means g x)) (sym a) (reads_none (means g d))
  read_all (s ∷ ss) d e a =
      reads_more (means g d) (means g a.0) (means g e) (read_once s a.1.0 d a.0 a.1.1) (read_all ss a.0 e a.1.3)

  pub read_cut : (ss : List ℕ) (d e : D) → Stopped g (reads ss) d e → OnlyReads (means g d) (means g e)
  read_cut [] d e a = absurd a
  read_cut (s ∷ ss) d e (inl a) = read_once s (Err Off) d e a
  read_cut (s ∷ ss) d e (inr a) =
      reads_more (means g d) (means g a.0) (means g e) (read_once s a.1.0 d a.0 a.1.1) (read_cut ss a.0 e a.1.3)

  -- a device is off once a read answered 1
  pub cut_off : (ss : List ℕ) (d e : D) → Stopped g (reads ss) d e → g.on e ≡ false
  cut_off [] d e a = absurd a
  cut_off (s ∷ ss) d e (inl (x, (y, c, m))) = c.power
  cut_off (s ∷ ss) d e (inr a) = cut_off ss a.0 e a.1.3
