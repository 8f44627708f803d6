-- What reads tell, one after another.
-- Assumes nothing.
use Rattle.std.proofs.Common.{◌≡◌, ℕ, ◌+◌, ◌<◌, ◌≤◌, true, false, ◌⊎◌, List, [], ◌∷◌, ◌++◌, Some, None, Option, MatchOption, Ok, Err, Result, MatchResult, sym, refl, subst, inl, inr, arith}
use Rattle.std.proofs.lemmas.Bool.{false≢true, cases_Bool, both_ways, cases_lt}
use Rattle.std.specs.Option.{ok_or}
use Rattle.std.specs.Result.{IsErr, IsErrAnd}
use Rattle.device.specs.declared.Device.{Ghosts}
use Rattle.device.specs.declared.fault.Fault.{Fault}
use Rattle.device.specs.declared.fault.Fault.TheVariants.{Off as FaultOff, NoSector, Torn}
use Rattle.device.specs.Faults.{Answer, returned}
use Rattle.device.specs.Sector.{torn, Image, IsPayload, Lawful}
use Rattle.device.specs.Rules.{Meaning, Laws, ReadCall}
use Rattle.device.specs.Means.{means}
use Rattle.device.specs.Calling.{reads, each, Called, Ran, Stopped}
use Rattle.device.specs.Calling.Call.{read}
use Rattle.device.proofs.Calling.{read_then, read_next, cut_then, cut_next, cut_before, read_all}
use Rattle.image.specs.Looking.{Looked, LookedTillOff, Fails, FindsBy, Finds}
use Rattle.image.specs.Phases.{Just}
use Rattle.image.specs.declared.refusal.ImageRefusal.{ImageRefusal}
use Rattle.image.specs.declared.refusal.StageError.{StageError}
use Rattle.image.specs.declared.refusal.StageError.TheVariants.{Off as TurnedOff, NoHeap}

pub both_lists : {us vs ss ts : List ℕ} → us ≡ ss → vs ≡ ts → us ++ vs ≡ ss ++ ts
both_lists e f = cc

-- a call that can only be turned off is so
pub turned_off : {A B : Type 0} (X : A → Type 0) (Y : Type 0) (r : Result A B) → Y → IsErr r → MatchResult r X (λ _. Y)
turned_off X Y (Ok a) y h = absurd (false≢true h)
turned_off X Y (Err o) y h = y

-- one read
module _ (s : ℕ) (x y : List ℕ) (r : Answer) (m m' : Meaning) (call : ReadCall s x y r m m') where
  was_on : m'.on ≡ true → m.on ≡ true
  was_on h = elim (cases_Bool m.on) [ inl e ↦ e | inr e ↦ absurd (both_ways m'.on (call.off.stays e) h) ]

  pub read_inside : returned r ≡ 0 ⊎ returned r ≡ 3 → s < m.count
  read_inside h = elim (cases_lt s m.count) [
    | inl l ↦ l
    | inr l ↦ let k : (returned r ≡ 2) ⊎ (returned r ≡ 1) = call.numbered.past l in omega arith
  ]

  pub read_payload : Laws m → returned r ≡ 0 → m'.on ≡ true → IsPayload y
  read_payload l h on = subst Lawful (call.reads.copied h) (l.lawful s (m.current s) (l.kept (was_on on) s))

-- what a refused read tells
abbrev pub Faults : ℕ → Fault → Meaning → Meaning → Type 0
Faults s FaultOff m m' = m'.on ≡ false
Faults s NoSector m m' = (m'.on ≡ true) × ((m.count ≤ s) ⊎ (m.current s ≡ torn))
Faults s Torn m m' = (m'.on ≡ true) × ((m.count ≤ s) ⊎ (m.current s ≡ torn))

fault_tells : (s : ℕ) (x y : List ℕ) (f : Fault) (m m' : Meaning) → ReadCall s x y (Err f) m m' → Faults s f m m'
fault_tells s x y FaultOff m m' r = r.power
fault_tells s x y NoSector m m' r = (r.power, elim (cases_lt s m.count) [ inl l ↦ absurd (r.numbered.below l refl) | inr l ↦ inl l ])
fault_tells s x y Torn m m' r = (r.power, inr (r.reads.unreadable refl).1)

pub look_fault : (s : ℕ) (x y : List ℕ) (f : Fault) (m m' : Meaning) {g : Fault} → f ≡ g → ReadCall s x y (Err f) m m' → Faults s g m m'
look_fault s x y f m m' e r = subst (λ (k : Fault). Faults s k m m') e (fault_tells s x y f m m' r)

module _ {D : Type 0} (g : Ghosts D) where
  -- one read, which does not answer 1; or which does
  pub looked_once : (d e : D) (s : ℕ) (x y : List ℕ) (r : Answer) → ReadCall s x y r (means g d) (means g e) → g.reads d s x y r e
      → (r ≡ Err FaultOff → ⊥) → Ran g (reads (s ∷ [])) d e
  looked_once d e s x y r c m ne = (e, (r, (x, (y, c, m)), ne, refl))

  pub cut_once : (d e : D) (s : ℕ) (x y : List ℕ) (r : Answer) → ReadCall s x y r (means g d) (means g e) → g.reads d s x y r e
      → r ≡ Err FaultOff → Stopped g (reads (s ∷ [])) d e
  cut_once d e s x y r c m f = inl (subst (λ (a : Answer). Called g (read s) a d e) f (x, (y, c, m)))

  -- reads leave the image that is shown
  same_image : (ss : List ℕ) (d e : D) → Ran g (reads ss) d e → g.current e ≡ g.current d
  same_image ss d e a = λ i s. (read_all g ss d e a).contents.current s i

  -- what is so of the image behind reads is so of that before them
  pub carried : (E : ℕ → Image → Type 0) (ss : List ℕ) (d e : D) → Ran g (reads ss) d e → E (g.count e) (g.current e) → E (g.count d) (g.current d)
  carried E ss d e a x =
      subst (λ (n : ℕ). E n (g.current d)) (read_all g ss d e a).count (subst (λ (σ : Image). E (g.count e) σ) (same_image ss d e a) x)

  -- and the other way round
  pub carried_on : (E : ℕ → Image → Type 0) (ss : List ℕ) (d e : D) → Ran g (reads ss) d e → E (g.count d) (g.current d) → E (g.count e) (g.current e)
  carried_on E ss d e a x =
      subst (λ (n : ℕ). E n (g.current e)) (sym (read_all g ss d e a).count) (subst (λ (σ : Image). E (g.count d) σ) (sym (same_image ss d e a)) x)

  -- what a call tells behind reads of ss
  pub looked_then : (ss : List ℕ) (E : List ℕ → ℕ → Image → Type 0) (F : List ℕ → Type 0) (d e f : D) → Ran g (reads ss) d e
      → Looked g e f (λ ts. E ts (g.count e) (g.current e)) → ((ts : List ℕ) → E ts (g.count d) (g.current d) → F (ss ++ ts)) → Looked g d f F
  looked_then ss E F d e f a (ts, b, x) h = (ss ++ ts, read_then g ss ts d e f a b, h ts (carried (E ts) ss d e a x))

  -- the device turns off in a call behind reads of ss
  pub off_then : (ss : List ℕ) (P Q : List ℕ → Type 0) (d e f : D) → Ran g (reads ss) d e
      → LookedTillOff g e f P → ((ts : List ℕ) → P ts → Q (ss ++ ts)) → LookedTillOff g d f Q
  off_then ss P Q d e f a (ts, b, x) h = (ss ++ ts, cut_then g ss ts d e f a b, h ts x)

  -- it turns off before more was to be read
  pub off_before : (P Q : List ℕ → Type 0) (d f : D) → LookedTillOff g d f P → ((ts : List ℕ) → P ts → (us : List ℕ) × Q (ts ++ us)) → LookedTillOff g d f Q
  off_before P Q d f (ts, b, x) h = (ts ++ (h ts x).0, cut_before g ts (h ts x).0 d f b, (h ts x).1)

  pub off_less : (P Q : List ℕ → Type 0) (d f : D) → LookedTillOff g d f P → ((ts : List ℕ) → P ts → Q ts) → LookedTillOff g d f Q
  off_less P Q d f (ts, b, x) h = (ts, b, h ts x)

  -- one more of a row of sectors
  pub ran_more : (f : ℕ → ℕ) (k j t : ℕ) (d e e' : D) (ts : List ℕ) → Ran g (reads (each f k)) d e → Ran g (reads ts) e e'
      → ts ≡ t ∷ [] → t ≡ f k → j ≡ k + 1 → Ran g (reads (each f j)) d e'
  ran_more f k j t d e e' ts a b x y z =
      subst (λ (i : ℕ). Ran g (reads (each f i)) d e') (sym z)
      (read_next g f k t d e e' y a (subst (λ (us : List ℕ). Ran g (reads us) e e') x b))

  -- the device turns off at the next of a row of sectors
  pub off_in_row : (f : ℕ → ℕ) (k n t : ℕ) (d e e' : D) → Ran g (reads (each f k)) d e → LookedTillOff g e e' (Just (t ∷ []))
      → t ≡ f k → k < n → LookedTillOff g d e' (Just (each f n))
  off_in_row f k n t d e e' a (ts, b, x) y l =
      (each f n, cut_next g f k n t d e e' y l a (subst (λ (us : List ℕ). Stopped g (reads us) e e') x b), refl)

  -- what a call finds behind reads of ss
  pub finds_then : {A : Type 0} (ss : List ℕ) (P Q : List ℕ → Type 0) (T U : List ℕ → ℕ → Image → A → Type 0) (E F : List ℕ → ℕ → Image → ImageRefusal → Type 0)
      (r : Result A StageError) (d e f : D) → Ran g (reads ss) d e → FindsBy g e f P T E r
      → ((ts : List ℕ) → P ts → Q (ss ++ ts))
      → ((ts : List ℕ) (a : A) → T ts (g.count d) (g.current d) a → U (ss ++ ts) (g.count d) (g.current d) a)
      → ((ts : List ℕ) (p : ImageRefusal) → E ts (g.count d) (g.current d) p → F (ss ++ ts) (g.count d) (g.current d) p)
      → FindsBy g d f Q U F r
  finds_then ss P Q T U E F (Ok a) d e f l (on, x) i j k =
      (on, looked_then ss (λ ts n σ. T ts n σ a) (λ ts. U ts (g.count d) (g.current d) a) d e f l x (λ ts. j ts a))
  finds_then ss P Q T U E F (Err TurnedOff) d e f l x i j k = off_then ss P Q d e f l x i
  finds_then ss P Q T U E F (Err (NoHeap q)) d e f l (on, x) i j k =
      (on, looked_then ss (λ ts n σ. E ts n σ q) (λ ts. F ts (g.count d) (g.current d) q) d e f l x (λ ts. k ts q))

  -- the call fails as the one behind reads of ss does
  pub fails_then : {A : Type 0} (X : A → Type 0) (ss : List ℕ) (P Q : List ℕ → Type 0) (E F : List ℕ → ℕ → Image → ImageRefusal → Type 0)
      (r : Result A StageError) (q : StageError) (d e f : D) → Ran g (reads ss) d e → Fails g e f P E q
      → ((ts : List ℕ) → P ts → Q (ss ++ ts)) → ((ts : List ℕ) (p : ImageRefusal) → E ts (g.count d) (g.current d) p → F (ss ++ ts) (g.count d) (g.current d) p)
      → IsErrAnd r (λ p. p ≡ q) → MatchResult r X (Fails g d f Q F)
  fails_then X ss P Q E F (Ok a) q d e f l x i j h = absurd h
  fails_then X ss P Q E F (Err p) TurnedOff d e f l x i j h =
      subst (λ (z : StageError). Fails g d f Q F z) (sym h) (off_then ss P Q d e f l x i)
  fails_then X ss P Q E F (Err p) (NoHeap q) d e f l x i j h =
      subst (λ (z : StageError). Fails g d f Q F z) (sym h) (x.0, looked_then ss (λ ts n σ. E ts n σ q) (λ ts. F ts (g.count d) (g.current d) q) d e f l x.1 (λ ts. j ts q))

  -- the call fails as the one that reads the next of a row of sectors does
  pub fails_in_row : {A : Type 0} (X : A → Type 0) (f : ℕ → ℕ) (k n t : ℕ) (E : ℕ → Image → ImageRefusal → Type 0)
      (F : List ℕ → ℕ → Image → ImageRefusal → Type 0) (r : Result A StageError) (q : StageError) (d e e' : D) → Ran g (reads (each f k)) d e
      → Fails g e e' (Just (t ∷ [])) (λ ts n σ p. Just (t ∷ []) ts × E n σ p) q → t ≡ f k → k < n
      → ((p : ImageRefusal) → E (g.count d) (g.current d) p → F (each f (k + 1)) (g.count d) (g.current d) p)
      → IsErrAnd r (λ p. p ≡ q) → MatchResult r X (Fails g d e' (Just (each f n)) F)
  fails_in_row X f k n t E F (Ok a) q d e e' l x here inside j h = absurd h
  fails_in_row X f k n t E F (Err p) TurnedOff d e e' l x here inside j h =
      subst (λ (z : StageError). Fails g d e' (Just (each f n)) F z) (sym h) (off_in_row f k n t d e e' l x here inside)
  fails_in_row X f k n t E F (Err p) (NoHeap q) d e e' l (on, (ts, b, (y, z))) here inside j h =
      subst (λ (u : StageError). Fails g d e' (Just (each f n)) F u) (sym h)
      (on, (each f (k + 1), ran_more f k (k + 1) t d e e' ts l b y here refl, j q (carried (λ n σ. E n σ q) (each f k) d e l z)))

  -- the call fails as its first part does
  pub fails_as : {A : Type 0} (X : A → Type 0) (P Q : List ℕ → Type 0) (E F : List ℕ → ℕ → Image → ImageRefusal → Type 0)
      (r : Result A StageError) (q : StageError) (d f : D) → Fails g d f P E q
      → (LookedTillOff g d f P → LookedTillOff g d f Q)
      → ((ts : List ℕ) (p : ImageRefusal) → E ts (g.count d) (g.current d) p → F ts (g.count d) (g.current d) p)
      → IsErrAnd r (λ p. p ≡ q) → MatchResult r X (Fails g d f Q F)
  fails_as X P Q E F (Ok a) q d f x i j h = absurd h
  fails_as X P Q E F (Err p) TurnedOff d f x i j h = subst (λ (z : StageError). Fails g d f Q F z) (sym h) (i x)
  fails_as X P Q E F (Err p) (NoHeap q) d f x i j h =
      subst (λ (z : StageError). Fails g d f Q F z) (sym h) (x.0, (x.1.0, x.1.1, j x.1.0 q x.1.2))

  pub fails_off : {A : Type 0} (X : A → Type 0) (P : List ℕ → Type 0) (E : List ℕ → ℕ → Image → ImageRefusal → Type 0)
      (r : Result A StageError) (d f : D) → LookedTillOff g d f P → IsErrAnd r (λ q. q ≡ TurnedOff) → MatchResult r X (Fails g d f P E)
  fails_off X P E (Ok a) d f l h = absurd h
  fails_off X P E (Err q) d f l h = subst (λ (p : StageError). Fails g d f P E p) (sym h) l

  -- the image is refused
  pub refuses : (P : List ℕ → Type 0) (E : List ℕ → ℕ → Image → ImageRefusal → Type 0) (e : StageError) (q : ImageRefusal) (d f : D) → e ≡ NoHeap q
      → g.on f ≡ true → Looked g d f (λ ss. E ss (g.count d) (g.current d) q) → Fails g d f P E e
  refuses P E e q d f z on x = subst (λ (p : StageError). Fails g d f P E p) (sym z) (on, x)

  -- a value, or else a refusal
  pub finds_or : {A : Type 0} (P : List ℕ → Type 0) (T : ℕ → Image → A → Type 0) (E : ℕ → Image → ImageRefusal → Type 0)
      (o : Option A) (q : ImageRefusal) (r : Result A StageError) (d f : D) → r ≡ ok_or o (NoHeap q) → g.on f ≡ true → Looked g d f P
      → MatchOption o (E (g.count d) (g.current d) q) (T (g.count d) (g.current d)) → Finds g d f P T E r
  finds_or P T E None q r d f z on l x = rw z (on, (l.0, l.1, (l.2, x)))
  finds_or P T E (Some a) q r d f z on l x = rw z (on, (l.0, l.1, (l.2, x)))

  -- the same call says less
  pub finds_less : {A : Type 0} (P Q : List ℕ → Type 0) (T U : ℕ → Image → A → Type 0) (E F : ℕ → Image → ImageRefusal → Type 0)
      (r : Result A StageError) (d f : D) → Finds g d f P T E r
      → ((ts : List ℕ) → P ts → Q ts)
      → ((a : A) → T (g.count d) (g.current d) a → U (g.count d) (g.current d) a)
      → ((p : ImageRefusal) → E (g.count d) (g.current d) p → F (g.count d) (g.current d) p)
      → Finds g d f Q U F r
  finds_less P Q T U E F (Ok a) d f (on, (ss, b, x)) i j k = (on, (ss, b, (i ss x.0, j a x.1)))
  finds_less P Q T U E F (Err TurnedOff) d f (ss, b, x) i j k = (ss, b, i ss x)
  finds_less P Q T U E F (Err (NoHeap q)) d f (on, (ss, b, x)) i j k = (on, (ss, b, (i ss x.0, k q x.1)))
