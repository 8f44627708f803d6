-- The log as it is taken up, position by position.
-- Assumes nothing.
use Rattle.std.proofs.Common.{◌≡◌, ◌≢◌, ℕ, suc, ◌+◌, ◌-◌, ◌^◌, ◌<◌, ◌≤◌, min, List, [], ◌∷◌, ◌++◌, length, take, set, Some, None, Option, sym, refl, ap, ◌∙◌, subst, append_assoc, append-nil, take-take, inl, inr, arith}
use Rattle.std.proofs.lemmas.List.{take_more_set, take_at, length-append, length-map, map-append}
use Rattle.std.proofs.Math.ListN.{length-set}
use Rattle.device.specs.Sector.{payload, Image}
use Rattle.device.specs.Calling.{each}
use Rattle.layout.specs.declared.header.Header.{Header}
use Rattle.layout.specs.Records.{commit_record_bytes, most_records}
use Rattle.image.specs.declared.log.LogRead.{LogRead}
use Rattle.image.specs.declared.log.TheConstants.{LONGEST_LOG}
use Rattle.image.specs.declared.entry.Entry.TheVariants.{Page, Commit}
use Rattle.image.specs.Headers.{IsHeaderOf, InLog, NoneLater, ShowsLater, log_sector}
use Rattle.image.specs.Logs.{Change, span, next_number}
use Rattle.image.specs.Reading.{Reading, Ends, wrong_count, wrong_number, whole_log, ReadsInOrder}
use Rattle.image.specs.Entries.{IsEntryAt}
use Rattle.image.specs.Stages.{homes_in, homes_of, HasRead, HasReadAll, IsReadFrom}
use Rattle.image.proofs.Readings.{read_so_far, read_log}

-- each transaction takes one position more than it has page records
pub length-homes_of : (ts : List (List Change)) → length (homes_of ts) ≡ span ts
length-homes_of [] = refl
length-homes_of (t ∷ ts) = let i = length-homes_of ts in simp (length-append, length-map) (omega arith)

homes_in-push : (t : List Change) (c : Change) → homes_in (t ++ c ∷ []) ≡ homes_in t ++ Some c.home ∷ []
homes_in-push t c = map-append (λ (d : Change). Some d.home) t (c ∷ [])

-- one home more
taken : (p : ℕ) (xs ys : List (Option ℕ)) (o : Option ℕ) (zs : List (Option ℕ)) → p < length xs → ys ≡ set xs p o → take p xs ≡ zs → take (p + 1) ys ≡ zs ++ o ∷ []
taken p xs ys o zs l e f = ap (λ (vs : List (Option ℕ)). take (p + 1) vs) e ∙ take_more_set xs p o l ∙ ap (λ (vs : List (Option ℕ)). vs ++ o ∷ []) f

module _ (σ : Image) (h : Header) (p : ℕ) (x : LogRead) (r : HasRead σ h p x) where
  -- what the device's image has at the next position goes on the log that was read
  pub take_page : (s : ℕ) (y : LogRead) → p < h.geometry.log → p < LONGEST_LOG → IsEntryAt σ h p (Page s)
      → y.header ≡ x.header → y.homes ≡ set x.homes p (Some s) → y.committed ≡ x.committed → y.transactions ≡ x.transactions → HasRead σ h (p + 1) y
  take_page s y l m (c, a, e) eh eo ec et = record {
    header = eh ∙ r.header;
    log = r.log;
    pages = r.pages ++ c ∷ [];
    reading = let z : suc p ≡ p + 1 = omega arith in subst (λ (q : ℕ). Reading σ h q r.log (r.pages ++ c ∷ [])) z (l, inl (r.pages, (c, r.reading, a, refl)));
    committed = ec ∙ r.committed;
    long = ap length eo ∙ length-set x.homes p (Some s) ∙ r.long;
    homes = taken p x.homes y.homes (Some s) (homes_of r.log ++ homes_in r.pages) (omega (arith, r.long)) eo r.homes
        ∙ append_assoc (homes_of r.log) (homes_in r.pages) (Some s ∷ [])
        ∙ ap (λ (z : Option ℕ). homes_of r.log ++ (homes_in r.pages ++ z ∷ [])) (sym (ap Some e))
        ∙ ap (λ (zs : List (Option ℕ)). homes_of r.log ++ zs) (sym (homes_in-push r.pages c));
    transactions = et ∙ r.transactions;
  }

  pub take_commit : (n k : ℕ) (y : LogRead) → p < h.geometry.log → p < LONGEST_LOG → IsEntryAt σ h p (Commit n k)
      → n ≡ p - x.committed → k ≡ x.transactions + 1
      → y.header ≡ x.header → y.homes ≡ set x.homes p None → y.committed ≡ p + 1 → y.transactions ≡ k → HasRead σ h (p + 1) y
  take_commit n k y l m (most, f, g, e) en ek eh eo ec et =
      let s = read_so_far σ h p r.log r.pages r.reading in
      let count : n ≡ length r.pages = omega (arith, s.at, r.committed) in
      let number : k ≡ next_number h r.log = omega (arith, r.transactions) in
      let z : suc p ≡ p + 1 = omega arith in
      let at = subst (λ (i : ℕ). σ (2 + p) ≡ payload (commit_record_bytes h.epoch p (length r.pages) i)) number
      (subst (λ (i : ℕ). σ (2 + p) ≡ payload (commit_record_bytes h.epoch p i k)) count e) in
      record {
        header = eh ∙ r.header;
        log = r.pages ∷ r.log;
        pages = [];
        reading = subst (λ (q : ℕ). Reading σ h q (r.pages ∷ r.log) []) z
            (l, inr (r.log, (r.pages, r.reading, (subst (λ (i : ℕ). i ≤ most_records) count most, subst (λ (i : ℕ). i < 2 ^ 32) number g, at), refl, refl)));
        committed = omega (arith, s.at);
        long = ap length eo ∙ length-set x.homes p None ∙ r.long;
        homes = taken p x.homes y.homes None (homes_of r.log ++ homes_in r.pages) (omega (arith, r.long)) eo r.homes ∙ sym (append-nil _);
        transactions = omega (arith, r.transactions);
      }

  committed_homes : take x.committed x.homes ≡ homes_of r.log
  committed_homes =
      let s = read_so_far σ h p r.log r.pages r.reading in
      let f : length (homes_of r.log) ≡ x.committed = length-homes_of r.log ∙ sym r.committed in
      sym (take-take x.committed p x.homes (omega (arith, s.at, r.committed))) ∙ ap (λ (os : List (Option ℕ)). take x.committed os) r.homes
      ∙ take_at (homes_of r.log) (homes_in r.pages) x.committed f

  pub ends_here : (ss : List ℕ) → ss ≡ each log_sector (min (p + 1) h.geometry.log)
      → ((ts : List (List Change)) (t : List Change) → ts ≡ r.log → t ≡ r.pages → Ends σ h p ts t) → HasReadAll σ h ss x
  ends_here ss row e = record {
    header = r.header;
    log = r.log;
    reads = (p, (r.pages, r.reading, e r.log r.pages refl refl, row));
    has = record { committed = r.committed; homes = committed_homes; transactions = cc (r.header, r.transactions) };
  }

  -- before the log's end
  pub ends_inside : p < h.geometry.log → ((ts : List (List Change)) (t : List Change) → ts ≡ r.log → t ≡ r.pages → Ends σ h p ts t)
      → HasReadAll σ h (each log_sector (p + 1)) x
  ends_inside l e = let next : p + 1 ≡ min (p + 1) h.geometry.log = omega arith in
      ends_here (each log_sector (p + 1)) (ap (each log_sector) next) e

  -- a commit record that is not the one that may stand there
  pub miscounted : (n k : ℕ) → p < h.geometry.log → IsEntryAt σ h p (Commit n k) → n ≢ p - x.committed → HasReadAll σ h (each log_sector (p + 1)) x
  miscounted n k l (most, f, g, e) ne = let s = read_so_far σ h p r.log r.pages r.reading in
      ends_inside l (λ ts t z w. wrong_count n k f e (λ q. ne (omega (arith, ap length w, s.at, r.committed))))

  pub misnumbered : (n k : ℕ) → p < h.geometry.log → IsEntryAt σ h p (Commit n k) → k ≢ x.transactions + 1 → HasReadAll σ h (each log_sector (p + 1)) x
  misnumbered n k l (most, f, g, e) ne =
      ends_inside l (λ ts t z w. wrong_number n k g e (λ q. ne (omega (arith, ap length z, r.transactions))))

  -- the whole log is read
  pub reads_all : p ≡ h.geometry.log → HasReadAll σ h (each log_sector p) x
  reads_all e = let whole : p ≡ min (p + 1) h.geometry.log = omega arith in
      ends_here (each log_sector p) (ap (each log_sector) whole) (λ ts t z w. whole_log e)

-- on a card of as many sectors as its header says, none of the log is lacking
pub none_later : (n : ℕ) (σ : Image) (h : Header) → h.geometry.sectors ≡ n → ((t : ℕ) → InLog h.geometry t → ShowsLater h.epoch n σ t → ⊥) → NoneLater σ h
none_later n σ h e none s i l = let room = h.geometry.room in none s i (omega arith, l)

-- the log of an image whose header is h
pub is_read : (n : ℕ) (σ : Image) (k h : Header) (ss : List ℕ) (x : LogRead) → k ≡ h → IsHeaderOf n σ h → NoneLater σ k → HasReadAll σ k ss x → IsReadFrom n σ ss x
is_read n σ k h ss x e a none y =
    let at : k ≡ x.header = sym y.header in
    let read = subst (λ (j : Header). ReadsInOrder σ j y.log ss) at y.reads in (
      record {
        log = y.log;
        reads = record {
          header = subst (λ (j : Header). IsHeaderOf n σ j) (sym e ∙ at) a;
          none_later = subst (λ (j : Header). NoneLater σ j) at none;
          log = read_log σ x.header y.log (read.0, (read.1.0, read.1.1, read.1.2));
        };
        has = y.has;
      },
      read,
    )
