-- What a survey has done so far: a table that is filled sector by sector, from a device that stays as it was.
-- Assumes nothing.
use Rattle.std.proofs.Common.{◌≡◌, ℕ, ◌+◌, ◌<◌, true, List, length, set, Ok, Err, Result, sym, ◌∙◌, subst, inl, inr, zero-add, arith}
use Rattle.std.specs.Result.{IsErr}
use Rattle.std.proofs.lemmas.Bool.{cases_eq, false≢true}
use Rattle.std.proofs.lemmas.List.{get_or-set_same, get_or-set_other}
use Rattle.device.specs.declared.Device.{Ghosts}
use Rattle.device.specs.declared.Fault.{Fault}
use Rattle.device.specs.Rules.{CountStays, Unchanged}
use Rattle.device.specs.Means.{means}
use Rattle.device.specs.Calling.{reads, sectors_from, Ran, Stopped}
use Rattle.device.proofs.Calls.{unchanged_then}
use Rattle.device.proofs.Calling.{read_next, cut_next}
use Rattle.survey.specs.declared.condition.Condition.{Condition}
use Rattle.survey.specs.declared.condition.Condition.TheVariants.{Blank}
use Rattle.survey.specs.Conditions.{StandsFor, Surveyed, at}
use Rattle.survey.specs.Surveys.{TellsCondition, MakesOneRead, SameFrom}

module _ {D : Type 0} (g : Ghosts D) where
  -- the first n sectors were read, each once and in order, and are told, and the device is as it was, and on
  pub record SoFar (n : ℕ) (xs ys : List Condition) (d e : D) : Type 0 where
    pub ran : Ran g (reads (sectors_from 0 n)) d e
    pub count : CountStays (means g d) (means g e)
    pub same : Unchanged (means g d) (means g e)
    pub on : g.on e ≡ true
    pub told : Surveyed (g.current d) n ys
    pub rest : SameFrom n xs ys

  -- one sector more is told
  pub one_more : (n : ℕ) (xs ys : List Condition) (d e f : D) (k : Condition) → SoFar n xs ys d e → n < length ys
      → TellsCondition n (Ok k) (means g e) (means g f) → MakesOneRead g n (Ok k) e f → SoFar (n + 1) xs (set ys n k) d f
  one_more n xs ys d e f k so h l made = record {
    ran = read_next g (λ (i : ℕ). 0 + i) n n d e f (sym (zero-add n)) so.ran made;
    count = l.0 ∙ so.count;
    same = unchanged_then (means g d) (means g e) (means g f) so.same l.2;
    on = l.3;
    told = λ s hs. elim (cases_eq s n) [
      | inl e ↦ subst (λ (z : ℕ). StandsFor (at (set ys n k) z) (g.current d z)) (sym e)
          (subst (λ (x : Condition). StandsFor x (g.current d n)) (sym (get_or-set_same ys n k Blank h)) (subst (StandsFor k) (so.same.current n) l.1))
      | inr ne ↦ subst (λ (x : Condition). StandsFor x (g.current d s)) (sym (get_or-set_other ys n s k Blank ne)) (so.told s (omega arith))
    ];
    rest = λ s hs. get_or-set_other ys n s k Blank (λ e. omega arith) ∙ so.rest s (omega arith);
  }

  -- the read of the next sector is refused: it is the last one made
  pub cut_short : (n : ℕ) (xs ys : List Condition) (d e f : D) (r : Result Condition Fault) → SoFar n xs ys d e → n < g.count d
      → IsErr r → TellsCondition n r (means g e) (means g f) → MakesOneRead g n r e f
      → Stopped g (reads (sectors_from 0 (g.count d))) d f
  cut_short n xs ys d e f (Ok k) so below err told made = absurd (false≢true err)
  cut_short n xs ys d e f (Err a) so below err told made =
      let off = (told.2 (subst (λ (i : ℕ). n < i) (sym so.count) below)).0 in
      cut_next g (λ (i : ℕ). 0 + i) n (g.count d) n d e f (sym (zero-add n)) below so.ran (inl (subst (λ (b : Fault). MakesOneRead g n (Err b) e f) off made))
