-- The pages are lawful, and no data word dangles; or the first fault is told.
-- Assumes nothing.
use Rattle.std.proofs.Common.{refl, MatchOption}
use Rattle.image.specs.declared.refusal.ImageRefusal.TheVariants.{Dangling}
use Rattle.image.specs.Heaps.{Heap, NoneDangles, FirstDangling}
use Rattle.image.specs.Images.{Shows, Judged}
use Rattle.image.specs.Phases.{Just, twice}
use Rattle.image.specs.Stages.{IsReadOf, EndsAtFault, EndsAtDangling, JudgeEnds, nth_body, page_count, all_bodies}
use Rattle.image.specs.Tallies.{IsTallyOfHeap}
use Rattle.image.proofs.Lookings.{looked_then, off_before, fails_as, fails_then, refuses, both_lists}
use Rattle.image.proofs.Judging.{shown, fault_first, fault_again, dangling_again}
use Rattle.image.proofs.judged.PagesJudged.judge.Goals as goal

pub returns-in_err-tally : goal.returns-in_err-tally
returns-in_err-tally g c =
    let x = c.args.log in
    fails_as g.D.Device _ (Just (all_bodies x)) (Just (twice (nth_body x) (page_count x)))
    (λ ss n σ q. EndsAtFault x ss q × (IsReadOf n σ x → Judged n σ q))
    (λ ss n σ q. JudgeEnds x ss q × (IsReadOf n σ x → Judged n σ q)) _ _ _ _ c.in_err-tally.ensures
    (λ l. off_before g.D.Device (Just (all_bodies x)) (Just (twice (nth_body x) (page_count x))) _ _ l (λ ts e. (all_bodies x, both_lists e refl)))
    (λ ts q f. (fault_first x ts q f.0, f.1)) c.from_residual.ensures.1

pub returns-in_err-sector : goal.returns-in_err-sector
returns-in_err-sector g c =
    let x = c.args.log in
    let (on, (ss, ran, (row, t))) = c.in_ok-tally.ensures in
    fails_then g.D.Device _ ss (Just (all_bodies x)) (Just (twice (nth_body x) (page_count x)))
    (λ ss n σ q. EndsAtFault x ss q × (IsReadOf n σ x → (H : Heap) → Shows n σ H → ⊥))
    (λ ss n σ q. JudgeEnds x ss q × (IsReadOf n σ x → Judged n σ q)) _ _ _ _ _ ran c.in_err-sector.ensures
    (λ ts e. both_lists row e)
    (λ ts q f. (fault_again x ss ts q row f.0, λ r. let h = t r in absurd (f.1 r h.0 h.1)))
    c.from_residual-in_err-sector.ensures.1

pub returns-in-Some : goal.returns-in-Some
returns-in-Some g c =
    let x = c.args.log in
    let m = c.args.device.now in
    let (on, (ss, ran, (row, t))) = c.in_ok-tally.ensures in
    let tally = c.in_ok-tally.tally in
    let o = c.in_ok-sector.field-0 in
    let q = Dangling c.in-Some.sector c.in-Some.word in
    refuses g.D.Device (Just (twice (nth_body x) (page_count x)))
    (λ ss n σ q. JudgeEnds x ss q × (IsReadOf n σ x → Judged n σ q)) _ q _ _ c.into.ensures c.in_ok-sector.ensures.0
    (looked_then g.D.Device ss (λ ts n σ. EndsAtDangling x ts o
    × (IsReadOf n σ x → (H : Heap) → Shows n σ H → IsTallyOfHeap H tally → MatchOption o (NoneDangles H) (λ p. FirstDangling H p.0 p.1))) _ _ _ _ ran c.in_ok-sector.ensures.1
    (λ ts f. (dangling_again x ss ts c.in-Some.sector c.in-Some.word row (rw c.in-Some.is at f.0), λ r. let h = t r in (h.0, h.1, rw c.in-Some.is at (f.1 r h.0 h.1 h.2)))))

pub returns : goal.returns
returns g c =
    let x = c.args.log in
    let (on, (ss, ran, (row, t))) = c.in_ok-tally.ensures in
    let tally = c.in_ok-tally.tally in
    let o = c.in_ok-sector.field-0 in (
      c.in_ok-sector.ensures.0,
      looked_then g.D.Device ss (λ ts n σ. EndsAtDangling x ts o
          × (IsReadOf n σ x → (H : Heap) → Shows n σ H → IsTallyOfHeap H tally → MatchOption o (NoneDangles H) (λ p. FirstDangling H p.0 p.1))) _ _ _ _ ran c.in_ok-sector.ensures.1
          (λ ts f. let none = rw c.in_default.is at f.0 in (
            both_lists row none,
            refl,
            λ r. let h = t r in (
              h.0,
              record {
                read = r;
                holds = record { shows = h.1; none_dangles = rw c.in_default.is at (f.1 r h.0 h.1 h.2) };
                free_pages = h.2.of.free_pages;
                objects = h.2.of.objects;
                transactions = (shown _ _ x r h.0 h.1).0;
                root = (shown _ _ x r h.0 h.1).1;
              },
            ),
          )),
    )
