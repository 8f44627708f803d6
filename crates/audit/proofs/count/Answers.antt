-- The image that was judged is still shown, and what is counted is its heap's.
-- Assumes nothing.
use Rattle.std.proofs.Common.{◌≡◌, ℕ, ◌+◌, length, replicate, subst, sym}
use Rattle.std.specs.List.{All}
use Rattle.device.proofs.Calling.{read_all}
use Rattle.image.specs.Heaps.{Heap, CountsReached}
use Rattle.image.specs.Images.{Judged}
use Rattle.image.specs.Stages.{judged_log, IsJudgedOf}
use Rattle.image.proofs.Lookings.{carried_on, looked_then, fails_as, fails_then}
use Rattle.audit.specs.Checks.{wanted}
use Rattle.audit.specs.Order.{IsBody, RefusalReads, CheckReads, walk}
use Rattle.audit.proofs.Ordering.{walk_behind}
use Rattle.audit.proofs.count.Goals as goal

pub returns-in_err-judged : goal.returns-in_err-judged
returns-in_err-judged g c =
    let n = g.D.Device.count c.args.device.now in
    let σ = g.D.Device.current c.args.device.now in
    fails_as g.D.Device _ (CheckReads n σ) (CheckReads n σ) (λ ss n σ q. RefusalReads n σ q ss × Judged n σ q) (λ ss n σ q. RefusalReads n σ q ss × Judged n σ q)
    _ _ _ _ c.in_err-judged.ensures (λ l. l) (λ ts q f. f) c.from_residual.ensures.1

pub count_reachable-requires-clause-judged : goal.count_reachable-requires-clause-judged
count_reachable-requires-clause-judged g c =
    let (on, (ss, ran, (whole, x))) = c.in_ok-judged.ensures in
    carried_on g.D.Device (λ n σ. (H : Heap) × IsJudgedOf n σ H c.in_ok-judged.judged) ss _ _ ran x

pub count_reachable-requires-clause-clear : goal.count_reachable-requires-clause-clear
count_reachable-requires-clause-clear g c =
    let (on, (ss, ran, x)) = c.in_ok-judged.ensures in
    subst (λ (n : ℕ). c.args.marks.now ≡ replicate (wanted n) 0) (sym (read_all g.D.Device ss _ _ ran).count) c.requires.clear

pub returns-in_err-reachable : goal.returns-in_err-reachable
returns-in_err-reachable g c =
    let n = g.D.Device.count c.args.device.now in
    let σ = g.D.Device.current c.args.device.now in
    let (on, (ss, ran, (whole, x))) = c.in_ok-judged.ensures in
    let y = c.in_ok-judged.judged in
    fails_then g.D.Device _ ss (All (IsBody (judged_log y))) (CheckReads n σ) (λ ws n σ q. ⊥) (λ ss n σ q. RefusalReads n σ q ss × Judged n σ q)
    _ _ _ _ _ ran c.in_err-reachable.ensures
    (λ ws a. walk (judged_log y) ws (walk_behind n σ (judged_log y) ss ws whole a)) (λ ws q f. absurd f) c.from_residual-in_err-reachable.ensures.1

pub returns : goal.returns
returns g c =
    let n = g.D.Device.count c.args.device.now in
    let σ = g.D.Device.current c.args.device.now in
    let y = c.in_ok-judged.judged in
    let (on, (ss, ran, (whole, (H, j)))) = c.in_ok-judged.ensures in
    let k = c.in_ok-reachable.reachable in
    let b = c.in_ok-reachable.ensures in (
      b.0,
      looked_then g.D.Device ss (λ ws n σ. All (IsBody (judged_log y)) ws × (length ws ≡ k + 1) × ((H : Heap) → IsJudgedOf n σ H y → CountsReached H k)) _ _ _ _ ran b.1
          (λ ws f. (
            (judged_log y, (ws, walk_behind n σ (judged_log y) ss ws whole f.0, f.1)),
            (
              H,
              j.holds,
              record {
                transactions = c.transactions.ensures n σ H j;
                free_pages = c.free_pages.ensures n σ H j;
                objects = c.objects.ensures n σ H j;
                reachable = f.2 H j;
              },
            ),
          )),
    )
