-- Each turn stores the oldest; at the end nothing waits.
-- Assumes nothing.
use Rattle.std.proofs.Common.{ℕ, List, ◌∷◌, sym, ap, ◌∙◌, subst}
use Rattle.device.specs.declared.pending.PendingWrite.{PendingWrite}
use Rattle.device.specs.declared.queue.Queue.{Queue}
use Rattle.device.specs.Queues.{waiting}
use Rattle.device.proofs.Waits.{keeps_then}
use Rattle.bench.specs.Waits.{MakesDurable}
use Rattle.bench.proofs.Storing.{oldest_keeps, all_stored, all_flushed}
use Rattle.bench.proofs.bench.Bench.put_all.Goals as goal

pub loop-oldest-preserved : goal.loop-oldest-preserved
loop-oldest-preserved c =
    let w = c.in-Some.oldest in
    let taken = c.in-Some.ensures in
    let q = c.put.ensures.pending in
    let inv = c.loop-oldest.invariant in
    let e = taken.taken ∙ ap (λ (z : Queue PendingWrite). w ∷ waiting z) (sym q) in
    let d = subst (λ (z : List ℕ). MakesDurable w z c.put.new.self.rows.bytes.now) (ap (λ x. x.bytes.now) taken.rows) c.put.ensures.memory in (
      all_stored w _ _ _ _ e d ∙ inv.0,
      keeps_then _ _ _ inv.1 (oldest_keeps w _ _ _ _ e d),
      ap (λ (z : Queue PendingWrite). z.slots.now) q ∙ taken.slots ∙ inv.2,
      c.put.ensures.same ∙ ap (λ x. x.bytes.ghost_name) taken.rows ∙ inv.3,
      ap (λ (z : Queue PendingWrite). z.slots.ghost_name) q ∙ taken.same.slots ∙ inv.4,
    )

pub returns : goal.returns
returns c =
    let taken = c.in_default.ensures in
    let inv = c.loop-oldest.invariant in
    let all = all_flushed _ _ _ _ _ _ (ap (λ x. x.bytes.now) taken.rows) taken.taken taken.empty inv.0 inv.1 in
    record {
      done = record {
        rows = all.0;
        pending = taken.empty;
        slots = taken.slots ∙ inv.2;
        same = record { rows = ap (λ x. x.bytes.ghost_name) taken.rows ∙ inv.3; slots = taken.same.slots ∙ inv.4 };
      };
      kept = all.1;
      rules = all.2;
    }
