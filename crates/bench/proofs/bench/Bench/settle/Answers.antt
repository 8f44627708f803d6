-- The sector of one write after another is settled, and then nothing waits.
-- Assumes nothing.
use Rattle.std.proofs.Common.{ap, ◌∙◌, subst, refl, arith}
use Rattle.device.specs.declared.pending.PendingWrite.{PendingWrite}
use Rattle.device.specs.declared.queue.Queue.{Queue}
use Rattle.device.specs.Queues.{waiting, in_places, places_at}
use Rattle.bench.specs.Benches.{memory, queued}
use Rattle.bench.specs.Settling.{SettlesFor}
use Rattle.bench.proofs.Settled.{settles_none, settles_next, settles_all, settled_current, settled_only, settled_found, settled_cut, reaches}
use Rattle.bench.proofs.bench.Bench.settle.Goals as goal

pub loop-k-init : goal.loop-k-init
loop-k-init c = record {
  pending = refl;
  count = c.len-k-end.ensures.count;
  same = refl;
  settled = settles_none c.args.numbers.now (queued c.args.self.now) (memory c.args.self.now);
}

pub loop-k-preserved : goal.loop-k-preserved
loop-k-preserved c =
    let inv = c.loop-k.invariant in
    let m = memory c.args.self.now in
    record {
      pending = c.settle_for.ensures.pending ∙ inv.pending;
      count = inv.count;
      same = c.settle_for.ensures.same ∙ inv.same;
      settled = settles_next c.loop-k.k c.args.numbers.now (queued c.args.self.now) m _ _ (let e = inv.count in let h = c.loop-k-test.true in omega arith) inv.settled
          (subst (λ (q : Queue PendingWrite). SettlesFor c.loop-k.k c.args.numbers.now (waiting q) (memory c.loop-k.self) (memory c.settle_for.new.self)) inv.pending c.settle_for.ensures.settled);
    }

pub returns : goal.returns
returns c =
    let inv = c.loop-k.invariant in
    let cs = c.args.numbers.now in
    let ws = queued c.args.self.now in
    let m = memory c.args.self.now in
    let empty = c.clear.ensures.empty in
    let all = settles_all c.loop-k.k cs ws m _ (let e = inv.count in omega arith) inv.settled in
    record {
      cut = settled_cut cs ws _ m _ empty all;
      settles = all;
      current = settled_current cs ws _ m _ empty all;
      only = settled_only cs ws _ m _ empty all;
      found = settled_found cs ws _ m _ empty all;
      reaches = reaches ws m c.args.self.now.few;
      pending = empty;
      same = record {
        rows = inv.same;
        slots = c.clear.ensures.same ∙ ap (λ (q : Queue PendingWrite). places_at q) inv.pending;
      };
      slots = c.clear.ensures.untouched ∙ ap (λ (q : Queue PendingWrite). in_places q) inv.pending;
    }
