-- The chain gives the writes for the sector, in order.
-- Assumes nothing.
use Rattle.std.proofs.Common.{◌∙◌, rules}
use Rattle.std.specs.Bool.{◌==◌}
use Rattle.std.proofs.lemmas.Iterator.{YieldsList-from_slice}
use Rattle.std.proofs.lemmas.Iterator.Consumers.{YieldsList-from_filter, YieldsList-from_chain, YieldsList-at, nth_from_yields_List}
use borrow.Author.Tests.{tests}
use Rattle.device.specs.declared.pending.PendingWrite.{PendingWrite}
use Rattle.bench.proofs.settle.nth_of.Goals as goal

pub returns : goal.returns
returns c = c.copied.ensures ∙ nth_from_yields_List _ _ c.args.k c.nth.ensures.ran
    (YieldsList-from_filter _ (λ (w : PendingWrite). w.sector == c.args.sector)
    (YieldsList-at c.filter.ensures.source (YieldsList-from_chain (YieldsList-from_slice c.args.older.now (cc)) (YieldsList-from_slice c.args.younger.now (cc)) (cc) (cc)))
    c.filter.ensures.closure (λ x r q k. search (rules, tests)))
