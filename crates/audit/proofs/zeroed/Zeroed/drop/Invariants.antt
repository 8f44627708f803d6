-- The places so far are as by default.
-- Assumes nothing.
use Rattle.std.proofs.Common.{ℕ, ◌<◌, slice_index_or}
use Rattle.audit.proofs.zeroed.Zeroed.drop.Given as goal

abbrev pub invariant-loop-place : goal.invariant-loop-place
invariant-loop-place g l = (k : ℕ) (d : g.row.T.Denot) → k < l.place-index → g.T.Default.is_default (slice_index_or l.places k d)
