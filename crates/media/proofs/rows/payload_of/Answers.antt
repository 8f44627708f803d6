-- A row gives its payload exactly if its tail is the payload's checksum.
-- Assumes nothing.
use Rattle.std.proofs.lemmas.Slice.Eq.{slice_eq-Decides}
use Rattle.std.proofs.lemmas.Bool.Decides.{Decides-eqb}
use Rattle.std.proofs.Common.{refl, ◌∙◌}
use Rattle.media.proofs.Sealing.{holds_payload, holds_torn}
use Rattle.media.proofs.rows.payload_of.Goals as goal

pub returns-then-eq : goal.returns-then-eq
returns-then-eq c = (
  holds_payload c.args.sector c.args.row.now (λ i. (c.type_inv.row i).fits) _ _ _ c.split_at.ensures.front c.split_at.ensures.back (c.as_slice.ensures ∙ c.seal.ensures) _ (slice_eq-Decides Decides-eqb _ _ _ c.eq.ensures) c.if-eq.true,
  c.split_at.ensures.front_len,
)

pub returns-else-eq : goal.returns-else-eq
returns-else-eq c = (
  holds_torn c.args.sector c.args.row.now (λ i. (c.type_inv.row i).fits) _ _ _ c.split_at.ensures.front c.split_at.ensures.back (c.as_slice.ensures ∙ c.seal.ensures) _ (slice_eq-Decides Decides-eqb _ _ _ c.eq.ensures) c.if-eq.false,
  refl,
)
