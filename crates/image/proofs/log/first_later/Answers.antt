-- Each turn looks at one sector more.
-- Assumes nothing.
use Rattle.std.proofs.Common.{◌≡◌, IsTrue, ◌↔◌, ◌+◌, ◌-◌, inl, inr, refl, ap, subst, arith}
use Rattle.std.proofs.lemmas.Bool.{cases_lt, both_ways}
use Rattle.device.specs.Calling.{each}
use Rattle.image.specs.Headers.{ShowsLater, log_sector}
use Rattle.image.proofs.Lookings.{ran_more, off_in_row, turned_off, carried}
use Rattle.image.proofs.log.first_later.Goals as goal

pub loop-sector-init : goal.loop-sector-init
loop-sector-init g c = record { ran = refl; on = λ z. absurd (omega arith); none = λ t l m. absurd (omega arith) }

pub loop-sector-preserved : goal.loop-sector-preserved
loop-sector-preserved g c =
    let inv = c.loop-sector.invariant in
    let s = c.loop-sector.sector in
    let h = c.args.header in
    let (on, (ss, ran, (row, x))) = c.in_ok-is_later_at.ensures in
    let t = carried g.D.Device (λ n σ. IsTrue c.in_ok-is_later_at.field-0 ↔ ShowsLater h.epoch n σ s) _ _ _ inv.ran x in
    let f = c.if-branch.false in
    let r = h.geometry.room in
    record {
      ran = ran_more g.D.Device log_sector (s - 2) (s + 1 - 2) s _ _ _ ss inv.ran ran row (omega arith) (omega arith);
      on = λ _. on;
      none = λ u l m k. elim (cases_lt u s) [
        | inl b ↦ inv.none u l b k
        | inr b ↦ let q : u ≡ s = omega arith in
            both_ways _ f (t.1 (subst (ShowsLater h.epoch (g.D.Device.count c.args.device.now) (g.D.Device.current c.args.device.now)) q k))
      ];
    }

pub returns-then-branch : goal.returns-then-branch
returns-then-branch g c =
    let inv = c.loop-sector.invariant in
    let s = c.loop-sector.sector in
    let h = c.args.header in
    let (on, (ss, ran, (row, y))) = c.in_ok-is_later_at.ensures in
    let t = carried g.D.Device (λ n σ. IsTrue c.in_ok-is_later_at.field-0 ↔ ShowsLater h.epoch n σ s) _ _ _ inv.ran y in
    let x = c.if-branch.true in
    let r = h.geometry.room in (
      on,
      (
        each log_sector (s - 1),
        ran_more g.D.Device log_sector (s - 2) (s - 1) s _ _ _ ss inv.ran ran row (omega arith) (omega arith),
        (
          (omega arith, omega arith),
          refl,
          t.0 x,
          λ u i l k. inv.none u i.0 l k,
        ),
      ),
    )

pub returns-in_err-is_later_at : goal.returns-in_err-is_later_at
returns-in_err-is_later_at g c =
    let s = c.loop-sector.sector in
    let r = c.args.header.geometry.room in
    turned_off _ _ _
    (off_in_row g.D.Device log_sector (s - 2) c.args.header.geometry.log s _ _ _ c.loop-sector.invariant.ran c.in_err-is_later_at.ensures (omega arith) (omega arith)) c.from_residual.ensures.0

pub returns : goal.returns
returns g c =
    let inv = c.loop-sector.invariant in
    let l = c.args.header.geometry.least_log in
    let all : c.loop-sector.sector - 2 ≡ c.args.header.geometry.log = omega arith in (
      inv.on (omega arith),
      (_, inv.ran, (ap (each log_sector) all, λ s i k. inv.none s i.0 (omega arith) k)),
    )
