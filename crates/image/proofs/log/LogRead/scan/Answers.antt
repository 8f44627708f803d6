-- Each turn takes up what stands at one position more.
-- Assumes nothing.
use Rattle.std.proofs.Common.{◌+◌, ◌<◌, ◌∙◌, refl, arith}
use Rattle.device.specs.Calling.{each}
use Rattle.image.specs.Headers.{log_sector}
use Rattle.image.specs.Entries.{IsEntryAt}
use Rattle.image.proofs.Lookings.{ran_more, off_in_row, turned_off, carried}
use Rattle.image.proofs.Taking.{reads_all}
use Rattle.image.proofs.log.LogRead.scan.Goals as goal

pub loop-position-init : goal.loop-position-init
loop-position-init g c = record { ran = refl; on = λ z. absurd (omega arith); read = λ _. c.new-log.ensures.read _; header = c.new-log.ensures.header }

pub loop-position-preserved : goal.loop-position-preserved
loop-position-preserved g c =
    let inv = c.loop-position.invariant in
    let h = c.args.header in
    let p = c.loop-position.position in
    let (on, (ss, ran, (row, x))) = c.in_ok-entry.ensures in
    let t = carried g.D.Device (λ n σ. log_sector p < n → IsEntryAt σ h p c.in_ok-entry.entry) _ _ _ inv.ran x in
    let l = h.geometry.room in
    record {
      ran = ran_more g.D.Device log_sector p _ _ _ _ _ ss inv.ran ran row refl refl;
      on = λ _. on;
      read = λ e. c.if-not-take_up.ensures.taken _ h (omega arith) (inv.read e) (t (omega arith));
      header = c.if-not-take_up.ensures.kept ∙ inv.header;
    }

pub returns-in_err-entry : goal.returns-in_err-entry
returns-in_err-entry g c =
    turned_off _ _ _
    (off_in_row g.D.Device log_sector c.loop-position.position c.args.header.geometry.log _ _ _ _ c.loop-position.invariant.ran c.in_err-entry.ensures refl (omega arith)) c.from_residual.ensures.0

pub returns-then-not-take_up : goal.returns-then-not-take_up
returns-then-not-take_up g c =
    let inv = c.loop-position.invariant in
    let h = c.args.header in
    let p = c.loop-position.position in
    let (on, (ss, ran, (row, x))) = c.in_ok-entry.ensures in
    let t = carried g.D.Device (λ n σ. log_sector p < n → IsEntryAt σ h p c.in_ok-entry.entry) _ _ _ inv.ran x in
    let l = h.geometry.room in (
      on,
      (
        each log_sector (p + 1),
        ran_more g.D.Device log_sector p _ _ _ _ _ ss inv.ran ran row refl refl,
        (
          (p + 1, omega arith, omega arith, refl),
          c.if-not-take_up.ensures.kept ∙ inv.header,
          λ e. c.if-not-take_up.ensures.taken _ h (omega arith) (inv.read e) (t (omega arith)),
        ),
      ),
    )

pub returns : goal.returns
returns g c =
    let inv = c.loop-position.invariant in
    let l = c.args.header.geometry.least_log in (
      inv.on (omega arith),
      (_, inv.ran, ((c.loop-position.position, omega arith, omega arith, refl), inv.header, λ e. reads_all _ _ _ _ (inv.read e) (omega arith))),
    )
