-- The log is read where no sector of it shows a later epoch.
-- Assumes nothing.
use Rattle.std.proofs.Common.{◌≡◌, refl, ap, ◌∙◌, subst}
use Rattle.device.specs.Calling.{each}
use Rattle.layout.specs.declared.header.Header.{Header}
use Rattle.image.specs.declared.refusal.ImageRefusal.TheVariants.{LaterEpoch}
use Rattle.image.specs.Headers.{log_sector, FindsLater, TellsLater}
use Rattle.image.specs.Phases.{Just, SomeOf, twice}
use Rattle.image.specs.Stages.{header_of, log_header, HasReadAll}
use Rattle.image.proofs.Lookings.{looked_then, off_then, off_before, fails_off, refuses, both_lists}
use Rattle.image.proofs.Taking.{is_read, none_later}
use Rattle.image.proofs.log.LogRead.read.Goals as goal

pub returns-in_err-sector : goal.returns-in_err-sector
returns-in_err-sector g c =
    let h = header_of c.args.headers in
    let k = c.into_header-header.result in
    let row : each log_sector k.geometry.log ≡ each log_sector h.geometry.log = ap (λ (j : Header). each log_sector j.geometry.log) c.into_header-header.ensures in
    fails_off g.D.Device _ (Just (twice log_sector h.geometry.log)) (TellsLater h) _ _ _
    (off_before g.D.Device (Just (each log_sector k.geometry.log)) (Just (twice log_sector h.geometry.log)) _ _ c.in_err-sector.ensures
    (λ ts e. (each log_sector h.geometry.log, both_lists (e ∙ row) refl))) c.from_residual.ensures.1

pub returns-in-Some : goal.returns-in-Some
returns-in-Some g c =
    let h = header_of c.args.headers in
    let e = c.into_header-header.ensures in
    let (on, (ss, ran, x)) = c.in_ok-sector.ensures in
    let s = c.in-Some.sector in
    refuses g.D.Device (Just (twice log_sector h.geometry.log)) (TellsLater h) _ (LaterEpoch s) _ _ c.into.ensures on
    (ss, ran, (s, refl, subst (λ (j : Header). FindsLater j ss (g.D.Device.count c.args.device.now) (g.D.Device.current c.args.device.now) s) e (rw c.in-Some.is at x)))

pub returns-in_err-scan : goal.returns-in_err-scan
returns-in_err-scan g c =
    let h = header_of c.args.headers in
    let k = c.into_header-header.result in
    let row : each log_sector k.geometry.log ≡ each log_sector h.geometry.log = ap (λ (j : Header). each log_sector j.geometry.log) c.into_header-header.ensures in
    let (on, (ss, ran, x)) = c.in_ok-sector.ensures in
    let none = rw c.in_default.is at x in
    fails_off g.D.Device _ (Just (twice log_sector h.geometry.log)) (TellsLater h) _ _ _
    (off_then g.D.Device ss (Just (each log_sector k.geometry.log)) (Just (twice log_sector h.geometry.log)) _ _ _ ran c.in_err-scan.ensures
    (λ ts e. both_lists (none.0 ∙ row) (e ∙ row))) c.from_residual-in_err-scan.ensures.1

pub returns : goal.returns
returns g c =
    let m = c.args.device.now in
    let h = header_of c.args.headers in
    let k = c.into_header-header.result in
    let e = c.into_header-header.ensures in
    let row : each log_sector k.geometry.log ≡ each log_sector h.geometry.log = ap (λ (j : Header). each log_sector j.geometry.log) e in
    let (on, (ss, ran, y)) = c.in_ok-sector.ensures in
    let none = rw c.in_default.is at y in
    let x = c.in_ok-scan.field-0 in
    let b = c.in_ok-scan.ensures in (
      b.0,
      looked_then g.D.Device ss (λ ts n σ. SomeOf log_sector k.geometry.log ts × (log_header x ≡ k) × (k.geometry.sectors ≡ n → HasReadAll σ k ts x)) _ _ _ _ ran b.1
          (λ ts z. (
            z.1 ∙ e,
            (
              ts,
              subst (λ (j : Header). SomeOf log_sector j.geometry.log ts) e z.0,
              both_lists (none.0 ∙ row) refl,
              λ a. let f = ap (λ (j : Header). j.geometry.sectors) e ∙ a.valid.0.0 in
                  is_read (g.D.Device.count m) (g.D.Device.current m) k _ ts _ e a (none_later (g.D.Device.count m) (g.D.Device.current m) k f none.1) (z.2 f),
            ),
          )),
    )
