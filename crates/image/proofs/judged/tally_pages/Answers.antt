-- Each turn takes up one page more.
-- Assumes nothing.
use Rattle.std.proofs.Common.{◌≡◌, ◌∙◌, ◌+◌, ◌-◌, ap, subst, sym, ℕ, refl, arith}
use Rattle.device.specs.Calling.{reads, each, Ran}
use Rattle.layout.specs.declared.header.Header.{Header}
use Rattle.layout.specs.Geometries.{root_of}
use Rattle.image.specs.Images.{Judged}
use Rattle.image.specs.Stages.{IsReadOf, FindsPage, FindsNoPage, IsPageFault, EndsAtFault, nth_body, page_count, body_sector}
use Rattle.image.proofs.Lookings.{ran_more, carried, fails_in_row}
use Rattle.image.proofs.Judging.{PagesSoFar, no_page_yet, one_more_page, fault_judged, all_pages}
use Rattle.image.proofs.judged.tally_pages.Goals as goal

pub loop-sector-init : goal.loop-sector-init
loop-sector-init g c =
    let x = c.args.log.now in
    let root : c.root-sector.result ≡ root_of x.header.geometry = c.root-sector.ensures ∙ ap (λ (h : Header). root_of h.geometry) c.header.ensures in
    let none : c.root-sector.result - root_of x.header.geometry ≡ 0 = omega arith in
    record {
      ran = subst (λ (k : ℕ). Ran g.D.Device (reads (each (nth_body x) k)) c.args.device.now c.args.device.now) (sym none) refl;
      on = λ l. absurd (omega arith);
      found = λ r. no_page_yet _ _ x r _ _ root (c.new-tally.ensures (root_of x.header.geometry));
    }

pub loop-sector-preserved : goal.loop-sector-preserved
loop-sector-preserved g c =
    let inv = c.loop-sector.invariant in
    let x = c.args.log.now in
    let s = c.loop-sector.sector in
    let root : c.root-sector.result ≡ root_of x.header.geometry = c.root-sector.ensures ∙ ap (λ (h : Header). root_of h.geometry) c.header.ensures in
    let end : c.header.result.geometry.sectors ≡ x.header.geometry.sectors = ap (λ (h : Header). h.geometry.sectors) c.header.ensures in
    let (on, (ss, ran, (row, y))) = c.in_ok-page.ensures in
    let t = carried g.D.Device (λ n σ. FindsPage n σ x s c.in_ok-page.page) _ _ _ inv.ran y in
    let k = s - root_of x.header.geometry in
    let here : root_of x.header.geometry + k ≡ s = omega arith in
    record {
      ran = ran_more g.D.Device (nth_body x) k (s + 1 - root_of x.header.geometry) (body_sector x s) _ _ _ ss inv.ran ran row (ap (body_sector x) (sym here)) (omega arith);
      on = λ _. on;
      found = λ r. let y = inv.found r in
          one_more_page _ _ x r s _ _ c.in_ok-page.page (omega arith, omega arith) y t (c.add.ensures (root_of x.header.geometry) y.pages (sym y.at) y.tally);
    }

pub returns-in_err-page : goal.returns-in_err-page
returns-in_err-page g c =
    let inv = c.loop-sector.invariant in
    let x = c.args.log.now in
    let s = c.loop-sector.sector in
    let root : c.root-sector.result ≡ root_of x.header.geometry = c.root-sector.ensures ∙ ap (λ (h : Header). root_of h.geometry) c.header.ensures in
    let end : c.header.result.geometry.sectors ≡ x.header.geometry.sectors = ap (λ (h : Header). h.geometry.sectors) c.header.ensures in
    let k = s - root_of x.header.geometry in
    let here : root_of x.header.geometry + k ≡ s = omega arith in
    let more : k + 1 ≡ s + 1 - root_of x.header.geometry = omega arith in
    fails_in_row g.D.Device _ (nth_body x) k (page_count x) (body_sector x s) (λ n σ q. IsPageFault s q × FindsNoPage n σ x s q)
    (λ ss n σ q. EndsAtFault x ss q × (IsReadOf n σ x → Judged n σ q)) _ _ _ _ _ inv.ran c.in_err-page.ensures (ap (body_sector x) (sym here)) (omega arith)
    (λ q f. ((s, (omega arith, omega arith), f.0, ap (each (nth_body x)) more), λ r. fault_judged _ _ x r s _ _ (omega arith, omega arith) (inv.found r) f.1))
    c.from_residual.ensures.1

pub returns : goal.returns
returns g c =
    let inv = c.loop-sector.invariant in
    let x = c.args.log.now in
    let s = c.loop-sector.sector in
    let root : c.root-sector.result ≡ root_of x.header.geometry = c.root-sector.ensures ∙ ap (λ (h : Header). root_of h.geometry) c.header.ensures in
    let end : c.header.result.geometry.sectors ≡ x.header.geometry.sectors = ap (λ (h : Header). h.geometry.sectors) c.header.ensures in
    let room = x.header.geometry.room in
    let all : s - root_of x.header.geometry ≡ page_count x = omega arith in (
      inv.on (omega arith),
      (
        _,
        inv.ran,
        (
          ap (each (nth_body x)) all,
          λ r. let y = inv.found r in all_pages _ _ x r _
              (subst (λ (s : ℕ). PagesSoFar _ _ x r s c.loop-sector.tally) (omega (arith, y.at)) y),
        ),
      ),
    )
