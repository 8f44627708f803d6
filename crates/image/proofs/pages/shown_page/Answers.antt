-- A page that is known to be lawful is found by its body.
-- Assumes nothing.
use Rattle.std.proofs.Common.{ℕ, List, [], ◌∷◌, sym, subst}
use Rattle.image.specs.Phases.{Just}
use Rattle.image.specs.Stages.{body_sector, IsPageRead, IsPageFault, FindsBody, FindsNoBody, FindsShown, FindsNoneShown}
use Rattle.image.proofs.Lookings.{finds_or, fails_as}
use Rattle.image.proofs.Judging.{body_shown, shown_finds, page_read}
use Rattle.image.proofs.pages.shown_page.Goals as goal

pub returns-in_err-bytes : goal.returns-in_err-bytes
returns-in_err-bytes g c =
    let m = c.args.device.now in
    let x = c.args.log.now in
    let s = c.args.sector in
    let P = Just (body_sector x s ∷ []) in
    fails_as g.D.Device _ P P (λ ts n σ q. P ts × (IsPageFault s q × FindsNoBody n σ x s q)) (λ ts n σ q. P ts × (IsPageFault s q × FindsNoneShown n σ x s))
    _ _ _ _ c.in_err-bytes.ensures (λ l. l)
    (λ ts q f. (f.0, (f.1.0, λ r i H a. body_shown (g.D.Device.count m) (g.D.Device.current m) x r H a s q i f.1.1)))
    c.from_residual.ensures.1

pub returns : goal.returns
returns g c =
    let m = c.args.device.now in
    let x = c.args.log.now in
    let s = c.args.sector in
    let (on, (ss, ran, (row, y))) = c.in_ok-bytes.ensures in
    finds_or g.D.Device (Just (body_sector x s ∷ [])) (λ n σ p. IsPageRead σ x s p × FindsShown n σ x s p) (λ n σ q. IsPageFault s q × FindsNoneShown n σ x s)
    _ _ _ _ _ c.ok_or.ensures.value on (ss, ran, row)
    (page_read (g.D.Device.count m) (g.D.Device.current m) x s _ _ _ y.0 c.body_of.ensures
    (shown_finds (g.D.Device.count m) (g.D.Device.current m) x s _ _
    (subst (λ (b : List ℕ). FindsBody (g.D.Device.count m) (g.D.Device.current m) x s b) (sym c.body_of.ensures) y.1) c.decode-page.ensures.only c.decode-page.ensures.found))
