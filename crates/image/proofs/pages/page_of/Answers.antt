-- A page is found by its body.
-- Assumes nothing.
use Rattle.std.proofs.Common.{◌==◌, ℕ, [], ◌∷◌, List, sym, subst}
use Rattle.image.specs.Phases.{Just}
use Rattle.image.specs.Stages.{body_sector, FindsBody, FindsPage, FindsNoPage, IsPageFault}
use Rattle.image.proofs.Lookings.{finds_or}
use Rattle.image.proofs.Bodied.{page_finds}
use Rattle.image.proofs.pages.page_of.Goals as goal

pub returns : goal.returns
returns g c =
    let m = c.args.device.now in
    let x = c.args.log.now in
    let s = c.args.sector in
    let (on, (ss, ran, (row, y))) = c.in_ok-bytes.ensures in
    finds_or g.D.Device (Just (body_sector x s ∷ [])) (λ n σ. FindsPage n σ x s) (λ n σ q. IsPageFault s q × FindsNoPage n σ x s q)
    _ _ _ _ _ c.ok_or.ensures.value on (ss, ran, row)
    (page_finds (g.D.Device.count m) (g.D.Device.current m) x s (s == c.root.result) _ _ (cc (c.root.ensures, c.header.ensures))
    c.decode_lawful-page.ensures.found c.decode_lawful-page.ensures.only
    (subst (λ (b : List ℕ). FindsBody (g.D.Device.count m) (g.D.Device.current m) x s b) (sym c.body_of.ensures) y.1))
