-- A held sector is read from the write that is held, and another from the device below.
-- Assumes nothing.
use Rattle.std.proofs.Common.{◌+◌, [], get_or, refl, rules}
use Rattle.std.proofs.lemmas.List.{get_or_default}
use Rattle.device.specs.declared.pending.PendingWrite.{PendingWrite}
use Rattle.device.specs.Sector.{IsPayload}
use Rattle.device.specs.Waiting.{IsYoungest}
use Rattle.device.proofs.Lists.{absent_from}
use Rattle.device.proofs.Waits.{place_holds}
use Rattle.cache.proofs.Holding.{not_absent}
use Rattle.cache.proofs.CacheDevice.read.Goals as goal

pub returns-in-Some-clause-rules : goal.returns-in-Some-clause-rules
returns-in-Some-clause-rules g c =
    let w : PendingWrite = get_or c.args.self.now.held.items c.in-Some.place (record { sector = 0; bytes = [] }) in
    let is : IsPayload w.bytes = rw c.deref.ensures.0 at c.copy_to.ensures.payload in
    let h : IsYoungest c.args.sector w.bytes c.args.self.now.held.items = let y = c.in-Some.ensures.found in
    place_holds c.args.sector c.args.self.now.held.items c.in-Some.place (c.in-Some.place + 1) w refl (y.0, λ d. get_or_default c.args.self.now.held.items c.in-Some.place d _ y.0) (y.1 _) (absent_from c.args.sector c.args.self.now.held.items (c.in-Some.place + 1) y.2) is in
    search rules

pub returns-in-Some-clause-made : goal.returns-in-Some-clause-made
returns-in-Some-clause-made g c = record {
  kept = refl;
  turned = λ _. refl;
  held = λ _. refl;
  passed = λ _ _ none. absurd (not_absent _ _ _ (record { sector = 0; bytes = [] }) c.in-Some.ensures.found none);
}
