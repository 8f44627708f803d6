-- The write takes the place of an earlier one, or joins those held, or the device below turned off.
-- Assumes nothing.
use Rattle.std.proofs.Common.{inl, arith, rules}
use Rattle.std.proofs.lemmas.List.{length-set}
use Rattle.cache.proofs.Holding.{not_absent, assigned, replaced, replaced_rules, joined, joined_rules, takes_distinct}
use Rattle.cache.proofs.Cache.hold.Goals as goal

pub invariant_of-self : goal.invariant_of-self
invariant_of-self g c =
    let p = replaced c.args.write c.args.self.now.held.items c.in-Some.place c.in-Some.ensures.found in
    record {
      few = rw (c.deref_mut.ensures.value, assigned, length-set) c.args.self.now.few;
      apart = rw (c.deref_mut.ensures.value, assigned) (takes_distinct c.args.write _ _ (inl p) c.args.self.now.apart);
    }

pub returns-in-Some-clause-rules : goal.returns-in-Some-clause-rules
returns-in-Some-clause-rules g c on here =
    let p = replaced c.args.write c.args.self.now.held.items c.in-Some.place c.in-Some.ensures.found in
    rw (c.deref_mut.ensures.value, assigned) (replaced_rules c.args.write _ _ _ (search rules) p on here)

pub returns-in-Some-clause-held : goal.returns-in-Some-clause-held
returns-in-Some-clause-held g c = rw (c.deref_mut.ensures.value, assigned) (inl (replaced c.args.write _ _ c.in-Some.ensures.found))

pub returns-in-Some-clause-evicts : goal.returns-in-Some-clause-evicts
returns-in-Some-clause-evicts g c _ none _ = absurd (not_absent _ _ _ c.args.write c.in-Some.ensures.found none)

pub invariant_of-self-2 : goal.invariant_of-self-2
invariant_of-self-2 g c =
    let room = c.in_ok-make_room.ensures.room in
    record {
      few = omega (arith, c.push.ensures.len, room.1);
      apart = rw c.push.ensures.items (takes_distinct c.args.write _ _ (joined c.args.write _ _ c.in_default.ensures.found room.0) c.args.self.now.apart);
    }

pub returns-clause-rules : goal.returns-clause-rules
returns-clause-rules g c on here = rw c.push.ensures.items (joined_rules c.args.write _ _ _ _ (search rules) c.in_ok-make_room.ensures.room on here)
