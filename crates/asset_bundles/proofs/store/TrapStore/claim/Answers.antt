use Rattle.std.proofs.Common.{length, map, sym, ap, ◌∙◌, subst, refl}
use Rattle.asset_bundles.specs.Traps.{Store, IsClaimed}
use Rattle.asset_bundles.specs.Sums.{settled_sum_row}
use Rattle.asset_bundles.proofs.Claiming.{is_claimed}
use Rattle.asset_bundles.proofs.Settling.{settled_sums}
use Rattle.asset_bundles.proofs.store.TrapStore.claim.Goals as goal

pub invariant_of-self : goal.invariant_of-self
invariant_of-self c =
    settled_sums c.self.inside.sums.items c.settle_all.new.rows _ c.self.inside.sums.len c.args.list.now c.args.origin.now c.self.inside.traps c.take_oldest.new.self c.in-Some.trap
    (ap length (sym c.as_mut_slice.ensures.value) ∙ c.as_mut_slice.ensures.len)
    (c.settle_all.ensures ∙ ap (map (settled_sum_row c.in-Some.trap.goods c.take_oldest.new.self)) c.as_mut_slice.ensures.value)
    c.in-Some.ensures c.self.invariant

pub returns-in-Some : goal.returns-in-Some
returns-in-Some c =
    let before : Store = record { traps = c.self.inside.traps; next = c.self.inside.next } in
    let after : Store = record { traps = c.take_oldest.new.self; next = c.self.inside.next } in (
      c.take_up.ensures ∙ c.in-Some.ensures.fits.1,
      subst (λ s. IsClaimed c.args.list.now c.args.origin.now s after) c.self.view_is (is_claimed c.args.list.now c.args.origin.now before after c.in-Some.trap c.in-Some.ensures refl),
    )
