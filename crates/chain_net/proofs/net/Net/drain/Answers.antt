use Rattle.std.proofs.Common.{◌≡◌, ◌∙◌, ap, sym, subst, refl, arith, length, ℕ, suc, ◌-◌, ◌^◌, Some, None}
use Rattle.std.specs.Prelude.{min}
use Rattle.std.proofs.lemmas.Result.{err_from_is_err_and}
use Rattle.network_steps.specs.Genesis.{order_of}
use Rattle.network_steps.specs.Worlds.{World}
use Rattle.network_steps.specs.Sends.{deliveries_left}
use Rattle.network_steps.specs.Steps.{Drain, next_channel, world_behind}
use Rattle.network_spec.specs.declared.network.NetworkSpec.{NetworkSpec}
use Rattle.law_steps.specs.Kept.{IsCoherent}
use Rattle.law_nets.specs.Promises.{KeepsAssets, PaysInFull}
use Rattle.chain_net.specs.Nets.{world_of}
use Rattle.law_nets.specs.Stops.{DeliverStops}
use Rattle.chain_net.proofs.Drains.{Made, made_none, made_one_more, one_less, all_made, smaller_by, count_more}
use Rattle.chain_net.proofs.net.Net.drain.Goals as goal

pub deliveries-init : goal.deliveries-init
deliveries-init c = (c.requires.running, refl, (0, refl, made_none (order_of c.args.self.now.spec) (world_of c.args.self.now), omega arith))

pub deliver-requires : goal.deliver-requires
deliver-requires c = record { running = c.deliveries.invariant.0 }

pub returns-in_err-deliver-clause-stops : goal.returns-in_err-deliver-clause-stops
returns-in_err-deliver-clause-stops c =
    let q = err_from_is_err_and c.from_residual.result c.from_residual.ensures.1 in
    let n = c.deliveries.self in
    let order = order_of c.args.self.now.spec in
    let next : next_channel order (world_of n) ≡ Some (c.in-Some.from, c.in-Some.to) = ap (λ spec. next_channel (order_of spec) (world_of n)) (sym c.deliveries.invariant.1) ∙ sym c.in-Some.ensures in
    let made = c.deliveries.invariant.2.2 in
    rw q.1 (record {
      made = c.deliveries.invariant.2.0;
      link = (c.in-Some.from, c.in-Some.to);
      next = ap (next_channel order) (sym made.behind) ∙ next;
      stopped = subst (λ (w : World). DeliverStops w c.in-Some.from c.in-Some.to (world_of c.deliver.new.self)) made.behind c.in_err-deliver.ensures.stops;
    })

pub returns-in_err-deliver-clause-spec : goal.returns-in_err-deliver-clause-spec
returns-in_err-deliver-clause-spec c = c.deliver.ensures.spec ∙ c.deliveries.invariant.1

pub deliveries-smaller : goal.deliveries-smaller
deliveries-smaller c =
    let n = c.deliveries.self in
    let order = order_of c.args.self.now.spec in
    let next : next_channel order (world_of n) ≡ Some (c.in-Some.from, c.in-Some.to) = ap (λ spec. next_channel (order_of spec) (world_of n)) (sym c.deliveries.invariant.1) ∙ sym c.in-Some.ensures in
    let less = one_less n.rules.items n.chains.items n.ruled (n.between c.deliveries.invariant.0) c.law_of_drains_that_end.ensures.lowers (c.law_of_reached_nets.ensures.shaped n c.deliveries.invariant.0) order (c.in-Some.from, c.in-Some.to) next in
    let same = ap deliveries_left c.in_ok-deliver.ensures.world in
    smaller_by (world_of c.deliver.new.self) (world_of n) (omega (arith, less, same))

pub deliveries-preserved : goal.deliveries-preserved
deliveries-preserved c =
    let n = c.deliveries.self in
    let order = order_of c.args.self.now.spec in
    let next : next_channel order (world_of n) ≡ Some (c.in-Some.from, c.in-Some.to) = ap (λ spec. next_channel (order_of spec) (world_of n)) (sym c.deliveries.invariant.1) ∙ sym c.in-Some.ensures in
    let less = one_less n.rules.items n.chains.items n.ruled (n.between c.deliveries.invariant.0) c.law_of_drains_that_end.ensures.lowers (c.law_of_reached_nets.ensures.shaped n c.deliveries.invariant.0) order (c.in-Some.from, c.in-Some.to) next in
    let same = ap deliveries_left c.in_ok-deliver.ensures.world in
    let k = c.deliveries.invariant.2.0 in
    let counted = c.deliveries.invariant.2.1 in
    let made = made_one_more order k (world_of c.args.self.now) (world_of n) (c.in-Some.from, c.in-Some.to) c.deliveries.invariant.2.2 next in
    let few = c.deliveries.invariant.2.3 in
    let added = c.saturating_add-count.ensures in (
      c.in_ok-deliver.ensures.running,
      c.deliver.ensures.spec ∙ c.deliveries.invariant.1,
      (suc k, count_more k c.deliveries.count c.saturating_add-count.result counted added, subst (λ (w : World). Made order (suc k) (world_of c.args.self.now) w) (sym c.in_ok-deliver.ensures.world) made, omega (arith, few, less, same)),
    )

pub returns-clause-count : goal.returns-clause-count
returns-clause-count c =
    let n = c.deliveries.self in
    let order = order_of c.args.self.now.spec in
    let none : next_channel order (world_of n) ≡ None = ap (λ spec. next_channel (order_of spec) (world_of n)) (sym c.deliveries.invariant.1) ∙ sym c.in_default.ensures in
    let k = c.deliveries.invariant.2.0 in
    let made = c.deliveries.invariant.2.2 in
    let few = c.deliveries.invariant.2.3 in
    let all = all_made order k (world_of c.args.self.now) (world_of n) made none (omega (arith, few)) in
    c.deliveries.invariant.2.1 ∙ ap (λ (m : ℕ). min m (2 ^ 64 - 1)) (sym (ap length all ∙ made.many))

pub returns-clause-few : goal.returns-clause-few
returns-clause-few c =
    let few = c.deliveries.invariant.2.3 in
    let counted = c.deliveries.invariant.2.1 in
    omega (arith, few, counted)

pub returns-clause-world : goal.returns-clause-world
returns-clause-world c =
    let n = c.deliveries.self in
    let order = order_of c.args.self.now.spec in
    let none : next_channel order (world_of n) ≡ None = ap (λ spec. next_channel (order_of spec) (world_of n)) (sym c.deliveries.invariant.1) ∙ sym c.in_default.ensures in
    let k = c.deliveries.invariant.2.0 in
    let made = c.deliveries.invariant.2.2 in
    let few = c.deliveries.invariant.2.3 in
    let all = all_made order k (world_of c.args.self.now) (world_of n) made none (omega (arith, few)) in
    made.behind ∙ ap (world_behind (world_of c.args.self.now)) (sym all)

pub returns-clause-running : goal.returns-clause-running
returns-clause-running c = c.deliveries.invariant.0

pub returns-clause-spec : goal.returns-clause-spec
returns-clause-spec c = c.deliveries.invariant.1

pub returns-in_err-deliver-clause-kept : goal.returns-in_err-deliver-clause-kept
returns-in_err-deliver-clause-kept c coherent =
    let n = c.deliveries.self in
    let same = c.deliveries.invariant.1 in
    subst (λ (s : NetworkSpec). KeepsAssets s (world_of c.deliver.new.self)) same (c.deliver.ensures.kept (subst IsCoherent (sym same) coherent))

pub returns-in_err-deliver-clause-shaped : goal.returns-in_err-deliver-clause-shaped
returns-in_err-deliver-clause-shaped c = c.deliver.ensures.shaped

pub returns-in_err-deliver-clause-stops_authorized : goal.returns-in_err-deliver-clause-stops_authorized
returns-in_err-deliver-clause-stops_authorized c =
    let q = err_from_is_err_and c.from_residual.result c.from_residual.ensures.1 in
    let old = c.args.self.now in
    let n = c.deliveries.self in
    let order = order_of old.spec in
    let next : next_channel order (world_of n) ≡ Some (c.in-Some.from, c.in-Some.to) = ap (λ spec. next_channel (order_of spec) (world_of n)) (sym c.deliveries.invariant.1) ∙ sym c.in-Some.ensures in
    let made = c.deliveries.invariant.2.2 in
    let past = c.law_of_reached_nets.ensures.reached old c.requires.running in
    rw q.1 (c.law_of_stopped_messages.ensures.drained old.spec (world_of old) (world_of c.deliver.new.self) past (record {
      made = c.deliveries.invariant.2.0;
      link = (c.in-Some.from, c.in-Some.to);
      next = ap (next_channel order) (sym made.behind) ∙ next;
      stopped = subst (λ (w : World). DeliverStops w c.in-Some.from c.in-Some.to (world_of c.deliver.new.self)) made.behind c.in_err-deliver.ensures.stops;
    }))

pub returns-clause-kept : goal.returns-clause-kept
returns-clause-kept c coherent =
    let n = c.deliveries.self in
    let same = c.deliveries.invariant.1 in
    let past = c.law_of_reached_nets.ensures.reached n c.deliveries.invariant.0 in
    subst (λ (s : NetworkSpec). KeepsAssets s (world_of n)) same (c.law_of_networks_with_pasts.ensures.kept n.spec (world_of n) (subst IsCoherent (sym same) coherent) past)

pub returns-clause-shaped : goal.returns-clause-shaped
returns-clause-shaped c = c.law_of_reached_nets.ensures.shaped c.deliveries.self c.deliveries.invariant.0

pub returns-clause-authorized : goal.returns-clause-authorized
returns-clause-authorized c =
    let old = c.args.self.now in
    c.law_of_networks_with_pasts.ensures.authorized old.spec (world_of old) Drain (c.law_of_reached_nets.ensures.reached old c.requires.running)

pub returns-clause-paid : goal.returns-clause-paid
returns-clause-paid c coherent =
    let n = c.deliveries.self in
    let same = c.deliveries.invariant.1 in
    let past = c.law_of_reached_nets.ensures.reached n c.deliveries.invariant.0 in
    subst (λ (s : NetworkSpec). PaysInFull s (world_of n)) same (c.law_of_networks_with_pasts.ensures.paid n.spec (world_of n) (subst IsCoherent (sym same) coherent) past)
