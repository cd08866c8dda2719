use Rattle.std.proofs.Common.{◌≡◌, ◌∙◌, ◌+◌, ◌++◌, ◌<◌, refl, sym, ap, subst, string_bytes, Some, None}
use Rattle.network_steps.specs.Genesis.{order_of}
use Rattle.network_steps.specs.Steps.{deliver, next_channel}
use Rattle.network_steps.specs.Sends.{deliveries_left}
use Rattle.chain_net.specs.Nets.{world_of, spec_of}
use Rattle.report_blocks.specs.Blocks.{lines_of_step}
use Rattle.report_blocks.proofs.Apart.{apart_link}
use Rattle.report_blocks.proofs.DrainLines.{Drains, drains_start, drains_on, drains_lower, drains_end, drained_text}
use Rattle.report_blocks.proofs.draining.drained.Goals as goal

pub deliveries-init : goal.deliveries-init
deliveries-init c = record {
  drains = drains_start _ _ _ c.new-text.ensures.bytes;
  running = c.requires.running;
  spec = refl;
}

pub deliveries-smaller : goal.deliveries-smaller
deliveries-smaller c =
    let n = c.deliveries.net in
    let order = order_of (spec_of c.args.net.now) in
    let next : next_channel order (world_of n) ≡ Some (c.in-Some.from, c.in-Some.to) = ap (λ spec. next_channel (order_of spec) (world_of n)) (sym c.deliveries.invariant.spec) ∙ sym c.in-Some.ensures in
    let apart = apart_link n.rules.items n.chains.items (n.between c.deliveries.invariant.running) order (c.in-Some.from, c.in-Some.to) next in
    subst (λ w. deliveries_left w < deliveries_left (world_of n)) (sym c.in_ok-lines.ensures.world) (drains_lower _ _ _ next (λ x w. c.law_of_drains_that_end.ensures.lowers _ _ _ x (c.law_of_reached_nets.ensures.shaped n c.deliveries.invariant.running) apart w))

pub deliveries-preserved : goal.deliveries-preserved
deliveries-preserved c =
    let n = c.deliveries.net in
    let order = order_of (spec_of c.args.net.now) in
    let next : next_channel order (world_of n) ≡ Some (c.in-Some.from, c.in-Some.to) = ap (λ spec. next_channel (order_of spec) (world_of n)) (sym c.deliveries.invariant.spec) ∙ sym c.in-Some.ensures in
    let apart = apart_link n.rules.items n.chains.items (n.between c.deliveries.invariant.running) order (c.in-Some.from, c.in-Some.to) next in
    let more : string_bytes c.push_str.new.self ≡ string_bytes c.deliveries.text ++ lines_of_step (deliver (world_of n) c.in-Some.from c.in-Some.to) =
    c.in_ok-push_str.ensures.bytes ∙ ap (λ t. string_bytes c.deliveries.text ++ t) (c.deref.ensures ∙ c.in_ok-lines.ensures.lines) in
    let on = drains_on _ _ _ _ _ _ _ c.deliveries.invariant.drains next (λ x w. c.law_of_drains_that_end.ensures.lowers _ _ _ x (c.law_of_reached_nets.ensures.shaped n c.deliveries.invariant.running) apart w) more in
    record {
      drains = subst (λ k. Drains order (world_of c.args.net.now) (world_of c.delivered.new.net) (string_bytes c.push_str.new.self) k) (sym c.in-Some-checked_add.ensures.1)
          (subst (λ w. Drains order (world_of c.args.net.now) w (string_bytes c.push_str.new.self) (c.deliveries.count + 1)) (sym c.in_ok-lines.ensures.world) on);
      running = c.in_ok-lines.ensures.running;
      spec = c.delivered.ensures.spec ∙ c.deliveries.invariant.spec;
    }

pub returns-clause-lines : goal.returns-clause-lines
returns-clause-lines c =
    let n = c.deliveries.net in
    let none : next_channel (order_of (spec_of c.args.net.now)) (world_of n) ≡ None = ap (λ spec. next_channel (order_of spec) (world_of n)) (sym c.deliveries.invariant.spec) ∙ sym c.in_default.ensures in
    drained_text _ _ _ _ _ _ c.deliveries.invariant.drains none (c.in_ok-push_str-2.ensures.bytes ∙ ap (λ t. string_bytes c.deliveries.text ++ t) (c.deref-2.ensures ∙ c.in_ok-last.ensures))

pub returns-clause-world : goal.returns-clause-world
returns-clause-world c =
    let n = c.deliveries.net in
    let none : next_channel (order_of (spec_of c.args.net.now)) (world_of n) ≡ None = ap (λ spec. next_channel (order_of spec) (world_of n)) (sym c.deliveries.invariant.spec) ∙ sym c.in_default.ensures in
    sym (drains_end _ _ _ _ _ c.deliveries.invariant.drains none).1
