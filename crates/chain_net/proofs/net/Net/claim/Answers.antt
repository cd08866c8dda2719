use Rattle.std.proofs.Common.{ap, sym, subst}
use Rattle.network_steps.specs.Worlds.{Stepped}
use Rattle.network_steps.specs.Steps.{Claim}
use Rattle.law_steps.specs.Shapes.{AllShaped}
use Rattle.law_authority.specs.Speakers.{HasAuthority}
use Rattle.law_nets.specs.Promises.{KeepsAssets}
use Rattle.chain_net.specs.Nets.{world_of}
use Rattle.chain_net.proofs.Pasts.{past_more, some_past_more}
use Rattle.chain_net.proofs.net.Net.claim.Goals as goal

pub returns-in_err-answer-clause-kept : goal.returns-in_err-answer-clause-kept
returns-in_err-answer-clause-kept c coherent =
    let n = c.args.self.now in
    let past = c.law_of_reached_nets.ensures.reached n c.requires.running in
    subst (KeepsAssets n.spec) (sym c.in_err-answer.ensures.stops) (c.law_of_networks_with_pasts.ensures.kept n.spec (world_of n) coherent past)

pub returns-in_err-answer-clause-shaped : goal.returns-in_err-answer-clause-shaped
returns-in_err-answer-clause-shaped c =
    let n = c.args.self.now in
    let past = c.law_of_reached_nets.ensures.reached n c.requires.running in
    subst AllShaped (sym c.in_err-answer.ensures.stops) (c.law_of_networks_with_pasts.ensures.shaped n.spec (world_of n) past)

pub returns-in_err-answer-clause-authorized : goal.returns-in_err-answer-clause-authorized
returns-in_err-answer-clause-authorized c =
    let n = c.args.self.now in
    subst (HasAuthority (world_of n) (Claim c.args.from c.args.to c.args.bytes.now)) (sym c.in_err-answer.ensures.stops) (c.law_of_stopped_messages.ensures.same (world_of n) (Claim c.args.from c.args.to c.args.bytes.now))

pub invariant_of-self-2-clause-reached : goal.invariant_of-self-2-clause-reached
invariant_of-self-2-clause-reached c going =
    let n = c.args.self.now in
    some_past_more c.law_of_pasts_through_steps.ensures.stepped n.spec c.try_claim.new.self.spec (world_of n) (world_of c.try_claim.new.self) (Claim c.args.from c.args.to c.args.bytes.now) (n.reached c.requires.running) c.try_claim.ensures.spec (ap (λ (s : Stepped). s.world) (sym c.in_ok-answer.ensures.step))

pub returns-clause-kept : goal.returns-clause-kept
returns-clause-kept c coherent =
    let n = c.args.self.now in
    let next = past_more c.law_of_pasts_through_steps.ensures.stepped n.spec (world_of n) (world_of c.try_claim.new.self) (Claim c.args.from c.args.to c.args.bytes.now) (c.law_of_reached_nets.ensures.reached n c.requires.running) (ap (λ (s : Stepped). s.world) (sym c.in_ok-answer.ensures.step)) in
    c.law_of_networks_with_pasts.ensures.kept n.spec (world_of c.try_claim.new.self) coherent next

pub returns-clause-shaped : goal.returns-clause-shaped
returns-clause-shaped c =
    let n = c.args.self.now in
    let next = past_more c.law_of_pasts_through_steps.ensures.stepped n.spec (world_of n) (world_of c.try_claim.new.self) (Claim c.args.from c.args.to c.args.bytes.now) (c.law_of_reached_nets.ensures.reached n c.requires.running) (ap (λ (s : Stepped). s.world) (sym c.in_ok-answer.ensures.step)) in
    c.law_of_networks_with_pasts.ensures.shaped n.spec (world_of c.try_claim.new.self) next

pub returns-clause-authorized : goal.returns-clause-authorized
returns-clause-authorized c =
    let n = c.args.self.now in
    let past = c.law_of_reached_nets.ensures.reached n c.requires.running in
    subst (HasAuthority (world_of n) (Claim c.args.from c.args.to c.args.bytes.now)) (ap (λ (s : Stepped). s.world) c.in_ok-answer.ensures.step) (c.law_of_networks_with_pasts.ensures.authorized n.spec (world_of n) (Claim c.args.from c.args.to c.args.bytes.now) past)

pub returns-clause-paid : goal.returns-clause-paid
returns-clause-paid c coherent =
    let n = c.args.self.now in
    let next = past_more c.law_of_pasts_through_steps.ensures.stepped n.spec (world_of n) (world_of c.try_claim.new.self) (Claim c.args.from c.args.to c.args.bytes.now) (c.law_of_reached_nets.ensures.reached n c.requires.running) (ap (λ (s : Stepped). s.world) (sym c.in_ok-answer.ensures.step)) in
    c.law_of_networks_with_pasts.ensures.paid n.spec (world_of c.try_claim.new.self) coherent next
