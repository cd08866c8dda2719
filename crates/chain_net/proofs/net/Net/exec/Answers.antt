use Rattle.std.proofs.Common.{ap, sym, subst}
use Rattle.network_steps.specs.Worlds.{Stepped}
use Rattle.network_steps.specs.Steps.{Exec}
use Rattle.law_authority.specs.Speakers.{HasAuthority}
use Rattle.chain_net.specs.Nets.{world_of}
use Rattle.chain_net.proofs.Pasts.{past_more, some_past_more}
use Rattle.chain_net.proofs.net.Net.exec.Goals as goal

pub returns-in_err-answer-clause-kept : goal.returns-in_err-answer-clause-kept
returns-in_err-answer-clause-kept c coherent =
    let n = c.args.self.now in
    let past = c.law_of_reached_nets.ensures.reached n c.requires.running in
    c.law_of_stopped_nets.ensures.exec n.spec (world_of n) (world_of c.try_exec.new.self) c.args.chain c.args.account.now c.args.bytes.now coherent past c.in_err-answer.ensures.stops

pub returns-in_err-answer-clause-shaped : goal.returns-in_err-answer-clause-shaped
returns-in_err-answer-clause-shaped c =
    let n = c.args.self.now in
    let past = c.law_of_reached_nets.ensures.reached n c.requires.running in
    c.law_of_stopped_messages.ensures.exec n.spec (world_of n) (world_of c.try_exec.new.self) c.args.chain c.args.account.now c.args.bytes.now past c.in_err-answer.ensures.stops

pub returns-in_err-answer-clause-authorized : goal.returns-in_err-answer-clause-authorized
returns-in_err-answer-clause-authorized c =
    let n = c.args.self.now in
    c.law_of_stopped_messages.ensures.caller (world_of n) (world_of c.try_exec.new.self) c.args.chain c.args.account.now c.args.bytes.now c.in_err-answer.ensures.stops

pub invariant_of-self-2-clause-reached : goal.invariant_of-self-2-clause-reached
invariant_of-self-2-clause-reached c going =
    let n = c.args.self.now in
    some_past_more c.law_of_pasts_through_steps.ensures.stepped n.spec c.try_exec.new.self.spec (world_of n) (world_of c.try_exec.new.self) (Exec c.args.chain c.args.account.now c.args.bytes.now) (n.reached c.requires.running) c.try_exec.ensures.spec (ap (λ (s : Stepped). s.world) (sym c.in_ok-answer.ensures.step))

pub returns-clause-kept : goal.returns-clause-kept
returns-clause-kept c coherent =
    let n = c.args.self.now in
    let next = past_more c.law_of_pasts_through_steps.ensures.stepped n.spec (world_of n) (world_of c.try_exec.new.self) (Exec c.args.chain c.args.account.now c.args.bytes.now) (c.law_of_reached_nets.ensures.reached n c.requires.running) (ap (λ (s : Stepped). s.world) (sym c.in_ok-answer.ensures.step)) in
    c.law_of_networks_with_pasts.ensures.kept n.spec (world_of c.try_exec.new.self) coherent next

pub returns-clause-shaped : goal.returns-clause-shaped
returns-clause-shaped c =
    let n = c.args.self.now in
    let next = past_more c.law_of_pasts_through_steps.ensures.stepped n.spec (world_of n) (world_of c.try_exec.new.self) (Exec c.args.chain c.args.account.now c.args.bytes.now) (c.law_of_reached_nets.ensures.reached n c.requires.running) (ap (λ (s : Stepped). s.world) (sym c.in_ok-answer.ensures.step)) in
    c.law_of_networks_with_pasts.ensures.shaped n.spec (world_of c.try_exec.new.self) next

pub returns-clause-authorized : goal.returns-clause-authorized
returns-clause-authorized c =
    let n = c.args.self.now in
    let past = c.law_of_reached_nets.ensures.reached n c.requires.running in
    subst (HasAuthority (world_of n) (Exec c.args.chain c.args.account.now c.args.bytes.now)) (ap (λ (s : Stepped). s.world) c.in_ok-answer.ensures.step) (c.law_of_networks_with_pasts.ensures.authorized n.spec (world_of n) (Exec c.args.chain c.args.account.now c.args.bytes.now) past)

pub returns-clause-paid : goal.returns-clause-paid
returns-clause-paid c coherent =
    let n = c.args.self.now in
    let next = past_more c.law_of_pasts_through_steps.ensures.stepped n.spec (world_of n) (world_of c.try_exec.new.self) (Exec c.args.chain c.args.account.now c.args.bytes.now) (c.law_of_reached_nets.ensures.reached n c.requires.running) (ap (λ (s : Stepped). s.world) (sym c.in_ok-answer.ensures.step)) in
    c.law_of_networks_with_pasts.ensures.paid n.spec (world_of c.try_exec.new.self) coherent next
