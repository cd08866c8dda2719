use Rattle.std.proofs.Common.{◌≡◌, ◌∙◌, ◌<◌, ap, sym, subst, refl, Some, None, true, []}
use Rattle.std.specs.Prelude.{slice_get, slice_set}
use Rattle.std.specs.Option.{option_map_or}
use Rattle.versioned_xcm.specs.Reading.{message_of}
use Rattle.channel_parts.specs.Channels.{Outgoing}
use Rattle.chain_queues.specs.Queues.{channel_to}
use Rattle.exec_base.specs.Sending.{channel_refusal}
use Rattle.network_steps.specs.declared.step_result.StepResult.{StepResult}
use Rattle.network_steps.specs.Steps.{claim, claim_on, posted}
use Rattle.chain_state.specs.declared.state.ChainState.{ChainState}
use Rattle.chain_state.specs.PartOf.{part_of}
use Rattle.chain_net.specs.Chains.{member_in, world_in}
use Rattle.chain_net.specs.Sound.{IsBetweenSteps}
use Rattle.chain_net.specs.Nets.{world_of, told_at, stepped}
use Rattle.chain_net.proofs.Members.{at_place, member_at, something, somebody, set_many, set_names, set_between}
use Rattle.chain_net.proofs.Passes.{same_seen}
use Rattle.chain_net.proofs.Pairs.{claim_nowhere, claim_to_nowhere, claim_at}
use Rattle.chain_net.proofs.Deliveries.{none_of, some_of}
use Rattle.chain_net.proofs.Executions.{read_is, fault_is, by_answer}
use Rattle.chain_net.proofs.Claims.{on_fault, on_other, on_refused, on_posted, between_posted, answer_chain, same_world, changed_world, xcm_told, memory_told}
use Rattle.chain_net.proofs.Standing.{links_stay}
use Rattle.chain_net.proofs.Staying.{set_channels, answer_fixed}
use Rattle.chain_net.proofs.net.Net.try_claim.Goals as goal

pub returns-in_default-clause-step : goal.returns-in_default-clause-step
returns-in_default-clause-step c =
    claim_nowhere (world_of c.args.self.now) c.args.from c.args.to c.args.bytes.now (sym c.in_default.ensures.place)
    ∙ ap (λ acted. record { answer = StepResult.NoSuchChain; trace = told_at acted (world_of c.args.self.now); world = world_of c.args.self.now }) (sym c.requires.idle)

pub returns-in_default-place-clause-step : goal.returns-in_default-place-clause-step
returns-in_default-place-clause-step c =
    claim_to_nowhere (world_of c.args.self.now) c.args.from c.args.to c.args.bytes.now c.in-Some.sender (sym c.in-Some.ensures.place) (sym c.in_default-place.ensures.place)
    ∙ ap (λ acted. record { answer = StepResult.NoSuchChain; trace = told_at acted (world_of c.args.self.now); world = world_of c.args.self.now }) (sym c.requires.idle)

pub returns-in_default-has_waiting-clause-step : goal.returns-in_default-has_waiting-clause-step
returns-in_default-has_waiting-clause-step c =
    let rs = c.args.self.now.rules.items in
    let xs = c.args.self.now.chains.items in
    let i = c.in-Some.sender in
    let w = world_of c.args.self.now in
    let rule = something rs i (subst (λ n. i < n) (sym c.args.self.now.ruled) c.in-Some.ensures.there) in
    let there = somebody rs xs c.in-Some-place.field-0 c.args.self.now.ruled c.in-Some-place.ensures.there in
    let first = at_place xs i c.index.result.now c.index.ensures c.in-Some.ensures.there in
    let s = member_in rule.0 c.index.result.now in
    let o = channel_to c.args.to (part_of c.index.result.now).channels in
    let on = claim_at w c.args.from c.args.to c.args.bytes.now i c.in-Some-place.field-0 s there.0 o (sym c.in-Some.ensures.place) (sym c.in-Some-place.ensures.place) (member_at rs xs i rule.0 c.index.result.now rule.1 first) there.1 refl in
    on ∙ ap (λ p. claim_on w i s c.args.to p c.args.bytes.now) (none_of o c.in_default-has_waiting.ensures)
    ∙ ap (λ acted. record { answer = StepResult.NoSuchChannel; trace = told_at acted w; world = w }) (sym c.requires.idle)

pub returns-in-Err-clause-step : goal.returns-in-Err-clause-step
returns-in-Err-clause-step c =
    let rs = c.args.self.now.rules.items in
    let xs = c.args.self.now.chains.items in
    let i = c.in-Some.sender in
    let w = world_of c.args.self.now in
    let rule = something rs i (subst (λ n. i < n) (sym c.args.self.now.ruled) c.in-Some.ensures.there) in
    let there = somebody rs xs c.in-Some-place.field-0 c.args.self.now.ruled c.in-Some-place.ensures.there in
    let first = at_place xs i c.index.result.now c.index.ensures c.in-Some.ensures.there in
    let s = member_in rule.0 c.index.result.now in
    let o = channel_to c.args.to (part_of c.index.result.now).channels in
    let on = claim_at w c.args.from c.args.to c.args.bytes.now i c.in-Some-place.field-0 s there.0 o (sym c.in-Some.ensures.place) (sym c.in-Some-place.ensures.place) (member_at rs xs i rule.0 c.index.result.now rule.1 first) there.1 refl in
    let some = some_of c.in-Some-has_waiting.field-0 o c.in-Some-has_waiting.ensures in
    by_answer c.answer_to.result c.in-Err.fault (λ answer. claim w c.args.from c.args.to c.args.bytes.now ≡ stepped answer c.args.self.now) c.answer_to.ensures.answer c.answer_to.ensures.other
    (λ other. on ∙ on_fault w i s c.args.to c.args.bytes.now o c.in-Err.fault some (fault_is c.in-Err.fault (message_of c.args.bytes.now) other c.in-Err.ensures.read)
    ∙ ap (λ acted. record { answer = StepResult.Message c.in-Err.fault; trace = told_at acted w; world = w }) (sym c.requires.idle))

pub returns-then-not-is_claim-clause-step : goal.returns-then-not-is_claim-clause-step
returns-then-not-is_claim-clause-step c =
    let rs = c.args.self.now.rules.items in
    let xs = c.args.self.now.chains.items in
    let i = c.in-Some.sender in
    let w = world_of c.args.self.now in
    let rule = something rs i (subst (λ n. i < n) (sym c.args.self.now.ruled) c.in-Some.ensures.there) in
    let there = somebody rs xs c.in-Some-place.field-0 c.args.self.now.ruled c.in-Some-place.ensures.there in
    let first = at_place xs i c.index.result.now c.index.ensures c.in-Some.ensures.there in
    let s = member_in rule.0 c.index.result.now in
    let o = channel_to c.args.to (part_of c.index.result.now).channels in
    let on = claim_at w c.args.from c.args.to c.args.bytes.now i c.in-Some-place.field-0 s there.0 o (sym c.in-Some.ensures.place) (sym c.in-Some-place.ensures.place) (member_at rs xs i rule.0 c.index.result.now rule.1 first) there.1 refl in
    let some = some_of c.in-Some-has_waiting.field-0 o c.in-Some-has_waiting.ensures in
    on ∙ on_other w i s c.args.to c.args.bytes.now o c.in-Ok.program some (read_is c.in-Ok.program (message_of c.args.bytes.now) c.in-Ok.ensures.read) (sym c.if-not-is_claim.ensures)
    ∙ ap (λ acted. record { answer = StepResult.NotAClaim; trace = told_at acted w; world = w }) (sym c.requires.idle)

pub invariant_of-self-clause-ruled : goal.invariant_of-self-clause-ruled
invariant_of-self-clause-ruled c = c.args.self.now.ruled ∙ sym (set_many c.args.self.now.chains.items c.in-Some.sender c.send.new.self)

pub invariant_of-self-clause-named : goal.invariant_of-self-clause-named
invariant_of-self-clause-named c =
    let xs = c.args.self.now.chains.items in
    let p = part_of c.index_mut.result.now in
    let o = channel_to c.args.to p.channels in
    set_names xs c.in-Some.sender c.index_mut.result.now c.send.new.self (at_place xs c.in-Some.sender c.index_mut.result.now c.index_mut.ensures.value c.in-Some.ensures.there)
    (answer_chain (channel_refusal o true c.in-Ok.program) (option_map_or (λ (q : Outgoing). q.next) o 0) c.args.to c.in-Ok.program p (part_of c.send.new.self) c.send.result c.send.ensures.step) ∙ c.args.self.now.named

pub invariant_of-self-clause-linked : goal.invariant_of-self-clause-linked
invariant_of-self-clause-linked c =
    let n = c.args.self.now in
    let xs = n.chains.items in
    let p = part_of c.index_mut.result.now in
    let o = channel_to c.args.to p.channels in
    let at = at_place xs c.in-Some.sender c.index_mut.result.now c.index_mut.ensures.value c.in-Some.ensures.there in
    let same = answer_fixed (channel_refusal o true c.in-Ok.program) (option_map_or (λ (q : Outgoing). q.next) o 0) c.args.to c.in-Ok.program p (part_of c.send.new.self) c.send.result c.send.ensures.step in
    n.linked ∙ sym (links_stay n.names.items xs (slice_set xs c.in-Some.sender c.send.new.self) n.spec.channels (set_channels xs c.in-Some.sender c.index_mut.result.now c.send.new.self at same))

pub returns-in-Ok-send-clause-step : goal.returns-in-Ok-send-clause-step
returns-in-Ok-send-clause-step c =
    let rs = c.args.self.now.rules.items in
    let xs = c.args.self.now.chains.items in
    let i = c.in-Some.sender in
    let w = world_of c.args.self.now in
    let rule = something rs i (subst (λ n. i < n) (sym c.args.self.now.ruled) c.in-Some.ensures.there) in
    let there = somebody rs xs c.in-Some-place.field-0 c.args.self.now.ruled c.in-Some-place.ensures.there in
    let first = at_place xs i c.index.result.now c.index.ensures c.in-Some.ensures.there in
    let s = member_in rule.0 c.index.result.now in
    let o = channel_to c.args.to (part_of c.index.result.now).channels in
    let on = claim_at w c.args.from c.args.to c.args.bytes.now i c.in-Some-place.field-0 s there.0 o (sym c.in-Some.ensures.place) (sym c.in-Some-place.ensures.place) (member_at rs xs i rule.0 c.index.result.now rule.1 first) there.1 refl in
    let some = some_of c.in-Some-has_waiting.field-0 o c.in-Some-has_waiting.ensures in
    let at = at_place xs i c.index_mut.result.now c.index_mut.ensures.value c.in-Some.ensures.there in
    let same = same_seen (slice_get xs i) c.index.result.now c.index_mut.result.now first at in
    let told = subst (λ (t : ChainState). channel_refusal (channel_to c.args.to (part_of t).channels) true c.in-Ok.program ≡ None) (sym same) c.in-Ok-send.ensures.step.0 in
    let number = subst (λ (t : ChainState). c.in-Ok-send.number ≡ option_map_or (λ (q : Outgoing). q.next) (channel_to c.args.to (part_of t).channels) 0) (sym same) c.in-Ok-send.ensures.step.1 in
    let part = subst (λ (t : ChainState). part_of c.send.new.self ≡ posted c.args.to c.in-Ok.program (part_of t)) (sym same) c.in-Ok-send.ensures.step.2 in
    let new_world = changed_world rs xs i rule.0 c.index.result.now c.send.new.self (posted c.args.to c.in-Ok.program (part_of c.index.result.now)) rule.1 part in
    on ∙ on_posted w i s c.args.to c.args.bytes.now o c.in-Ok.program c.in-Ok-send.number some (read_is c.in-Ok.program (message_of c.args.bytes.now) c.in-Ok.ensures.read) (sym c.if-not-is_claim.ensures) told number
    ∙ ap (λ v. record { answer = StepResult.Sent c.in-Ok-send.number; trace = []; world = v }) (sym new_world)
    ∙ ap (λ acted. record { answer = StepResult.Sent c.in-Ok-send.number; trace = told_at acted (world_in rs (slice_set xs i c.send.new.self)); world = world_in rs (slice_set xs i c.send.new.self) }) (sym c.requires.idle)

pub returns-in-Ok-send-clause-between : goal.returns-in-Ok-send-clause-between
returns-in-Ok-send-clause-between c =
    let xs = c.args.self.now.chains.items in
    let at = at_place xs c.in-Some.sender c.index_mut.result.now c.index_mut.ensures.value c.in-Some.ensures.there in
    set_between xs c.in-Some.sender c.index_mut.result.now c.send.new.self at c.requires.between
    (subst IsBetweenSteps (sym c.in-Ok-send.ensures.step.2) (between_posted c.args.to c.in-Ok.program (part_of c.index_mut.result.now) (c.requires.between c.in-Some.sender c.index_mut.result.now at)))

pub returns-in-Err-Xcm-clause-step : goal.returns-in-Err-Xcm-clause-step
returns-in-Err-Xcm-clause-step c =
    let rs = c.args.self.now.rules.items in
    let xs = c.args.self.now.chains.items in
    let i = c.in-Some.sender in
    let w = world_of c.args.self.now in
    let rule = something rs i (subst (λ n. i < n) (sym c.args.self.now.ruled) c.in-Some.ensures.there) in
    let there = somebody rs xs c.in-Some-place.field-0 c.args.self.now.ruled c.in-Some-place.ensures.there in
    let first = at_place xs i c.index.result.now c.index.ensures c.in-Some.ensures.there in
    let s = member_in rule.0 c.index.result.now in
    let o = channel_to c.args.to (part_of c.index.result.now).channels in
    let on = claim_at w c.args.from c.args.to c.args.bytes.now i c.in-Some-place.field-0 s there.0 o (sym c.in-Some.ensures.place) (sym c.in-Some-place.ensures.place) (member_at rs xs i rule.0 c.index.result.now rule.1 first) there.1 refl in
    let some = some_of c.in-Some-has_waiting.field-0 o c.in-Some-has_waiting.ensures in
    let at = at_place xs i c.index_mut.result.now c.index_mut.ensures.value c.in-Some.ensures.there in
    let same = same_seen (slice_get xs i) c.index.result.now c.index_mut.result.now first at in
    let q = channel_to c.args.to (part_of c.index_mut.result.now).channels in
    let refused = xcm_told (channel_refusal q true c.in-Ok.program) (option_map_or (λ (d : Outgoing). d.next) q 0) c.args.to c.in-Ok.program (part_of c.index_mut.result.now) (part_of c.send.new.self) c.send.result c.in-Err-Xcm.field-0 c.in-Err-Xcm.error c.send.ensures.step c.in-Err-Xcm.is c.in-Err-Xcm.field-0-is in
    let told = subst (λ (t : ChainState). channel_refusal (channel_to c.args.to (part_of t).channels) true c.in-Ok.program ≡ Some c.in-Err-Xcm.error) (sym same) refused.0 in
    let new_world = same_world rs xs i rule.0 c.index_mut.result.now c.send.new.self rule.1 at refused.1 in
    on ∙ on_refused w i s c.args.to c.args.bytes.now o c.in-Ok.program c.in-Err-Xcm.error some (read_is c.in-Ok.program (message_of c.args.bytes.now) c.in-Ok.ensures.read) (sym c.if-not-is_claim.ensures) told
    ∙ ap (λ v. record { answer = StepResult.Unsent c.in-Err-Xcm.error; trace = []; world = v }) (sym new_world)
    ∙ ap (λ acted. record { answer = StepResult.Unsent c.in-Err-Xcm.error; trace = told_at acted (world_in rs (slice_set xs i c.send.new.self)); world = world_in rs (slice_set xs i c.send.new.self) }) (sym c.requires.idle)

pub returns-in-Err-Xcm-clause-between : goal.returns-in-Err-Xcm-clause-between
returns-in-Err-Xcm-clause-between c =
    let xs = c.args.self.now.chains.items in
    let at = at_place xs c.in-Some.sender c.index_mut.result.now c.index_mut.ensures.value c.in-Some.ensures.there in
    let q = channel_to c.args.to (part_of c.index_mut.result.now).channels in
    let refused = xcm_told (channel_refusal q true c.in-Ok.program) (option_map_or (λ (d : Outgoing). d.next) q 0) c.args.to c.in-Ok.program (part_of c.index_mut.result.now) (part_of c.send.new.self) c.send.result c.in-Err-Xcm.field-0 c.in-Err-Xcm.error c.send.ensures.step c.in-Err-Xcm.is c.in-Err-Xcm.field-0-is in
    set_between xs c.in-Some.sender c.index_mut.result.now c.send.new.self at c.requires.between (subst IsBetweenSteps (sym refused.1) (c.requires.between c.in-Some.sender c.index_mut.result.now at))

pub returns-clause-stops : goal.returns-clause-stops
returns-clause-stops c =
    let rs = c.args.self.now.rules.items in
    let xs = c.args.self.now.chains.items in
    let i = c.in-Some.sender in
    let rule = something rs i (subst (λ n. i < n) (sym c.args.self.now.ruled) c.in-Some.ensures.there) in
    let at = at_place xs i c.index_mut.result.now c.index_mut.ensures.value c.in-Some.ensures.there in
    let q = channel_to c.args.to (part_of c.index_mut.result.now).channels in
    same_world rs xs i rule.0 c.index_mut.result.now c.send.new.self rule.1 at (memory_told (channel_refusal q true c.in-Ok.program) (option_map_or (λ (d : Outgoing). d.next) q 0) c.args.to c.in-Ok.program (part_of c.index_mut.result.now) (part_of c.send.new.self) c.send.result c.in-Err-Memory.field-0 c.send.ensures.step c.in-Err-Memory.is c.in-Err-Memory.field-0-is)
