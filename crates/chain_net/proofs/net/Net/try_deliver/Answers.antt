use Rattle.std.proofs.Common.{◌∙◌, ◌<◌, ap, sym, subst, refl, Some, None}
use Rattle.std.proofs.lemmas.Result.{err_from_is_err_and}
use Rattle.std.specs.Prelude.{slice_set}
use Rattle.chain_queues.specs.Queues.{waiting_of, channel_to}
use Rattle.network_steps.specs.declared.step_result.StepResult.{StepResult}
use Rattle.exec_base.specs.Part.{ChainPart}
use Rattle.network_steps.specs.Fixed.{fixed_of}
use Rattle.chain_state.specs.PartOf.{part_of}
use Rattle.chain_net.specs.Sound.{IsBetweenSteps}
use Rattle.chain_net.specs.Chains.{member_in}
use Rattle.chain_net.specs.Nets.{world_of, told_at}
use Rattle.chain_net.proofs.Members.{at_place, member_at, something, somebody, set_many, set_names, set_between}
use Rattle.chain_net.proofs.Pairs.{deliver_nowhere, deliver_to_nowhere, deliver_at}
use Rattle.chain_net.proofs.Deliveries.{between_popped, deliver_ran, deliver_stopped, changed_by, changed_many, changed_names, passed_between, none_of, some_of, empty_of, apart_places, other_chain, carried_by}
use Rattle.chain_net.proofs.Standing.{links_stay}
use Rattle.chain_net.proofs.Staying.{set_channels, popped_fixed, passed_channels}
use Rattle.chain_net.proofs.net.Net.try_deliver.Goals as goal

pub returns-in_default-clause-step : goal.returns-in_default-clause-step
returns-in_default-clause-step c =
    deliver_nowhere (world_of c.args.self.now) c.args.from c.args.to (sym c.in_default.ensures.place)
    ∙ ap (λ acted. record { answer = StepResult.NoSuchChain; trace = told_at acted (world_of c.args.self.now); world = world_of c.args.self.now }) (sym c.requires.idle)

pub returns-in_default-place-clause-step : goal.returns-in_default-place-clause-step
returns-in_default-place-clause-step c =
    deliver_to_nowhere (world_of c.args.self.now) c.args.from c.args.to c.in-Some.sender (sym c.in-Some.ensures.place) (sym c.in_default-place.ensures.place)
    ∙ ap (λ acted. record { answer = StepResult.NoSuchChain; trace = told_at acted (world_of c.args.self.now); world = world_of c.args.self.now }) (sym c.requires.idle)

pub returns-in_default-has_waiting-clause-step : goal.returns-in_default-has_waiting-clause-step
returns-in_default-has_waiting-clause-step c =
    let w = world_of c.args.self.now in
    let rs = c.args.self.now.rules.items in
    let xs = c.args.self.now.chains.items in
    let rule = something rs c.in-Some.sender (subst (λ n. c.in-Some.sender < n) (sym c.args.self.now.ruled) c.in-Some.ensures.there) in
    let at = at_place xs c.in-Some.sender c.index.result.now c.index.ensures c.in-Some.ensures.there in
    let there = somebody rs xs c.in-Some-place.receiver c.args.self.now.ruled c.in-Some-place.ensures.there in
    deliver_at w c.args.from c.args.to c.in-Some.sender c.in-Some-place.receiver (member_in rule.0 c.index.result.now) there.0 None (sym c.in-Some.ensures.place) (sym c.in-Some-place.ensures.place)
    (member_at rs xs c.in-Some.sender rule.0 c.index.result.now rule.1 at) there.1 (none_of (channel_to c.args.to (part_of c.index.result.now).channels) c.in_default-has_waiting.ensures)
    ∙ ap (λ acted. record { answer = StepResult.NoSuchChannel; trace = told_at acted w; world = w }) (sym c.requires.idle)

pub returns-then-not-waits-clause-step : goal.returns-then-not-waits-clause-step
returns-then-not-waits-clause-step c =
    let w = world_of c.args.self.now in
    let rs = c.args.self.now.rules.items in
    let xs = c.args.self.now.chains.items in
    let rule = something rs c.in-Some.sender (subst (λ n. c.in-Some.sender < n) (sym c.args.self.now.ruled) c.in-Some.ensures.there) in
    let at = at_place xs c.in-Some.sender c.index.result.now c.index.ensures c.in-Some.ensures.there in
    let there = somebody rs xs c.in-Some-place.receiver c.args.self.now.ruled c.in-Some-place.ensures.there in
    let o = channel_to c.args.to (part_of c.index.result.now).channels in
    deliver_at w c.args.from c.args.to c.in-Some.sender c.in-Some-place.receiver (member_in rule.0 c.index.result.now) there.0 o (sym c.in-Some.ensures.place) (sym c.in-Some-place.ensures.place)
    (member_at rs xs c.in-Some.sender rule.0 c.index.result.now rule.1 at) there.1 refl
    ∙ empty_of w c.in-Some.sender c.in-Some-place.receiver (member_in rule.0 c.index.result.now) there.0 o (ap Some (sym c.if-not-waits.true) ∙ c.in-Some-has_waiting.ensures)
    ∙ ap (λ acted. record { answer = StepResult.Empty; trace = told_at acted w; world = w }) (sym c.requires.idle)

pub pass-requires-clause-apart : goal.pass-requires-clause-apart
pass-requires-clause-apart c =
    let rs = c.args.self.now.rules.items in
    let xs = c.args.self.now.chains.items in
    let rule = something rs c.in-Some.sender (subst (λ n. c.in-Some.sender < n) (sym c.args.self.now.ruled) c.in-Some.ensures.there) in
    let at = at_place xs c.in-Some.sender c.index.result.now c.index.ensures c.in-Some.ensures.there in
    apart_places (world_of c.args.self.now) c.in-Some.sender c.in-Some-place.receiver (member_in rule.0 c.index.result.now) c.args.to (member_at rs xs c.in-Some.sender rule.0 c.index.result.now rule.1 at) (sym c.in-Some-place.ensures.place)
    (c.requires.between c.in-Some.sender c.index.result.now at).apart (some_of c.in-Some-has_waiting.waits (channel_to c.args.to (part_of c.index.result.now).channels) c.in-Some-has_waiting.ensures)

pub pass-requires-clause-between : goal.pass-requires-clause-between
pass-requires-clause-between c =
    let xs = c.args.self.now.chains.items in
    let at = at_place xs c.in-Some.sender c.index_mut.result.now c.index_mut.ensures.value c.in-Some.ensures.there in
    set_between xs c.in-Some.sender c.index_mut.result.now c.take.new.self at c.requires.between
    (subst IsBetweenSteps (sym c.in-Some-take.ensures.rest) (between_popped c.args.to (part_of c.index_mut.result.now) (c.requires.between c.in-Some.sender c.index_mut.result.now at)))

pub pass-requires-clause-other : goal.pass-requires-clause-other
pass-requires-clause-other c =
    let rs = c.args.self.now.rules.items in
    let xs = c.args.self.now.chains.items in
    let i = c.in-Some.sender in
    let j = c.in-Some-place.receiver in
    let rule = something rs i (subst (λ n. i < n) (sym c.args.self.now.ruled) c.in-Some.ensures.there) in
    let first = at_place xs i c.index.result.now c.index.ensures c.in-Some.ensures.there in
    let apart = apart_places (world_of c.args.self.now) i j (member_in rule.0 c.index.result.now) c.args.to (member_at rs xs i rule.0 c.index.result.now rule.1 first) (sym c.in-Some-place.ensures.place)
    (c.requires.between i c.index.result.now first).apart (some_of c.in-Some-has_waiting.waits (channel_to c.args.to (part_of c.index.result.now).channels) c.in-Some-has_waiting.ensures) in
    let other = something rs j (subst (λ n. j < n) (sym c.args.self.now.ruled) c.in-Some-place.ensures.there) in
    other_chain rs xs i j other.0 c.take.new.self c.args.from c.args.to apart other.1 (sym c.in-Some.ensures.place) (sym c.in-Some-place.ensures.place)

pub pass-requires-clause-carried : goal.pass-requires-clause-carried
pass-requires-clause-carried c =
    let xs = c.args.self.now.chains.items in
    let at = at_place xs c.in-Some.sender c.index_mut.result.now c.index_mut.ensures.value c.in-Some.ensures.there in
    carried_by xs c.in-Some.sender c.index_mut.result.now c.take.new.self c.args.to (waiting_of c.in-Some-take.queued) at c.in-Some-take.ensures.rest (c.requires.between c.in-Some.sender c.index_mut.result.now at) c.in-Some-take.ensures.oldest

pub invariant_of-self-2-clause-ruled : goal.invariant_of-self-2-clause-ruled
invariant_of-self-2-clause-ruled c =
    let xs = c.args.self.now.chains.items in
    let i = c.in-Some.sender in
    let j = c.in-Some-place.receiver in
    let ys = slice_set xs i c.take.new.self in
    c.args.self.now.ruled ∙ sym (changed_many i j ys c.pass.new.chains.items (changed_by c.index-rules.result.now c.args.from (waiting_of c.in-Some-take.queued) i j ys c.pass.new.chains.items c.pass.result c.pass.ensures.passed c.pass.ensures.stopped) ∙ set_many xs i c.take.new.self)

pub invariant_of-self-2-clause-named : goal.invariant_of-self-2-clause-named
invariant_of-self-2-clause-named c =
    let rs = c.args.self.now.rules.items in
    let xs = c.args.self.now.chains.items in
    let i = c.in-Some.sender in
    let j = c.in-Some-place.receiver in
    let rule = something rs i (subst (λ n. i < n) (sym c.args.self.now.ruled) c.in-Some.ensures.there) in
    let first = at_place xs i c.index.result.now c.index.ensures c.in-Some.ensures.there in
    let apart = apart_places (world_of c.args.self.now) i j (member_in rule.0 c.index.result.now) c.args.to (member_at rs xs i rule.0 c.index.result.now rule.1 first) (sym c.in-Some-place.ensures.place)
    (c.requires.between i c.index.result.now first).apart (some_of c.in-Some-has_waiting.waits (channel_to c.args.to (part_of c.index.result.now).channels) c.in-Some-has_waiting.ensures) in
    let at_i = at_place xs i c.index_mut.result.now c.index_mut.ensures.value c.in-Some.ensures.there in
    let receiver = something xs j c.in-Some-place.ensures.there in
    let rules_j = at_place rs j c.index-rules.result.now c.index-rules.ensures (subst (λ n. j < n) (sym c.args.self.now.ruled) c.in-Some-place.ensures.there) in
    let ys = slice_set xs i c.take.new.self in
    changed_names i j ys c.pass.new.chains.items apart (changed_by c.index-rules.result.now c.args.from (waiting_of c.in-Some-take.queued) i j ys c.pass.new.chains.items c.pass.result c.pass.ensures.passed c.pass.ensures.stopped)
    ∙ set_names xs i c.index_mut.result.now c.take.new.self at_i (ap (λ (p : ChainPart). p.site.chain) c.in-Some-take.ensures.rest) ∙ c.args.self.now.named

pub invariant_of-self-2-clause-linked : goal.invariant_of-self-2-clause-linked
invariant_of-self-2-clause-linked c =
    let n = c.args.self.now in
    let rs = n.rules.items in
    let xs = n.chains.items in
    let i = c.in-Some.sender in
    let j = c.in-Some-place.receiver in
    let rule = something rs i (subst (λ n. i < n) (sym n.ruled) c.in-Some.ensures.there) in
    let first = at_place xs i c.index.result.now c.index.ensures c.in-Some.ensures.there in
    let apart = apart_places (world_of n) i j (member_in rule.0 c.index.result.now) c.args.to (member_at rs xs i rule.0 c.index.result.now rule.1 first) (sym c.in-Some-place.ensures.place)
    (c.requires.between i c.index.result.now first).apart (some_of c.in-Some-has_waiting.waits (channel_to c.args.to (part_of c.index.result.now).channels) c.in-Some-has_waiting.ensures) in
    let at_i = at_place xs i c.index_mut.result.now c.index_mut.ensures.value c.in-Some.ensures.there in
    let ys = slice_set xs i c.take.new.self in
    let same = passed_channels c.index-rules.result.now c.args.from (waiting_of c.in-Some-take.queued) i j ys c.pass.new.chains.items apart c.pass.result c.pass.ensures.passed c.pass.ensures.stopped
    ∙ set_channels xs i c.index_mut.result.now c.take.new.self at_i (ap fixed_of c.in-Some-take.ensures.rest ∙ popped_fixed c.args.to (part_of c.index_mut.result.now)) in
    n.linked ∙ sym (links_stay n.names.items xs c.pass.new.chains.items n.spec.channels same)

pub returns-in_err-outcome-clause-stops : goal.returns-in_err-outcome-clause-stops
returns-in_err-outcome-clause-stops c =
    let q = err_from_is_err_and c.from_residual.result c.from_residual.ensures.1 in
    let rs = c.args.self.now.rules.items in
    let xs = c.args.self.now.chains.items in
    let i = c.in-Some.sender in
    let j = c.in-Some-place.receiver in
    let rule = something rs i (subst (λ n. i < n) (sym c.args.self.now.ruled) c.in-Some.ensures.there) in
    let first = at_place xs i c.index.result.now c.index.ensures c.in-Some.ensures.there in
    let apart = apart_places (world_of c.args.self.now) i j (member_in rule.0 c.index.result.now) c.args.to (member_at rs xs i rule.0 c.index.result.now rule.1 first) (sym c.in-Some-place.ensures.place)
    (c.requires.between i c.index.result.now first).apart (some_of c.in-Some-has_waiting.waits (channel_to c.args.to (part_of c.index.result.now).channels) c.in-Some-has_waiting.ensures) in
    let at_i = at_place xs i c.index_mut.result.now c.index_mut.ensures.value c.in-Some.ensures.there in
    let receiver = something xs j c.in-Some-place.ensures.there in
    let rules_j = at_place rs j c.index-rules.result.now c.index-rules.ensures (subst (λ n. j < n) (sym c.args.self.now.ruled) c.in-Some-place.ensures.there) in
    rw q.1 (deliver_stopped rs xs i j c.index-rules.result.now rule.0 c.index_mut.result.now receiver.0 c.take.new.self c.args.from c.args.to (waiting_of c.in-Some-take.queued) apart at_i receiver.1 rule.1 rules_j
    (sym c.in-Some.ensures.place) (sym c.in-Some-place.ensures.place) (sym c.in-Some-take.ensures.oldest) c.in-Some-take.ensures.rest c.pass.new.chains.items c.in_err-outcome.ensures.stopped)

pub returns-clause-step : goal.returns-clause-step
returns-clause-step c =
    let rs = c.args.self.now.rules.items in
    let xs = c.args.self.now.chains.items in
    let i = c.in-Some.sender in
    let j = c.in-Some-place.receiver in
    let rule = something rs i (subst (λ n. i < n) (sym c.args.self.now.ruled) c.in-Some.ensures.there) in
    let first = at_place xs i c.index.result.now c.index.ensures c.in-Some.ensures.there in
    let apart = apart_places (world_of c.args.self.now) i j (member_in rule.0 c.index.result.now) c.args.to (member_at rs xs i rule.0 c.index.result.now rule.1 first) (sym c.in-Some-place.ensures.place)
    (c.requires.between i c.index.result.now first).apart (some_of c.in-Some-has_waiting.waits (channel_to c.args.to (part_of c.index.result.now).channels) c.in-Some-has_waiting.ensures) in
    let at_i = at_place xs i c.index_mut.result.now c.index_mut.ensures.value c.in-Some.ensures.there in
    let receiver = something xs j c.in-Some-place.ensures.there in
    let rules_j = at_place rs j c.index-rules.result.now c.index-rules.ensures (subst (λ n. j < n) (sym c.args.self.now.ruled) c.in-Some-place.ensures.there) in
    deliver_ran rs xs i j c.index-rules.result.now rule.0 c.index_mut.result.now receiver.0 c.take.new.self c.args.from c.args.to (waiting_of c.in-Some-take.queued) apart at_i receiver.1 rule.1 rules_j
    (sym c.in-Some.ensures.place) (sym c.in-Some-place.ensures.place) (sym c.in-Some-take.ensures.oldest) c.in-Some-take.ensures.rest c.in_ok-outcome.outcome c.pass.new.chains.items c.in_ok-outcome.ensures.passed

pub returns-clause-between : goal.returns-clause-between
returns-clause-between c =
    let rs = c.args.self.now.rules.items in
    let xs = c.args.self.now.chains.items in
    let i = c.in-Some.sender in
    let j = c.in-Some-place.receiver in
    let rule = something rs i (subst (λ n. i < n) (sym c.args.self.now.ruled) c.in-Some.ensures.there) in
    let first = at_place xs i c.index.result.now c.index.ensures c.in-Some.ensures.there in
    let apart = apart_places (world_of c.args.self.now) i j (member_in rule.0 c.index.result.now) c.args.to (member_at rs xs i rule.0 c.index.result.now rule.1 first) (sym c.in-Some-place.ensures.place)
    (c.requires.between i c.index.result.now first).apart (some_of c.in-Some-has_waiting.waits (channel_to c.args.to (part_of c.index.result.now).channels) c.in-Some-has_waiting.ensures) in
    let at_i = at_place xs i c.index_mut.result.now c.index_mut.ensures.value c.in-Some.ensures.there in
    let receiver = something xs j c.in-Some-place.ensures.there in
    let rules_j = at_place rs j c.index-rules.result.now c.index-rules.ensures (subst (λ n. j < n) (sym c.args.self.now.ruled) c.in-Some-place.ensures.there) in
    let ys = slice_set xs i c.take.new.self in
    passed_between c.index-rules.result.now c.args.from (waiting_of c.in-Some-take.queued) i j c.in_ok-outcome.outcome ys c.pass.new.chains.items apart
    (set_between xs i c.index_mut.result.now c.take.new.self at_i c.requires.between (subst IsBetweenSteps (sym c.in-Some-take.ensures.rest) (between_popped c.args.to (part_of c.index_mut.result.now) (c.requires.between i c.index_mut.result.now at_i))))
    c.in_ok-outcome.ensures.passed
