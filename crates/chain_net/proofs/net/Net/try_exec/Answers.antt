use Rattle.std.proofs.Common.{◌≡◌, false, ◌∙◌, ap, sym, subst, ◌<◌, Err}
use Rattle.std.proofs.lemmas.Result.{err_from_is_err_and}
use Rattle.std.specs.Prelude.{slice_set}
use Rattle.network_steps.specs.declared.step_result.StepResult.{StepResult}
use Rattle.versioned_xcm.specs.Reading.{message_of}
use Rattle.network_steps.specs.Steps.{exec}
use Rattle.chain_state.specs.PartOf.{part_of}
use Rattle.chain_net.specs.Nets.{world_of, told_at, stepped}
use Rattle.chain_net.specs.Chains.{member_in}
use Rattle.chain_net.proofs.Members.{member_at, at_place, set_many, set_names, set_between}
use Rattle.chain_net.proofs.Executions.{exec_nowhere, exec_whole, exec_pool, exec_there, own_of, exec_ran, exec_stopped, read_is, fault_is, by_answer}
use Rattle.chain_net.proofs.Standing.{links_stay}
use Rattle.chain_net.proofs.Staying.{set_channels, run_fixed}
use Rattle.chain_net.proofs.net.Net.try_exec.Goals as goal

pub returns-in_default-clause-step : goal.returns-in_default-clause-step
returns-in_default-clause-step c =
    exec_nowhere (world_of c.args.self.now) c.args.chain c.args.account.now c.args.bytes.now (sym c.in_default.ensures.place)
    ∙ ap (λ acted. record { answer = StepResult.NoSuchChain; trace = told_at acted (world_of c.args.self.now); world = world_of c.args.self.now }) (sym c.requires.idle)

pub returns-then-is_chain_account-clause-step : goal.returns-then-is_chain_account-clause-step
returns-then-is_chain_account-clause-step c =
    exec_whole (world_of c.args.self.now) c.args.chain c.args.account.now c.args.bytes.now c.in-Some.place (sym c.in-Some.ensures.place) (sym c.if-is_chain_account.ensures)
    ∙ ap (λ acted. record { answer = StepResult.SovereignCaller; trace = told_at acted (world_of c.args.self.now); world = world_of c.args.self.now }) (sym c.requires.idle)

pub returns-then-has_pool_account-clause-step : goal.returns-then-has_pool_account-clause-step
returns-then-has_pool_account-clause-step c =
    let within = subst (λ n. c.in-Some.place < n) (sym c.args.self.now.ruled) c.in-Some.ensures.there in
    let is = member_at c.args.self.now.rules.items c.args.self.now.chains.items c.in-Some.place c.index-rules.result.now c.index-here.result.now
    (at_place c.args.self.now.rules.items c.in-Some.place c.index-rules.result.now c.index-rules.ensures within)
    (at_place c.args.self.now.chains.items c.in-Some.place c.index-here.result.now c.index-here.ensures c.in-Some.ensures.there) in
    exec_pool (world_of c.args.self.now) c.args.chain c.args.account.now c.args.bytes.now c.in-Some.place (member_in c.index-rules.result.now c.index-here.result.now) (sym c.in-Some.ensures.place) (sym c.if-is_chain_account.ensures) is
    (sym c.if-has_pool_account.ensures)
    ∙ ap (λ acted. record { answer = StepResult.SovereignCaller; trace = told_at acted (world_of c.args.self.now); world = world_of c.args.self.now }) (sym c.requires.idle)

pub returns-in-Err-clause-step : goal.returns-in-Err-clause-step
returns-in-Err-clause-step c =
    let w = world_of c.args.self.now in
    let within = subst (λ n. c.in-Some.place < n) (sym c.args.self.now.ruled) c.in-Some.ensures.there in
    let is = member_at c.args.self.now.rules.items c.args.self.now.chains.items c.in-Some.place c.index-rules.result.now c.index-here.result.now
    (at_place c.args.self.now.rules.items c.in-Some.place c.index-rules.result.now c.index-rules.ensures within)
    (at_place c.args.self.now.chains.items c.in-Some.place c.index-here.result.now c.index-here.ensures c.in-Some.ensures.there) in
    by_answer c.answer_to.result c.in-Err.fault (λ answer. exec w c.args.chain c.args.account.now c.args.bytes.now ≡ stepped answer c.args.self.now) c.answer_to.ensures.answer c.answer_to.ensures.other
    (λ other. exec_there w c.args.chain c.args.account.now c.args.bytes.now c.in-Some.place (member_in c.index-rules.result.now c.index-here.result.now) (Err c.in-Err.fault) (sym c.in-Some.ensures.place) (sym c.if-is_chain_account.ensures) is (sym c.if-has_pool_account.ensures) (fault_is c.in-Err.fault (message_of c.args.bytes.now) other c.in-Err.ensures.read)
    ∙ ap (λ acted. record { answer = StepResult.Message c.in-Err.fault; trace = told_at acted w; world = w }) (sym c.requires.idle))

pub run_here-requires-clause-between : goal.run_here-requires-clause-between
run_here-requires-clause-between c =
    c.requires.between c.in-Some.place c.index_mut.result.now (at_place c.args.self.now.chains.items c.in-Some.place c.index_mut.result.now c.index_mut.ensures.value c.in-Some.ensures.there)

pub invariant_of-self-2-clause-ruled : goal.invariant_of-self-2-clause-ruled
invariant_of-self-2-clause-ruled c = c.args.self.now.ruled ∙ sym (set_many c.args.self.now.chains.items c.in-Some.place c.run_here.new.here)

pub invariant_of-self-2-clause-named : goal.invariant_of-self-2-clause-named
invariant_of-self-2-clause-named c =
    set_names c.args.self.now.chains.items c.in-Some.place c.index_mut.result.now c.run_here.new.here (at_place c.args.self.now.chains.items c.in-Some.place c.index_mut.result.now c.index_mut.ensures.value c.in-Some.ensures.there) (ap (λ s. s.chain) c.run_here.ensures.place)
    ∙ c.args.self.now.named

pub invariant_of-self-2-clause-linked : goal.invariant_of-self-2-clause-linked
invariant_of-self-2-clause-linked c =
    let n = c.args.self.now in
    let xs = n.chains.items in
    let at = at_place xs c.in-Some.place c.index_mut.result.now c.index_mut.ensures.value c.in-Some.ensures.there in
    let same = run_fixed c.index-rules.result.now c.args.account.now c.in-Ok.program (part_of c.index_mut.result.now) (part_of c.run_here.new.here) c.run_here.result c.run_here.ensures.part c.run_here.ensures.stopped in
    n.linked ∙ sym (links_stay n.names.items xs (slice_set xs c.in-Some.place c.run_here.new.here) n.spec.channels (set_channels xs c.in-Some.place c.index_mut.result.now c.run_here.new.here at same))

pub returns-in_err-outcome-clause-stops : goal.returns-in_err-outcome-clause-stops
returns-in_err-outcome-clause-stops c =
    let q = err_from_is_err_and c.from_residual.result c.from_residual.ensures.1 in
    let within = subst (λ n. c.in-Some.place < n) (sym c.args.self.now.ruled) c.in-Some.ensures.there in
    rw q.1 (exec_stopped c.args.self.now.rules.items c.args.self.now.chains.items c.in-Some.place c.index-rules.result.now c.index_mut.result.now c.run_here.new.here c.args.chain c.args.account.now c.args.bytes.now c.in-Ok.program
    (sym c.in-Some.ensures.place) (sym c.if-is_chain_account.ensures) (at_place c.args.self.now.rules.items c.in-Some.place c.index-rules.result.now c.index-rules.ensures within)
    (at_place c.args.self.now.chains.items c.in-Some.place c.index_mut.result.now c.index_mut.ensures.value c.in-Some.ensures.there) (own_of c.args.self.now.chains.items c.in-Some.place c.index_mut.result.now c.index-here.result.now c.args.account.now false (at_place c.args.self.now.chains.items c.in-Some.place c.index_mut.result.now c.index_mut.ensures.value c.in-Some.ensures.there)
    (at_place c.args.self.now.chains.items c.in-Some.place c.index-here.result.now c.index-here.ensures c.in-Some.ensures.there) c.if-has_pool_account.ensures) (read_is c.in-Ok.program (message_of c.args.bytes.now) c.in-Ok.ensures.read) c.in_err-outcome.ensures.stopped)

pub returns-clause-step : goal.returns-clause-step
returns-clause-step c =
    let within = subst (λ n. c.in-Some.place < n) (sym c.args.self.now.ruled) c.in-Some.ensures.there in
    exec_ran c.args.self.now.rules.items c.args.self.now.chains.items c.in-Some.place c.index-rules.result.now c.index_mut.result.now c.run_here.new.here c.args.chain c.args.account.now c.args.bytes.now c.in-Ok.program c.in_ok-outcome.outcome
    (sym c.in-Some.ensures.place) (sym c.if-is_chain_account.ensures) (at_place c.args.self.now.rules.items c.in-Some.place c.index-rules.result.now c.index-rules.ensures within)
    (at_place c.args.self.now.chains.items c.in-Some.place c.index_mut.result.now c.index_mut.ensures.value c.in-Some.ensures.there) (own_of c.args.self.now.chains.items c.in-Some.place c.index_mut.result.now c.index-here.result.now c.args.account.now false (at_place c.args.self.now.chains.items c.in-Some.place c.index_mut.result.now c.index_mut.ensures.value c.in-Some.ensures.there)
    (at_place c.args.self.now.chains.items c.in-Some.place c.index-here.result.now c.index-here.ensures c.in-Some.ensures.there) c.if-has_pool_account.ensures) (read_is c.in-Ok.program (message_of c.args.bytes.now) c.in-Ok.ensures.read) c.in_ok-outcome.ensures.outcome c.in_ok-outcome.ensures.part

pub returns-clause-between : goal.returns-clause-between
returns-clause-between c =
    set_between c.args.self.now.chains.items c.in-Some.place c.index_mut.result.now c.run_here.new.here (at_place c.args.self.now.chains.items c.in-Some.place c.index_mut.result.now c.index_mut.ensures.value c.in-Some.ensures.there) c.requires.between c.in_ok-outcome.ensures.between
