use Rattle.std.proofs.Common.{◌≡◌, ◌∙◌, ap, subst}
use Rattle.std.proofs.lemmas.Result.{err_from_is_err_and}
use Rattle.trust_tables.specs.Trust.{listing}
use Rattle.chain_queues.specs.Queues.{waiting_of}
use Rattle.network_steps.specs.Acting.{lost_of, lost_lines}
use Rattle.chain_state.specs.declared.state.ChainState.{ChainState}
use Rattle.chain_state.specs.PartOf.{part_of}
use Rattle.std.specs.Prelude.{◌++◌}
use Rattle.chain_net.specs.Sound.{IsBetweenSteps}
use Rattle.chain_net.specs.Passing.{run_at}
use Rattle.law_nets.specs.Stops.{IsStoppedThere}
use Rattle.chain_net.specs.Answers.{IsActed}
use Rattle.chain_net.proofs.Members.{at_place, something}
use Rattle.chain_net.proofs.Passes.{seen_behind, seen_again, same_seen, stopped_first, stopped_later, passed, taken_ok, taken_err}
use Rattle.chain_net.proofs.delivering.pass.Goals as goal

pub run_message-ran-requires-clause-carried : goal.run_message-ran-requires-clause-carried
run_message-ran-requires-clause-carried c =
    let s = something c.args.chains.now.items c.args.sender c.requires.sender in
    (listing (part_of s.0).rows, c.requires.carried s.0 s.1)

pub lines_of_loss-lines-requires : goal.lines_of_loss-lines-requires
lines_of_loss-lines-requires c =
    let at = seen_behind c.args.chains.now.items c.args.sender c.args.receiver c.run_message-ran.new.there c.index.result.now c.requires.apart c.requires.sender c.index.ensures in
    record { listed = c.run_message-ran.ensures.listed (listing (part_of c.index.result.now).rows) (c.requires.carried c.index.result.now at) }

pub lose-requires : goal.lose-requires
lose-requires c =
    let at = seen_behind c.args.chains.now.items c.args.sender c.args.receiver c.run_message-ran.new.there c.index_mut-2.result.now c.requires.apart c.requires.sender c.index_mut-2.ensures.value in
    record { listed = c.run_message-ran.ensures.listed (listing (part_of c.index_mut-2.result.now).rows) (c.requires.carried c.index_mut-2.result.now at) }

pub returns-in_err-outcome-clause-stopped : goal.returns-in_err-outcome-clause-stopped
returns-in_err-outcome-clause-stopped c =
    let q = err_from_is_err_and c.from_residual.result c.from_residual.ensures.1 in
    let xs = c.args.chains.now.items in
    let at_i = seen_behind xs c.args.sender c.args.receiver c.run_message-ran.new.there c.index_mut-2.result.now c.requires.apart c.requires.sender c.index_mut-2.ensures.value in
    let at_j = at_place xs c.args.receiver c.index_mut.result.now c.index_mut.ensures.value c.requires.receiver in
    rw q.1 (stopped_first c.args.rules.now c.args.from (waiting_of c.args.queued) c.args.sender c.args.receiver xs c.index_mut-2.result.now c.index_mut.result.now c.run_message-ran.new.there c.lose.new.sender c.run_message-ran.result.1
    c.requires.apart at_i at_j c.lose.ensures c.run_message-ran.ensures.place
    (taken_err c.run_message-ran.result.0 c.in_err-outcome.field-0.0 (IsStoppedThere c.args.rules.now c.args.from (waiting_of c.args.queued) (part_of c.index_mut.result.now) (part_of c.run_message-ran.new.there) c.run_message-ran.result.1) c.in_err-outcome.was c.run_message-ran.ensures.stopped))

pub returns-in_err-lines-clause-stopped : goal.returns-in_err-lines-clause-stopped
returns-in_err-lines-clause-stopped c =
    let q = err_from_is_err_and c.from_residual-in_err-lines.result c.from_residual-in_err-lines.ensures.1 in
    let xs = c.args.chains.now.items in
    let at_i = seen_behind xs c.args.sender c.args.receiver c.run_message-ran.new.there c.index_mut-2.result.now c.requires.apart c.requires.sender c.index_mut-2.ensures.value in
    let at_j = at_place xs c.args.receiver c.index_mut.result.now c.index_mut.ensures.value c.requires.receiver in
    let acted = taken_ok c.run_message-ran.result.0 c.in_ok-outcome.outcome (λ o. IsActed (run_at c.args.rules.now c.args.from (waiting_of c.args.queued) (part_of c.index_mut.result.now)) o c.run_message-ran.result.1 (part_of c.run_message-ran.new.there)) c.in_ok-outcome.was c.run_message-ran.ensures.ran in
    rw q.1 (stopped_later c.args.rules.now c.args.from (waiting_of c.args.queued) c.args.sender c.args.receiver xs c.index_mut-2.result.now c.index_mut.result.now c.run_message-ran.new.there c.lose.new.sender c.run_message-ran.result.1
    c.requires.apart at_i at_j c.lose.ensures c.run_message-ran.ensures.place c.index_mut-3.result.now c.in_ok-outcome.outcome acted
    (ap (λ (t : ChainState). part_of t) (seen_again xs c.args.sender c.args.receiver c.run_message-ran.new.there c.lose.new.sender c.index_mut-3.result.now c.index_mut.result.now c.requires.apart c.requires.receiver at_j c.index_mut-3.ensures.value)))

pub returns-in_err-tell_lines-clause-stopped : goal.returns-in_err-tell_lines-clause-stopped
returns-in_err-tell_lines-clause-stopped c =
    let q = err_from_is_err_and c.from_residual-in_err-tell_lines.result c.from_residual-in_err-tell_lines.ensures.1 in
    let xs = c.args.chains.now.items in
    let at_i = seen_behind xs c.args.sender c.args.receiver c.run_message-ran.new.there c.index_mut-2.result.now c.requires.apart c.requires.sender c.index_mut-2.ensures.value in
    let at_j = at_place xs c.args.receiver c.index_mut.result.now c.index_mut.ensures.value c.requires.receiver in
    let acted = taken_ok c.run_message-ran.result.0 c.in_ok-outcome.outcome (λ o. IsActed (run_at c.args.rules.now c.args.from (waiting_of c.args.queued) (part_of c.index_mut.result.now)) o c.run_message-ran.result.1 (part_of c.run_message-ran.new.there)) c.in_ok-outcome.was c.run_message-ran.ensures.ran in
    rw q.1 (stopped_later c.args.rules.now c.args.from (waiting_of c.args.queued) c.args.sender c.args.receiver xs c.index_mut-2.result.now c.index_mut.result.now c.run_message-ran.new.there c.lose.new.sender c.run_message-ran.result.1
    c.requires.apart at_i at_j c.lose.ensures c.run_message-ran.ensures.place c.tell_lines.new.self c.in_ok-outcome.outcome acted
    (c.in_err-tell_lines.ensures.kept ∙ ap (λ (t : ChainState). part_of t) (seen_again xs c.args.sender c.args.receiver c.run_message-ran.new.there c.lose.new.sender c.index_mut-3.result.now c.index_mut.result.now c.requires.apart c.requires.receiver at_j c.index_mut-3.ensures.value)))

pub returns-clause-passed : goal.returns-clause-passed
returns-clause-passed c =
    let xs = c.args.chains.now.items in
    let at_i = seen_behind xs c.args.sender c.args.receiver c.run_message-ran.new.there c.index_mut-2.result.now c.requires.apart c.requires.sender c.index_mut-2.ensures.value in
    let at_i_first = seen_behind xs c.args.sender c.args.receiver c.run_message-ran.new.there c.index.result.now c.requires.apart c.requires.sender c.index.ensures in
    let at_j = at_place xs c.args.receiver c.index_mut.result.now c.index_mut.ensures.value c.requires.receiver in
    let acted = taken_ok c.run_message-ran.result.0 c.in_ok-outcome.outcome (λ o. IsActed (run_at c.args.rules.now c.args.from (waiting_of c.args.queued) (part_of c.index_mut.result.now)) o c.run_message-ran.result.1 (part_of c.run_message-ran.new.there)) c.in_ok-outcome.was c.run_message-ran.ensures.ran in
    let again = seen_again xs c.args.sender c.args.receiver c.run_message-ran.new.there c.lose.new.sender c.index_mut-3.result.now c.index_mut.result.now c.requires.apart c.requires.receiver at_j c.index_mut-3.ensures.value in
    passed c.args.rules.now c.args.from (waiting_of c.args.queued) c.args.sender c.args.receiver xs c.index_mut-2.result.now c.index_mut.result.now c.run_message-ran.new.there c.lose.new.sender c.run_message-ran.result.1
    c.requires.apart at_i at_j c.lose.ensures c.run_message-ran.ensures.place c.tell_lines.new.self c.in_ok-outcome.outcome c.in_ok-lines.field-0.items acted
    (subst (λ (t : ChainState). part_of c.tell_lines.new.self ≡ record (part_of t) { events = (part_of t).events ++ c.in_ok-lines.field-0.items }) again c.in_ok-tell_lines.ensures.told)
    (c.in_ok-lines.ensures ∙ ap (λ (s : ChainState). lost_lines (lost_of c.run_message-ran.result.1) (part_of s)) (same_seen _ c.index.result.now c.index_mut-2.result.now at_i_first at_i))
    (c.requires.between c.args.sender c.index_mut-2.result.now at_i) (taken_ok c.run_message-ran.result.0 c.in_ok-outcome.outcome (λ o. IsBetweenSteps (part_of c.run_message-ran.new.there)) c.in_ok-outcome.was c.run_message-ran.ensures.between)
