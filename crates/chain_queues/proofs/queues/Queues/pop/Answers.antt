use Rattle.std.proofs.Common.{sym, ap, ◌∙◌}
use Rattle.std.specs.Option.{option_map, option_and_then}
use Rattle.chain_queues.specs.Queues.{waiting_of, oldest, without_oldest}
use Rattle.chain_queues.proofs.Places.{nowhere, stays, somewhere, changes}
use Rattle.chain_queues.proofs.queues.Queues.pop.Goals as goal

pub returns-in_err-place-clause-oldest : goal.returns-in_err-place-clause-oldest
returns-in_err-place-clause-oldest c =
    let none = nowhere c.args.to c.args.self.now.list.items (sym c.place_to.ensures ∙ c.in_err-place.was) in
    ap (option_map waiting_of) c.from_residual.ensures ∙ sym (ap (option_and_then oldest) none)

pub returns-in_err-place-clause-rest : goal.returns-in_err-place-clause-rest
returns-in_err-place-clause-rest c = stays c.args.to without_oldest c.args.self.now.list.items (sym c.place_to.ensures ∙ c.in_err-place.was)

pub returns-clause-oldest : goal.returns-clause-oldest
returns-clause-oldest c =
    let some = somewhere c.args.to c.args.self.now.list.items c.in_ok-place.place _ (sym c.place_to.ensures ∙ c.in_ok-place.was) c.index_mut.ensures.value in
    c.pop.ensures.oldest ∙ sym (ap (option_and_then oldest) some)

pub returns-clause-rest : goal.returns-clause-rest
returns-clause-rest c =
    changes c.args.to without_oldest c.args.self.now.list.items c.in_ok-place.place c.index_mut.result.now c.pop.new.self (sym c.place_to.ensures ∙ c.in_ok-place.was) c.index_mut.ensures.value
    c.pop.ensures.rest
