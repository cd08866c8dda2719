use Rattle.std.proofs.Common.{sym, ap, ◌∙◌}
use Rattle.chain_queues.specs.Queues.{is_spelled_for}
use Rattle.chain_queues.proofs.Places.{nowhere, somewhere}
use Rattle.chain_queues.proofs.queues.Queues.is_spelled_for.Goals as goal

pub returns-in-None : goal.returns-in-None
returns-in-None c = sym (ap (λ o. is_spelled_for o c.args.bytes.now) (nowhere c.args.to c.args.self.now.list.items (sym c.place_to.ensures ∙ c.in-None.is)))

pub returns-in-Some : goal.returns-in-Some
returns-in-Some c =
    let some = somewhere c.args.to c.args.self.now.list.items c.in-Some.place _ (sym c.place_to.ensures ∙ c.in-Some.is) c.index.ensures in
    c.is_spelled_in.ensures ∙ sym (ap (λ o. is_spelled_for o c.args.bytes.now) some)
