use Rattle.std.proofs.Common.{sym, ap, ◌∙◌}
use Rattle.std.specs.Prelude.{option_map}
use Rattle.channel_parts.specs.Channels.{Outgoing}
use Rattle.chain_queues.proofs.Places.{nowhere, somewhere}
use Rattle.chain_queues.proofs.queues.Queues.messages.Goals as goal

pub returns-in_err-place : goal.returns-in_err-place
returns-in_err-place c =
    let none = nowhere c.args.to c.args.self.now.list.items (sym c.place_to.ensures ∙ c.in_err-place.was) in
    ap (option_map _) c.from_residual.ensures ∙ sym (ap (option_map (λ (o : Outgoing). o.queue)) none)

pub returns : goal.returns
returns c =
    let some = somewhere c.args.to c.args.self.now.list.items c.in_ok-place.place _ (sym c.place_to.ensures ∙ c.in_ok-place.was) c.index.ensures in
    sym (ap (option_map (λ (o : Outgoing). o.queue)) some)
