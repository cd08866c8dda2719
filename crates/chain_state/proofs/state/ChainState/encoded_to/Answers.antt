use Rattle.std.proofs.Common.{◌≡◌, true, sym, ap, ◌∙◌}
use Rattle.std.specs.Prelude.{None, Some}
use Rattle.std.specs.Option.{option_copied, option_map}
use Rattle.exec_base.specs.Sending.{channel_to_location}
use Rattle.chain_queues.specs.Queues.{outgoing_of}
use Rattle.chain_state.specs.PartOf.{part_of}
use Rattle.chain_state.proofs.Sendable.{unrouted, writable, taken_by}
use Rattle.chain_state.proofs.state.ChainState.encoded_to.Goals as goal

pub returns-in_default : goal.returns-in_default
returns-in_default c =
    let p = part_of c.args.self.now in
    let none : channel_to_location p c.args.dest.now ≡ None = sym c.queue_to.ensures ∙ ap (λ r. option_map outgoing_of (option_copied r)) c.in_default.is in
    record { ready = unrouted p c.args.dest.now true c.args.program.now none }

pub encode_message-requires : goal.encode_message-requires
encode_message-requires c = writable c.in-Some.queue.now.channel.version c.args.program.now c.requires.forwardable

pub returns : goal.returns
returns c =
    let p = part_of c.args.self.now in
    let found : channel_to_location p c.args.dest.now ≡ Some (outgoing_of c.in-Some.queue.now) = sym c.queue_to.ensures ∙ ap (λ r. option_map outgoing_of (option_copied r)) c.in-Some.is in
    record { ready = taken_by p c.args.dest.now c.args.program.now (outgoing_of c.in-Some.queue.now) c.accepted.result found (c.accepted.ensures c.args.program.now c.requires.forwardable.named c.encode_message.ensures) }
