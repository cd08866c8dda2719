use Rattle.std.proofs.Common.{◌≡◌, true, sym, ap, ◌∙◌}
use Rattle.std.specs.Prelude.{None, Some}
use Rattle.std.specs.Option.{option_copied, option_map}
use Rattle.exec_base.specs.Sending.{channel_refusal}
use Rattle.chain_queues.specs.Queues.{outgoing_of, channel_to}
use Rattle.chain_state.specs.PartOf.{part_of}
use Rattle.chain_state.proofs.Sendable.{writable}
use Rattle.chain_state.proofs.Claiming.{taken_ok, taken_err}
use Rattle.chain_state.proofs.state.ChainState.claim_bytes.Goals as goal

pub returns-in_default : goal.returns-in_default
returns-in_default c =
    let none : channel_to c.args.to (part_of c.args.self.now).channels ≡ None = sym c.queue_for.ensures ∙ ap (λ r. option_map outgoing_of (option_copied r)) c.in_default.is in
    record { taken = ap (λ o. channel_refusal o true c.args.program.now) none }

pub encode_message-requires : goal.encode_message-requires
encode_message-requires c = writable c.in-Some.queue.now.channel.version c.args.program.now c.requires.forwardable

pub returns-in-Ok : goal.returns-in-Ok
returns-in-Ok c =
    let found : channel_to c.args.to (part_of c.args.self.now).channels ≡ Some (outgoing_of c.in-Some.queue.now) = sym c.queue_for.ensures ∙ ap (λ r. option_map outgoing_of (option_copied r)) c.in-Some.is in
    record { taken = taken_ok _ _ _ c.accepted.result _ _ found c.in-Ok.is (c.accepted.ensures c.args.program.now c.requires.forwardable.named c.encode_message.ensures) }

pub returns-in-Err : goal.returns-in-Err
returns-in-Err c =
    let found : channel_to c.args.to (part_of c.args.self.now).channels ≡ Some (outgoing_of c.in-Some.queue.now) = sym c.queue_for.ensures ∙ ap (λ r. option_map outgoing_of (option_copied r)) c.in-Some.is in
    record { taken = taken_err _ _ _ c.accepted.result _ found c.in-Err.is (c.accepted.ensures c.args.program.now c.requires.forwardable.named c.encode_message.ensures) }
