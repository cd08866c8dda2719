use Rattle.std.proofs.Common.{◌++◌, [], ◌∷◌, ◌∙◌}
use Rattle.channel_parts.specs.declared.cargo.Cargo.{Cargo}
use Rattle.versioned_xcm.specs.Reading.{message_of}
use Rattle.chain_queues.specs.Decoded.{program_read}
use Rattle.chain_queues.specs.Queues.{pushed}
use Rattle.exec_base.specs.declared.event.Event.{Event}
use Rattle.chain_state.specs.PartOf.{part_of}
use Rattle.chain_state.proofs.Led.{taken_free, taken_spelled, number_is, sent_is}
use Rattle.chain_state.proofs.Sendable.{unrefused_by}
use Rattle.chain_state.proofs.state.ChainState.send_to.Goals as goal

pub post-requires-clause-free : goal.post-requires-clause-free
post-requires-clause-free c = taken_free (part_of c.args.self.now) c.args.dest.now c.args.program.now c.in_ok-to.to c.in_ok-to.bytes.items c.in_ok-to.ensures.ready

pub post-requires-clause-spelled : goal.post-requires-clause-spelled
post-requires-clause-spelled c = taken_spelled (part_of c.args.self.now) c.args.dest.now c.args.program.now c.in_ok-to.to c.in_ok-to.bytes.items c.in_ok-to.ensures.ready

pub returns : goal.returns
returns c =
    let p = part_of c.args.self.now in
    let dest = c.args.dest.now in
    let program = c.args.program.now in
    let to = c.in_ok-to.to in
    let bytes = c.in_ok-to.bytes.items in
    let taken = c.in_ok-to.ensures.ready in
    record {
      step = (
        unrefused_by p dest program to bytes taken,
        number_is p dest program to bytes c.post.result taken c.post.ensures.number,
        c.post.ensures.posted
            ∙ (λ i. record p { channels = pushed to (program_read (message_of bytes)) Cargo.Nothing p.channels; pending_events = c.reserve.ensures.items i ++ Event.Sent p.site.chain to c.post.result ∷ [] })
            ∙ sent_is p dest program to bytes Cargo.Nothing c.post.result taken c.post.ensures.number,
      );
    }
