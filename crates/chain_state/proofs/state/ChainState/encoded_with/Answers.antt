use Rattle.std.proofs.Common.{◌≡◌, length, sym, ap, ◌∙◌, subst}
use Rattle.std.specs.Prelude.{None, Some, MatchResult, nat_le}
use Rattle.std.specs.Option.{option_copied, option_map}
use Rattle.xcm_program.specs.declared.instruction.Instruction.{roll-Instruction}
use Rattle.xcm_format.specs.Messages.{IsMessageIn}
use Rattle.xcm_format.specs.Writable.{IsWritable}
use Rattle.versioned_xcm.specs.Message.{IsEncodeCause, forwarded}
use Rattle.exec_base.specs.Sending.{channel_to_location}
use Rattle.chain_queues.specs.Queues.{outgoing_of}
use Rattle.chain_state.specs.Sends.{first_by, program_by}
use Rattle.chain_state.specs.PartOf.{part_of}
use Rattle.chain_state.proofs.Sendable.{unrouted, taken_by, too_many, too_many_sent, with_few}
use Rattle.chain_state.proofs.Forwarding.{around_is, around_writable, around_convertible}
use Rattle.chain_state.proofs.state.ChainState.encoded_with.Goals as goal

pub returns-in_default : goal.returns-in_default
returns-in_default c =
    let p = part_of c.args.self.now in
    let none : channel_to_location p c.args.dest.now ≡ None = sym c.queue_to.ensures ∙ ap (λ r. option_map outgoing_of (option_copied r)) c.in_default.is in
    record { ready = unrouted p c.args.dest.now (nat_le (length c.args.seen.items) 20) (program_by c.args.call c.args.xcm.now c.args.seen.items) none }

pub returns-in_default-from_sorted : goal.returns-in_default-from_sorted
returns-in_default-from_sorted c =
    let p = part_of c.args.self.now in
    let found : channel_to_location p c.args.dest.now ≡ Some (outgoing_of c.in-Some.queue.now) = sym c.queue_to.ensures ∙ ap (λ r. option_map outgoing_of (option_copied r)) c.in-Some.is in
    let many = too_many c.args.seen.items c.in_default-from_sorted.field-0 c.in_default-from_sorted.ensures c.requires.some c.requires.rising in
    record { ready = too_many_sent p c.args.dest.now (length c.args.seen.items) (program_by c.args.call c.args.xcm.now c.args.seen.items) (outgoing_of c.in-Some.queue.now) found many }

pub encode_forwarded-requires : goal.encode_forwarded-requires
encode_forwarded-requires c =
    let v = c.in-Some.queue.now.channel.version in
    let first = c.first_instruction-first.ensures ∙ ap (λ list. roll-Instruction (first_by c.args.call list)) c.in-Ok.ensures.0 in
    subst (λ i. IsWritable v (forwarded i c.args.xcm.now)) (sym first) (subst (IsWritable v) (around_is c.args.call c.args.xcm.now c.args.seen.items) (around_writable v c.args.call c.args.xcm.now c.args.seen.items c.requires.forwardable c.requires.places))

pub returns : goal.returns
returns c =
    let p = part_of c.args.self.now in
    let v = c.in-Some.queue.now.channel.version in
    let program = program_by c.args.call c.args.xcm.now c.args.seen.items in
    let first = c.first_instruction-first.ensures ∙ ap (λ list. roll-Instruction (first_by c.args.call list)) c.in-Ok.ensures.0 in
    let found : channel_to_location p c.args.dest.now ≡ Some (outgoing_of c.in-Some.queue.now) = sym c.queue_to.ensures ∙ ap (λ r. option_map outgoing_of (option_copied r)) c.in-Some.is in
    let encoded = subst (λ i. MatchResult c.encode_forwarded.result (λ bytes. IsMessageIn v bytes.items (forwarded i c.args.xcm.now)) (IsEncodeCause v (forwarded i c.args.xcm.now))) first c.encode_forwarded.ensures in
    let around = subst (λ xcm. MatchResult c.encode_forwarded.result (λ bytes. IsMessageIn v bytes.items xcm) (IsEncodeCause v xcm)) (sym (around_is c.args.call c.args.xcm.now c.args.seen.items)) encoded in
    record {
      ready = with_few p c.args.dest.now (length c.args.seen.items) program c.accepted.result c.in-Ok.ensures.1.few
          (taken_by p c.args.dest.now program (outgoing_of c.in-Some.queue.now) c.accepted.result found
          (c.accepted.ensures program (around_convertible c.args.call c.args.xcm.now c.args.seen.items c.requires.forwardable c.requires.places) around));
    }
