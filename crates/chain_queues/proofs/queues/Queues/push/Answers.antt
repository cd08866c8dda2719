use Rattle.std.proofs.Common.{◌≡◌, rules, sym, ap, ◌∙◌, ℕ, length, Some}
use Rattle.std.specs.Vec.{vec_len}
use Rattle.std.specs.Option.{option_map}
use Rattle.channel_parts.specs.Channels.{Outgoing, with_waiting}
use Rattle.versioned_xcm.specs.Reading.{message_of}
use Rattle.chain_queues.specs.Decoded.{program_read}
use Rattle.chain_queues.specs.Queues.{outgoing_of, is_spelled_for, push_refusal}
use Rattle.chain_queues.proofs.Places.{nowhere, somewhere, changes, has_room}
use Rattle.chain_queues.proofs.queues.Queues.push.Goals as goal

pub returns-in_default-clause-refused : goal.returns-in_default-clause-refused
returns-in_default-clause-refused c =
    ap (push_refusal (length c.args.bytes.items)) (nowhere c.args.to c.args.self.now.list.items (sym c.place_to.ensures ∙ c.in_default.is))

pub returns-in-Err-clause-refused : goal.returns-in-Err-clause-refused
returns-in-Err-clause-refused c =
    let same : length c.args.bytes.items ≡ vec_len c.args.bytes = search rules in
    let q = c.index_mut-queue.result.now in
    let some = somewhere c.args.to c.args.self.now.list.items c.in-Some.place q (sym c.place_to.ensures ∙ c.in-Some.is) c.index_mut-queue.ensures.value in
    ap (push_refusal (length c.args.bytes.items)) some ∙ ap (λ (n : ℕ). push_refusal n (Some (outgoing_of q))) (same ∙ sym c.len.ensures) ∙ c.in-Err.ensures.refused

pub push-requires-clause-spelled : goal.push-requires-clause-spelled
push-requires-clause-spelled c =
    let some = somewhere c.args.to c.args.self.now.list.items c.in-Some.place _ (sym c.place_to.ensures ∙ c.in-Some.is) c.index_mut-queue.ensures.value in
    sym (ap (λ o. is_spelled_for o c.args.bytes.items) some) ∙ c.requires.spelled

pub push-requires-clause-room : goal.push-requires-clause-room
push-requires-clause-room c = has_room c.len.result c.index_mut-queue.result.now c.in_default-check.ensures.taken c.index_mut-queue.result.now.within

pub returns-clause-taken : goal.returns-clause-taken
returns-clause-taken c =
    let same : length c.args.bytes.items ≡ vec_len c.args.bytes = search rules in
    let q = c.index_mut-queue.result.now in
    let some = somewhere c.args.to c.args.self.now.list.items c.in-Some.place q (sym c.place_to.ensures ∙ c.in-Some.is) c.index_mut-queue.ensures.value in
    ap (push_refusal (length c.args.bytes.items)) some ∙ ap (λ (n : ℕ). push_refusal n (Some (outgoing_of q))) (same ∙ sym c.len.ensures) ∙ c.in_default-check.ensures.taken

pub returns-clause-number : goal.returns-clause-number
returns-clause-number c =
    let some = somewhere c.args.to c.args.self.now.list.items c.in-Some.place _ (sym c.place_to.ensures ∙ c.in-Some.is) c.index_mut-queue.ensures.value in
    ap (option_map (λ (o : Outgoing). o.next)) some ∙ sym (ap Some c.push.ensures.number)

pub returns-clause-queued : goal.returns-clause-queued
returns-clause-queued c =
    changes c.args.to (with_waiting (program_read (message_of c.args.bytes.items)) c.args.cargo) c.args.self.now.list.items c.in-Some.place c.index_mut-queue.result.now c.push.new.self
    (sym c.place_to.ensures ∙ c.in-Some.is) c.index_mut-queue.ensures.value c.push.ensures.queue
