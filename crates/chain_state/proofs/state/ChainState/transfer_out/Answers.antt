use Rattle.std.proofs.Common.{◌≡◌, ◌++◌, ℕ, List, [], ◌∷◌, length, refl, sym, ap, ◌∙◌}
use Rattle.std.specs.Prelude.{Some}
use Rattle.std.specs.Option.{option_map}
use Rattle.transactors.specs.Moves.{transfer_fault, after_transfer}
use Rattle.channel_parts.specs.Channels.{Outgoing}
use Rattle.channel_parts.specs.declared.cargo.Cargo.{Cargo}
use Rattle.versioned_xcm.specs.Reading.{message_of}
use Rattle.chain_queues.specs.Decoded.{program_read}
use Rattle.chain_queues.specs.Queues as queues
use Rattle.chain_queues.specs.Queues.{is_spelled_for, push_refusal, pushed}
use Rattle.exec_base.specs.declared.event.Event.{Event}
use Rattle.exec_base.specs.Part.{ChainPart, accounts_of}
use Rattle.exec_base.specs.Sending.{deposit_program, listed_program, listed_refusal, number_to}
use Rattle.exec_base.specs.Host.{seen_from, transfer_refusal, transferred, transfer_out_refusal, transferred_out}
use Rattle.chain_state.specs.PartOf.{part_of}
use Rattle.chain_state.specs.Sends.{IsAcceptedByChannel}
use Rattle.chain_state.specs.Transacting.{handled_rows, kept_floors}
use Rattle.chain_state.proofs.First.{refused_first, passed_first, later_fault, answers_fault}
use Rattle.chain_state.proofs.Led.{taken_free, taken_spelled, number_is, sent_is}
use Rattle.chain_state.proofs.Transacted.{none_mapped}
use Rattle.chain_ids.specs.declared.chain.ChainId.{ChainId}
use Rattle.chain_state.proofs.state.ChainState.transfer_out.Goals as goal

posted : Cargo → ChainId → List ℕ → ℕ → ChainPart → ChainPart
posted cargo to bytes n q = record q { channels = pushed to (program_read (message_of bytes)) cargo q.channels; pending_events = q.pending_events ++ Event.Sent q.site.chain to n ∷ [] }

pub returns-in-Err : goal.returns-in-Err
unfolding transfer_out_refusal
returns-in-Err c =
    let p = part_of c.args.self.now in
    let dest = c.args.dest.now in
    record { step = (refused_first _ (listed_refusal p dest (λ a. deposit_program a c.args.xcm.now) (seen_from p dest c.args.list.now)) c.in-Err.error c.in-Err.ensures, refl) }

pub returns-in-Err-ready_transfer : goal.returns-in-Err-ready_transfer
unfolding transfer_out_refusal
returns-in-Err-ready_transfer c =
    let p = part_of c.args.self.now in
    let list = c.args.list.now in
    let from = c.args.from.now in
    let dest = c.args.dest.now in
    let xcm = c.args.xcm.now in
    record {
      step = answers_fault (transfer_out_refusal p list from dest xcm) (number_to p dest) (transferred_out p list from dest xcm) p c.in-Err-ready_transfer.fault
          (later_fault (transfer_refusal p list from dest) (listed_refusal p dest (λ a. deposit_program a xcm) (seen_from p dest list)) c.in-Err-ready_transfer.fault c.in-Ok.ensures.2 c.in-Err-ready_transfer.ensures.ready);
    }

pub transfer_checked-requires : goal.transfer_checked-requires
transfer_checked-requires c =
    let p = part_of c.args.self.now in
    let list = c.args.list.now in
    let accounts = c.in-Ok.ensures in
    record {
      free = (λ i. transfer_fault (handled_rows p) (kept_floors p) (accounts_of p) list (accounts.0 i) (accounts.1 i))
          ∙ none_mapped _ (sym (c.law_of_transactors.ensures.transfer p list c.args.from.now c.args.dest.now) ∙ accounts.2);
    }

pub post-requires-clause-free : goal.post-requires-clause-free
post-requires-clause-free c =
    let p = part_of c.args.self.now in
    let dest = c.args.dest.now in
    let program = listed_program (λ a. deposit_program a c.args.xcm.now) (seen_from p dest c.args.list.now) in
    let ready = c.in-Ok-ready_transfer.ready in
    ap (λ (x : ChainPart). push_refusal (length ready.1.items) (queues.channel_to ready.0 x.channels)) c.in_ok-transfer_checked.ensures.step.1
    ∙ taken_free p dest program ready.0 ready.1.items c.in-Ok-ready_transfer.ensures.ready.0

pub post-requires-clause-spelled : goal.post-requires-clause-spelled
post-requires-clause-spelled c =
    let p = part_of c.args.self.now in
    let dest = c.args.dest.now in
    let program = listed_program (λ a. deposit_program a c.args.xcm.now) (seen_from p dest c.args.list.now) in
    let ready = c.in-Ok-ready_transfer.ready in
    ap (λ (x : ChainPart). is_spelled_for (queues.channel_to ready.0 x.channels) ready.1.items) c.in_ok-transfer_checked.ensures.step.1
    ∙ taken_spelled p dest program ready.0 ready.1.items c.in-Ok-ready_transfer.ensures.ready.0

pub returns : goal.returns
unfolding transferred transfer_out_refusal transferred_out posted
returns c =
    let p = part_of c.args.self.now in
    let list = c.args.list.now in
    let from = c.args.from.now in
    let dest = c.args.dest.now in
    let accounts = c.in-Ok.ensures in
    let to = c.in-Ok-ready_transfer.ready.0 in
    let bytes = c.in-Ok-ready_transfer.ready.1.items in
    let program = listed_program (λ a. deposit_program a c.args.xcm.now) (seen_from p dest list) in
    let told = c.in-Ok-ready_transfer.ensures.ready in
    let taken = told.0 in
    let d = transferred p list from dest in
    let there : IsAcceptedByChannel d dest program to bytes = record { channel = taken.channel; found = taken.found; accepted = taken.accepted } in
    let q = record p { pending_events = c.reserve.new.self.items } in
    let put = c.in_ok-transfer_checked.ensures.step.1 ∙ (λ i. record q { held = (after_transfer list (accounts.0 i) (accounts.1 i) (accounts_of q)).held }) ∙ sym (c.law_of_transactors.ensures.transferred q list from dest) in
    let number : option_map (λ (o : Outgoing). o.next) (queues.channel_to to p.channels) ≡ Some c.post.result = sym (ap (λ (x : ChainPart). option_map (λ (o : Outgoing). o.next) (queues.channel_to to x.channels)) put) ∙ c.post.ensures.number in
    record {
      step = (
        passed_first _ (listed_refusal p dest (λ a. deposit_program a c.args.xcm.now) (seen_from p dest list)) accounts.2 ∙ told.1,
        number_is p dest program to bytes c.post.result taken number,
        c.post.ensures.posted ∙ ap (posted (Cargo.Deposit c.in-Ok-ready_transfer.ready.2) to bytes c.post.result) put
            ∙ (λ i. posted (Cargo.Deposit (told.2 i)) to bytes c.post.result (transferred (record p { pending_events = c.reserve.ensures.items i }) list from dest))
            ∙ sent_is d dest program to bytes (Cargo.Deposit list) c.post.result there number,
      );
    }
