use Rattle.std.proofs.Common.{◌≡◌, ◌++◌, ℕ, List, [], ◌∷◌, length, refl, sym, ap, ◌∙◌}
use Rattle.std.specs.Prelude.{Option, Some}
use Rattle.std.specs.Option.{option_map}
use Rattle.asset_bundles.specs.Bundles.{held_assets}
use Rattle.transactors.specs.Moves.{deposit_fault, after_deposit}
use Rattle.channel_parts.specs.Channels.{Outgoing}
use Rattle.channel_parts.specs.declared.cargo.Cargo.{Cargo}
use Rattle.versioned_xcm.specs.Reading.{message_of}
use Rattle.chain_queues.specs.Decoded.{program_read}
use Rattle.chain_queues.specs.Queues as queues
use Rattle.chain_queues.specs.Queues.{is_spelled_for, push_refusal, pushed}
use Rattle.exec_base.specs.declared.event.Event.{Event}
use Rattle.exec_base.specs.Part.{ChainPart, accounts_of}
use Rattle.exec_base.specs.Sending.{deposit_program, listed_program, listed_refusal, number_to}
use Rattle.exec_base.specs.Host.{seen_from, deposit_refusal, deposited, deposit_out_refusal, deposited_out}
use Rattle.chain_state.specs.PartOf.{part_of}
use Rattle.chain_state.specs.Sends.{IsAcceptedByChannel}
use Rattle.chain_state.specs.Transacting.{handled_rows}
use Rattle.chain_state.proofs.First.{refused_first, passed_first, later_fault, hands_back}
use Rattle.chain_state.proofs.Led.{taken_free, taken_spelled, number_is, sent_is}
use Rattle.chain_state.proofs.Transacted.{none_mapped}
use Rattle.chain_ids.specs.declared.chain.ChainId.{ChainId}
use Rattle.chain_state.proofs.state.ChainState.deposit_out.Goals as goal

posted : Cargo → ChainId → List ℕ → ℕ → ChainPart → ChainPart
posted cargo to bytes n q = record q { channels = pushed to (program_read (message_of bytes)) cargo q.channels; pending_events = q.pending_events ++ Event.Sent q.site.chain to n ∷ [] }

pub returns-in-Err : goal.returns-in-Err
unfolding deposit_out_refusal
returns-in-Err c =
    let p = part_of c.args.self.now in
    let dest = c.args.dest.now in
    record { step = (refl, refused_first _ (listed_refusal p dest (λ a. deposit_program a c.args.xcm.now) (seen_from p dest (held_assets c.args.goods))) c.in-Err.error c.in-Err.ensures, refl) }

pub returns-in-Err-ready_deposit : goal.returns-in-Err-ready_deposit
unfolding deposit_out_refusal
returns-in-Err-ready_deposit c =
    let p = part_of c.args.self.now in
    let dest = c.args.dest.now in
    let xcm = c.args.xcm.now in
    record {
      step = hands_back (deposit_out_refusal p c.args.goods dest xcm) c.args.goods (number_to p dest) (deposited_out p c.args.goods dest xcm) p c.in-Err-ready_deposit.fault
          (later_fault (deposit_refusal p c.args.goods dest) (listed_refusal p dest (λ a. deposit_program a xcm) (seen_from p dest (held_assets c.args.goods))) c.in-Err-ready_deposit.fault c.in-Ok.ensures.1 c.in-Err-ready_deposit.ensures.ready);
    }

pub deposit_checked-requires : goal.deposit_checked-requires
deposit_checked-requires c =
    let p = part_of c.args.self.now in
    let fault = λ (o : Option (List ℕ)). deposit_fault (handled_rows p) (accounts_of p) c.args.goods o in
    record { free = ap fault c.in-Ok.ensures.0 ∙ none_mapped _ (sym (c.law_of_transactors.ensures.deposit p c.args.goods c.args.dest.now) ∙ c.in-Ok.ensures.1) }

pub returns-in-Err-deposit_checked : goal.returns-in-Err-deposit_checked
returns-in-Err-deposit_checked c =
    let p = part_of c.args.self.now in
    let back = c.in-Err-deposit_checked.ensures.step in
    record { step = (back.0, back.1 ∙ (λ i. record p { pending_events = c.reserve.ensures.items i })) }

pub post-requires-clause-free : goal.post-requires-clause-free
post-requires-clause-free c =
    let p = part_of c.args.self.now in
    let dest = c.args.dest.now in
    let program = listed_program (λ a. deposit_program a c.args.xcm.now) (seen_from p dest (held_assets c.args.goods)) in
    let ready = c.in-Ok-ready_deposit.ready in
    ap (λ (x : ChainPart). push_refusal (length ready.1.items) (queues.channel_to ready.0 x.channels)) c.in_default.ensures.step
    ∙ taken_free p dest program ready.0 ready.1.items c.in-Ok-ready_deposit.ensures.ready.0

pub post-requires-clause-spelled : goal.post-requires-clause-spelled
post-requires-clause-spelled c =
    let p = part_of c.args.self.now in
    let dest = c.args.dest.now in
    let program = listed_program (λ a. deposit_program a c.args.xcm.now) (seen_from p dest (held_assets c.args.goods)) in
    let ready = c.in-Ok-ready_deposit.ready in
    ap (λ (x : ChainPart). is_spelled_for (queues.channel_to ready.0 x.channels) ready.1.items) c.in_default.ensures.step
    ∙ taken_spelled p dest program ready.0 ready.1.items c.in-Ok-ready_deposit.ensures.ready.0

pub returns : goal.returns
unfolding deposited deposit_out_refusal deposited_out posted
returns c =
    let p = part_of c.args.self.now in
    let dest = c.args.dest.now in
    let goods = c.args.goods in
    let to = c.in-Ok-ready_deposit.ready.0 in
    let bytes = c.in-Ok-ready_deposit.ready.1.items in
    let program = listed_program (λ a. deposit_program a c.args.xcm.now) (seen_from p dest (held_assets goods)) in
    let told = c.in-Ok-ready_deposit.ensures.ready in
    let taken = told.0 in
    let d = deposited p goods dest in
    let there : IsAcceptedByChannel d dest program to bytes = record { channel = taken.channel; found = taken.found; accepted = taken.accepted } in
    let q = record p { pending_events = c.reserve.new.self.items } in
    let put = c.in_default.ensures.step ∙ ap (λ (o : Option (List ℕ)). record q { held = (after_deposit goods o (accounts_of q)).held }) c.in-Ok.ensures.0 ∙ sym (c.law_of_transactors.ensures.deposited q goods dest) in
    let number : option_map (λ (o : Outgoing). o.next) (queues.channel_to to p.channels) ≡ Some c.post.result = sym (ap (λ (x : ChainPart). option_map (λ (o : Outgoing). o.next) (queues.channel_to to x.channels)) put) ∙ c.post.ensures.number in
    record {
      step = (
        passed_first _ (listed_refusal p dest (λ a. deposit_program a c.args.xcm.now) (seen_from p dest (held_assets goods))) c.in-Ok.ensures.1 ∙ told.1,
        number_is p dest program to bytes c.post.result taken number,
        c.post.ensures.posted ∙ ap (posted (Cargo.Deposit c.in-Ok-ready_deposit.ready.2) to bytes c.post.result) put
            ∙ (λ i. posted (Cargo.Deposit (told.2 i)) to bytes c.post.result (deposited (record p { pending_events = c.reserve.ensures.items i }) goods dest))
            ∙ sent_is d dest program to bytes (Cargo.Deposit (held_assets goods)) c.post.result there number,
      );
    }
