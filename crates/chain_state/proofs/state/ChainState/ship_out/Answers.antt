use Rattle.std.proofs.Common.{◌≡◌, ◌++◌, ℕ, List, [], ◌∷◌, length, sym, ap, ◌∙◌, subst, if◌then◌else◌}
use Rattle.std.specs.Prelude.{None, Some}
use Rattle.std.specs.Option.{option_map}
use Rattle.asset_bundles.specs.Bundles.{held_assets}
use Rattle.chain_ids.specs.declared.chain.ChainId.{ChainId}
use Rattle.channel_parts.specs.Channels.{Outgoing, away}
use Rattle.channel_parts.specs.declared.cargo.Cargo.{Cargo}
use Rattle.versioned_xcm.specs.Reading.{message_of}
use Rattle.chain_queues.specs.Decoded.{program_read}
use Rattle.chain_queues.specs.Queues as queues
use Rattle.chain_queues.specs.Queues.{is_spelled_for, push_refusal, pushed}
use Rattle.exec_base.specs.declared.event.Event.{Event}
use Rattle.exec_base.specs.Part.{ChainPart}
use Rattle.exec_base.specs.Sending.{or_else, away_program, listed_refusal, listed_program}
use Rattle.exec_base.specs.Host.{first_fault, trust_fault, raise_fault, is_teleport, seen_from, raised_for, ship_refusal, shipped}
use Rattle.chain_state.specs.PartOf.{part_of}
use Rattle.chain_state.specs.Sends.{IsAcceptedByChannel}
use Rattle.chain_state.proofs.First.{both_none}
use Rattle.chain_state.proofs.Led.{taken_free, taken_spelled, number_is, sent_is}
use Rattle.chain_state.proofs.state.ChainState.ship_out.Goals as goal

posted : Cargo → ChainId → List ℕ → ℕ → ChainPart → ChainPart
posted cargo to bytes n q = record q { channels = pushed to (program_read (message_of bytes)) cargo q.channels; pending_events = q.pending_events ++ Event.Sent q.site.chain to n ∷ [] }

pub raise_for-requires-clause-free : goal.raise_for-requires-clause-free
unfolding ship_refusal
raise_for-requires-clause-free c =
    let p = part_of c.args.self.now in
    let dest = c.args.dest.now in
    let way = c.args.way in
    let held = held_assets c.args.goods in
    let rest = (both_none (first_fault (trust_fault p dest (is_teleport way)) held)
    (or_else (if is_teleport way then first_fault (raise_fault p) held else None) (listed_refusal p dest (λ a. away_program way a c.args.xcm.now) (seen_from p dest held))) c.in-Ok.ensures.ready.1).1 in
    let free = (both_none (if is_teleport way then first_fault (raise_fault p) held else None) (listed_refusal p dest (λ a. away_program way a c.args.xcm.now) (seen_from p dest held)) rest).0 in
    subst (λ xs. (if is_teleport way then first_fault (raise_fault p) xs else None) ≡ None) (sym (c.items.ensures.listed)) free

pub post-requires-clause-free : goal.post-requires-clause-free
post-requires-clause-free c =
    let p = part_of c.args.self.now in
    let dest = c.args.dest.now in
    let program = listed_program (λ a. away_program c.args.way a c.args.xcm.now) (seen_from p dest (held_assets c.args.goods)) in
    ap (λ (x : ChainPart). push_refusal (length c.in-Ok.ready.1.items) (queues.channel_to c.in-Ok.ready.0 x.channels)) c.raise_for.ensures.step
    ∙ taken_free p dest program c.in-Ok.ready.0 c.in-Ok.ready.1.items c.in-Ok.ensures.ready.0

pub post-requires-clause-spelled : goal.post-requires-clause-spelled
post-requires-clause-spelled c =
    let p = part_of c.args.self.now in
    let dest = c.args.dest.now in
    let program = listed_program (λ a. away_program c.args.way a c.args.xcm.now) (seen_from p dest (held_assets c.args.goods)) in
    ap (λ (x : ChainPart). is_spelled_for (queues.channel_to c.in-Ok.ready.0 x.channels) c.in-Ok.ready.1.items) c.raise_for.ensures.step
    ∙ taken_spelled p dest program c.in-Ok.ready.0 c.in-Ok.ready.1.items c.in-Ok.ensures.ready.0

pub returns : goal.returns
unfolding shipped posted
returns c =
    let p = part_of c.args.self.now in
    let dest = c.args.dest.now in
    let way = c.args.way in
    let goods = c.args.goods in
    let to = c.in-Ok.ready.0 in
    let bytes = c.in-Ok.ready.1.items in
    let program = listed_program (λ a. away_program way a c.args.xcm.now) (seen_from p dest (held_assets goods)) in
    let taken = c.in-Ok.ensures.ready.0 in
    let d = raised_for p way goods in
    let there : IsAcceptedByChannel d dest program to bytes = record { channel = taken.channel; found = taken.found; accepted = taken.accepted } in
    let put = c.raise_for.ensures.step in
    let number : option_map (λ (o : Outgoing). o.next) (queues.channel_to to p.channels) ≡ Some c.post.result = sym (ap (λ (x : ChainPart). option_map (λ (o : Outgoing). o.next) (queues.channel_to to x.channels)) put) ∙ c.post.ensures.number in
    record {
      step = (
        c.in-Ok.ensures.ready.1,
        number_is p dest program to bytes c.post.result taken number,
        c.post.ensures.posted ∙ ap (posted (Cargo.Away c.ship.result) to bytes c.post.result) put
            ∙ (λ i. posted (Cargo.Away (record { way = c.ship.ensures.way i; units = c.ship.ensures.units i })) to bytes c.post.result (raised_for (record p { pending_events = c.reserve.ensures.items i }) way goods))
            ∙ sent_is d dest program to bytes (away way goods) c.post.result there number,
      );
    }
