use Rattle.std.proofs.Common.{◌≡◌, rules, ℕ, length, sym, ap, ◌∙◌, subst}
use Rattle.std.specs.Prelude.{Some, MatchResult, vec_len}
use Rattle.std.specs.Option.{option_map}
use Rattle.xcm_format.specs.Messages.{IsMessageIn}
use Rattle.versioned_xcm.specs.Message.{IsEncodeCause}
use Rattle.chain_queues.specs.Queues.{outgoing_of, push_refusal}
use Rattle.chain_state.specs.Sends.{push_error}
use Rattle.chain_state.proofs.Sendable.{push_decides, accepts}
use Rattle.chain_state.proofs.send.sending.accepted.Goals as goal

pub returns-in-Err : goal.returns-in-Err
returns-in-Err c program convertible encoded =
    let q = c.args.queue.now in
    let v = q.channel.version in
    let bytes = c.in-Ok.bytes in
    let is : IsMessageIn v bytes.items program = subst (λ r. MatchResult r (λ bytes. IsMessageIn v bytes.items program) (IsEncodeCause v program)) c.in-Ok.is encoded in
    let same : length bytes.items ≡ vec_len bytes = search rules in
    push_decides q bytes.items program is
    ∙ ap (option_map push_error) (ap (λ (n : ℕ). push_refusal n (Some (outgoing_of q))) (same ∙ sym c.len.ensures) ∙ c.in-Err.ensures.refused)
    ∙ ap Some (sym c.push_error.ensures)

pub returns : goal.returns
returns c program convertible encoded =
    let q = c.args.queue.now in
    let v = q.channel.version in
    let bytes = c.in-Ok.bytes in
    let is : IsMessageIn v bytes.items program = subst (λ r. MatchResult r (λ bytes. IsMessageIn v bytes.items program) (IsEncodeCause v program)) c.in-Ok.is encoded in
    let same : length bytes.items ≡ vec_len bytes = search rules in
    accepts q bytes.items program is (c.law_of_round_trip.ensures v bytes.items program is convertible) (ap (λ (n : ℕ). push_refusal n (Some (outgoing_of q))) (same ∙ sym c.len.ensures) ∙ c.in_default.ensures.taken)
