use Rattle.std.proofs.Common.{◌≤◌, length, sym, ap, ◌∙◌, subst}
use Rattle.asset_lists.specs.Lists.{has_zero, is_rising}
use Rattle.exec_base.specs.Sending.{deposit_program, listed_refusal, listed_program}
use Rattle.exec_base.specs.Host.{seen_from}
use Rattle.chain_state.specs.PartOf.{part_of}
use Rattle.chain_state.specs.Sends.{IsAcceptedByChannel, IsSendFault}
use Rattle.chain_state.proofs.Sendable.{too_many, not_many}
use Rattle.chain_state.proofs.Forwarding.{goods_rising, goods_some}
use Rattle.chain_state.proofs.state.ChainState.ready_deposit.Goals as goal

pub encoded_around-requires-clause-some : goal.encoded_around-requires-clause-some
encoded_around-requires-clause-some c = ap has_zero (c.as_slice.ensures.value ∙ c.in_ok-list.ensures.listed) ∙ goods_some c.args.goods.now

pub returns-in-Err : goal.returns-in-Err
returns-in-Err c =
    let p = part_of c.args.self.now in
    let dest = c.args.dest.now in
    let again = c.as_slice.ensures.value ∙ c.in_ok-list.ensures.listed in
    record { ready = subst (λ xs. IsSendFault (listed_refusal p dest (λ a. deposit_program a c.args.xcm.now) (seen_from p dest xs)) c.in-Err.fault) again c.in-Err.ensures.ready }

pub unreachable-requires : goal.unreachable-requires
unreachable-requires c =
    let listed = c.in_ok-list.ensures.listed in
    let items = c.in_ok-list.list.items in
    let many = too_many items c.in_default.field-0 c.in_default.ensures (ap has_zero listed ∙ goods_some c.args.goods.now) (ap is_rising listed ∙ goods_rising c.args.goods.now) in
    not_many (length items) many (subst (λ xs. length xs ≤ 20) c.as_slice.ensures.value c.in-Ok.ensures.ready.2)

pub returns : goal.returns
returns c =
    let p = part_of c.args.self.now in
    let dest = c.args.dest.now in
    let xcm = c.args.xcm.now in
    let again = c.as_slice.ensures.value ∙ c.in_ok-list.ensures.listed in
    record {
      ready = (
        subst (λ xs. IsAcceptedByChannel p dest (listed_program (λ a. deposit_program a xcm) (seen_from p dest xs)) c.in-Ok.ready.0 c.in-Ok.ready.1.items) again c.in-Ok.ensures.ready.0,
        ap (λ xs. listed_refusal p dest (λ a. deposit_program a xcm) (seen_from p dest xs)) (sym again) ∙ c.in-Ok.ensures.ready.1,
        c.in-Ok-from_sorted.ensures.0 ∙ c.in_ok-list.ensures.listed,
      );
    }
