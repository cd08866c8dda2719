use Rattle.std.proofs.Common.{sym, ap, ◌∙◌}
use Rattle.std.specs.List.{position}
use Rattle.weight_trader.specs.Purchases.{Line}
use Rattle.weight_trader.specs.Refunds.{is_refunded, goods_of}
use Rattle.weight_trader.proofs.Apart.{apart_set}
use Rattle.plain_lists.proofs.Lemmas.Firsts.{passes_at}
use Rattle.weight_trader.proofs.Charging.{refund_nowhere, refunded_nowhere, refund_from, refunded_at}
use Rattle.weight_trader.proofs.trader.Trader.refund.Goals as goal

pub returns-in_default-clause-goods : goal.returns-in_default-clause-goods
returns-in_default-clause-goods c =
    let none = sym (c.in_default.ensures ∙ ap (position (is_refunded c.args.weight)) c.as_slice.ensures.value) in
    c.empty.ensures ∙ sym (ap goods_of (refund_nowhere c.args.weight c.self.inside.lines.items _ c.self.view_is none))

pub returns-in_default-clause-lines : goal.returns-in_default-clause-lines
returns-in_default-clause-lines c =
    let none = sym (c.in_default.ensures ∙ ap (position (is_refunded c.args.weight)) c.as_slice.ensures.value) in
    refunded_nowhere c.args.weight c.self.inside.lines.items _ c.self.view_is none

pub minted_refund-requires : goal.minted_refund-requires
minted_refund-requires c =
    let first = sym (c.in-Some.ensures ∙ ap (position (is_refunded c.args.weight)) c.as_slice.ensures.value) in
    (passes_at (is_refunded c.args.weight) c.self.inside.lines.items c.in-Some.place _ first c.index.ensures).1

pub invariant_of-self : goal.invariant_of-self
invariant_of-self c =
    apart_set _ c.in-Some.place _ c.index_mut.result.now c.index_mut.ensures.value (ap (λ (l : Line). l.rate) c.give_back.ensures) c.self.invariant

pub returns-clause-goods : goal.returns-clause-goods
returns-clause-goods c =
    let first = sym (c.in-Some.ensures ∙ ap (position (is_refunded c.args.weight)) c.as_slice.ensures.value) in
    c.in_ok-goods.ensures ∙ sym (ap goods_of (refund_from c.args.weight c.self.inside.lines.items _ c.in-Some.place _ c.self.view_is first c.index.ensures))

pub returns-clause-lines : goal.returns-clause-lines
returns-clause-lines c =
    let first = sym (c.in-Some.ensures ∙ ap (position (is_refunded c.args.weight)) c.as_slice.ensures.value) in
    refunded_at c.args.weight c.self.inside.lines.items _ c.in-Some.place _ _ c.self.view_is first c.index_mut.ensures.value c.give_back.ensures
