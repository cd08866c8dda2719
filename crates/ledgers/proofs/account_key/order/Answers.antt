use Rattle.std.proofs.Common.{sym, ◌∙◌}
use Rattle.ledgers.proofs.AccountOrders.{first_decides, second_decides, third_decides, last_decides, all_same}
use Rattle.ledgers.proofs.account_key.order.Goals as goal

pub returns-then-are_apart : goal.returns-then-are_apart
returns-then-are_apart c = c.part_order.ensures ∙ first_decides _ _ c.told-a c.told-b (sym c.are_apart.ensures ∙ c.if-are_apart.true)

pub returns-then-are_apart-2 : goal.returns-then-are_apart-2
returns-then-are_apart-2 c = c.part_order-then-are_apart-2.ensures ∙ second_decides _ _ c.told-a c.told-b (sym c.are_apart.ensures ∙ c.if-are_apart.false) (sym c.are_apart-2.ensures ∙ c.if-are_apart-2.true)

pub returns-then-are_apart-3 : goal.returns-then-are_apart-3
returns-then-are_apart-3 c =
    c.part_order-then-are_apart-3.ensures ∙ third_decides _ _ c.told-a c.told-b (sym c.are_apart.ensures ∙ c.if-are_apart.false) (sym c.are_apart-2.ensures ∙ c.if-are_apart-2.false) (sym c.are_apart-3.ensures ∙ c.if-are_apart-3.true)

pub returns-then-are_apart-4 : goal.returns-then-are_apart-4
returns-then-are_apart-4 c =
    c.part_order-then-are_apart-4.ensures ∙ last_decides _ _ c.told-a c.told-b (sym c.are_apart.ensures ∙ c.if-are_apart.false) (sym c.are_apart-2.ensures ∙ c.if-are_apart-2.false) (sym c.are_apart-3.ensures ∙ c.if-are_apart-3.false)

pub returns : goal.returns
returns c =
    all_same _ _ c.told-a c.told-b (sym c.are_apart.ensures ∙ c.if-are_apart.false) (sym c.are_apart-2.ensures ∙ c.if-are_apart-2.false) (sym c.are_apart-3.ensures ∙ c.if-are_apart-3.false) (sym c.are_apart-4.ensures ∙ c.if-are_apart-4.false)
