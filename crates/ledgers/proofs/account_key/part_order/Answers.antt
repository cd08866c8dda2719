use Rattle.std.proofs.Common.{◌∙◌}
use Rattle.std.specs.Ordering.{nat_cmp}
use Rattle.ledgers.proofs.AccountOrders.{by_numbers}
use Rattle.ledgers.proofs.account_key.part_order.Goals as goal

pub returns : goal.returns
returns c =
    c.cmp.ensures ∙ (λ i. nat_cmp (c.word.ensures.value i) (c.word-2.ensures.value i))
    ∙ by_numbers _ _ c.word.ensures.eight c.word-2.ensures.eight c.word.ensures.bytes c.word-2.ensures.bytes
