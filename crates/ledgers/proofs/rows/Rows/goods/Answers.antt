use Rattle.std.proofs.Common.{sym, subst}
use Rattle.ledgers.specs.Ledgers.{account_goods}
use Rattle.ledgers.specs.RowState.{rows_held}
use Rattle.ledgers.specs.AccountGoods.{IsUnsortedListOf, is_amount}
use Rattle.ledgers.proofs.AccountGoods.{both_listed}
use Rattle.ledgers.proofs.rows.Rows.goods.Goals as goal

pub returns : goal.returns
returns c =
    subst (IsUnsortedListOf (account_goods c.args.who.now (rows_held c.args.self.now))) (sym c.in_ok-append.ensures.items)
    (both_listed is_amount (account_goods c.args.who.now (rows_held c.args.self.now)) c.in_ok-goods.goods.items c.in_ok-instances.instances.items c.in_ok-goods.ensures c.in_ok-instances.ensures)
