use Rattle.std.proofs.Common.{◌≡◌, option_copied, sym, subst}
use Rattle.std.specs.Prelude.{MatchOption}
use Rattle.ledgers.specs.Ledgers.{IsAfter}
use Rattle.ledgers.specs.LedgerRows.{AmountKey, amount_in_row, IsNextRow}
use Rattle.ledgers.proofs.next_account.next_holder.Goals as goal

pub returns-in-None : goal.returns-in-None
returns-in-None c =
    subst (λ a. MatchOption c.first_holder.result ((k : AmountKey) → IsAfter (option_copied a) k.0 → amount_in_row c.args.rows.now.entries k ≡ 0) (IsNextRow (option_copied a) c.args.rows.now.entries)) (sym c.in-None.is) c.first_holder.ensures
