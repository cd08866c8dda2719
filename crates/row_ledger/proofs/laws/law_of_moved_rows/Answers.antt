use Rattle.row_ledger.proofs.Lemmas.AccountLaws.{amount_of_row, row_amounts-moved, held_aside-moved, transferred_one}
use Rattle.row_ledger.proofs.laws.law_of_moved_rows.Goals as goal

pub returns : goal.returns
returns c = record {
  has = amount_of_row;
  moved = row_amounts-moved;
  aside = held_aside-moved;
  transferred = transferred_one;
}
