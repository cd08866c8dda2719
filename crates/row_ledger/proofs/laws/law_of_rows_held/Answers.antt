use Rattle.row_ledger.proofs.Lemmas.AccountLaws.{fungible_there, held_again, known_by_rows}
use Rattle.row_ledger.proofs.laws.law_of_rows_held.Goals as goal

pub returns : goal.returns
returns c = record {
  there = fungible_there;
  again = held_again;
  known = known_by_rows;
}
