use Rattle.row_ledger.proofs.Lemmas.AccountLaws.{total_called, more_called, floor_called, error_called, total_in_part, more_in_part}
use Rattle.row_ledger.proofs.laws.law_of_calls_of_accounts.Goals as goal

pub returns : goal.returns
returns c = record {
  sums = total_called;
  others = more_called;
  floors = floor_called;
  error = error_called;
  sums_in_part = λ rows held floors who call now h. total_in_part rows held floors who call now h;
  others_in_part = λ rows held floors who call now h. more_in_part rows held floors who call now h;
}
