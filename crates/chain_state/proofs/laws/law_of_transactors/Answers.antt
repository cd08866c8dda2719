use Rattle.chain_state.proofs.Transacting.{withdraw_told, deposit_told, transfer_told, given_left, deposited_left, transferred_left}
use Rattle.chain_state.proofs.laws.law_of_transactors.Goals as goal

pub returns : goal.returns
returns c = record {
  withdraw = withdraw_told c.law_of_kinds_covering_rows.ensures;
  deposit = deposit_told c.law_of_kinds_covering_rows.ensures;
  transfer = transfer_told c.law_of_kinds_covering_rows.ensures;
  withdrawn = given_left;
  deposited = deposited_left;
  transferred = transferred_left;
}
