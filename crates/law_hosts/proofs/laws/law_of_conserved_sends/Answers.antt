use Rattle.law_hosts.proofs.Sending.{conserves_shipping, conserves_deposit_out, conserves_transfer_out, conserves_response, raises_by_goods, raises_by_list}
use Rattle.law_hosts.proofs.laws.law_of_conserved_sends.Goals as goal

pub returns-clause-shipped : goal.returns-clause-shipped
returns-clause-shipped c = conserves_shipping

pub returns-clause-deposited_out : goal.returns-clause-deposited_out
returns-clause-deposited_out c = conserves_deposit_out

pub returns-clause-transferred_out : goal.returns-clause-transferred_out
returns-clause-transferred_out c = conserves_transfer_out c.law_of_ledgers.ensures.withdrawn

pub returns-clause-responded : goal.returns-clause-responded
returns-clause-responded c = conserves_response

pub returns-clause-raises_by_goods : goal.returns-clause-raises_by_goods
returns-clause-raises_by_goods c = raises_by_goods

pub returns-clause-raises_by_list : goal.returns-clause-raises_by_list
returns-clause-raises_by_list c = raises_by_list c.law_of_ledgers.ensures.withdrawn
