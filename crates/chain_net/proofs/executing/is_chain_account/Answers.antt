use Rattle.chain_net.proofs.Accounts.{is_it}
use Rattle.chain_net.proofs.executing.is_chain_account.Goals as goal

pub returns : goal.returns
returns c = is_it c.args.account.now c.is_sovereign.result c.fits-account c.is_sovereign.ensures
