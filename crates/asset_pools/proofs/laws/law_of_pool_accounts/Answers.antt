use Rattle.asset_pools.proofs.Lemmas.Keeping.{one_pool, not_sovereign}
use Rattle.asset_pools.proofs.laws.law_of_pool_accounts.Goals as goal

pub returns : goal.returns
returns c = record { one = one_pool; no_chain = not_sovereign }
