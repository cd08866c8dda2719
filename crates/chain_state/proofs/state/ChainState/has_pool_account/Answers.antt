use Rattle.std.proofs.Common.{length, ap, arith}
use Rattle.chain_state.specs.Known.{few_pools}
use Rattle.chain_state.proofs.state.ChainState.has_pool_account.Goals as goal

pub is_pool_account-requires : goal.is_pool_account-requires
is_pool_account-requires c =
    let most = few_pools c.args.self.now in
    let same = ap length c.items.ensures in
    record { few = omega (arith, most, same) }
