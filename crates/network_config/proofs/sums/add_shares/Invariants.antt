use Rattle.std.proofs.Common.{◌≡◌, ◌++◌, drop}
use Rattle.network_config.specs.Sums.{shares_in}
use Rattle.network_config.proofs.sums.add_shares.Given as goal

abbrev pub invariant-loop-balance : goal.invariant-loop-balance
invariant-loop-balance l =
    l.shares.items ++ shares_in l.fn.chain l.context l.index (drop l.balance-index l.accounts) ≡ l.fn.shares.items ++ shares_in l.fn.chain l.context 0 l.accounts
