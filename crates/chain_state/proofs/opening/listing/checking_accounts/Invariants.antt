use Rattle.std.proofs.Common.{◌≡◌, ◌++◌, map, drop}
use Rattle.network_steps.specs.Tests.{row_checking}
use Rattle.chain_state.proofs.opening.listing.checking_accounts.Given as goal

abbrev pub invariant-loop-row : goal.invariant-loop-row
invariant-loop-row l = l.list.items ++ map row_checking (drop l.row-index l.rows) ≡ map row_checking l.rows
