use Rattle.std.proofs.Common.{◌≡◌, ◌++◌, map, drop}
use Rattle.chain_state.specs.Fees.{fungible_ids}
use Rattle.chain_state.proofs.Lent.{lent}
use Rattle.chain_state.proofs.ids.fungible_ids.Given as goal

abbrev pub invariant-loop-asset : goal.invariant-loop-asset
invariant-loop-asset l = map lent l.ids.items ++ fungible_ids (drop l.asset-index l.listed) ≡ fungible_ids l.listed
