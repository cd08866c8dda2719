use Rattle.std.proofs.Common.{◌≡◌, take, min}
use Rattle.asset_bundles.specs.Totals.{total_value}
use Rattle.asset_bundles.specs.Books.{most_burned}
use Rattle.chain_state.specs.Aside.{parked_total}
use Rattle.chain_state.proofs.fees.aside.parked_total.Given as goal

abbrev pub invariant-loop-goods : goal.invariant-loop-goods
invariant-loop-goods l = total_value l.sum ≡ min (parked_total l.id l.kind (take l.goods-index l.parked)) most_burned
