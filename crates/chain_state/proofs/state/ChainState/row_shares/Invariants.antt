use Rattle.std.proofs.Common.{◌≡◌, ◌++◌, drop}
use Rattle.std.specs.Prelude.{None}
use Rattle.amounts.specs.Amounts.{amount}
use Rattle.asset_bundles.specs.Bundles.{rows_of}
use Rattle.ledgers.specs.Ledgers.{barred}
use Rattle.chain_state.proofs.Lemmas.Fees.{some_rows}
use Rattle.exec_base.specs.Host.{fees_within, fees_above}
use Rattle.chain_state.specs.PartOf.{part_of}
use Rattle.chain_state.proofs.state.ChainState.row_shares.Given as goal

abbrev pub invariant-loop-row : goal.invariant-loop-row
invariant-loop-row l = record {
  within : rows_of l.within.items ++ some_rows (amount (fees_within (part_of l.self))) (drop l.row-index l.row-items) ≡ some_rows (amount (fees_within (part_of l.self))) l.row-items;
  free : barred (part_of l.self).held (part_of l.self).fee_account l.within.items ≡ None;
  above : l.above.items ++ some_rows (amount (fees_above (part_of l.self))) (drop l.row-index l.row-items) ≡ some_rows (amount (fees_above (part_of l.self))) l.row-items;
}
