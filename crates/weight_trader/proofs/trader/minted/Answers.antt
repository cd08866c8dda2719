use Rattle.weight_trader.proofs.Apart.{once_paid, no_zero_paid}
use Rattle.weight_trader.proofs.Bundles.{paid_bundle}
use Rattle.std.proofs.Common.{◌∙◌}
use Rattle.weight_trader.proofs.trader.minted.Goals as goal

pub of_list-requires-clause-once : goal.of_list-requires-clause-once
of_list-requires-clause-once c = once_paid c.args.lines.now c.in_ok-assets.assets.items c.in_ok-assets.ensures c.requires

pub of_list-requires-clause-no_zero : goal.of_list-requires-clause-no_zero
of_list-requires-clause-no_zero c = no_zero_paid c.args.lines.now c.in_ok-assets.assets.items c.in_ok-assets.ensures

pub returns : goal.returns
returns c = c.of_list.ensures ∙ paid_bundle c.args.lines.now c.in_ok-assets.assets.items c.in_ok-assets.ensures
