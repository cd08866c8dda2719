use Rattle.std.proofs.Common.{ap, ◌∙◌}
use Rattle.asset_lists.specs.Lists.{has_zero}
use Rattle.asset_bundles.specs.Filters.{Taken}
use Rattle.exec_transfers.proofs.NamedLists.{no_zero_held}
use Rattle.exec_transfers.proofs.reports.told_list.Goals as goal

pub named_list-requires : goal.named_list-requires
named_list-requires g c = record { some = ap has_zero (c.as_slice.ensures.value ∙ c.in_ok-held.ensures.listed) ∙ no_zero_held (Taken c.args.assets.now c.args.r.now.holding) }
