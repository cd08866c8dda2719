use Rattle.std.proofs.Common.{sym, subst}
use Rattle.std.specs.Ordering.{eq_by_cmp}
use Rattle.std.specs.List.{IsDistinct}
use Rattle.asset_lists.specs.Listed.{listed_cmp}
use Rattle.test_assets.proofs.Apart.{apart}
use Rattle.test_assets.proofs.dispatch_rows.row_ledger.Goals as goal

pub new-requires : goal.new-requires
new-requires c = record { apart = subst (IsDistinct (eq_by_cmp listed_cmp)) (sym c.in_ok-rows.ensures) apart }
