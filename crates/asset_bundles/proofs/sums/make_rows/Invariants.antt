use Rattle.std.proofs.Common.{◌≡◌, take}
use Rattle.std.specs.Prelude.{IsTrue}
use Rattle.std.specs.List.{list_all}
use Rattle.asset_lists.specs.Units.{unit_of}
use Rattle.asset_lists.specs.Listed.{Listed, listed_of, lists}
use Rattle.asset_bundles.specs.Sums.{sum_at, keys_in}
use Rattle.asset_bundles.proofs.sums.make_rows.Given as goal

abbrev pub invariant-loop-asset : goal.invariant-loop-asset
invariant-loop-asset l =
    ((k : Listed) → sum_at k l.rows.items ≡ sum_at k l.fn.rows.items)
    × IsTrue (list_all (λ a. lists (keys_in l.rows.items) (listed_of (unit_of a))) (take l.asset-index l.assets))
