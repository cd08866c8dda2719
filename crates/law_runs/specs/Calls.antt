-- Two laws of the crates below, as statements that the laws of this crate rest on. This project's own rule.
use Rattle.std.proofs.Common.{◌≡◌, ℕ, ◌+◌, Bool, List, None}
use Rattle.amounts.specs.Amounts.{total}
use Rattle.locations.specs.declared.relative.Location.{Location}
use Rattle.asset_lists.specs.declared.units.Asset.{Asset}
use Rattle.asset_lists.specs.Lists.{IsAssetList}
use Rattle.asset_lists.specs.Units.{Unit}
use Rattle.asset_bundles.specs.Bundles.{Bundle, bundle_of}
use Rattle.ledgers.specs.Ledgers.{Holder, Accounts, Withdrawn, shortage}
use Rattle.asset_bundles.specs.Traps.{Store, with_trapped, trapped_where}

-- what a withdrawal takes from accounts, of all holders that pass a test
abbrev pub Withdraws : Type 0
Withdraws = (ledger : Accounts) (who : List ℕ) (assets : List Asset) (p : Holder → Bool) → IsAssetList assets → shortage ledger.held who assets ≡ None
    → total p (Withdrawn who assets ledger).held + total (λ unit. p (who, unit)) (bundle_of assets) ≡ total p ledger.held

-- what trapping adds to the traps, of all units that pass a test
abbrev pub Trapping : Type 0
Trapping = (p : Unit → Bool) (store : Store) (origin : Location) (goods : Bundle) → trapped_where p (with_trapped store origin goods).traps ≡ trapped_where p store.traps + total p goods
