-- The list of assets of a message that arrives, as this chain names it.
use Rattle.std.specs.Prelude.{Bool, false, List, Option, Some, None, option_and_then}
use Rattle.std.specs.Ordering.{eq_by_cmp}
use Rattle.locations.specs.declared.relative.Location.{Location}
use Rattle.chain_ids.specs.declared.chain.ChainId.{ChainId}
use Rattle.asset_lists.specs.declared.units.Asset.{Asset}
use Rattle.asset_lists.specs.Units.{assets_cmp}
use Rattle.asset_lists.specs.Moves.{reanchored_list}
use Rattle.trust_tables.specs.declared.chains.Site.{Site}
use Rattle.trust_tables.specs.Chains.{path_of_site, location_of}

-- the list of another chain as this chain names it
unfoldable pub arrived_list : Site → ChainId → List Asset → Option (List Asset)
arrived_list site sender xs =
    option_and_then (λ (target : Location). reanchored_list target (path_of_site (record { network = site.network; chain = sender })) xs) (location_of sender site.chain)

abbrev pub is_this_list : List Asset → Option (List Asset) → Bool
is_this_list xs None = false
is_this_list xs (Some ys) = eq_by_cmp assets_cmp ys xs
