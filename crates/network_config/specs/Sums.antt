-- What accounts hold when a network opens, summed up over all chains. Source: this project's own rule.
use Rattle.std.specs.Prelude.{ℕ, ◌+◌, List, [], ◌∷◌, ◌++◌, length, sum_by, Bool, ◌&&◌, nat_lt, nat_le, Option, Some, None, Result, Ok, if◌then◌else◌}
use Rattle.std.specs.Ordering.{eq_by_cmp}
use Rattle.locations.specs.declared.grammar.NetworkId.{NetworkId}
use Rattle.locations.specs.declared.grammar.Junction.{Junction}
use Rattle.locations.specs.declared.relative.Location.{Location}
use Rattle.locations.specs.Order.{junctions_cmp}
use Rattle.locations.specs.Chains.{path_of}
use Rattle.asset_lists.specs.declared.units.Asset.{Asset}
use Rattle.asset_lists.specs.declared.units.AssetId.{AssetId}
use Rattle.asset_lists.specs.declared.units.AssetId.TheVariants.{Concrete, Abstract}
use Rattle.asset_lists.specs.Units.{unit_of, amount_of}
use Rattle.asset_lists.specs.Listed.{kind_of, same_kind}
use Rattle.trust_tables.specs.Chains.{path_of_site}
use Rattle.network_spec.specs.declared.chain.Balance.{Balance}
use Rattle.network_spec.specs.declared.chain.ChainSpec.{ChainSpec}
use Rattle.network_spec.specs.declared.network.NetworkSpec.{NetworkSpec}
use Rattle.document_entries.specs.declared.fault.NetworkFault.{NetworkFault}
use Rattle.document_entries.specs.declared.fault.NetworkFault.TheVariants.{LimitPassed}
use Rattle.document_entries.specs.declared.fault.Place.{Place}
use Rattle.document_entries.specs.declared.fault.Section.TheVariants.{Accounts}
use Rattle.document_entries.specs.Forms.{◌>>◌, where_true, next_index}
use Rattle.document_entries.specs.Entries.{amount_limit}
use Rattle.network_config.specs.declared.sums.Share.{Share}
use Rattle.network_config.specs.References.{document_place}

-- the path of an id, where it has one of at most eight junctions
abbrev pub path_at : List Junction → Location → Option (List Junction)
path_at context id = if nat_le id.parents (length context) && nat_le (length (path_of context id)) 8 then Some (path_of context id) else None

abbrev pub share_by : Place → Asset → Option (List Junction) → Option Share
share_by place asset None = None
share_by place asset (Some path) = Some (record { place = place; path = path; kind = kind_of (unit_of asset).1; amount = amount_of asset })

abbrev pub share_of_id : Place → List Junction → Asset → AssetId → Option Share
share_of_id place context asset (Concrete id) = share_by place asset (path_at context id)
share_of_id place context asset (Abstract bytes) = None

-- what an account's entry counts for; an instance counts as 1
abbrev pub share_of : Place → List Junction → Balance → Option Share
share_of place context balance = share_of_id place context balance.asset balance.asset.id

abbrev pub listed_with : Option Share → List Share → List Share
listed_with None shares = shares
listed_with (Some share) shares = share ∷ shares

-- those of a chain's accounts, from an index on
unfoldable pub shares_in : ℕ → List Junction → ℕ → List Balance → List Share
shares_in chain context i [] = []
shares_in chain context i (balance ∷ balances) = listed_with (share_of (document_place (Some chain) Accounts i) context balance) (shares_in chain context (next_index i) balances)

-- those of all chains, in the document's order
unfoldable pub shares_of : NetworkId → ℕ → List ChainSpec → List Share
shares_of network i [] = []
shares_of network i (c ∷ cs) = shares_in i (path_of_site (record { network = network; chain = c.chain })) 0 c.accounts ++ shares_of network (next_index i) cs

-- of one path and kind
abbrev pub same_asset : Share → Share → Bool
same_asset a b = eq_by_cmp junctions_cmp a.path b.path && same_kind a.kind b.kind

-- what an earlier share counts for beside this one
abbrev pub amount_of_same_asset : Share → Share → ℕ
amount_of_same_asset share other = if same_asset other share then other.amount else 0

-- the sum up to a share, over those of its path and kind
abbrev pub total_up_to : List Share → Share → ℕ
total_up_to earlier share = sum_by (amount_of_same_asset share) earlier + share.amount

-- no sum reaches the limit
unfoldable pub sums_in : List Share → List Share → Result (Unit {0}) NetworkFault
sums_in earlier [] = Ok tt
sums_in earlier (share ∷ shares) = where_true {X = Unit {0}} (LimitPassed share.place) (nat_lt (total_up_to earlier share) amount_limit) tt >> sums_in (earlier ++ share ∷ []) shares

unfoldable pub sums : NetworkSpec → Result (Unit {0}) NetworkFault
sums spec = sums_in [] (shares_of spec.network 0 spec.chains)
