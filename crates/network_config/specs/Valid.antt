-- When a network is valid: a document can name it, its chains are in order, each value is in its range, no list is too long, no entry says anew what an
-- earlier one has said or names what isn't there, and no sum is too large. Source: this project's own rule.
use Rattle.std.specs.Prelude.{ℕ, length, Bool, true, false, ◌&&◌, nat_lt, nat_le, Option, Some, None, is_ok}
use Rattle.std.specs.List.{list_all}
use Rattle.std.specs.Str.{is_utf8}
use Rattle.locations.specs.declared.grammar.NetworkId.{NetworkId}
use Rattle.locations.specs.declared.grammar.NetworkId.TheVariants.{ByGenesis, Polkadot, Kusama, Westend, Rococo, Wococo}
use Rattle.asset_lists.specs.declared.units.Asset.{Asset}
use Rattle.asset_lists.specs.declared.units.AssetId.{AssetId}
use Rattle.asset_lists.specs.declared.units.AssetId.TheVariants.{Concrete, Abstract}
use Rattle.asset_lists.specs.declared.units.Fun.{Fun}
use Rattle.asset_lists.specs.declared.units.Fun.TheVariants.{Fungible, NonFungible}
use Rattle.asset_lists.specs.declared.units.Kind.{Kind}
use Rattle.asset_lists.specs.declared.units.Kind.TheVariants as kinds
use Rattle.trust_tables.specs.declared.rows.AssetRole.{AssetRole}
use Rattle.trust_tables.specs.declared.rows.AssetRole.TheVariants.{Native, Derivative}
use Rattle.asset_pools.specs.declared.pool.Pool.{Pool}
use Rattle.weight_trader.specs.declared.rate.Rate.{Rate}
use Rattle.operands.specs.declared.pallet.PalletInfo.{PalletInfo}
use Rattle.network_spec.specs.declared.chain.ChainSpec.{ChainSpec}
use Rattle.network_spec.specs.declared.network.ChannelSpec.{ChannelSpec}
use Rattle.network_spec.specs.declared.network.NetworkSpec.{NetworkSpec}
use Rattle.network_spec.specs.Networks.{is_in_order}
use Rattle.document_entries.specs.Entries.{rate_limit, amount_limit}
use Rattle.network_config.specs.References.{references}
use Rattle.network_config.specs.Sums.{sums}

abbrev pub is_between : ℕ → ℕ → ℕ → Bool
is_between low high n = nat_le low n && nat_le n high

abbrev pub fits_rate : Rate → Bool
fits_rate rate = nat_lt rate.per_second rate_limit && nat_lt rate.per_mb rate_limit

-- only a native asset that has amounts has a checking account
abbrev pub fits_role : Kind → AssetRole → Bool
fits_role kind (Derivative reserve) = true
fits_role kind (Native partners None) = true
fits_role kinds.Fungible (Native partners (Some checking)) = nat_lt checking amount_limit
fits_role kinds.Class (Native partners (Some checking)) = false

-- an amount is above 0
abbrev pub fits_fun : Fun → Bool
fits_fun (Fungible amount) = nat_lt 0 amount && nat_lt amount amount_limit
fits_fun (NonFungible instance) = true

-- a location defines the asset
abbrev pub has_place : AssetId → Bool
has_place (Concrete location) = true
has_place (Abstract bytes) = false

abbrev pub fits_asset : Asset → Bool
fits_asset asset = has_place asset.id && fits_fun asset.fun

abbrev pub fits_pallet : PalletInfo → Bool
fits_pallet pallet = is_utf8 pallet.name && is_utf8 pallet.module_name

-- something of what is given counts
abbrev pub fits_pool : Pool → Bool
fits_pool pool = is_between 0 999 pool.fee

abbrev pub fits_lists : ChainSpec → Bool
fits_lists c = nat_le (length c.assets) 128 && (nat_le (length c.pallets) 64 && nat_le (length c.pools) 16)

abbrev pub fits_rules : ChainSpec → Bool
fits_rules c = is_between 1 100 c.rules.max_instructions && is_between 20 64 c.max_holding

abbrev pub fits_entries : ChainSpec → Bool
fits_entries c = list_all fits_rate c.rates
    && (list_all (λ row. fits_role row.kind row.role) c.assets
    && (list_all (λ balance. fits_asset balance.asset) c.accounts
    && (list_all fits_pallet c.pallets && list_all fits_pool c.pools)))

abbrev pub fits_chain : ChainSpec → Bool
fits_chain c = fits_rules c && (fits_lists c && fits_entries c)

abbrev pub is_fungible_amount : Fun → Bool
is_fungible_amount (Fungible amount) = true
is_fungible_amount (NonFungible instance) = false

abbrev pub fits_fee : Option Asset → Bool
fits_fee None = true
fits_fee (Some fee) = fits_asset fee && is_fungible_amount fee.fun

abbrev pub fits_channel : ChannelSpec → Bool
fits_channel c = is_between 1 32 c.channel.capacity && (is_between 1 65536 c.channel.max_size && fits_fee c.channel.fee)

abbrev pub fits : NetworkSpec → Bool
fits spec = nat_le (length spec.chains) 64 && (nat_le (length spec.channels) 256 && (list_all fits_chain spec.chains && list_all fits_channel spec.channels))

-- one of the five networks that a document names, or one that it tells by the hash of its first block
abbrev pub is_named : NetworkId → Bool
is_named (ByGenesis hash) = true
is_named Polkadot = true
is_named Kusama = true
is_named Westend = true
is_named Rococo = true
is_named Wococo = true
is_named _ = false

-- in a network that a document can name, in order, in range, and without a fault among its entries
abbrev pub is_valid : NetworkSpec → Bool
is_valid spec = is_named spec.network && (is_in_order spec.chains && (fits spec && (is_ok (references spec) && is_ok (sums spec))))
