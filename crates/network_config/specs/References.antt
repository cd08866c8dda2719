-- What entries of a document say of one another: an entry says nothing anew, names what is there, and no sum is too large.
-- Source: this project's own rule.
use Rattle.std.specs.Prelude.{ℕ, List, [], ◌∷◌, ◌++◌, length, Bool, true, false, not, ◌&&◌, ◌||◌, ◌==◌, nat_lt, Option, Some, None, Result, Ok, Err, if◌then◌else◌}
use Rattle.std.specs.List.{list_any, list_all}
use Rattle.std.specs.Ordering.{eq_by_cmp}
use Rattle.chain_ids.specs.declared.chain.ChainId.{ChainId}
use Rattle.chain_ids.specs.declared.chain.ChainId.TheVariants.{Relay}
use Rattle.chain_ids.specs.Chains.{same_chain}
use Rattle.locations.specs.declared.grammar.NetworkId.{NetworkId}
use Rattle.locations.specs.declared.relative.Location.{Location}
use Rattle.locations.specs.Order.{location_cmp}
use Rattle.locations.specs.Chains.{path_of}
use Rattle.asset_lists.specs.declared.units.Asset.{Asset}
use Rattle.asset_lists.specs.declared.units.Kind.TheVariants.{Fungible}
use Rattle.asset_lists.specs.Listed.{same_kind}
use Rattle.trust_tables.specs.declared.rows.AssetRole.{AssetRole}
use Rattle.trust_tables.specs.declared.rows.AssetRole.TheVariants.{Native, Derivative}
use Rattle.trust_tables.specs.declared.rows.AssetRow.{AssetRow}
use Rattle.trust_tables.specs.Chains.{path_of_site}
use Rattle.trust_tables.specs.Trust.{is_row_of}
use Rattle.asset_pools.specs.declared.pool.Pool.{Pool}
use Rattle.weight_trader.specs.declared.rate.Rate.{Rate}
use Rattle.operands.specs.declared.pallet.PalletInfo.{PalletInfo}
use Rattle.network_spec.specs.declared.chain.Balance.{Balance}
use Rattle.network_spec.specs.declared.chain.ChainSpec.{ChainSpec}
use Rattle.network_spec.specs.declared.network.ChannelSpec.{ChannelSpec}
use Rattle.network_spec.specs.declared.network.NetworkSpec.{NetworkSpec}
use Rattle.network_spec.specs.Networks.{same_holding}
use Rattle.document_entries.specs.declared.fault.NetworkFault.{NetworkFault}
use Rattle.document_entries.specs.declared.fault.NetworkFault.TheVariants.{Repeated, BadValue, LimitPassed}
use Rattle.document_entries.specs.declared.fault.Place.{Place}
use Rattle.document_entries.specs.declared.fault.Section.{Section}
use Rattle.document_entries.specs.declared.fault.Section.TheVariants.{Fields, Rates, Assets, Accounts, Pallets, Queries, Pools, Channels}
use Rattle.document_entries.specs.Forms.{◌>>◌, next_index}
use Rattle.network_config.specs.declared.checks.Flaws.{Flaws}

-- the fault of an entry with these flaws
abbrev pub flaw_at : Place → Flaws → Result (Unit {0}) NetworkFault
flaw_at place flaws =
    if flaws.repeated then Err (Repeated place)
    else if flaws.bad then Err (BadValue place)
    else if flaws.past then Err (LimitPassed place)
    else Ok tt

abbrev pub document_place : Option ℕ → Section → ℕ → Place
document_place chain section index = record { chain = chain; section = section; index = index }

-- each entry, by its flaws beside the earlier ones
unfoldable pub each_in : {X : Type 0} → (List X → X → Flaws) → Option ℕ → Section → ℕ → List X → List X → Result (Unit {0}) NetworkFault
each_in flaws chain section i earlier [] = Ok tt
each_in flaws chain section i earlier (x ∷ xs) = flaw_at (document_place chain section i) (flaws earlier x) >> each_in flaws chain section (next_index i) (earlier ++ x ∷ []) xs

-- ---- chains that are there

-- the relay chain is always there
abbrev pub is_there : List ChainSpec → ChainId → Bool
is_there chains chain = same_chain chain Relay || list_any (λ c. same_chain c.chain chain) chains

-- a chain that is there, and another than this
abbrev pub is_other_chain : List ChainSpec → ChainId → ChainId → Bool
is_other_chain chains here chain = not (same_chain here chain) && is_there chains chain

-- ---- each kind of entry

abbrev pub same_location : Location → Location → Bool
same_location a b = eq_by_cmp location_cmp a b

-- whether the row lists the id as an asset that has amounts
abbrev pub lists_fungible : Location → AssetRow → Bool
lists_fungible id row = same_location row.id id && same_kind row.kind Fungible

abbrev pub rate_flaws : List AssetRow → List Rate → Rate → Flaws
rate_flaws rows earlier rate = record {
  repeated = list_any (λ other. same_location other.asset rate.asset) earlier;
  bad = not (list_any (lists_fungible rate.asset) rows);
  past = false;
}

abbrev pub names_others : List ChainSpec → ChainId → AssetRole → Bool
names_others chains here (Native partners checking) = list_all (is_other_chain chains here) partners
names_others chains here (Derivative reserve) = is_other_chain chains here reserve

abbrev pub asset_flaws : List ChainSpec → NetworkId → ChainId → List AssetRow → AssetRow → Flaws
asset_flaws chains network here earlier row = record {
  repeated = list_any (λ other. same_location other.id row.id) earlier;
  bad = not (names_others chains here row.role) || nat_lt (length (path_of_site (record { network = network; chain = here }))) row.id.parents;
  past = nat_lt 8 (length (path_of (path_of_site (record { network = network; chain = here })) row.id));
}

abbrev pub account_flaws : List AssetRow → List Balance → Balance → Flaws
account_flaws rows earlier balance = record {
  repeated = list_any (λ other. same_holding other balance) earlier;
  bad = not (list_any (is_row_of balance.asset) rows);
  past = false;
}

abbrev pub pallet_flaws : List PalletInfo → PalletInfo → Flaws
pallet_flaws earlier pallet = record { repeated = list_any (λ other. other.index == pallet.index) earlier; bad = false; past = false }

abbrev pub query_flaws : List ChainSpec → ChainId → List (ℕ × ChainId) → ℕ × ChainId → Flaws
query_flaws chains here earlier query = record {
  repeated = list_any (λ other. (other.0 == query.0) && same_chain other.1 query.1) earlier;
  bad = not (is_other_chain chains here query.1);
  past = false;
}

-- the two are of the same two assets, in whichever order
abbrev pub same_pair : Pool → Pool → Bool
same_pair a b =
    (same_location a.first b.first && same_location a.second b.second)
    || (same_location a.first b.second && same_location a.second b.first)

-- its assets are two, both of amounts
abbrev pub names_two : List AssetRow → Pool → Bool
names_two rows pool =
    not (same_location pool.first pool.second)
    && (list_any (lists_fungible pool.first) rows && list_any (lists_fungible pool.second) rows)

abbrev pub pool_flaws : List AssetRow → List Pool → Pool → Flaws
pool_flaws rows earlier pool = record {
  repeated = list_any (λ other. same_pair other pool) earlier;
  bad = not (names_two rows pool);
  past = false;
}

-- the sender lists the asset of the fee
abbrev pub sender_lists_fee : List ChainSpec → ChainId → Option Asset → Bool
sender_lists_fee chains from None = true
sender_lists_fee chains from (Some fee) = list_any (λ c. same_chain c.chain from && list_any (is_row_of fee) c.assets) chains

abbrev pub channel_flaws : List ChainSpec → List ChannelSpec → ChannelSpec → Flaws
channel_flaws chains earlier c = record {
  repeated = list_any (λ other. same_chain other.from c.from && same_chain other.channel.to c.channel.to) earlier;
  bad = not (is_there chains c.from) || (not (is_other_chain chains c.from c.channel.to) || not (sender_lists_fee chains c.from c.channel.fee));
  past = false;
}

-- ---- the document

abbrev pub chain_flaws : List ChainSpec → ChainSpec → Flaws
chain_flaws earlier c = record { repeated = list_any (λ other. same_chain other.chain c.chain) earlier; bad = false; past = false }

unfoldable pub chain_references : List ChainSpec → NetworkId → ℕ → List ChainSpec → ChainSpec → Result (Unit {0}) NetworkFault
chain_references chains network i earlier c = do
  flaw_at (document_place (Some i) Fields 0) (chain_flaws earlier c)
  each_in (rate_flaws c.assets) (Some i) Rates 0 [] c.rates
  each_in (asset_flaws chains network c.chain) (Some i) Assets 0 [] c.assets
  each_in (account_flaws c.assets) (Some i) Accounts 0 [] c.accounts
  each_in pallet_flaws (Some i) Pallets 0 [] c.pallets
  each_in (query_flaws chains c.chain) (Some i) Queries 0 [] c.queries
  each_in (pool_flaws c.assets) (Some i) Pools 0 [] c.pools

unfoldable pub chains_references : List ChainSpec → NetworkId → ℕ → List ChainSpec → List ChainSpec → Result (Unit {0}) NetworkFault
chains_references chains network i earlier [] = Ok tt
chains_references chains network i earlier (c ∷ cs) = chain_references chains network i earlier c >> chains_references chains network (next_index i) (earlier ++ c ∷ []) cs

unfoldable pub references : NetworkSpec → Result (Unit {0}) NetworkFault
references spec = do
  chains_references spec.chains spec.network 0 [] spec.chains
  each_in (channel_flaws spec.chains) None Channels 0 [] spec.channels
