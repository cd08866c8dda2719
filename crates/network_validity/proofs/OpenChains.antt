-- A valid network's chains can open.
use Rattle.std.specs.Prelude.{ℕ, ◌≤◌, List, [], ◌∷◌, length, Bool, true, false, not, ◌&&◌, ◌||◌, nat_lt, nat_le, Some, None, if◌then◌else◌}
use Rattle.std.specs.List.{list_any, list_all, count_by, AllByRecursion, IsDistinct}
use Rattle.std.specs.Ordering.{eq_by_cmp, nat_cmp}
use Rattle.std.proofs.Common.{◌≡◌, ◌∙◌, refl, sym, ap, arith}
use Rattle.std.proofs.lemmas.Bool.{and_parts, and_from, or_parts, not-false, ltb-false, leb-true, le-leb, false≢true, false_from_ne_true}
use Rattle.std.proofs.lemmas.List.Sums.{sum_by-cons}
use Rattle.locations.specs.declared.grammar.NetworkId.{NetworkId}
use Rattle.locations.specs.declared.grammar.Junction.{Junction}
use Rattle.locations.specs.declared.relative.Location.{Location}
use Rattle.locations.specs.Chains.{path_of}
use Rattle.locations.specs.Order.{location_cmp}
use Rattle.locations.proofs.Lemmas.OrderLaws.{location_decides}
use Rattle.asset_lists.specs.declared.units.Asset.{Asset}
use Rattle.asset_lists.specs.declared.units.AssetId.TheVariants.{Concrete}
use Rattle.asset_lists.specs.declared.units.Fun.{Fun}
use Rattle.asset_lists.specs.declared.units.Fun.TheVariants as funs
use Rattle.asset_lists.specs.declared.units.Kind.{Kind}
use Rattle.asset_lists.specs.declared.units.Kind.TheVariants.{Fungible, Class}
use Rattle.asset_lists.specs.Units.{amount_in}
use Rattle.asset_lists.specs.Listed.{kind_number, listed_cmp, lists}
use Rattle.asset_lists.proofs.Lemmas.{same_kind_says}
use Rattle.chain_ids.specs.declared.chain.ChainId.{ChainId}
use Rattle.trust_tables.specs.declared.rows.AssetRow.{AssetRow}
use Rattle.trust_tables.specs.declared.rows.AssetRole.{AssetRole}
use Rattle.trust_tables.specs.declared.rows.AssetRole.TheVariants.{Native, Derivative}
use Rattle.trust_tables.specs.Accounts.{IsChain}
use Rattle.trust_tables.specs.Chains.{path_of_site}
use Rattle.trust_tables.specs.Trust.{is_row_of, listed_row, listing}
use Rattle.trust_tables.proofs.Lemmas.TrustLaws.{row_listed}
use Rattle.asset_pools.specs.declared.pool.Pool.{Pool}
use Rattle.asset_pools.specs.Spending.{ArePoolsListed}
use Rattle.weight_trader.specs.declared.rate.Rate.{Rate}
use Rattle.weight_trader.specs.Purchases.{is_in, new_lines}
use Rattle.network_spec.specs.declared.chain.Balance.{Balance}
use Rattle.network_spec.specs.declared.chain.ChainSpec.{ChainSpec}
use Rattle.network_spec.specs.Networks.{same_holding}
use Rattle.document_entries.specs.Entries.{amount_limit}
use Rattle.network_config.specs.References.{same_location, lists_fungible, names_others, rate_flaws, asset_flaws, account_flaws, same_pair, names_two, pool_flaws}
use Rattle.network_config.specs.Valid.{is_between, fits_role, fits_fun, fits_asset, fits_lists, fits_entries, fits_rules, fits_chain}
use Rattle.network_steps.specs.Tests.{have_paths, role_checking, may_check, may_have_checkings, is_low, have_low_checkings, are_rates_listed, past_amounts, is_balance}
use Rattle.network_steps.specs.Openable.{IsOpenableChain}
use Rattle.network_config.proofs.Lemmas.Faultless.{all_sound, alone, apart, chain_sound}
use Rattle.plain_lists.proofs.Lemmas.Facts.{first_apart}

-- ---- rows

abbrev same_row : AssetRow → AssetRow → Bool
same_row a b = same_location a.id b.id

other_listed : (row : AssetRow) (rows : List AssetRow) → AllByRecursion (λ (y : AssetRow). same_row row y ≡ false) rows → AllByRecursion (λ y. eq_by_cmp listed_cmp (listed_row row) y ≡ false) (listing rows)
other_listed row [] h = tt
other_listed row (y ∷ ys) h = (first_apart (location_cmp row.id y.id) (nat_cmp (kind_number row.kind) (kind_number y.kind)) h.0, other_listed row ys h.1)

listed_apart : (rows : List AssetRow) → IsDistinct same_row rows → IsDistinct (eq_by_cmp listed_cmp) (listing rows)
unfolding IsDistinct
listed_apart [] d = tt
listed_apart (row ∷ rows) d = (other_listed row rows d.0, listed_apart rows d.1)

-- what is wrong with a row alone
abbrev is_bad_row : List ChainSpec → List Junction → ChainId → AssetRow → Bool
is_bad_row chains context here row = not (names_others chains here row.role) || nat_lt (length context) row.id.parents

abbrev is_past_row : List Junction → AssetRow → Bool
is_past_row context row = nat_lt 8 (length (path_of context row.id))

paths_had : (chains : List ChainSpec) (context : List Junction) (here : ChainId) (rows : List AssetRow)
    → AllByRecursion (λ (row : AssetRow). (is_bad_row chains context here row ≡ false) × (is_past_row context row ≡ false)) rows → have_paths context rows ≡ true
paths_had chains context here [] h = refl
paths_had chains context here (row ∷ rows) h =
    let placed = ltb-false (length context) row.id.parents (or_parts _ _ h.0.0).1 in
    let short = ltb-false 8 (length (path_of context row.id)) h.0.1 in
    and_from _ _ (and_from _ _ (le-leb row.id.parents (length context) placed) (le-leb (length (path_of context row.id)) 8 short)) (paths_had chains context here rows h.1)

may_check_role : (kind : Kind) (role : AssetRole) → fits_role kind role ≡ true → may_check kind (role_checking role) ≡ true
may_check_role Fungible role h = refl
may_check_role Class (Derivative reserve) h = refl
may_check_role Class (Native partners None) h = refl
may_check_role Class (Native partners (Some checking)) h = absurd (false≢true h)

may_have : (rows : List AssetRow) → list_all (λ (row : AssetRow). fits_role row.kind row.role) rows ≡ true → may_have_checkings rows ≡ true
may_have [] h = refl
may_have (row ∷ rows) h = let parts = and_parts _ _ h in and_from _ _ (may_check_role row.kind row.role parts.0) (may_have rows parts.1)

low_role : (kind : Kind) (role : AssetRole) → fits_role kind role ≡ true → is_low (role_checking role) ≡ true
unfolding amount_limit
low_role kind (Derivative reserve) h = refl
low_role kind (Native partners None) h = refl
low_role Fungible (Native partners (Some checking)) h = h
low_role Class (Native partners (Some checking)) h = absurd (false≢true h)

all_low : (rows : List AssetRow) → list_all (λ (row : AssetRow). fits_role row.kind row.role) rows ≡ true → have_low_checkings rows ≡ true
all_low [] h = refl
all_low (row ∷ rows) h = let parts = and_parts _ _ h in and_from _ _ (low_role row.kind row.role parts.0) (all_low rows parts.1)

-- ---- rates

abbrev same_rate : Rate → Rate → Bool
same_rate a b = same_location a.asset b.asset

abbrev counts : Bool → ℕ
counts b = if b then 1 else 0

none_in : (asset : Location) (rate : Rate) (rates : List Rate) → rate.asset ≡ asset → AllByRecursion (λ (y : Rate). same_rate rate y ≡ false) rates → count_by (is_in asset) rates ≡ 0
none_in asset rate [] e h = refl
none_in asset rate (y ∷ ys) e h =
    let other : is_in asset y ≡ false = false_from_ne_true (is_in asset y) (λ t. false≢true (sym h.0 ∙ (location_decides rate.asset y.asset).1 (e ∙ sym ((location_decides y.asset asset).0 t)))) in
    let here : counts (is_in asset y) ≡ 0 = ap counts other in
    let rest = none_in asset rate ys e h.1 in
    omega (arith, sum_by-cons (λ x. counts (is_in asset x)) y ys, here, rest)

named_once : (rates : List Rate) → IsDistinct same_rate rates → (asset : Location) → count_by (is_in asset) rates ≤ 1
unfolding IsDistinct
named_once [] d asset = omega arith
named_once (rate ∷ rates) d asset =
    let counted = sum_by-cons (λ x. counts (is_in asset x)) rate rates in
    elim (is_in asset rate) as (λ b. is_in asset rate ≡ b → count_by (is_in asset) (rate ∷ rates) ≤ 1) [
      | true ↦ λ e.
          let here : counts (is_in asset rate) ≡ 1 = ap counts e in
          let rest = none_in asset rate rates ((location_decides rate.asset asset).0 e) d.0 in
          omega (arith, counted, here, rest)
      | false ↦ λ e.
          let here : counts (is_in asset rate) ≡ 0 = ap counts e in
          let rest = named_once rates d.1 asset in
          omega (arith, counted, here, rest)
    ] refl

coin_asset : Location → Asset
coin_asset id = record { id = Concrete id; fun = funs.Fungible 0 }

row_of_coin : (id : Location) (row : AssetRow) → lists_fungible id row ≡ true → eq_by_cmp listed_cmp (Concrete id, Fungible) (listed_row row) ≡ true
unfolding coin_asset
row_of_coin id row h =
    let parts = and_parts _ _ h in
    let ids : row.id ≡ id = (location_decides row.id id).0 parts.0 in
    let kinds : row.kind ≡ Fungible = (same_kind_says row.kind Fungible).0 parts.1 in
    row_listed (coin_asset id) row
    ∙ and_from _ _ ((location_decides id row.id).1 (sym ids)) ((same_kind_says Fungible row.kind).1 (sym kinds))

coin_listed : (id : Location) (rows : List AssetRow) → list_any (lists_fungible id) rows ≡ true → lists (listing rows) (Concrete id, Fungible) ≡ true
coin_listed id [] h = absurd (false≢true h)
coin_listed id (row ∷ rows) h =
    elim (lists_fungible id row) as (λ b. lists_fungible id row ≡ b → (b || list_any (lists_fungible id) rows) ≡ true → lists (listing (row ∷ rows)) (Concrete id, Fungible) ≡ true) [
      | true ↦ λ e g. ap (λ b. b || lists (listing rows) (Concrete id, Fungible)) (row_of_coin id row e)
      | false ↦ λ e g. or_more _ _ (coin_listed id rows g)
    ] refl h
  where
    or_more : (a b : Bool) → b ≡ true → (a || b) ≡ true
    or_more true b t = refl
    or_more false b t = t

rates_listed : (rows : List AssetRow) (rates : List Rate) → AllByRecursion (λ (rate : Rate). (not (list_any (lists_fungible rate.asset) rows) ≡ false) × (false ≡ false)) rates
    → are_rates_listed (listing rows) (new_lines rates) ≡ true
rates_listed rows [] h = refl
rates_listed rows (rate ∷ rates) h = and_from _ _ (coin_listed rate.asset rows (not-false _ h.0.0)) (rates_listed rows rates h.1)

-- ---- balances

an_amount : (fun : Fun) → fits_fun fun ≡ true → (nat_lt 0 (amount_in fun) && nat_lt (amount_in fun) past_amounts) ≡ true
unfolding amount_limit
an_amount (funs.Fungible amount) h = h
an_amount (funs.NonFungible instance) h = refl

are_balances : (rows : List AssetRow) (accounts : List Balance) → AllByRecursion (λ (b : Balance). (not (list_any (is_row_of b.asset) rows) ≡ false) × (false ≡ false)) accounts
    → list_all (λ (b : Balance). fits_asset b.asset) accounts ≡ true → list_all (is_balance rows) accounts ≡ true
are_balances rows [] h f = refl
are_balances rows (b ∷ bs) h f =
    let parts = and_parts _ _ f in
    and_from _ _ (and_from _ _ (not-false _ h.0.0) (an_amount b.asset.fun (and_parts _ _ parts.0).1)) (are_balances rows bs h.1 parts.1)

-- ---- pools

pools_listed : (rows : List AssetRow) (pools : List Pool) → AllByRecursion (λ (pool : Pool). (not (names_two rows pool) ≡ false) × (false ≡ false)) pools
    → ArePoolsListed (listing rows) pools
pools_listed rows [] h = tt
pools_listed rows (pool ∷ pools) h =
    let two = and_parts _ _ (and_parts _ _ (not-false _ h.0.0)).1 in
    ((coin_listed pool.first rows two.0, coin_listed pool.second rows two.1), pools_listed rows pools h.1)

-- ---- a chain

pub record IsSoundChain (chains : List ChainSpec) (network : NetworkId) (c : ChainSpec) : Type 0 where
  pub rates : all_sound (rate_flaws c.assets) [] c.rates ≡ true
  pub assets : all_sound (asset_flaws chains network c.chain) [] c.assets ≡ true
  pub accounts : all_sound (account_flaws c.assets) [] c.accounts ≡ true
  pub pools : all_sound (pool_flaws c.assets) [] c.pools ≡ true

pub sound_parts : (chains : List ChainSpec) (network : NetworkId) (c : ChainSpec) → chain_sound chains network c ≡ true → IsSoundChain chains network c
unfolding chain_sound
sound_parts chains network c h =
    let rates = and_parts _ _ h in
    let assets = and_parts _ _ rates.1 in
    let accounts = and_parts _ _ assets.1 in
    let pallets = and_parts _ _ accounts.1 in
    let queries = and_parts _ _ pallets.1 in
    record { rates = rates.0; assets = assets.0; accounts = accounts.0; pools = queries.1 }

abbrev context_at : NetworkId → ChainSpec → List Junction
context_at network c = path_of_site (record { network = network; chain = c.chain })

pub rows_alone : (chains : List ChainSpec) (network : NetworkId) (c : ChainSpec) → chain_sound chains network c ≡ true → have_paths (context_at network c) c.assets ≡ true
rows_alone chains network c h =
    paths_had chains (context_at network c) c.chain c.assets
    (alone same_row (is_bad_row chains (context_at network c) c.chain) (is_past_row (context_at network c)) [] c.assets (sound_parts chains network c h).assets)

pub chain_opens : (chains : List ChainSpec) (network : NetworkId) (c : ChainSpec) → IsChain c.chain → fits_chain c ≡ true → chain_sound chains network c ≡ true → IsOpenableChain network c
chain_opens chains network c named fits h =
    let sound = sound_parts chains network c h in
    let fitting = and_parts (fits_rules c) (fits_lists c && fits_entries c) fits in
    let held_most = and_parts (nat_le 20 c.max_holding) _ (and_parts (is_between 1 100 c.rules.max_instructions) (is_between 20 64 c.max_holding) fitting.0).1 in
    let lists_and_entries = and_parts (fits_lists c) (fits_entries c) fitting.1 in
    let few = and_parts (nat_le (length c.assets) 128) (nat_le (length c.pallets) 64 && nat_le (length c.pools) 16) lists_and_entries.0 in
    let few_others = and_parts (nat_le (length c.pallets) 64) (nat_le (length c.pools) 16) few.1 in
    let entries = and_parts _ _ lists_and_entries.1 in
    let roles = and_parts _ _ entries.1 in
    let held = and_parts _ _ roles.1 in
    record {
      named = named;
      listed_once = listed_apart c.assets (apart same_row (is_bad_row chains (context_at network c) c.chain) (is_past_row (context_at network c)) [] c.assets sound.assets);
      few_assets = leb-true (length c.assets) 128 few.0;
      paths = rows_alone chains network c h;
      checkings = may_have c.assets roles.0;
      room = leb-true 20 c.max_holding held_most.0;
      priced_once = named_once c.rates (apart same_rate (λ (rate : Rate). not (list_any (lists_fungible rate.asset) c.assets)) (λ rate. false) [] c.rates sound.rates);
      rates = rates_listed c.assets c.rates (alone same_rate (λ (rate : Rate). not (list_any (lists_fungible rate.asset) c.assets)) (λ rate. false) [] c.rates sound.rates);
      few_pallets = leb-true (length c.pallets) 64 few_others.0;
      few_pools = leb-true (length c.pools) 16 few_others.1;
      pools = pools_listed c.assets c.pools (alone same_pair (λ (pool : Pool). not (names_two c.assets pool)) (λ pool. false) [] c.pools sound.pools);
      balances = are_balances c.assets c.accounts (alone same_holding (λ (b : Balance). not (list_any (is_row_of b.asset) c.assets)) (λ b. false) [] c.accounts sound.accounts) held.0;
      low_checkings = all_low c.assets roles.0;
      held_once = apart same_holding (λ (b : Balance). not (list_any (is_row_of b.asset) c.assets)) (λ b. false) [] c.accounts sound.accounts;
    }
