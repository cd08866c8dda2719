-- In the first world each checking account has room for all that its chain has.
use Rattle.std.proofs.Common.{◌≡◌, ℕ, zero, suc, ◌^◌, ◌<◌, ◌≤◌, Bool, true, false, List, [], ◌∷◌, Option, Some, None, map, refl, sym, ap, ◌∙◌, subst, arith}
use Rattle.std.specs.Prelude.{◌||◌, if◌then◌else◌, nat_eq, nat_lt, slice_get}
use Rattle.std.specs.List.{All, AllByRecursion, list_all}
use Rattle.std.specs.Option.{option_map}
use Rattle.std.proofs.lemmas.Bool.{and_from, and_parts}
use Rattle.std.proofs.lemmas.Bool.Decides.{nat_tests}
use Rattle.std.proofs.lemmas.List.Elements.{All-head, All-tail}
use Rattle.std.proofs.lemmas.Option.{slice_get-map}
use Rattle.amounts.specs.Amounts.{total}
use Rattle.amounts.proofs.Lemmas.AmountLaws.{total_at_most, total-empty}
use Rattle.amounts.proofs.Lemmas.{key_same, total-from_rows, one_at_most}
use Rattle.amounts.specs.Rows.{amount_if, sum_where}
use Rattle.locations.proofs.Lemmas.OrderLaws.{junctions_decides}
use Rattle.asset_lists.specs.declared.units.Asset.{Asset}
use Rattle.asset_lists.specs.declared.units.Fun.{Fun}
use Rattle.asset_lists.specs.declared.units.Fun.TheVariants as funs
use Rattle.asset_lists.specs.declared.units.Kind.{Kind}
use Rattle.asset_lists.proofs.Lemmas.{same_kind_says}
use Rattle.asset_lists.specs.Listed.{listed_of}
use Rattle.asset_lists.specs.Lists.{IsAssetList}
use Rattle.asset_lists.specs.Units.{Unit, amount_in}
use Rattle.asset_bundles.proofs.Lemmas.Bundles.{unit_keys}
use Rattle.asset_bundles.proofs.Lemmas.{listed_keys}
use Rattle.chain_ids.specs.declared.chain.ChainId.{ChainId}
use Rattle.chain_ids.specs.Chains.{same_chain}
use Rattle.trust_tables.specs.declared.rows.AssetRole.{AssetRole}
use Rattle.trust_tables.specs.declared.rows.AssetRow.{AssetRow}
use Rattle.trust_tables.specs.Trust.{listed_row}
use Rattle.ledgers.specs.Ledgers.{Holder}
use Rattle.weight_trader.specs.declared.rate.Rate.{Rate}
use Rattle.weight_trader.specs.Laws.{NewLinesAreWithinEnd}
use Rattle.weight_trader.specs.Purchases.{Line, coin_of, new_lines, paid_goods}
use Rattle.channel_parts.specs.Channels.{opened}
use Rattle.law_coherence.specs.UniversalAssets.{UniversalAsset, every, is_asset_at, is_unit_at}
use Rattle.law_coherence.specs.Networks.{Table, context_of, path_of_row, asset_of_row, is_native_role}
use Rattle.law_coherence.specs.Causes.{ChainEntry, amount_at}
use Rattle.exec_base.specs.Host.{is_price}
use Rattle.network_spec.specs.declared.chain.ChainSpec.{ChainSpec}
use Rattle.network_spec.specs.declared.network.ChannelSpec.{ChannelSpec}
use Rattle.network_spec.specs.declared.network.NetworkSpec.{NetworkSpec}
use Rattle.network_steps.specs.Tests.{role_checking, row_checking, may_check, is_low, past_amounts, fee_is_price}
use Rattle.network_steps.specs.Genesis.{channels_from, part_at, member_of, first_world, entry_of, entries_of}
use Rattle.network_steps.specs.Openable.{IsOpenableChain, IsOpenableChannel, IsOpenable}
use Rattle.network_steps.specs.Worlds.{Member}
use Rattle.law_runs.specs.Safety.{AreFees}
use Rattle.law_runs.specs.Sums.{in_kept, none}
use Rattle.law_authority.specs.Floors.{AllInOrder}
use Rattle.law_audits.specs.Ends.{is_of_row, AreBelowEnd}
use Rattle.law_audits.proofs.Calls.{AreNative, IsBounded}
use Rattle.law_audits.proofs.Runs.{IsBoundedPart}

-- ---- rows and their accounts
same_account : (x y : Option ℕ) → Some x ≡ Some y → x ≡ y
same_account x y e = cc

-- the account at an index is its row's
account_at : (rows : List AssetRow) (place : ℕ) (row : AssetRow) (n : ℕ) → slice_get rows place ≡ Some row → slice_get (map row_checking rows) place ≡ Some (Some n) → row_checking row ≡ Some n
account_at rows place row n at there = same_account (row_checking row) (Some n) (sym (slice_get-map row_checking rows place ∙ ap (option_map row_checking) at) ∙ there)

same_row : (x y : AssetRow) → Some x ≡ Some y → x ≡ y
same_row x y e = cc

holds_at : (test : AssetRow → Bool) (rows : List AssetRow) (place : ℕ) (row : AssetRow) → list_all test rows ≡ true → slice_get rows place ≡ Some row → test row ≡ true
holds_at test [] place row all at = absurd (cc at)
holds_at test (r ∷ rs) zero row all at = ap test (sym (same_row r row at)) ∙ (and_parts (test r) (list_all test rs) all).0
holds_at test (r ∷ rs) (suc place) row all at = holds_at test rs place row (and_parts (test r) (list_all test rs) all).1 at

native_by : (role : AssetRole) (n : ℕ) → role_checking role ≡ Some n → is_native_role role ≡ true
native_by (AssetRole.Native partners checking) n e = refl
native_by (AssetRole.Derivative reserve) n e = absurd (cc e)

fungible_by : (kind : Kind) (n : ℕ) (o : Option ℕ) → o ≡ Some n → may_check kind o ≡ true → kind ≡ Kind.Fungible
fungible_by Kind.Fungible n o e may = refl
fungible_by Kind.Class n None e may = absurd (cc e)
fungible_by Kind.Class n (Some m) e may = absurd (cc may)

low_by : (n : ℕ) (o : Option ℕ) → o ≡ Some n → is_low o ≡ true → n < 2 ^ 127
low_by n None e low = absurd (cc e)
low_by n (Some m) e low = let same : m ≡ n = cc in let lt : m < 2 ^ 127 = below m low in omega (arith, lt, same)
  where
    below : (m : ℕ) → nat_lt m (2 ^ 127) ≡ true → m < 2 ^ 127
    below m h = grind (arith, nat_tests, h)

-- ---- what accounts hold
row_asset : (t : Table) (row : AssetRow) (unit : Unit) → is_of_row row unit ≡ true → is_unit_at (context_of t) (asset_of_row t row) every unit ≡ true
row_asset t row unit is =
    let same = key_same listed_keys (listed_of unit) (listed_row row) is in
    let path = (junctions_decides (path_of_row t row) (path_of_row t row)).1 refl in
    let kind = (same_kind_says row.kind row.kind).1 refl in
    let here : is_asset_at (context_of t) (asset_of_row t row) (listed_row row) ≡ true = and_from _ _ path kind in
    and_from _ true (ap (is_asset_at (context_of t) (asset_of_row t row)) same ∙ here) refl

held_few : (e : ChainEntry) (row : AssetRow) → total (λ (h : Holder). is_of_row row h.1) e.held ≤ amount_at (asset_of_row e.table row) every e
held_few e row = total_at_most (λ (h : Holder). is_of_row row h.1) (λ (h : Holder). is_unit_at (context_of e.table) (asset_of_row e.table row) every h.1) e.held (λ h is. row_asset e.table row h.1 is)

-- nothing is bought
none_bought : (q : Unit → Bool) (rates : List Rate) → sum_where q (map (λ (line : Line). (coin_of line.rate, line.paid)) (new_lines rates)) ≡ 0
none_bought q [] = refl
none_bought q (r ∷ rates) = let rest = none_bought q rates in let here = no_amount (q (coin_of r)) in omega (arith, here, rest)
  where
    no_amount : (b : Bool) → amount_if b 0 ≡ 0
    no_amount true = refl
    no_amount false = refl

none_paid : (q : Unit → Bool) (rates : List Rate) → total q (paid_goods (new_lines rates)) ≡ 0
unfolding paid_goods
none_paid q rates = total-from_rows unit_keys q (map (λ (line : Line). (coin_of line.rate, line.paid)) (new_lines rates)) ∙ none_bought q rates

below_first : (spec : NetworkSpec) (c : ChainSpec) → IsOpenableChain spec.network c → ((a : UniversalAsset) → amount_at a every (entry_of spec c) < past_amounts) → AreBelowEnd none (part_at spec c)
unfolding in_kept
below_first spec c openable small place row n at there =
    let t = (entry_of spec c).table in
    let low = low_by n (row_checking row) (account_at c.assets place row n at there) (holds_at (λ (row : AssetRow). is_low (row_checking row)) c.assets place row openable.low_checkings at) in
    let few = held_few (entry_of spec c) row in
    let some = small (asset_of_row t row) in
    let paid = none_paid (is_of_row row) c.rates in
    let z = total-empty unit_keys (is_of_row row) in
    omega (arith, low, few, some, paid, z)

native_first : (spec : NetworkSpec) (c : ChainSpec) → IsOpenableChain spec.network c → AreNative (part_at spec c)
native_first spec c openable place row n at there =
    let is = account_at c.assets place row n at there in
    (native_by row.role n is, fungible_by row.kind n (row_checking row) is (holds_at (λ (row : AssetRow). may_check row.kind (row_checking row)) c.assets place row openable.checkings at))

-- ---- delivery fees
price_list : (fee : Asset) → is_price fee.fun ≡ true → IsAssetList (fee ∷ [])
price_list fee h = record { few = omega arith; no_zero = by_fun fee.fun h; rising = refl }
  where
    by_fun : (f : Fun) → is_price f ≡ true → (nat_eq (amount_in f) 0 || false) ≡ false
    by_fun (funs.Fungible n) h = grind (arith, nat_tests, h)
    by_fun (funs.NonFungible i) h = absurd (cc h)

fee_list : (o : Option Asset) (fee : Asset) → fee_is_price o ≡ true → o ≡ Some fee → IsAssetList (fee ∷ [])
fee_list None fee h e = absurd (cc e)
fee_list (Some a) fee h e = let same : a ≡ fee = cc in subst (λ (x : Asset). IsAssetList (x ∷ [])) same (price_list a h)

fees_first : (chains : List ChainSpec) (here : ChainId) (cs : List ChannelSpec) → All (IsOpenableChannel chains) cs → AreFees (map opened (channels_from here cs))
fees_first chains here [] all = tt
fees_first chains here (c ∷ cs) all = by_sender (same_chain c.from here) (fees_first chains here cs (All-tail (IsOpenableChannel chains) c cs all))
  where
    by_sender : (b : Bool) → AreFees (map opened (channels_from here cs)) → AreFees (map opened (if b then c.channel ∷ channels_from here cs else channels_from here cs))
    by_sender true rest = (λ fee e. fee_list c.channel.fee fee (All-head (IsOpenableChannel chains) c cs all).price e, rest)
    by_sender false rest = rest

-- ---- each chain
part_bounded : NewLinesAreWithinEnd → (spec : NetworkSpec) (c : ChainSpec) → All (IsOpenableChannel spec.chains) spec.channels → IsOpenableChain spec.network c
    → ((a : UniversalAsset) → amount_at a every (entry_of spec c) < past_amounts) → IsBounded none (part_at spec c)
part_bounded within spec c channels openable small = record {
  apart = openable.listed_once;
  native = native_first spec c openable;
  fees = fees_first spec.chains c.chain spec.channels channels;
  paid = within c.rates;
  below = below_first spec c openable small;
}

parts_sound : NewLinesAreWithinEnd → (spec : NetworkSpec) → All (IsOpenableChannel spec.chains) spec.channels → (cs : List ChainSpec) → All (IsOpenableChain spec.network) cs
    → ((place : ℕ) (e : ChainEntry) → slice_get (map (entry_of spec) cs) place ≡ Some e → (a : UniversalAsset) → amount_at a every e < past_amounts)
    → AllInOrder (map (member_of spec) cs) → AllByRecursion (λ (m : Member). IsBoundedPart m.part) (map (member_of spec) cs)
parts_sound within spec channels [] openable small waits = tt
parts_sound within spec channels (c ∷ cs) openable small waits = (
  (part_bounded within spec c channels (All-head (IsOpenableChain spec.network) c cs openable) (small 0 (entry_of spec c) refl), waits.0),
  parts_sound within spec channels cs (All-tail (IsOpenableChain spec.network) c cs openable) (λ place. small (suc place)) waits.1,
)

pub first_sound : NewLinesAreWithinEnd → (spec : NetworkSpec) → IsOpenable spec → AllInOrder (first_world spec) → AllByRecursion (λ (m : Member). IsBoundedPart m.part) (first_world spec)
first_sound within spec openable waits =
    parts_sound within spec openable.channels spec.chains openable.chains
    (λ place e at a. let some = one_at_most (λ (e : ChainEntry). amount_at a every e) (entries_of spec) place e at in let all = openable.small a in omega (arith, some, all)) waits
