-- The first world of a network, as conservation sees it, and that each of its chains is sound.
use Rattle.std.proofs.Common.{◌≡◌, ◌≤◌, ℕ, zero, suc, Bool, true, false, List, [], ◌∷◌, Option, Some, None, length, map, refl, sym, ap, ◌∙◌, subst, arith}
use Rattle.std.specs.Prelude.{◌||◌, nat_eq, if◌then◌else◌, slice_get}
use Rattle.std.specs.List.{All, AllByRecursion}
use Rattle.std.proofs.lemmas.Bool.{and_parts}
use Rattle.std.proofs.lemmas.Bool.Decides.{nat_tests}
use Rattle.amounts.specs.Rows.{amount_if, sum_where}
use Rattle.amounts.specs.Amounts.{amount, total, empty, merge}
use Rattle.amounts.proofs.Lemmas.AmountLaws.{same_amounts, amount-empty, total-empty}
use Rattle.amounts.proofs.Lemmas.{amount-from_rows, amount-merge}
use Rattle.std.specs.Ordering.{eq_by_cmp}
use Rattle.asset_lists.specs.declared.units.Asset.{Asset}
use Rattle.asset_lists.specs.declared.units.Fun.{Fun}
use Rattle.asset_lists.specs.declared.units.Fun.TheVariants as funs
use Rattle.asset_lists.specs.Lists.{IsAssetList}
use Rattle.asset_lists.specs.Units.{Unit, unit_cmp, amount_in}
use Rattle.asset_lists.specs.Listed.{Listed}
use Rattle.asset_bundles.specs.Bundles.{Bundle}
use Rattle.asset_bundles.proofs.Lemmas.Bundles.{unit_keys}
use Rattle.asset_bundles.specs.Books.{is_unit_where}
use Rattle.asset_bundles.proofs.Lemmas.{burn_keys}
use Rattle.ledgers.proofs.Lemmas.{holder_keys}
use Rattle.chain_ids.specs.declared.chain.ChainId.{ChainId}
use Rattle.chain_ids.specs.Chains.{same_chain}
use Rattle.chain_ids.proofs.Lemmas.{same_chain_told, same_chain_itself}
use Rattle.trust_tables.specs.declared.rows.AssetRow.{AssetRow}
use Rattle.trust_tables.specs.declared.rows.AssetRole.{AssetRole}
use Rattle.trust_tables.specs.Trust.{listing}
use Rattle.weight_trader.specs.declared.rate.Rate.{Rate}
use Rattle.weight_trader.specs.Purchases.{Line, coin_of, new_lines, paid_goods, AreRatesListed, AreWithinEnd}
use Rattle.channel_parts.specs.declared.channel.Channel.{Channel}
use Rattle.channel_parts.specs.Channels.{Outgoing, opened}
use Rattle.exec_base.specs.Host.{is_price}
use Rattle.law_coherence.specs.Causes.{ChainEntry, checking_in}
use Rattle.law_coherence.specs.Parts as sums
use Rattle.law_coherence.specs.Genesis as genesis
use Rattle.network_spec.specs.declared.chain.ChainSpec.{ChainSpec}
use Rattle.network_spec.specs.declared.network.ChannelSpec.{ChannelSpec}
use Rattle.network_spec.specs.declared.network.NetworkSpec.{NetworkSpec}
use Rattle.network_steps.specs.Tests.{role_checking, row_checking, is_rate_listed, are_rates_listed, fee_is_price}
use Rattle.network_steps.specs.Genesis.{site_of, channels_from, with_balances, part_at, member_of, first_world, entry_of, entries_of}
use Rattle.network_steps.specs.Openable.{IsOpenableChain, IsOpenableChannel}
use Rattle.network_steps.specs.Worlds.{Member}
use Rattle.law_steps.specs.Shapes.{NothingWaits}
use Rattle.law_runs.specs.Views.{channel_of, seen}
use Rattle.law_runs.specs.Sums.{in_kept, none}
use Rattle.law_runs.specs.Safety.{AreTrustedAt, links_of}
use Rattle.law_steps.specs.Views.{views}
use Rattle.law_steps.specs.Rooms.{unlisted, AllListed}
use Rattle.law_steps.specs.Soundness.{IsLink, IsSoundPart}
use Rattle.law_steps.proofs.Balances.{of_unlisted, none_unlisted}
use Rattle.plain_lists.proofs.Lemmas.Facts.{false_not_true as not_both}

-- ---- all elements
pub all_spelled : {A : Type 0} (P : A → Type 0) (x : A) (xs : List A) → All P (x ∷ xs) → P x × All P xs
all_spelled P x xs all = (all 0 x (omega arith), λ i d lt. all (suc i) d (omega (arith, lt)))

pub all_recursive : {A : Type 0} (P : A → Type 0) (xs : List A) → All P xs → AllByRecursion P xs
all_recursive P [] all = tt
all_recursive P (x ∷ xs) all = let parts = all_spelled P x xs all in (parts.0, all_recursive P xs parts.1)

-- ---- nothing is bought
nothing_paid : (u : Unit) (rates : List Rate) → sum_where (eq_by_cmp unit_cmp u) (map (λ (line : Line). (coin_of line.rate, line.paid)) (new_lines rates)) ≡ 0
nothing_paid u [] = refl
nothing_paid u (r ∷ rates) =
    let rest = nothing_paid u rates in
    let here : amount_if (eq_by_cmp unit_cmp u (coin_of r)) 0 ≡ 0 = no_amount (eq_by_cmp unit_cmp u (coin_of r)) in
    omega (arith, here, rest)
  where
    no_amount : (b : Bool) → amount_if b 0 ≡ 0
    no_amount true = refl
    no_amount false = refl

pub none_paid : (rates : List Rate) → paid_goods (new_lines rates) ≡ empty
unfolding paid_goods
none_paid rates = same_amounts unit_keys _ _ (λ u.
    let a = amount-from_rows unit_keys (map (λ (line : Line). (coin_of line.rate, line.paid)) (new_lines rates)) u in
    let b = nothing_paid u rates in
    let c = amount-empty unit_keys u in
    omega (arith, a, b, c))

no_fees : (rates : List Rate) → merge (merge (paid_goods (new_lines rates)) empty) empty ≡ empty
no_fees rates = same_amounts unit_keys _ _ (λ u.
    let x = amount-merge unit_keys (merge (paid_goods (new_lines rates)) empty) empty u in
    let y = amount-merge unit_keys (paid_goods (new_lines rates)) empty u in
    let p = ap (λ (b : Bundle). amount b u) (none_paid rates) in
    let z = amount-empty unit_keys u in
    omega (arith, x, y, p, z))

-- ---- as conservation sees it
abbrev pub links_in : NetworkSpec → ChainEntry → List ChainId
links_in spec e = map (λ (c : Channel). c.to) (channels_from e.table.site.chain spec.channels)

no_queues : (cs : List Channel) → map channel_of (map opened cs) ≡ genesis.empty_channels (map (λ (c : Channel). c.to) cs)
no_queues [] = refl
no_queues (c ∷ cs) = ap (λ (ds : List sums.Channel). let d : sums.Channel = record { to = c.to; queue = [] } in d ∷ ds) (no_queues cs)

pub same_role : (role : AssetRole) → role_checking role ≡ checking_in role
same_role (AssetRole.Native partners checking) = refl
same_role (AssetRole.Derivative reserve) = refl

same_accounts : (rows : List AssetRow) → map row_checking rows ≡ map (λ (row : AssetRow). checking_in row.role) rows
same_accounts [] = refl
same_accounts (row ∷ rows) = λ i. same_role row.role i ∷ same_accounts rows i

member_seen : (spec : NetworkSpec) (c : ChainSpec) → seen empty (part_at spec c) ≡ genesis.genesis_part (links_in spec) (entry_of spec c)
member_seen spec c = λ i. record (genesis.genesis_part (links_in spec) (entry_of spec c)) { fees = no_fees c.rates i; checking = same_accounts c.assets i; outgoing = no_queues (channels_from c.chain spec.channels) i }

all_seen : (spec : NetworkSpec) (cs : List ChainSpec) → views (map (member_of spec) cs) ≡ genesis.first_world_view (links_in spec) (map (entry_of spec) cs)
all_seen spec [] = refl
all_seen spec (c ∷ cs) = λ i. member_seen spec c i ∷ all_seen spec cs i

pub world_seen : (spec : NetworkSpec) → views (first_world spec) ≡ genesis.first_world_view (links_in spec) (entries_of spec)
world_seen spec = all_seen spec spec.chains

-- ---- each chain is sound
rates_hold : (listed : List Listed) (lines : List Line) → are_rates_listed listed lines ≡ true → AreRatesListed listed lines
rates_hold listed [] h = tt
rates_hold listed (line ∷ lines) h = let parts = and_parts (is_rate_listed listed line) (are_rates_listed listed lines) h in (parts.0, rates_hold listed lines parts.1)

none_within : (rates : List Rate) → AreWithinEnd (new_lines rates)
none_within [] = tt
none_within (r ∷ rates) = (omega arith, none_within rates)

nothing_trusted : (spec : NetworkSpec) (c : ChainSpec) (cs : List Channel) → AreTrustedAt (site_of spec c) c.assets (map opened cs)
nothing_trusted spec c [] = tt
nothing_trusted spec c (d ∷ cs) = ((λ name named. tt), nothing_trusted spec c cs)

same_links : (cs : List Channel) → links_of (map opened cs) ≡ cs
same_links [] = refl
same_links (c ∷ cs) = ap (λ (ds : List Channel). c ∷ ds) (same_links cs)

price_list : (fee : Asset) → is_price fee.fun ≡ true → IsAssetList (fee ∷ [])
price_list fee h = record { few = omega arith; no_zero = by_fun fee.fun h; rising = refl }
  where
    by_fun : (f : Fun) → is_price f ≡ true → (nat_eq (amount_in f) 0 || false) ≡ false
    by_fun (funs.Fungible n) h = grind (arith, nat_tests, h)
    by_fun (funs.NonFungible i) h = absurd cc

fee_list : (o : Option Asset) (fee : Asset) → fee_is_price o ≡ true → o ≡ Some fee → IsAssetList (fee ∷ [])
fee_list None fee h e = absurd cc
fee_list (Some a) fee h e = let same : a ≡ fee = cc in subst (λ (x : Asset). IsAssetList (x ∷ [])) same (price_list a h)

links_hold : (chains : List ChainSpec) (here : ChainId) (cs : List ChannelSpec) → AllByRecursion (IsOpenableChannel chains) cs → AllByRecursion (IsLink here) (channels_from here cs)
links_hold chains here [] all = tt
links_hold chains here (c ∷ cs) all =
    elim (same_chain c.from here) as (λ b. same_chain c.from here ≡ b → AllByRecursion (IsLink here) (if b then c.channel ∷ channels_from here cs else channels_from here cs)) [
      | true ↦ λ t. (
        record {
          fee = λ fee e. fee_list c.channel.fee fee all.0.price e;
          away = λ same. not_both (same_chain c.from c.channel.to) all.0.apart (ap (same_chain c.from) (same ∙ sym (same_chain_told c.from here t)) ∙ same_chain_itself c.from);
        },
        links_hold chains here cs all.1,
      )
      | false ↦ λ t. links_hold chains here cs all.1
    ] refl

listed_first : (spec : NetworkSpec) (c : ChainSpec) → total (of_unlisted c.assets) (with_balances empty c.accounts) ≡ 0 → AllListed none (part_at spec c)
unfolding in_kept
listed_first spec c held =
    let t = is_unit_where (unlisted c.assets) in
    let burns = total-empty burn_keys (λ burn. unlisted c.assets burn.0) in
    let paid = ap (total t) (none_paid c.rates) in
    let z = total-empty unit_keys t in
    omega (arith, held, burns, paid, z)

pub part_sound : (spec : NetworkSpec) (c : ChainSpec) → IsOpenableChain spec.network c → All (IsOpenableChannel spec.chains) spec.channels → IsSoundPart (part_at spec c)
part_sound spec c openable channels = record {
  rest = record { order = record { traps = tt; rates = rates_hold (listing c.assets) (new_lines c.rates) openable.rates; paid = none_within c.rates; pools = openable.pools; unparked = refl }; slot = refl };
  cargo = refl;
  listed = listed_first spec c (none_unlisted c.assets empty c.accounts (total-empty holder_keys (of_unlisted c.assets)) openable.balances);
  trusted = nothing_trusted spec c (channels_from c.chain spec.channels);
  links = subst (AllByRecursion (IsLink c.chain)) (sym (same_links (channels_from c.chain spec.channels))) (links_hold spec.chains c.chain spec.channels (all_recursive (IsOpenableChannel spec.chains) spec.channels channels));
}

same_member : (x y : Member) → Some x ≡ Some y → x ≡ y
same_member x y e = cc

pub parts_sound : (spec : NetworkSpec) (cs : List ChainSpec) → AllByRecursion (IsOpenableChain spec.network) cs → All (IsOpenableChannel spec.chains) spec.channels → (k : ℕ) (m : Member) → slice_get (map (member_of spec) cs) k ≡ Some m → IsSoundPart m.part
parts_sound spec [] all channels k m at = absurd cc
parts_sound spec (c ∷ cs) all channels zero m at = subst (λ (y : Member). IsSoundPart y.part) (same_member (member_of spec c) m at) (part_sound spec c all.0 channels)
parts_sound spec (c ∷ cs) all channels (suc k) m at = parts_sound spec cs all.1 channels k m at

-- ---- few pools
pub few_pools_in : (spec : NetworkSpec) (cs : List ChainSpec) → AllByRecursion (IsOpenableChain spec.network) cs → (k : ℕ) (m : Member) → slice_get (map (member_of spec) cs) k ≡ Some m → length m.part.pools ≤ 16
few_pools_in spec [] all k m at = absurd cc
few_pools_in spec (c ∷ cs) all zero m at = subst (λ (y : Member). length y.part.pools ≤ 16) (same_member (member_of spec c) m at) all.0.few_pools
few_pools_in spec (c ∷ cs) all (suc k) m at = few_pools_in spec cs all.1 k m at

-- ---- nothing waits
none_wait : (cs : List Channel) → AllByRecursion (λ (c : Outgoing). c.queue ≡ []) (map opened cs)
none_wait [] = tt
none_wait (c ∷ cs) = (refl, none_wait cs)

pub nothing_waits : (spec : NetworkSpec) (cs : List ChainSpec) → NothingWaits (map (member_of spec) cs)
nothing_waits spec [] = tt
nothing_waits spec (c ∷ cs) = (none_wait (channels_from c.chain spec.channels), nothing_waits spec cs)
