-- A chain from its entry of the document.
use Rattle.std.proofs.Common.{◌≡◌, Bool, true, false, if◌then◌else◌, List, [], ◌∷◌, map, refl, sym, ap, ◌∙◌, subst, true≢false}
use Rattle.std.specs.Prelude.{Option, None, Some, is_some}
use Rattle.std.specs.List.{AllByRecursion, find}
use Rattle.std.proofs.lemmas.Bool.{and_parts, and_from}
use Rattle.std.proofs.lemmas.List.Elements.{recursion_from_All}
use Rattle.chain_ids.specs.declared.chain.ChainId.{ChainId}
use Rattle.chain_ids.specs.Chains.{same_chain}
use Rattle.chain_ids.proofs.Lemmas.{same_chain_told, same_chain_itself}
use Rattle.asset_lists.specs.declared.units.Asset.{Asset}
use Rattle.trust_tables.specs.declared.rows.AssetRow.{AssetRow}
use Rattle.trust_tables.specs.Trust.{is_row_of, listing}
use Rattle.trust_tables.proofs.Lemmas.TrustLaws.{listing_says}
use Rattle.channel_parts.specs.Channels.{opened}
use Rattle.network_spec.specs.declared.chain.ChainSpec.{ChainSpec}
use Rattle.network_spec.specs.declared.network.ChannelSpec.{ChannelSpec}
use Rattle.network_steps.specs.Tests.{row_checking, may_check, may_have_checkings, have_prices, lists_fee}
use Rattle.network_steps.specs.Genesis.{channels_from}
use Rattle.network_steps.specs.Openable.{IsOpenableChannel}
use Rattle.chain_state.specs.Checked.{are_checked}
use Rattle.chain_state.specs.ListedFees.{is_asset_listed, are_fees_listed}
use Rattle.chain_state.proofs.Balances.{any_found}

-- what all are, the one that is found is
pub found_so : {A : Type 0} (P : A → Type 0) (p : A → Bool) (xs : List A) (x : A) → AllByRecursion P xs → find p xs ≡ Some x → P x
found_so P p [] x all is = absurd (cc)
found_so {A} P p (y ∷ ys) x all is =
    elim (p y) as (λ b. (if b then Some y else find p ys) ≡ Some x → P x) [
      | true ↦ λ e. (let same : y ≡ x = cc in subst P same all.0)
      | false ↦ λ e. found_so P p ys x all.1 e
    ] is

-- row by row
pub checked_rows : (rows : List AssetRow) → may_have_checkings rows ≡ true → are_checked rows (map row_checking rows) ≡ true
checked_rows [] may = refl
checked_rows (row ∷ rows) may = (let parts = and_parts (may_check row.kind (row_checking row)) (may_have_checkings rows) may in and_from _ _ parts.0 (checked_rows rows parts.1))

-- the fee of each channel is a price
pub prices_from : (chains : List ChainSpec) (from : ChainId) (list : List ChannelSpec) → AllByRecursion (IsOpenableChannel chains) list → have_prices (map opened (channels_from from list)) ≡ true
prices_from chains from [] all = refl
prices_from chains from (c ∷ cs) all =
    elim (same_chain c.from from) as (λ b. have_prices (map opened (if b then c.channel ∷ channels_from from cs else channels_from from cs)) ≡ true) [
      | true ↦ and_from _ _ all.0.price (prices_from chains from cs all.1)
      | false ↦ prices_from chains from cs all.1
    ]

-- and each is in an asset that the chain lists
fee_in : (rows : List AssetRow) (fee : Option Asset) → lists_fee rows fee ≡ true → is_asset_listed (listing rows) fee ≡ true
fee_in rows None is = refl
fee_in rows (Some fee) is = listing_says rows fee ∙ any_found (is_row_of fee) rows ∙ is

-- what all channels are, by what each says of all chains
pub fees_from : (chains : List ChainSpec) (entry : ChainSpec) (list : List ChannelSpec) → AllByRecursion (IsOpenableChannel chains) list → ((c : ChannelSpec) → IsOpenableChannel chains c → same_chain c.from entry.chain ≡ true → lists_fee entry.assets c.channel.fee ≡ true)
    → are_fees_listed (listing entry.assets) (map opened (channels_from entry.chain list)) ≡ true
fees_from chains entry [] all so = refl
fees_from chains entry (c ∷ cs) all so =
    elim (same_chain c.from entry.chain) as (λ b. same_chain c.from entry.chain ≡ b → are_fees_listed (listing entry.assets) (map opened (if b then c.channel ∷ channels_from entry.chain cs else channels_from entry.chain cs)) ≡ true) [
      | true ↦ λ e. and_from _ _ (fee_in entry.assets c.channel.fee (so c all.0 e)) (fees_from chains entry cs all.1 so)
      | false ↦ λ e. fees_from chains entry cs all.1 so
    ] refl

same_back : (a b : ChainId) → same_chain a b ≡ true → same_chain b a ≡ true
same_back a b same = ap (λ x. same_chain b x) (same_chain_told a b same) ∙ same_chain_itself b

pub lists_its_fee : (chains : List ChainSpec) (test : ChainSpec → Bool) (entry : ChainSpec) → find test chains ≡ Some entry → (c : ChannelSpec) → IsOpenableChannel chains c → same_chain c.from entry.chain ≡ true → lists_fee entry.assets c.channel.fee ≡ true
lists_its_fee chains test entry found c is from =
    found_so (λ (d : ChainSpec). same_chain d.chain c.from ≡ true → lists_fee d.assets c.channel.fee ≡ true) test chains entry
    (recursion_from_All (λ (d : ChainSpec). same_chain d.chain c.from ≡ true → lists_fee d.assets c.channel.fee ≡ true) chains is.listed) found (same_back c.from entry.chain from)

pub none_is_some : {A : Type 0} (o : Option A) → o ≡ None → is_some o ≡ true → ⊥
none_is_some o none some = true≢false (sym some ∙ ap is_some none)
