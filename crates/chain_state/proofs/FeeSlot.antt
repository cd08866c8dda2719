-- A fee of one of the chain's channels has a row.
use Rattle.std.proofs.Common.{◌≡◌, ℕ, ◌+◌, ◌<◌, Bool, true, false, List, [], ◌∷◌, refl, sym, ap, ◌∙◌, subst, arith, inl, inr}
use Rattle.std.specs.Prelude.{Option, None, Some, option_and_then, is_none}
use Rattle.std.specs.Ordering.{eq_by_cmp}
use Rattle.std.proofs.lemmas.Bool.{and_from}
use Rattle.amounts.specs.Rows.{amount_if}
use Rattle.amounts.specs.Amounts.{amount, empty}
use Rattle.amounts.proofs.Lemmas.AmountLaws.{amount-empty}
use Rattle.amounts.proofs.Lemmas.{key_same}
use Rattle.asset_lists.specs.declared.units.Asset.{Asset}
use Rattle.asset_lists.specs.declared.units.Fun.{Fun}
use Rattle.asset_lists.specs.Units.{unit_of, unit_cmp, amount_of, instance_in}
use Rattle.asset_lists.specs.Listed.{listed_of, lists}
use Rattle.asset_bundles.specs.Bundles.{Bundle}
use Rattle.asset_bundles.proofs.Lemmas.Bundles.{unit_keys}
use Rattle.asset_bundles.proofs.Lemmas.BundleLaws.{amount-bundle_of}
use Rattle.trust_tables.specs.Trust.{listing}
use Rattle.channel_parts.specs.Channels.{Outgoing}
use Rattle.chain_state.specs.Fees.{Fee, is_coin, HaveRows, HaveRowsFor}
use Rattle.exec_base.specs.Part.{ChainPart}
use Rattle.exec_base.specs.Sending.{channel_to_location, leads_to_location}
use Rattle.exec_base.specs.Host.{is_price, IsFeeOf, IsFeeOrNothing}
use Rattle.network_steps.specs.Tests.{fee_is_price, has_price, have_prices}
use Rattle.chain_state.specs.ListedFees.{is_asset_listed, is_fee_listed, are_fees_listed}
use Rattle.chain_state.proofs.Found.{all_found}

-- nothing needs a row
pub nothing_rowed : (fees : List Fee) (goods : Bundle) → goods ≡ empty → HaveRowsFor fees goods
nothing_rowed fees goods none u some = (let zero : amount goods u ≡ 0 = ap (λ b. amount b u) none ∙ amount-empty unit_keys u in absurd (omega (arith, zero, some)))

no_instance : (fun : Fun) → is_price fun ≡ true → is_none (instance_in fun) ≡ true
no_instance (Fun.Fungible n) price = refl
no_instance (Fun.NonFungible instance) price = absurd (cc)

channel_with : (o : Option Outgoing) (fee : Asset) → option_and_then (λ (c : Outgoing). c.channel.fee) o ≡ Some fee → (c : Outgoing) × (o ≡ Some c) × (c.channel.fee ≡ Some fee)
channel_with None fee is = absurd (cc)
channel_with (Some c) fee is = (c, refl, is)

at_unit : (b : Bool) (n : ℕ) → 0 < amount_if b n + 0 → b ≡ true
at_unit true n some = refl
at_unit false n some = absurd (omega (arith, some))

fee_rowed : (p : ChainPart) (fees : List Fee) (goods : Bundle) → HaveRows (listing p.rows) fees → are_fees_listed (listing p.rows) p.channels ≡ true → have_prices p.channels ≡ true → IsFeeOf p goods → HaveRowsFor fees goods
fee_rowed p fees goods rows listed prices is u some =
    let dest = is.0 in
    let fee = is.1 in
    let with = channel_with (channel_to_location p dest) fee is.2 in
    let priced : is_price fee.fun ≡ true = ap fee_is_price (sym with.2) ∙ all_found has_price (leads_to_location p dest) p.channels with.0 prices with.1 in
    let there : lists (listing p.rows) (listed_of (unit_of fee)) ≡ true = ap (is_asset_listed (listing p.rows)) (sym with.2) ∙ all_found (is_fee_listed (listing p.rows)) (leads_to_location p dest) p.channels with.0 listed with.1 in
    let here : u ≡ unit_of fee = key_same unit_keys u (unit_of fee) (at_unit (eq_by_cmp unit_cmp u (unit_of fee)) (amount_of fee) (subst (λ n. 0 < n) (ap (λ b. amount b u) is.3 ∙ amount-bundle_of (fee ∷ []) u) some)) in
    rows u ∙ ap (is_coin (listing p.rows)) here ∙ and_from _ _ (no_instance fee.fun priced) there

pub slot_rowed : (p : ChainPart) (fees : List Fee) (goods : Bundle) → HaveRows (listing p.rows) fees → are_fees_listed (listing p.rows) p.channels ≡ true → have_prices p.channels ≡ true → IsFeeOrNothing p goods → HaveRowsFor fees goods
slot_rowed p fees goods rows listed prices (inl none) = nothing_rowed fees goods none
slot_rowed p fees goods rows listed prices (inr is) = fee_rowed p fees goods rows listed prices is
