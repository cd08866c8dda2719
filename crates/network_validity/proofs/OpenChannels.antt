-- A valid network's channels can open.
use Rattle.std.specs.Prelude.{List, [], ◌∷◌, Bool, true, false, not, ◌&&◌, ◌||◌, Option, Some, None, IsTrue}
use Rattle.std.specs.List.{list_any, list_all, All, AllByRecursion, IsDistinct}
use Rattle.std.proofs.Common.{◌≡◌, ◌∙◌, refl, sym, subst}
use Rattle.std.proofs.lemmas.Bool.{and_parts, or_parts, or_left, not-false, not-true, false≢true, false_from_ne_true}
use Rattle.std.proofs.lemmas.List.Elements.{All-from_recursion}
use Rattle.asset_lists.specs.declared.units.Asset.{Asset}
use Rattle.asset_lists.specs.declared.units.Fun.{Fun}
use Rattle.asset_lists.specs.declared.units.Fun.TheVariants.{Fungible, NonFungible}
use Rattle.chain_ids.specs.declared.chain.ChainId.{ChainId}
use Rattle.chain_ids.specs.declared.chain.ChainId.TheVariants.{Relay, Para}
use Rattle.chain_ids.specs.Chains.{same_chain}
use Rattle.trust_tables.specs.Trust.{is_row_of}
use Rattle.network_spec.specs.declared.chain.ChainSpec.{ChainSpec}
use Rattle.network_spec.specs.declared.network.ChannelSpec.{ChannelSpec}
use Rattle.network_spec.specs.Networks.{rises, is_in_order, has_chain}
use Rattle.network_config.specs.References as references
use Rattle.network_config.specs.References.{is_there, is_other_chain, channel_flaws}
use Rattle.network_config.specs.Valid.{fits_fun, fits_asset, has_place, is_fungible_amount, fits_fee, fits_channel}
use Rattle.network_config.proofs.Lemmas.Faultless.{all_sound, alone, apart}
use Rattle.network_config.proofs.Lemmas.Arranged.{same_told, same_name, order_rises, rising_once}
use Rattle.exec_base.specs.Host.{is_price}
use Rattle.network_steps.specs.Tests.{fee_is_price, lists_fee, same_link}
use Rattle.network_steps.specs.Openable.{IsOpenableChannel}

-- ---- chains that are there

relay_there : (chains : List ChainSpec) → is_in_order chains ≡ true → has_chain chains Relay ≡ true
relay_there [] h = absurd (false≢true h)
relay_there (c ∷ cs) h = or_left (same_chain c.chain Relay) (has_chain cs Relay) (and_parts (same_chain c.chain Relay) (rises c.chain cs) h).0

there : (chains : List ChainSpec) (chain : ChainId) → is_in_order chains ≡ true → is_there chains chain ≡ true → has_chain chains chain ≡ true
there chains Relay order h = relay_there chains order
there chains (Para n) order h = h

-- ---- the sender's table

-- no other chain has the name of one
none_named : (c : ChainSpec) (cs : List ChainSpec) (from : ChainId) → same_chain c.chain from ≡ true → AllByRecursion (λ (d : ChainSpec). same_name c d ≡ false) cs
    → AllByRecursion (λ (d : ChainSpec). same_chain d.chain from ≡ false) cs
none_named c [] from e h = tt
none_named c (d ∷ ds) from e h =
    let other : same_chain d.chain from ≡ false =
    false_from_ne_true (same_chain d.chain from) (λ t. false≢true (sym h.0 ∙ subst (λ a. same_chain c.chain a ≡ true) (sym (same_told d.chain from t)) e)) in
    (other, none_named c ds from e h.1)

module _ (q : ChainSpec → Bool) (from : ChainId) where
  none_found : (cs : List ChainSpec) → AllByRecursion (λ (d : ChainSpec). same_chain d.chain from ≡ false) cs → list_any (λ (d : ChainSpec). same_chain d.chain from && q d) cs ≡ false
  none_found [] h = refl
  none_found (d ∷ ds) h = (λ i. (h.0 i && q d) || none_found ds h.1 i)

  vacuous : (cs : List ChainSpec) → AllByRecursion (λ (d : ChainSpec). same_chain d.chain from ≡ false) cs → AllByRecursion (λ (d : ChainSpec). same_chain d.chain from ≡ true → q d ≡ true) cs
  vacuous [] h = tt
  vacuous (d ∷ ds) h = (λ t. absurd (false≢true (sym h.0 ∙ t)), vacuous ds h.1)

  -- where one chain of the name passes, each does
  each_named : (cs : List ChainSpec) → IsDistinct same_name cs → list_any (λ (d : ChainSpec). same_chain d.chain from && q d) cs ≡ true → AllByRecursion (λ (d : ChainSpec). same_chain d.chain from ≡ true → q d ≡ true) cs
  unfolding IsDistinct
  each_named [] d h = tt
  each_named (c ∷ cs) d h = by (same_chain c.chain from) refl h (each_named cs d.1)
    where
      only : (a b : Bool) → b ≡ false → (a || b) ≡ true → a ≡ true
      only true b n g = refl
      only false b n g = absurd (false≢true (sym n ∙ g))

      by : (b : Bool) → same_chain c.chain from ≡ b → ((b && q c) || list_any (λ (d : ChainSpec). same_chain d.chain from && q d) cs) ≡ true
          → (list_any (λ (d : ChainSpec). same_chain d.chain from && q d) cs ≡ true → AllByRecursion (λ (d : ChainSpec). same_chain d.chain from ≡ true → q d ≡ true) cs)
          → AllByRecursion (λ (d : ChainSpec). same_chain d.chain from ≡ true → q d ≡ true) (c ∷ cs)
      by true e g rest =
          let others = none_named c cs from e d.0 in
          let here : q c ≡ true = only (q c) (list_any (λ (d : ChainSpec). same_chain d.chain from && q d) cs) (none_found cs others) g in
          (λ t. here, vacuous cs others)
      by false e g rest = (λ t. absurd (false≢true (sym e ∙ t)), rest g)

sender_lists : (chains : List ChainSpec) (from : ChainId) (fee : Option Asset) → IsDistinct same_name chains → references.sender_lists_fee chains from fee ≡ true
    → AllByRecursion (λ (d : ChainSpec). same_chain d.chain from ≡ true → lists_fee d.assets fee ≡ true) chains
sender_lists chains from None d h = free chains
  where
    free : (cs : List ChainSpec) → AllByRecursion (λ (d : ChainSpec). same_chain d.chain from ≡ true → true ≡ true) cs
    free [] = tt
    free (c ∷ cs) = (λ t. refl, free cs)
sender_lists chains from (Some fee) d h = each_named (λ (c : ChainSpec). list_any (is_row_of fee) c.assets) from chains d h

-- ---- a fee

fun_price : (fun : Fun) → fits_fun fun ≡ true → is_fungible_amount fun ≡ true → is_price fun ≡ true
fun_price (Fungible amount) h a = (and_parts _ _ h).0
fun_price (NonFungible instance) h a = absurd (false≢true a)

fee_price : (fee : Option Asset) → fits_fee fee ≡ true → fee_is_price fee ≡ true
fee_price None h = refl
fee_price (Some fee) h =
    let parts = and_parts (fits_asset fee) (is_fungible_amount fee.fun) h in
    fun_price fee.fun (and_parts (has_place fee.id) (fits_fun fee.fun) parts.0).1 parts.1

-- ---- channels

abbrev is_bad_channel : List ChainSpec → ChannelSpec → Bool
is_bad_channel chains c = not (is_there chains c.from) || (not (is_other_chain chains c.from c.channel.to) || not (references.sender_lists_fee chains c.from c.channel.fee))

channel_opens : (chains : List ChainSpec) (c : ChannelSpec) → is_in_order chains ≡ true → is_bad_channel chains c ≡ false → fits_channel c ≡ true → IsOpenableChannel chains c
channel_opens chains c order h fits =
    let parts = or_parts (not (is_there chains c.from)) _ h in
    let rest = or_parts (not (is_other_chain chains c.from c.channel.to)) (not (references.sender_lists_fee chains c.from c.channel.fee)) parts.1 in
    let other = and_parts (not (same_chain c.from c.channel.to)) (is_there chains c.channel.to) (not-false _ rest.0) in
    let limits = and_parts _ _ (and_parts _ _ fits).1 in
    record {
      from = there chains c.from order (not-false _ parts.0);
      to = there chains c.channel.to order other.1;
      apart = not-true _ other.0;
      price = fee_price c.channel.fee limits.1;
      listed = All-from_recursion (λ (d : ChainSpec). same_chain d.chain c.from ≡ true → IsTrue (lists_fee d.assets c.channel.fee)) chains
          (sender_lists chains c.from c.channel.fee (rising_once chains (order_rises chains order)) (not-false _ rest.1));
    }

all_open : (chains : List ChainSpec) (cs : List ChannelSpec) → is_in_order chains ≡ true → AllByRecursion (λ (c : ChannelSpec). (is_bad_channel chains c ≡ false) × (false ≡ false)) cs → list_all fits_channel cs ≡ true
    → AllByRecursion (IsOpenableChannel chains) cs
all_open chains [] order h fits = tt
all_open chains (c ∷ cs) order h fits =
    let parts = and_parts (fits_channel c) (list_all fits_channel cs) fits in
    (channel_opens chains c order h.0.0 parts.0, all_open chains cs order h.1 parts.1)

pub channels_open : (chains : List ChainSpec) (cs : List ChannelSpec) → is_in_order chains ≡ true → all_sound (channel_flaws chains) [] cs ≡ true → list_all fits_channel cs ≡ true → All (IsOpenableChannel chains) cs
channels_open chains cs order h fits =
    All-from_recursion (IsOpenableChannel chains) cs (all_open chains cs order (alone same_link (is_bad_channel chains) (λ c. false) [] cs h) fits)

pub channels_once : (chains : List ChainSpec) (cs : List ChannelSpec) → all_sound (channel_flaws chains) [] cs ≡ true → IsDistinct same_link cs
channels_once chains cs h = apart same_link (is_bad_channel chains) (λ c. false) [] cs h
