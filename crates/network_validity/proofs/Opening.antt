-- What is valid can open.
use Rattle.std.specs.Prelude.{◌<◌, List, [], ◌∷◌, length, true, ◌&&◌, nat_le, is_ok}
use Rattle.std.specs.List.{list_all, All, AllByRecursion}
use Rattle.std.proofs.Common.{◌≡◌, ◌∙◌, sym, subst}
use Rattle.std.proofs.lemmas.Bool.{and_parts, leb-true}
use Rattle.std.proofs.lemmas.List.Elements.{All-from_recursion, recursion_from_All}
use Rattle.locations.specs.declared.grammar.NetworkId.{NetworkId}
use Rattle.trust_tables.specs.Accounts.{IsChain}
use Rattle.network_spec.specs.declared.chain.ChainSpec.{ChainSpec}
use Rattle.network_spec.specs.declared.network.NetworkSpec.{NetworkSpec}
use Rattle.network_spec.specs.Networks.{is_in_order}
use Rattle.document_entries.specs.Entries.{amount_limit}
use Rattle.network_config.specs.References.{channel_flaws, chain_flaws, references}
use Rattle.network_config.specs.Sums.{sums}
use Rattle.network_config.specs.Valid.{fits_chain, fits_channel, fits, is_named, is_valid}
use Rattle.network_config.proofs.Lemmas.Faultless.{all_sound, chain_sound, ok_references}
use Rattle.network_config.proofs.Lemmas.Summed.{ok_sums}
use Rattle.network_steps.specs.Tests.{past_amounts}
use Rattle.network_steps.specs.Openable.{IsOpenableChain, IsOpenable}
use Rattle.network_validity.proofs.OpenChains.{chain_opens}
use Rattle.network_validity.proofs.OpenChannels.{channels_open, channels_once}
use Rattle.network_validity.proofs.OpenSums.{of_chains}

chains_open : (chains : List ChainSpec) (network : NetworkId) (cs : List ChainSpec) → AllByRecursion (λ (c : ChainSpec). IsChain c.chain) cs → list_all fits_chain cs ≡ true → list_all (chain_sound chains network) cs ≡ true
    → AllByRecursion (IsOpenableChain network) cs
chains_open chains network [] named fits sound = tt
chains_open chains network (c ∷ cs) named fits sound =
    let f = and_parts (fits_chain c) (list_all fits_chain cs) fits in
    let s = and_parts (chain_sound chains network c) (list_all (chain_sound chains network) cs) sound in
    (chain_opens chains network c named.0 f.0 s.0, chains_open chains network cs named.1 f.1 s.1)

pub opens : (spec : NetworkSpec) → All (λ (c : ChainSpec). IsChain c.chain) spec.chains → is_valid spec ≡ true → IsOpenable spec
unfolding amount_limit
opens spec named valid =
    let order = and_parts (is_in_order spec.chains) (fits spec && (is_ok (references spec) && is_ok (sums spec))) (and_parts (is_named spec.network) _ valid).1 in
    let fitting = and_parts (fits spec) (is_ok (references spec) && is_ok (sums spec)) order.1 in
    let faultless = and_parts (is_ok (references spec)) (is_ok (sums spec)) fitting.1 in
    let sound = and_parts (all_sound chain_flaws [] spec.chains && list_all (chain_sound spec.chains spec.network) spec.chains) (all_sound (channel_flaws spec.chains) [] spec.channels) (sym (ok_references spec) ∙ faultless.0) in
    let sound_chains = and_parts (all_sound chain_flaws [] spec.chains) (list_all (chain_sound spec.chains spec.network) spec.chains) sound.0 in
    let counts = and_parts (nat_le (length spec.channels) 256) (list_all fits_chain spec.chains && list_all fits_channel spec.channels) (and_parts (nat_le (length spec.chains) 64) _ fitting.0).1 in
    let lists = counts.1 in
    let fit = and_parts (list_all fits_chain spec.chains) (list_all fits_channel spec.channels) lists in
    let chains = chains_open spec.chains spec.network spec.chains (recursion_from_All (λ (c : ChainSpec). IsChain c.chain) spec.chains named) fit.0 sound_chains.1 in
    record {
      order = order.0;
      chains = All-from_recursion (IsOpenableChain spec.network) spec.chains chains;
      channels = channels_open spec.chains spec.channels order.0 sound.1 fit.1;
      linked_once = channels_once spec.chains spec.channels sound.1;
      few_channels = leb-true (length spec.channels) 256 counts.0;
      small = λ a. subst (λ n. n < past_amounts) (sym (of_chains spec a spec.chains chains)) (ok_sums spec faultless.1 a.0 a.1);
    }
