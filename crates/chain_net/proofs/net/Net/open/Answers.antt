use Rattle.std.proofs.Common.{◌∙◌, ap, sym, subst, map, List}
use Rattle.std.specs.Prelude.{IsTrue}
use Rattle.chain_ids.specs.declared.chain.ChainId.{ChainId}
use Rattle.network_spec.specs.declared.chain.ChainSpec.{ChainSpec}
use Rattle.network_steps.specs.Genesis.{rules_of}
use Rattle.chain_net.specs.Order.{are_in_order}
use Rattle.chain_net.specs.Links.{found_links}
use Rattle.law_nets.specs.Runs.{HasPast}
use Rattle.chain_net.proofs.Openings.{in_order_by, first_is, names_are, as_many, all_between, openable_chains}
use Rattle.chain_net.proofs.net.Net.open.Goals as goal

pub invariant_of-result : goal.invariant_of-result
invariant_of-result c =
    let spec = c.args.spec in
    let names = c.in_ok-names.ensures ∙ ap (map (λ (d : ChainSpec). d.chain)) c.items.ensures in
    let rules = c.in_ok-rules.ensures ∙ ap (map rules_of) c.items-2.ensures in
    let parts = c.in_ok-chains.ensures in
    record {
      order = subst (λ (ns : List ChainId). IsTrue (are_in_order ns)) (sym names) (in_order_by spec.chains c.requires.openable.order);
      ruled = as_many spec spec.chains c.in_ok-rules.rules.items c.in_ok-chains.chains.items rules parts;
      named = names_are spec spec.chains c.in_ok-chains.chains.items parts ∙ sym names;
      linked = c.in_ok-links.ensures ∙ (λ k. found_links (c.as_slice.ensures.value k) (c.as_slice-2.ensures.value k) (c.items-3.ensures k));
      between = λ going. all_between spec spec.chains c.in_ok-chains.chains.items c.requires.openable (openable_chains spec c.requires.openable) parts;
      reached = λ going. ∣ subst (HasPast spec) (sym (first_is spec spec.chains c.in_ok-rules.rules.items c.in_ok-chains.chains.items rules parts)) (c.law_of_pasts_through_steps.ensures.opened spec) ∣₁;
    }

pub all_links-requires : goal.all_links-requires
all_links-requires c =
    let spec = c.args.spec in
    let names = c.as_slice.ensures.value ∙ c.in_ok-names.ensures ∙ ap (map (λ (d : ChainSpec). d.chain)) c.items.ensures in
    record { order = subst (λ (ns : List ChainId). IsTrue (are_in_order ns)) (sym names) (in_order_by spec.chains c.requires.openable.order) }

pub returns-clause-first : goal.returns-clause-first
returns-clause-first c = first_is c.args.spec c.args.spec.chains c.in_ok-rules.rules.items c.in_ok-chains.chains.items (c.in_ok-rules.ensures ∙ ap (map rules_of) c.items-2.ensures) c.in_ok-chains.ensures

pub returns-clause-kept : goal.returns-clause-kept
returns-clause-kept c coherent =
    let spec = c.args.spec in
    let is = first_is spec spec.chains c.in_ok-rules.rules.items c.in_ok-chains.chains.items (c.in_ok-rules.ensures ∙ ap (map rules_of) c.items-2.ensures) c.in_ok-chains.ensures in
    let past = subst (HasPast spec) (sym is) (c.law_of_pasts_through_steps.ensures.opened spec) in
    c.law_of_networks_with_pasts.ensures.kept spec _ coherent past

pub returns-clause-shaped : goal.returns-clause-shaped
returns-clause-shaped c =
    let spec = c.args.spec in
    let is = first_is spec spec.chains c.in_ok-rules.rules.items c.in_ok-chains.chains.items (c.in_ok-rules.ensures ∙ ap (map rules_of) c.items-2.ensures) c.in_ok-chains.ensures in
    let past = subst (HasPast spec) (sym is) (c.law_of_pasts_through_steps.ensures.opened spec) in
    c.law_of_networks_with_pasts.ensures.shaped spec _ past

pub returns-clause-paid : goal.returns-clause-paid
returns-clause-paid c coherent =
    let spec = c.args.spec in
    let is = first_is spec spec.chains c.in_ok-rules.rules.items c.in_ok-chains.chains.items (c.in_ok-rules.ensures ∙ ap (map rules_of) c.items-2.ensures) c.in_ok-chains.ensures in
    let past = subst (HasPast spec) (sym is) (c.law_of_pasts_through_steps.ensures.opened spec) in
    c.law_of_networks_with_pasts.ensures.paid spec _ coherent past
