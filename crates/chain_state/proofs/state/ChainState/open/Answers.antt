use Rattle.std.proofs.Common.{◌≡◌, Bool, true, sym, ap, ◌∙◌, subst}
use Rattle.std.specs.Prelude.{None, Some, IsSomeAnd}
use Rattle.std.specs.List.{find, list_all, IsDistinct}
use Rattle.std.specs.Option.{option_copied}
use Rattle.std.proofs.lemmas.List.Elements.{recursion_from_All}
use Rattle.amounts.specs.Amounts.{empty}
use Rattle.chain_ids.specs.Chains.{same_chain}
use Rattle.exec_base.specs.Part.{ChainPart}
use Rattle.network_spec.specs.declared.chain.ChainSpec.{ChainSpec}
use Rattle.network_spec.specs.Networks.{same_holding}
use Rattle.network_steps.specs.Tests.{is_placeable}
use Rattle.network_steps.specs.Genesis.{part_at, with_balances}
use Rattle.network_steps.specs.Openable.{IsOpenableChain, IsOpenableChannel}
use Rattle.chain_state.specs.PartOf.{part_of}
use Rattle.chain_state.proofs.Balances.{any_found, balances_placeable}
use Rattle.chain_state.proofs.Entries.{prices_from, fees_from, lists_its_fee, found_so, none_is_some}
use Rattle.chain_state.proofs.state.ChainState.open.Goals as goal

pub unreachable-requires : goal.unreachable-requires
unreachable-requires c =
    let chains = c.args.spec.now.chains in
    let test : ChainSpec → Bool = λ d. same_chain d.chain c.args.chain in
    let none : find test chains ≡ None = ap (find test) (sym c.items.ensures) ∙ sym c.entry_of.ensures ∙ ap option_copied c.in_default.is in
    none_is_some (find test chains) none (any_found test chains ∙ c.requires.listed)

pub bare-requires-clause-chain : goal.bare-requires-clause-chain
bare-requires-clause-chain c =
    let spec = c.args.spec.now in
    let test : ChainSpec → Bool = λ d. same_chain d.chain c.args.chain in
    let found : find test spec.chains ≡ Some c.in-Some.entry.now = ap (find test) (sym c.items.ensures) ∙ sym c.entry_of.ensures ∙ ap option_copied c.in-Some.is in
    found_so (IsOpenableChain spec.network) test spec.chains c.in-Some.entry.now (recursion_from_All (IsOpenableChain spec.network) spec.chains c.requires.openable.chains) found

pub bare-requires-clause-prices : goal.bare-requires-clause-prices
bare-requires-clause-prices c =
    let spec = c.args.spec.now in
    prices_from spec.chains c.in-Some.entry.now.chain spec.channels (recursion_from_All (IsOpenableChannel spec.chains) spec.channels c.requires.openable.channels)

pub bare-requires-clause-fees : goal.bare-requires-clause-fees
bare-requires-clause-fees c =
    let spec = c.args.spec.now in
    let entry = c.in-Some.entry.now in
    let test : ChainSpec → Bool = λ d. same_chain d.chain c.args.chain in
    let found : find test spec.chains ≡ Some entry = ap (find test) (sym c.items.ensures) ∙ sym c.entry_of.ensures ∙ ap option_copied c.in-Some.is in
    fees_from spec.chains entry spec.channels (recursion_from_All (IsOpenableChannel spec.chains) spec.channels c.requires.openable.channels) (lists_its_fee spec.chains test entry found)

pub place_all-requires-clause-balances : goal.place_all-requires-clause-balances
place_all-requires-clause-balances c =
    let spec = c.args.spec.now in
    let entry = c.in-Some.entry.now in
    let test : ChainSpec → Bool = λ d. same_chain d.chain c.args.chain in
    let found : find test spec.chains ≡ Some entry = ap (find test) (sym c.items.ensures) ∙ sym c.entry_of.ensures ∙ ap option_copied c.in-Some.is in
    let is = found_so (IsOpenableChain spec.network) test spec.chains entry (recursion_from_All (IsOpenableChain spec.network) spec.chains c.requires.openable.chains) found in
    subst (λ rows. list_all (is_placeable rows) c.items-2.result.now ≡ true) (sym (ap (λ (p : ChainPart). p.rows) c.in_ok-state.ensures))
    (subst (λ balances. list_all (is_placeable entry.assets) balances ≡ true) (sym c.items-2.ensures) (balances_placeable entry.assets entry.accounts is.balances))

pub place_all-requires-clause-once : goal.place_all-requires-clause-once
place_all-requires-clause-once c =
    let spec = c.args.spec.now in
    let entry = c.in-Some.entry.now in
    let test : ChainSpec → Bool = λ d. same_chain d.chain c.args.chain in
    let found : find test spec.chains ≡ Some entry = ap (find test) (sym c.items.ensures) ∙ sym c.entry_of.ensures ∙ ap option_copied c.in-Some.is in
    let is = found_so (IsOpenableChain spec.network) test spec.chains entry (recursion_from_All (IsOpenableChain spec.network) spec.chains c.requires.openable.chains) found in
    subst (IsDistinct same_holding) (sym c.items-2.ensures) is.held_once

pub returns : goal.returns
returns c =
    let spec = c.args.spec.now in
    let entry = c.in-Some.entry.now in
    let test : ChainSpec → Bool = λ d. same_chain d.chain c.args.chain in
    let found : find test spec.chains ≡ Some entry = ap (find test) (sym c.items.ensures) ∙ sym c.entry_of.ensures ∙ ap option_copied c.in-Some.is in
    let part : part_of c.place_all.new.self ≡ part_at spec entry =
    c.in_ok-place_all.ensures.placed ∙ (λ i. record (c.in_ok-state.ensures i) { held = with_balances empty (c.items-2.ensures i) }) in
    record { opened = subst (λ o. IsSomeAnd o (λ d. part_of c.place_all.new.self ≡ part_at spec d)) (sym found) part }

pub invariant_of-state : goal.invariant_of-state
invariant_of-state c =
    let s = c.place_all.new.self in
    record {
      set_up = s.set_up;
      floors = s.floors;
      ledger_lists = s.ledger_lists;
      book_lists = s.book_lists;
      rates = s.rates;
      payable = s.payable;
      fee_rows = s.fee_rows;
      slot_rows = s.slot_rows;
      spare_lines = s.spare_lines;
      room = s.room;
      checked = s.checked;
    }
