use Rattle.std.proofs.Common.{◌<◌, ◌^◌, List, length, map, sym, ap, ◌∙◌, subst}
use Rattle.asset_lists.specs.Listed.{Listed}
use Rattle.trust_tables.specs.Trust.{listing}
use Rattle.weight_trader.specs.Refunds.{Closed}
use Rattle.chain_state.specs.Fees.{is_coin}
use Rattle.network_steps.specs.Tests.{row_checking, have_prices}
use Rattle.chain_state.specs.Checked.{are_checked}
use Rattle.chain_state.specs.ListedFees.{are_fees_listed}
use Rattle.chain_state.proofs.Entries.{checked_rows}
use Rattle.chain_state.proofs.FeeSlot.{nothing_rowed}
use Rattle.chain_state.proofs.Floored.{nothing_floored}
use Rattle.law_hosts.specs.Floors.{NoPoolLocks}
use Rattle.law_hosts.proofs.Lemmas.{none_frees}
use Rattle.chain_state.proofs.Lemmas.Facts.{is_set_up, keeps_floors, are_payable}
use Rattle.chain_state.proofs.state.ChainState.new.Goals as goal

pub open-requires-clause-few : goal.open-requires-clause-few
open-requires-clause-few c = subst (λ n. n < 2 ^ 32) (sym (c.in_ok-places.ensures.as_many ∙ ap length c.items.ensures)) c.requires.few

pub invariant_of-result-clause-payable : goal.invariant_of-result-clause-payable
invariant_of-result-clause-payable c =
    are_payable _ _ (ap have_prices c.in_ok-queues.ensures ∙ c.requires.prices) (ap (are_fees_listed (listing c.args.settings.rows)) c.in_ok-queues.ensures ∙ c.requires.fees)

pub invariant_of-result-clause-fee_rows : goal.invariant_of-result-clause-fee_rows
invariant_of-result-clause-fee_rows c = λ u.
    c.in_ok-fees.ensures.rows u ∙ ap (λ (ks : List Listed). is_coin ks u) (c.as_slice-2.ensures.value ∙ c.in_ok-listed.ensures ∙ ap listing c.items-2.ensures)

pub invariant_of-result-clause-slot_rows : goal.invariant_of-result-clause-slot_rows
invariant_of-result-clause-slot_rows c = nothing_rowed _ _ (c.set_down.ensures ∙ c.empty.ensures)

pub invariant_of-result-clause-spare_lines : goal.invariant_of-result-clause-spare_lines
invariant_of-result-clause-spare_lines c = ap Closed (c.in_ok-spare.ensures.lines ∙ sym c.in_ok-trader.ensures.lines)

pub invariant_of-result-clause-checked : goal.invariant_of-result-clause-checked
invariant_of-result-clause-checked c =
    ap (are_checked c.args.settings.rows) (c.in_ok-checking.ensures ∙ ap (map row_checking) c.items-3.ensures) ∙ checked_rows c.args.settings.rows c.requires.checkings

pub invariant_of-result-clause-floors : goal.invariant_of-result-clause-floors
invariant_of-result-clause-floors c =
    keeps_floors _ _ _ (nothing_floored _ _ c.new-locked.ensures) (subst (NoPoolLocks c.args.settings.pools) (sym c.new-locked.ensures) (none_frees c.args.settings.pools))

pub invariant_of-result-clause-set_up : goal.invariant_of-result-clause-set_up
invariant_of-result-clause-set_up c = is_set_up _ _ _ _ c.requires.distinct c.requires.paths c.requires.few_pallets c.requires.few_pools
