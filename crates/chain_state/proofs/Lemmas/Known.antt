-- Lemmas on the definitions of `specs/Known.antt`: what proofs cite.
use Rattle.std.specs.Prelude.{◌≡◌, ◌≤◌, vec_capacity, IsTrue}
use Rattle.trust_tables.specs.Chains.{path_of_site}
use Rattle.trust_tables.specs.Trust.{listing}
use Rattle.chain_queues.specs.Queues.{channels_of}
use Rattle.network_steps.specs.Tests.{are_rates_listed}
use Rattle.weight_trader.specs.Refunds.{Closed}
use Rattle.chain_state.specs.Fees.{HaveRows, HaveRowsFor}
use Rattle.chain_state.specs.Checked.{are_checked}
use Rattle.chain_state.specs.declared.state.ChainState.{ChainState}
use Rattle.chain_state.specs.Facts.{IsSetUp, KeepsLockFloors, ArePayable}

-- all that always holds of it, as one answer
pub all_there : (f : ChainState) → record {
  set_up : IsSetUp (path_of_site f.settings.site) f.settings.rows f.settings.pallets f.settings.pools;
  floors : KeepsLockFloors f.settings.pools f.locked f.ledger.held;
  ledger_lists : f.ledger.listed ≡ listing f.settings.rows;
  book_lists : f.book.listed ≡ listing f.settings.rows;
  rates : IsTrue (are_rates_listed (listing f.settings.rows) f.trader);
  payable : ArePayable (listing f.settings.rows) (channels_of f.queues);
  fee_rows : HaveRows (listing f.settings.rows) f.fees;
  slot_rows : HaveRowsFor f.fees f.fee_slot;
  spare_lines : Closed f.spare ≡ Closed f.trader;
  room : 4 ≤ vec_capacity f.parked;
  checked : IsTrue (are_checked f.settings.rows f.checking.items);
}
all_there f = record {
  set_up = f.set_up;
  floors = f.floors;
  ledger_lists = f.ledger_lists;
  book_lists = f.book_lists;
  rates = f.rates;
  payable = f.payable;
  fee_rows = f.fee_rows;
  slot_rows = f.slot_rows;
  spare_lines = f.spare_lines;
  room = f.room;
  checked = f.checked;
}
