use Rattle.std.proofs.Common.{sym, subst}
use Rattle.chain_state.specs.Fees.{HaveRowsFor}
use Rattle.chain_state.specs.PartOf.{part_of}
use Rattle.chain_state.proofs.FeeSlot.{slot_rowed}
use Rattle.chain_state.specs.Known.{prices_there, fees_there}
use Rattle.chain_state.proofs.state.ChainState.hold_fee.Goals as goal

pub invariant_of-self : goal.invariant_of-self
invariant_of-self c =
    let f = c.args.self.now in
    record {
      ledger_lists = f.ledger_lists;
      book_lists = f.book_lists;
      floors = f.floors;
      set_up = f.set_up;
      rates = f.rates;
      payable = f.payable;
      fee_rows = f.fee_rows;
      slot_rows = subst (HaveRowsFor f.fees) (sym c.set_down.ensures) (slot_rowed (part_of f) f.fees c.args.goods f.fee_rows (fees_there f) (prices_there f) c.requires.fee);
      spare_lines = f.spare_lines;
      room = f.room;
      checked = f.checked;
    }
