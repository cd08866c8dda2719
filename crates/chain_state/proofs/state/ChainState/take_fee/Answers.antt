use Rattle.std.proofs.Common.{◌∙◌}
use Rattle.chain_state.proofs.FeeSlot.{nothing_rowed}
use Rattle.chain_state.proofs.state.ChainState.take_fee.Goals as goal

pub invariant_of-self : goal.invariant_of-self
invariant_of-self c =
    let f = c.args.self.now in
    record {
      ledger_lists = f.ledger_lists;
      book_lists = f.book_lists;
      floors = f.floors;
      set_up = f.set_up;
      rates = f.rates;
      payable = f.payable;
      fee_rows = f.fee_rows;
      slot_rows = nothing_rowed f.fees _ (c.replace.ensures.after ∙ c.set_down-nothing.ensures ∙ c.empty.ensures);
      spare_lines = f.spare_lines;
      room = f.room;
      checked = f.checked;
    }
