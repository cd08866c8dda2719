use Rattle.std.proofs.Common.{sym, ◌∙◌}
use Rattle.trust_tables.specs.Trust.{listing}
use Rattle.chain_state.proofs.RateList.{rates_after, closed_after}
use Rattle.chain_state.proofs.state.ChainState.refund.Goals as goal

pub invariant_of-self : goal.invariant_of-self
invariant_of-self c =
    let f = c.args.self.now in
    record {
      ledger_lists = f.ledger_lists;
      book_lists = f.book_lists;
      floors = f.floors;
      set_up = f.set_up;
      rates = rates_after c.args.w (listing f.settings.rows) f.trader c.refund.new.self c.refund.result c.refund.ensures.lines c.refund.ensures.err f.rates;
      payable = f.payable;
      fee_rows = f.fee_rows;
      slot_rows = f.slot_rows;
      spare_lines = f.spare_lines ∙ sym (closed_after c.args.w f.trader c.refund.new.self c.refund.result c.refund.ensures.lines c.refund.ensures.err);
      room = f.room;
      checked = f.checked;
    }
