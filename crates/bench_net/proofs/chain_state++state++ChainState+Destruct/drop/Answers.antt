use Rattle.bench_net.proofs.chain_state++state++ChainState+Destruct.drop.Goals as goal

pub invariant_of-drop : goal.invariant_of-drop
invariant_of-drop c =
    let s = c.args.arg1 in
    record {
      set_up = s.set_up;
      floors = s.floors;
      ledger_lists = s.ledger_lists;
      book_lists = s.book_lists;
      rates = s.rates;
      payable = s.payable;
      fee_rows = s.fee_rows;
      slot_rows = s.slot_rows;
      spare_lines = s.spare_lines;
      room = s.room;
      checked = s.checked;
    }
