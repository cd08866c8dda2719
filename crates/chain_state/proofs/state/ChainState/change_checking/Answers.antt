use Rattle.std.proofs.Common.{◌≡◌, length, ap, ◌∙◌, arith}
use Rattle.std.proofs.lemmas.List.{with_items_is}
use Rattle.exec_base.specs.Host.{changed_all}
use Rattle.chain_state.specs.Checked.{are_checked, change_by}
use Rattle.chain_state.proofs.Raising.{all_kept_checked}
use Rattle.chain_state.proofs.state.ChainState.change_checking.Goals as goal

pub invariant_of-self : goal.invariant_of-self
invariant_of-self c =
    let f = c.args.self.now in
    let by = change_by c.args.rises in
    let list = c.args.list.now in
    let kept = c.change_all.auto.checking in
    let value = c.as_mut_slice.ensures.value in
    let whole = ap length value in
    let len = f.checking.ok.0 in
    let long : length c.change_all.new.checking ≡ f.checking.len = omega (arith, kept, whole, len) in
    record {
      ledger_lists = f.ledger_lists;
      book_lists = f.book_lists;
      floors = f.floors;
      set_up = f.set_up;
      rates = f.rates;
      payable = f.payable;
      fee_rows = f.fee_rows;
      slot_rows = f.slot_rows;
      spare_lines = f.spare_lines;
      room = f.room;
      checked = ap (are_checked f.settings.rows) (with_items_is f.checking c.change_all.new.checking long ∙ c.change_all.ensures ∙ (λ i. changed_all by list (c.items.ensures i) (value i))) ∙ all_kept_checked by list f.settings.rows f.checking.items ∙ f.checked;
    }
