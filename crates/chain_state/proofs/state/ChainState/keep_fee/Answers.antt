use Rattle.std.proofs.Common.{sym, ap, ◌∙◌, subst}
use Rattle.asset_bundles.specs.Bundles.{Bundle}
use Rattle.chain_state.specs.Fees.{HaveRowsFor, kept_goods, saturated_fees}
use Rattle.exec_base.specs.Host.{fees_with, fee_kept}
use Rattle.chain_state.specs.PartOf.{part_of}
use Rattle.chain_state.proofs.FeeSlot.{nothing_rowed}
use Rattle.chain_state.proofs.state.ChainState.keep_fee.Goals as goal

pub keep-requires : goal.keep-requires
keep-requires c =
    let f = c.args.self.now in
    record { rows = subst (HaveRowsFor f.fees) (sym (c.take_up-goods.ensures ∙ c.replace.ensures.value)) f.slot_rows }

pub invariant_of-self : goal.invariant_of-self
invariant_of-self c =
    let f = c.args.self.now in
    record {
      ledger_lists = f.ledger_lists;
      book_lists = f.book_lists;
      floors = f.floors;
      set_up = f.set_up;
      rates = f.rates;
      payable = f.payable;
      fee_rows = λ u. c.keep.ensures.rows u ∙ f.fee_rows u;
      slot_rows = nothing_rowed _ _ (c.replace.ensures.after ∙ c.set_down-nothing.ensures ∙ c.empty.ensures);
      spare_lines = f.spare_lines;
      room = f.room;
      checked = f.checked;
    }

pub returns : goal.returns
unfolding fee_kept fees_with saturated_fees
returns c =
    let f = c.args.self.now in
    let p = part_of f in
    let nothing = c.replace.ensures.after ∙ c.set_down-nothing.ensures ∙ c.empty.ensures in
    let kept = c.keep.ensures.kept ∙ ap (λ (b : Bundle). saturated_fees (kept_goods f.fees) b) (c.take_up-goods.ensures ∙ c.replace.ensures.value) in
    record { step = λ i. record p { fee_slot = nothing i; fees = kept i } }
