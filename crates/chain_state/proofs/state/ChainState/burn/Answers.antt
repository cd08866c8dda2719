use Rattle.std.proofs.Common.{◌++◌, ap, ◌∙◌}
use Rattle.asset_bundles.specs.declared.book.Cause.{Cause}
use Rattle.asset_bundles.specs.Books.{Book, Booked, burned_for}
use Rattle.asset_bundles.proofs.Lemmas.{listed-Booked}
use Rattle.trust_tables.specs.Trust.{listing}
use Rattle.exec_base.specs.Host.{burnt, booked}
use Rattle.chain_state.specs.PartOf.{part_of}
use Rattle.chain_state.proofs.BurnedLines.{same_book}
use Rattle.chain_state.proofs.state.ChainState.burn.Goals as goal

pub invariant_of-self : goal.invariant_of-self
invariant_of-self c =
    let f = c.args.self.now in
    record {
      ledger_lists = f.ledger_lists;
      book_lists = ap (λ (b : Book). b.listed) c.burn.ensures ∙ listed-Booked f.book (burned_for Cause.BurnAsset c.args.goods) ∙ f.book_lists;
      floors = f.floors;
      set_up = f.set_up;
      rates = f.rates;
      payable = f.payable;
      fee_rows = f.fee_rows;
      slot_rows = f.slot_rows;
      spare_lines = f.spare_lines;
      room = f.room;
      checked = f.checked;
    }

pub returns-in-Ok-append : goal.returns-in-Ok-append
unfolding burnt booked
returns-in-Ok-append c =
    let f = c.args.self.now in
    let p = part_of f in
    let burns = ap (λ (b : Book). b.burns) (c.burn.ensures ∙ ap (λ b. Booked b (burned_for Cause.BurnAsset c.args.goods)) (same_book f.book (listing f.settings.rows) f.book_lists)) in
    let told = c.in-Ok-append.ensures.items ∙ ap (λ ls. f.pending_events.items ++ ls) c.in-Ok.ensures in
    record { step = λ i. record p { burns = burns i; pending_events = told i } }
