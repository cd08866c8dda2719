use Rattle.std.proofs.Common.{◌++◌, ap, ◌∙◌}
use Rattle.asset_bundles.specs.Books.{Book, Booked, given_up}
use Rattle.asset_bundles.proofs.Lemmas.{listed-Booked}
use Rattle.trust_tables.specs.Trust.{listing}
use Rattle.exec_base.specs.Host.{bundles_joined, booked}
use Rattle.chain_state.specs.PartOf.{part_of}
use Rattle.chain_state.proofs.BurnedLines.{same_book}
use Rattle.chain_state.proofs.state.ChainState.join.Goals as goal

pub invariant_of-self-2 : goal.invariant_of-self-2
invariant_of-self-2 c =
    let f = c.args.self.now in
    record {
      ledger_lists = f.ledger_lists;
      book_lists = ap (λ (b : Book). b.listed) c.in_ok-join.ensures.booked ∙ listed-Booked f.book (given_up c.args.into.now c.args.goods) ∙ f.book_lists;
      floors = f.floors;
      set_up = f.set_up;
      rates = f.rates;
      payable = f.payable;
      fee_rows = f.fee_rows;
      slot_rows = f.slot_rows;
      spare_lines = f.spare_lines;
      room = f.room;
      checked = f.checked;
    }

pub returns-clause-step : goal.returns-clause-step
unfolding bundles_joined booked
returns-clause-step c =
    let f = c.args.self.now in
    let p = part_of f in
    let burns = ap (λ (b : Book). b.burns) (c.in_ok-join.ensures.booked ∙ ap (λ b. Booked b (given_up c.args.into.now c.args.goods)) (same_book f.book (listing f.settings.rows) f.book_lists)) in
    let told = c.in-Ok-append.ensures.items ∙ (λ i. c.reserve.ensures.items i ++ c.in-Ok.ensures i) in
    λ i. record p { burns = burns i; pending_events = told i }
