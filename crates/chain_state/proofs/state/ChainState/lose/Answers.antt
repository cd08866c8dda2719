use Rattle.std.proofs.Common.{ap, sym, ◌∙◌, subst}
use Rattle.asset_bundles.specs.Books.{Book, AreListed}
use Rattle.asset_bundles.specs.Losing.{book_after_loss}
use Rattle.trust_tables.specs.Trust.{listing}
use Rattle.chain_state.specs.PartOf.{part_of}
use Rattle.chain_state.proofs.BurnedLines.{same_book}
use Rattle.chain_state.proofs.Kept.{lost_listed}
use Rattle.chain_state.proofs.state.ChainState.lose.Goals as goal

pub lose-requires : goal.lose-requires
lose-requires c = subst (λ listed. AreListed listed c.args.shipment.units) (sym c.args.self.now.book_lists) c.requires.listed

pub invariant_of-self : goal.invariant_of-self
invariant_of-self c =
    let f = c.args.self.now in
    let s = c.args.shipment in
    record {
      ledger_lists = f.ledger_lists;
      book_lists = ap (λ (b : Book). b.listed) c.lose.ensures ∙ lost_listed s.way s.units f.book ∙ f.book_lists;
      floors = f.floors;
      set_up = f.set_up;
      rates = f.rates;
      payable = f.payable;
      fee_rows = f.fee_rows;
      slot_rows = f.slot_rows;
      spare_lines = f.spare_lines;
      room = f.room;
      checked = f.checked;
    }

pub returns : goal.returns
returns c =
    let f = c.args.self.now in
    let s = c.args.shipment in
    let burns = ap (λ (b : Book). b.burns) (c.lose.ensures ∙ ap (book_after_loss s.way s.units) (same_book f.book (listing f.settings.rows) f.book_lists)) in
    record { lost = λ i. record (part_of f) { burns = burns i } }
