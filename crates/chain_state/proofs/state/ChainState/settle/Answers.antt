use Rattle.std.proofs.Common.{◌≡◌, ℕ, true, ◌++◌, List, map, refl, sym, ap, ◌∙◌, subst}
use Rattle.amounts.specs.Rows.{rows_at}
use Rattle.amounts.specs.Amounts.{rows, from_rows, merge, map_keys}
use Rattle.asset_lists.specs.Units.{Unit}
use Rattle.asset_lists.specs.Listed.{Listed, listed_of}
use Rattle.asset_bundles.specs.declared.book.Cause.{Cause}
use Rattle.asset_bundles.specs.Bundles.{Bundle, bundle_of, IsHolding, assets_of_rows, held_assets}
use Rattle.asset_bundles.specs.Books.{Book, Booked, AreListed, burned_for}
use Rattle.trust_tables.specs.Trust.{listing}
use Rattle.ledgers.specs.Ledgers.{Accounts, held_by, Deposited}
use Rattle.weight_trader.specs.Refunds.{Closed}
use Rattle.exec_base.specs.Host.{fees_within, fees_above, settled_burns, burned_line, burned_lines, settled}
use Rattle.network_steps.specs.Tests.{are_rates_listed}
use Rattle.chain_state.specs.Settling.{are_units_listed}
use Rattle.chain_state.specs.PartOf.{part_of}
use Rattle.chain_state.proofs.BurnedLines.{same_book}
use Rattle.chain_state.proofs.RateList.{closed_twice, closed_rates}
use Rattle.chain_state.proofs.Widths.{rows_stay}
use Rattle.chain_state.proofs.Settled.{within_rowed, above_rowed, rowed_listed, units_listed, rows_holding, rows_bundle, ledger_after}
use Rattle.chain_state.proofs.Floored.{after_either, got_after}
use Rattle.chain_state.specs.Facts.{KeepsLockFloors}
use Rattle.chain_state.proofs.Lemmas.Facts.{keeps_floors}
use Rattle.chain_state.specs.Known.{floors_there, pools_free}
use Rattle.chain_state.proofs.state.ChainState.settle.Goals as goal

pub above_lines-requires : goal.above_lines-requires
above_lines-requires c =
    let f = c.args.self.now in
    let p = part_of f in
    let listed = listing f.settings.rows in
    record {
      listed = subst (λ (us : List (Unit × ℕ)). are_units_listed listed us ≡ true) (sym (c.as_slice.ensures.value ∙ c.in_ok-coins.ensures.above))
          (units_listed listed (fees_above p) (rowed_listed listed f.fees (fees_above p) f.fee_rows (above_rowed p f.fees refl f.fee_rows f.rates)));
    }

pub deposit_into-requires-clause-holding : goal.deposit_into-requires-clause-holding
deposit_into-requires-clause-holding c =
    rows_holding c.in_ok-coins.coins.items (fees_within (part_of c.args.self.now)) c.in_ok-coins.ensures.within

pub deposit_into-requires-clause-listed : goal.deposit_into-requires-clause-listed
deposit_into-requires-clause-listed c =
    let f = c.args.self.now in
    let p = part_of f in
    let goods = rows_bundle c.in_ok-coins.coins.items (fees_within p) c.in_ok-coins.ensures.within in
    subst (λ (listed : List Listed). AreListed listed (bundle_of c.in_ok-coins.coins.items)) (sym f.ledger_lists)
    (subst (AreListed (listing f.settings.rows)) (sym goods) (rowed_listed (listing f.settings.rows) f.fees (fees_within p) f.fee_rows (within_rowed p f.fees refl f.fee_rows f.rates)))

pub invariant_of-self-in-Break-branch-4 : goal.invariant_of-self-in-Break-branch-4
invariant_of-self-in-Break-branch-4 c =
    let f = c.args.self.now in
    record {
      ledger_lists = ledger_after f.settings.fee_account _ f.ledger c.deposit_into.new.ledger c.deposit_into.result c.deposit_into.ensures.deposited c.deposit_into.ensures.kept ∙ f.ledger_lists;
      book_lists = f.book_lists;
      floors = after_either (λ (l : Accounts). KeepsLockFloors f.settings.pools f.locked l.held) f.ledger (Deposited f.settings.fee_account (bundle_of c.in_ok-coins.coins.items) f.ledger) c.deposit_into.new.ledger c.deposit_into.result c.deposit_into.ensures.deposited c.deposit_into.ensures.kept
          f.floors (keeps_floors _ _ _ (got_after f.locked f.ledger f.settings.fee_account (bundle_of c.in_ok-coins.coins.items) (floors_there f)) (pools_free f));
      set_up = f.set_up;
      rates = f.rates;
      payable = f.payable;
      fee_rows = f.fee_rows;
      slot_rows = f.slot_rows;
      spare_lines = ap Closed c.forget.ensures ∙ closed_twice f.spare ∙ f.spare_lines;
      room = f.room;
      checked = f.checked;
    }

pub book_all-requires : goal.book_all-requires
book_all-requires c =
    let f = c.args.self.now in
    let p = part_of f in
    let listed = listing f.settings.rows in
    let all = units_listed listed (fees_above p) (rowed_listed listed f.fees (fees_above p) f.fee_rows (above_rowed p f.fees refl f.fee_rows f.rates)) in
    record {
      listed = subst (λ (us : List (Unit × ℕ)). are_units_listed f.book.listed us ≡ true) (sym (c.as_slice-2.ensures.value ∙ c.in_ok-coins.ensures.above))
          (subst (λ (ks : List Listed). are_units_listed ks (rows (fees_above p)) ≡ true) (sym f.book_lists) all);
    }

pub invariant_of-self-2 : goal.invariant_of-self-2
invariant_of-self-2 c =
    let f = c.args.self.now in
    let closed = c.swap.ensures.x_after ∙ c.forget.ensures ∙ f.spare_lines in
    record {
      ledger_lists = ledger_after f.settings.fee_account _ f.ledger c.deposit_into.new.ledger c.deposit_into.result c.deposit_into.ensures.deposited c.deposit_into.ensures.kept ∙ f.ledger_lists;
      book_lists = rows_stay f.book _ _ c.book_all.ensures ∙ f.book_lists;
      floors = after_either (λ (l : Accounts). KeepsLockFloors f.settings.pools f.locked l.held) f.ledger (Deposited f.settings.fee_account (bundle_of c.in_ok-coins.coins.items) f.ledger) c.deposit_into.new.ledger c.deposit_into.result c.deposit_into.ensures.deposited c.deposit_into.ensures.kept
          f.floors (keeps_floors _ _ _ (got_after f.locked f.ledger f.settings.fee_account (bundle_of c.in_ok-coins.coins.items) (floors_there f)) (pools_free f));
      set_up = f.set_up;
      rates = ap (are_rates_listed (listing f.settings.rows)) closed ∙ closed_rates (listing f.settings.rows) f.trader ∙ f.rates;
      payable = f.payable;
      fee_rows = λ u. c.clear.ensures.rows u ∙ f.fee_rows u;
      slot_rows = λ u some. c.clear.ensures.rows u ∙ f.slot_rows u some;
      spare_lines = ap Closed c.swap.ensures.y_after ∙ sym (ap Closed closed ∙ closed_twice f.trader);
      room = f.room;
      checked = f.checked;
    }

pub returns : goal.returns
unfolding settled held_by burned_for map_keys burned_lines held_assets
returns c =
    let f = c.args.self.now in
    let p = part_of f in
    let goods = rows_bundle c.in_ok-coins.coins.items (fees_within p) c.in_ok-coins.ensures.within in
    let held = ap (λ (l : Accounts). l.held) c.in_ok-deposit_into.ensures.deposited ∙ ap (λ (b : Bundle). merge f.ledger.held (held_by f.settings.fee_account b)) goods in
    let closed = c.swap.ensures.x_after ∙ c.forget.ensures ∙ f.spare_lines in
    let booked = c.book_all.ensures ∙ ap (λ (us : List (Unit × ℕ)). Booked f.book (from_rows (rows_at (λ (unit : Unit). (listed_of unit, Cause.Saturated)) us))) (c.as_slice-2.ensures.value ∙ c.in_ok-coins.ensures.above)
    ∙ ap (λ (b : Book). Booked b (settled_burns p)) (same_book f.book (listing f.settings.rows) f.book_lists) in
    let burns = ap (λ (b : Book). b.burns) booked in
    let lines = c.in_ok-lines.ensures ∙ ap (λ (us : List (Unit × ℕ)). map (burned_line p (λ unit. Cause.Saturated)) (assets_of_rows us)) (c.as_slice.ensures.value ∙ c.in_ok-coins.ensures.above) in
    let told = c.in-Ok.ensures.items ∙ (λ i. c.reserve.ensures.items i ++ lines i) in
    record { step = (refl, λ i. record p { held = held i; lines = closed i; fees = c.clear.ensures.none i; burns = burns i; events = told i }) }
