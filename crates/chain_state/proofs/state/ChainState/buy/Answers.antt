use Rattle.std.proofs.Common.{◌++◌, sym, ap, ◌∙◌, subst}
use Rattle.std.specs.Option.{option_map_or}
use Rattle.asset_lists.specs.Listed.{listed_of}
use Rattle.asset_bundles.specs.declared.book.Cause.{Cause}
use Rattle.asset_bundles.specs.Books.{Book, Booked, burned_for}
use Rattle.weight_trader.specs.Purchases.{Line, coin_of, excess, excess_at, unspent_at, Bought, AreRatesListed}
use Rattle.weight_trader.specs.Refunds.{Closed}
use Rattle.weight_trader.proofs.Lemmas.ListedLaws.{saturated_rows}
use Rattle.trust_tables.specs.Trust.{listing}
use Rattle.exec_base.specs.Host.{above, burned_lines, booked, no_line_refusal, buy_refusal, unspent, bought}
use Rattle.chain_state.specs.Lines.{excess_lines}
use Rattle.network_steps.specs.Tests.{are_rates_listed}
use Rattle.chain_state.specs.PartOf.{part_of}
use Rattle.chain_state.proofs.BurnedLines.{same_book}
use Rattle.chain_state.proofs.Trading.{saturated_is, line_of_excess, none_pays}
use Rattle.chain_state.proofs.RateList.{each, bought_rates, bought_closed}
use Rattle.chain_state.proofs.state.ChainState.buy.Goals as goal

pub buy-requires : goal.buy-requires
buy-requires c =
    let f = c.args.self.now in
    subst (λ listed. AreRatesListed listed f.trader) (sym f.book_lists) (each (listing f.settings.rows) f.trader f.rates)

pub invariant_of-self-in-Ok-buy : goal.invariant_of-self-in-Ok-buy
invariant_of-self-in-Ok-buy c =
    let f = c.args.self.now in
    let is = c.in-Ok-buy.ensures.bought in
    record {
      ledger_lists = f.ledger_lists;
      book_lists = ap (λ (b : Book). b.listed) is.book_is ∙ saturated_rows (listed_of (coin_of is.line.rate)) (excess c.args.w is.line) f.book ∙ f.book_lists;
      floors = f.floors;
      set_up = f.set_up;
      rates = ap (are_rates_listed (listing f.settings.rows)) is.lines_are ∙ bought_rates c.args.w c.args.payment (listing f.settings.rows) f.trader f.rates;
      payable = f.payable;
      fee_rows = f.fee_rows;
      slot_rows = f.slot_rows;
      spare_lines = f.spare_lines ∙ sym (ap Closed is.lines_are ∙ bought_closed c.args.w c.args.payment f.trader);
      room = f.room;
      checked = f.checked;
    }

pub returns-in-Ok-append : goal.returns-in-Ok-append
unfolding buy_refusal unspent bought booked
returns-in-Ok-append c =
    let f = c.args.self.now in
    let p = part_of f in
    let w = c.args.w in
    let payment = c.args.payment in
    let is = c.in-Ok-buy.ensures.bought in
    let goods = above (listed_of (coin_of is.line.rate)) (excess w is.line) in
    let burns = ap (λ (b : Book). b.burns) (is.book_is ∙ saturated_is (coin_of is.line.rate).0 (excess w is.line) f.book ∙ ap (λ b. Booked b (burned_for Cause.Saturated goods)) (same_book f.book (listing f.settings.rows) f.book_lists)) in
    let lines = c.in-Ok.ensures ∙ ap (λ o. excess_lines p (excess_at w o)) is.first ∙ line_of_excess p is.line.rate.asset (excess w is.line) in
    let told = c.in-Ok-append.ensures.items ∙ (λ i. c.reserve.ensures.items i ++ lines i) in
    record {
      step = (
        ap no_line_refusal is.first,
        is.left_is ∙ sym (ap (λ o. option_map_or (λ (line : Line). unspent_at w payment line) o payment) is.first),
        (λ i. record p { lines = is.lines_are i; burns = burns i; pending_events = told i })
            ∙ sym (ap (λ o. option_map_or (λ (line : Line).
            let goods = above (listed_of (coin_of line.rate)) (excess w line) in
            booked (record p { lines = Bought w payment p.lines }) (burned_for Cause.Saturated goods) (burned_lines p (λ unit. Cause.Saturated) goods)) o p) is.first),
      );
    }

pub returns : goal.returns
unfolding buy_refusal
returns c =
    let p = part_of c.args.self.now in
    let refused = c.in-Err.ensures in
    let lines = refused.unchanged in
    let burns = ap (λ (b : Book). b.burns) refused.book_unchanged in
    let kept = c.reserve.ensures.items in
    record {
      step = (
        refused.handed_back,
        ap no_line_refusal (none_pays c.args.w c.args.payment p.lines refused.too_expensive),
        λ i. record p { lines = lines i; burns = burns i; pending_events = kept i },
      );
    }
