use Rattle.std.proofs.Common.{◌≡◌, Some, sym, ap, ◌∙◌}
use Rattle.std.specs.List.{position}
use Rattle.asset_lists.specs.declared.units.AssetId.TheVariants.{Concrete}
use Rattle.asset_lists.specs.declared.units.Kind.{Kind}
use Rattle.weight_trader.specs.declared.rate.Rate.{Rate}
use Rattle.weight_trader.specs.Purchases.{Line, is_covered, paying, with_saturated}
use Rattle.weight_trader.proofs.Lemmas.ListedLaws.{rate_kept}
use Rattle.weight_trader.proofs.Apart.{apart_set}
use Rattle.weight_trader.proofs.Charging.{too_expensive, price_covered, paying_at, bought_at}
use Rattle.weight_trader.proofs.Listed.{listed_paying}
use Rattle.weight_trader.proofs.trader.Trader.charge.Goals as goal

pub returns-in_default-clause-too_expensive : goal.returns-in_default-clause-too_expensive
returns-in_default-clause-too_expensive c =
    λ _. too_expensive _ _ c.self.inside.lines.items _ c.self.view_is (sym (c.in_default.ensures ∙ ap (position (is_covered c.args.weight c.args.payment.now)) c.as_slice.ensures.value))

pub sell-above-requires : goal.sell-above-requires
sell-above-requires c =
    price_covered _ _ c.self.inside.lines.items c.in-Some.place _
    (sym (c.in-Some.ensures ∙ ap (position (is_covered c.args.weight c.args.payment.now)) c.as_slice.ensures.value)) c.index_mut-line.ensures.value

pub book_excess-requires : goal.book_excess-requires
book_excess-requires c =
    let first = sym (c.in-Some.ensures ∙ ap (position (is_covered c.args.weight c.args.payment.now)) c.as_slice.ensures.value) in
    let found : paying c.args.weight c.args.payment.now c.args.self.now ≡ Some c.index_mut-line.result.now = paying_at _ _ c.self.inside.lines.items _ c.in-Some.place _ c.self.view_is first c.index_mut-line.ensures.value in
    let asset : c.id.result.now ≡ Concrete c.index_mut-line.result.now.rate.asset =
    c.id.ensures ∙ ap (λ (l : Line). Concrete l.rate.asset) c.sell-above.ensures.line ∙ ap (λ (r : Rate). Concrete r.asset) (rate_kept c.args.weight c.index_mut-line.result.now) in
    listed_paying c.args.weight c.args.payment.now c.args.self.now c.index_mut-line.result.now c.id.result.now c.args.book.now c.requires found asset

pub invariant_of-self : goal.invariant_of-self
invariant_of-self c =
    apart_set _ c.in-Some.place _ c.index_mut-line.result.now c.index_mut-line.ensures.value
    (ap (λ (l : Line). l.rate) c.sell-above.ensures.line ∙ rate_kept c.args.weight c.index_mut-line.result.now) c.self.invariant

pub returns-clause-bought : goal.returns-clause-bought
returns-clause-bought c = λ _.
    let first = sym (c.in-Some.ensures ∙ ap (position (is_covered c.args.weight c.args.payment.now)) c.as_slice.ensures.value) in
    let asset : c.id.result.now ≡ Concrete c.index_mut-line.result.now.rate.asset =
    c.id.ensures ∙ ap (λ (l : Line). Concrete l.rate.asset) c.sell-above.ensures.line ∙ ap (λ (r : Rate). Concrete r.asset) (rate_kept c.args.weight c.index_mut-line.result.now) in
    record {
      line = c.index_mut-line.result.now;
      first = paying_at _ _ c.self.inside.lines.items _ c.in-Some.place _ c.self.view_is first c.index_mut-line.ensures.value;
      left_is = c.sell-above.ensures.payment;
      lines_are = bought_at _ _ c.self.inside.lines.items _ c.in-Some.place _ _ c.self.view_is first c.index_mut-line.ensures.value c.sell-above.ensures.line;
      book_is = c.book_excess.ensures ∙ (λ i. with_saturated (asset i, Kind.Fungible) (c.sell-above.ensures.excess i) c.args.book.now);
    }
