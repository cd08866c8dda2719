-- What purchases and refunds do at the line that they find.
use Rattle.std.proofs.Common.{◌≡◌, ℕ, zero, suc, ◌<◌, ◌≤◌, false, List, [], ◌∷◌, get_or, set, Some, None, refl, sym, ap, ◌∙◌, arith}
use Rattle.std.specs.Prelude.{nat_le}
use Rattle.std.specs.Option.{option_map}
use Rattle.std.specs.List.{position, find, AllByRecursion}
use Rattle.operands.specs.declared.weight.Weight.{Weight}
use Rattle.amounts.specs.Amounts.{amount}
use Rattle.asset_bundles.specs.Bundles.{Bundle}
use Rattle.locations.specs.declared.relative.Location.{Location}
use Rattle.weight_trader.specs.Prices.{price}
use Rattle.weight_trader.specs.Purchases.{Line, coin_of, is_covered, paying, IsTooExpensive, with_purchase, some_amount, Bought}
use Rattle.weight_trader.specs.Refunds.{refund_at, is_refunded, refund_of, without_refund, Refunded}
use Rattle.plain_lists.proofs.Lemmas.Firsts.{find_none, change_none, passes_none, found_at, passes_at, changed_at, found_nowhere, changed_nowhere}
use Rattle.plain_lists.proofs.Lemmas.Facts.{told_at_most as within}

pub beyond : (a b : ℕ) → nat_le a b ≡ false → b < a
beyond a b h = grind (arith, h)

unreached : (a b : ℕ) → b < a → nat_le a b ≡ false
unreached a b lt = grind (arith, lt)

module _ (w : Weight) (payment : Bundle) where
  all_beyond : (lines : List Line) → AllByRecursion (λ line. is_covered w payment line ≡ false) lines → IsTooExpensive w payment lines
  all_beyond [] all = tt
  all_beyond (l ∷ ls) all = (beyond _ _ all.0, all_beyond ls all.1)

  none_covered : (lines : List Line) → IsTooExpensive w payment lines → AllByRecursion (λ line. is_covered w payment line ≡ false) lines
  none_covered [] all = tt
  none_covered (l ∷ ls) all = (unreached _ _ all.0, none_covered ls all.1)

  pub paying_none : (lines : List Line) → IsTooExpensive w payment lines → paying w payment lines ≡ None
  paying_none lines all = find_none (is_covered w payment) lines (none_covered lines all)

  pub bought_none : (lines : List Line) → IsTooExpensive w payment lines → Bought w payment lines ≡ lines
  unfolding Bought
  bought_none lines all = change_none (is_covered w payment) (with_purchase w) lines (none_covered lines all)

  pub too_expensive : (lines whole : List Line) → lines ≡ whole → position (is_covered w payment) lines ≡ None → IsTooExpensive w payment whole
  too_expensive lines whole same none = all_beyond whole (passes_none (is_covered w payment) whole (ap (position (is_covered w payment)) (sym same) ∙ none))

  pub price_covered : (lines : List Line) (k : ℕ) (x : Line) → position (is_covered w payment) lines ≡ Some k → x ≡ get_or lines k x → price x.rate w ≤ amount payment (coin_of x.rate)
  price_covered lines k x first at = within _ _ (passes_at (is_covered w payment) lines k x first at).1

  pub paying_at : (lines whole : List Line) (k : ℕ) (x : Line) → lines ≡ whole → position (is_covered w payment) lines ≡ Some k → x ≡ get_or lines k x → paying w payment whole ≡ Some x
  paying_at lines whole k x same first at = ap (paying w payment) (sym same) ∙ found_at (is_covered w payment) lines k x first at

  pub bought_at : (lines whole : List Line) (k : ℕ) (x line : Line) → lines ≡ whole → position (is_covered w payment) lines ≡ Some k → x ≡ get_or lines k x → line ≡ with_purchase w x → set lines k line ≡ Bought w payment whole
  unfolding Bought
  bought_at lines whole k x line same first at is = ap (λ l. set lines k l) is ∙ changed_at (is_covered w payment) (with_purchase w) lines k x first at ∙ ap (Bought w payment) same

module _ (w : Weight) where
  pub refund_nowhere : (lines whole : List Line) → lines ≡ whole → position (is_refunded w) lines ≡ None → refund_of w whole ≡ None
  refund_nowhere lines whole same none =
      ap (option_map (λ (line : Line). (line.rate.asset, refund_at w line))) (ap (find (is_refunded w)) (sym same) ∙ found_nowhere (is_refunded w) lines none)

  pub refunded_nowhere : (lines whole : List Line) → lines ≡ whole → position (is_refunded w) lines ≡ None → whole ≡ Refunded w whole
  unfolding Refunded
  refunded_nowhere lines whole same none = sym (changed_nowhere (is_refunded w) (without_refund w) whole (ap (position (is_refunded w)) (sym same) ∙ none))

  pub refund_from : (lines whole : List Line) (k : ℕ) (x : Line) → lines ≡ whole → position (is_refunded w) lines ≡ Some k → x ≡ get_or lines k x → refund_of w whole ≡ Some (x.rate.asset, refund_at w x)
  refund_from lines whole k x same first at =
      ap (option_map (λ (line : Line). (line.rate.asset, refund_at w line))) (ap (find (is_refunded w)) (sym same) ∙ found_at (is_refunded w) lines k x first at)

  pub refunded_at : (lines whole : List Line) (k : ℕ) (x line : Line) → lines ≡ whole → position (is_refunded w) lines ≡ Some k → x ≡ get_or lines k x → line ≡ without_refund w x → set lines k line ≡ Refunded w whole
  unfolding Refunded
  refunded_at lines whole k x line same first at is = ap (λ l. set lines k l) is ∙ changed_at (is_refunded w) (without_refund w) lines k x first at ∙ ap (Refunded w) same

pub amount_none : (asset : Location) (n : ℕ) → n ≡ 0 → None ≡ some_amount asset n
amount_none asset n none = ap (some_amount asset) (sym none)

pub amount_some : (asset : Location) (n : ℕ) → 0 < n → Some (asset, n) ≡ some_amount asset n
amount_some asset zero some = absurd (omega (arith, some))
amount_some asset (suc n) some = refl
