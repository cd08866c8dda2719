-- Payments are kept, and refunds are paid.
use Rattle.std.proofs.Common.{◌≡◌, ℕ, ◌+◌, ◌-◌, ◌^◌, ◌≤◌, Bool, true, false, cond, List, [], ◌∷◌, map, Option, Some, None, refl, sym, ap, ◌∙◌, subst, arith}
use Rattle.std.specs.Prelude.{if◌then◌else◌, nat_eq, min}
use Rattle.std.specs.List.{find}
use Rattle.std.specs.Option.{option_map}
use Rattle.std.specs.Ordering.{eq_by_cmp}
use Rattle.operands.specs.declared.weight.Weight.{Weight}
use Rattle.amounts.specs.Rows.{amount_if, sum_where}
use Rattle.amounts.proofs.Lemmas.Rows.{amount_if-zero}
use Rattle.amounts.specs.Amounts.{amount, single, minus, merge}
use Rattle.amounts.proofs.Lemmas.AmountLaws.{amount-empty}
use Rattle.amounts.proofs.Lemmas.{key_same, amount-minus, amount-merge, amount-single, amount-from_rows}
use Rattle.asset_lists.specs.Units.{Unit, unit_cmp}
use Rattle.asset_bundles.specs.Bundles.{Bundle}
use Rattle.asset_bundles.proofs.Lemmas.Bundles.{unit_keys}
use Rattle.asset_bundles.proofs.Lemmas.BundleLaws.{same_bundles}
use Rattle.weight_trader.specs.declared.rate.Rate.{Rate}
use Rattle.weight_trader.specs.Prices.{price}
use Rattle.plain_lists.specs.Firsts.{change_first}
use Rattle.weight_trader.specs.Purchases.{Line, new_lines, coin_of, is_covered, AreWithinEnd, paying, excess, weight_plus, with_purchase, Bought, paid_goods}
use Rattle.weight_trader.specs.Refunds.{refund_at, is_refunded, goods_of, without_refund, Refunded, Closed}
use Rattle.weight_trader.proofs.Lemmas.ListedLaws.{changed_all, rate_kept}
use Rattle.weight_trader.specs.Laws.{Move, Purchase, Refund, Closing, lines_after, payment_of_move, unspent_by, unspent_of, saturated_by, saturated_of, paid_by, paid_of, given_of, lines_after_all, summed, EndsAreKept, MovesAreKept, PaymentsAreKept, RefundsArePaid, RefundsAreCovered}
use Rattle.weight_trader.proofs.Changes.{found_passes}
use Rattle.plain_lists.proofs.Lemmas.Facts.{told_at_most as within}

-- so much of a line's paid amount as is of the unit
abbrev part : Unit → Line → ℕ → ℕ
part u l n = amount_if (eq_by_cmp unit_cmp u (coin_of l.rate)) n

paid_sum : Unit → List Line → ℕ
paid_sum u lines = sum_where (eq_by_cmp unit_cmp u) (map (λ (line : Line). (coin_of line.rate, line.paid)) lines)

amount-paid : (lines : List Line) (u : Unit) → amount (paid_goods lines) u ≡ paid_sum u lines
unfolding paid_goods paid_sum
amount-paid lines u = amount-from_rows unit_keys (map (λ (line : Line). (coin_of line.rate, line.paid)) lines) u

paid_sum-cons : (u : Unit) (l : Line) (ls : List Line) → paid_sum u (l ∷ ls) ≡ part u l l.paid + paid_sum u ls
unfolding paid_sum
paid_sum-cons u l ls = refl

module _ (p : Line → Bool) (f : Line → Line) (keeps : (l : Line) → (f l).rate ≡ l.rate) (u : Unit) where
  changed_sum : (lines : List Line) (x : Line) → find p lines ≡ Some x → paid_sum u (change_first p f lines) + part u x x.paid ≡ paid_sum u lines + part u x (f x).paid
  changed_sum [] x e = absurd (cc)
  changed_sum (l ∷ ls) x e =
      elim (p l) as (λ b. cond b (Some l) (find p ls) ≡ Some x → paid_sum u (if b then f l ∷ ls else l ∷ change_first p f ls) + part u x x.paid ≡ paid_sum u (l ∷ ls) + part u x (f x).paid) [
        | true ↦ λ t. (
            let same : l ≡ x = cc in
            let new = paid_sum-cons u (f l) ls in
            let old = paid_sum-cons u l ls in
            let rate : part u (f l) (f l).paid ≡ part u l (f l).paid = ap (λ (r : Rate). amount_if (eq_by_cmp unit_cmp u (coin_of r)) (f l).paid) (keeps l) in
            let whole : paid_sum u (f l ∷ ls) + part u l l.paid ≡ paid_sum u (l ∷ ls) + part u l (f l).paid = omega (arith, new, old, rate) in
            subst (λ z. paid_sum u (f l ∷ ls) + part u z z.paid ≡ paid_sum u (l ∷ ls) + part u z (f z).paid) same whole)
        | false ↦ λ t. (
            let rest = changed_sum ls x t in
            let new = paid_sum-cons u l (change_first p f ls) in
            let old = paid_sum-cons u l ls in
            omega (arith, rest, new, old))
      ] e

  unchanged_sum : (lines : List Line) → find p lines ≡ None → paid_sum u (change_first p f lines) ≡ paid_sum u lines
  unchanged_sum [] e = refl
  unchanged_sum (l ∷ ls) e =
      elim (p l) as (λ b. cond b (Some l) (find p ls) ≡ None → paid_sum u (if b then f l ∷ ls else l ∷ change_first p f ls) ≡ paid_sum u (l ∷ ls)) [
        | true ↦ λ t. absurd (cc)
        | false ↦ λ t. (
            let rest = unchanged_sum ls t in
            let new = paid_sum-cons u l (change_first p f ls) in
            let old = paid_sum-cons u l ls in
            omega (arith, rest, new, old))
      ] e

-- ---- the end

purchase_within : (w : Weight) (l : Line) → l.paid ≤ 2 ^ 128 - 1 → (with_purchase w l).paid ≤ 2 ^ 128 - 1
purchase_within w l le =
    elim (nat_eq (price l.rate w) 0) as (λ b. (if b then l else (record { rate = l.rate; bought = weight_plus l.bought w; paid = min (l.paid + price l.rate w) (2 ^ 128 - 1) })).paid ≤ 2 ^ 128 - 1) [
      | true ↦ le
      | false ↦ omega arith
    ]

closed_within : (lines : List Line) → AreWithinEnd (Closed lines)
closed_within [] = tt
closed_within (l ∷ ls) = (omega arith, closed_within ls)

moved_within : (m : Move) (lines : List Line) → AreWithinEnd lines → AreWithinEnd (lines_after m lines)
unfolding Bought Refunded
moved_within (Purchase w payment) lines all = changed_all (λ (line : Line). line.paid ≤ 2 ^ 128 - 1) (is_covered w payment) (with_purchase w) (purchase_within w) lines all
moved_within Closing lines all = closed_within lines
moved_within (Refund w) lines all = changed_all (λ (line : Line). line.paid ≤ 2 ^ 128 - 1) (is_refunded w) (without_refund w) (λ l le. omega (arith, le)) lines all

-- ---- payments

split_payment : (payment : Bundle) (k u : Unit) (a s : ℕ) → a ≤ amount payment k → s ≤ a
    → amount payment u ≡ amount (minus payment k a) u + amount (single {R = unit_cmp} k (a - s)) u + amount (single {R = unit_cmp} k s) u
split_payment payment k u a s held le =
    let left = amount-minus unit_keys payment k a u in
    let paid = amount-single unit_keys k (a - s) u in
    let above = amount-single unit_keys k s u in
    elim (eq_by_cmp unit_cmp u k) as (λ b. eq_by_cmp unit_cmp u k ≡ b → amount (minus payment k a) u ≡ amount payment u - amount_if b a → amount (single {R = unit_cmp} k (a - s)) u ≡ amount_if b (a - s) → amount (single {R = unit_cmp} k s) u ≡ amount_if b s
    → amount payment u ≡ amount (minus payment k a) u + amount (single {R = unit_cmp} k (a - s)) u + amount (single {R = unit_cmp} k s) u) [
      | true ↦ λ t x y z. (let same = ap (amount payment) (key_same unit_keys u k t) in omega (arith, x, y, z, same, held, le))
      | false ↦ λ t x y z. omega (arith, x, y, z)
    ] refl left paid above

purchase_kept : (w : Weight) (payment : Bundle) (lines : List Line) (u : Unit) (o : Option Line) → AreWithinEnd lines → paying w payment lines ≡ o
    → amount payment u ≡ amount (unspent_by w payment o) u + amount (paid_by w o) u + amount (saturated_by w o) u
purchase_kept w payment lines u None all e = let none = amount-empty unit_keys u in omega (arith, none)
purchase_kept w payment lines u (Some l) all e =
    let h = found_passes (is_covered w payment) (λ (line : Line). line.paid ≤ 2 ^ 128 - 1) lines l all e in
    let most = h.1 in
    split_payment payment (coin_of l.rate) u (price l.rate w) (excess w l) (within _ _ h.0) (omega (arith, most))

move_kept : (m : Move) (lines : List Line) (u : Unit) → AreWithinEnd lines → amount (payment_of_move m lines) u ≡ amount (unspent_of m lines) u + amount (paid_of m lines) u + amount (saturated_of m lines) u
move_kept (Purchase w payment) lines u all = purchase_kept w payment lines u (paying w payment lines) all refl
move_kept (Refund w) lines u all = let none = amount-empty unit_keys u in omega (arith, none)
move_kept Closing lines u all = let none = amount-empty unit_keys u in omega (arith, none)

pub payments_kept : PaymentsAreKept
payments_kept [] lines u all = omega arith
payments_kept (m ∷ ms) lines u all =
    let here = move_kept m lines u all in
    let rest = payments_kept ms (lines_after m lines) u (moved_within m lines all) in
    omega (arith, here, rest)

-- ---- refunds

grown_paid : (w : Weight) (l : Line) → l.paid ≤ 2 ^ 128 - 1 → (with_purchase w l).paid ≡ l.paid + (price l.rate w - excess w l)
grown_paid w l le =
    elim (nat_eq (price l.rate w) 0) as (λ b. nat_eq (price l.rate w) 0 ≡ b → (if b then l else (record { rate = l.rate; bought = weight_plus l.bought w; paid = min (l.paid + price l.rate w) (2 ^ 128 - 1) })).paid ≡ l.paid + (price l.rate w - excess w l)) [
      | true ↦ λ t. (let none : price l.rate w ≡ 0 = grind (arith, t) in omega (arith, none))
      | false ↦ λ t. omega (arith, le)
    ] refl

part_sum : (b : Bool) (m n : ℕ) → amount_if b (m + n) ≡ amount_if b m + amount_if b n
part_sum true m n = refl
part_sum false m n = omega arith

bought_sum : (w : Weight) (payment : Bundle) (lines : List Line) (u : Unit) (o : Option Line) → AreWithinEnd lines → paying w payment lines ≡ o
    → paid_sum u (change_first (is_covered w payment) (with_purchase w) lines) ≡ paid_sum u lines + amount (paid_by w o) u
bought_sum w payment lines u None all e =
    let none = amount-empty unit_keys u in
    let same = unchanged_sum (is_covered w payment) (with_purchase w) (rate_kept w) u lines e in
    omega (arith, none, same)
bought_sum w payment lines u (Some l) all e =
    let h = found_passes (is_covered w payment) (λ (line : Line). line.paid ≤ 2 ^ 128 - 1) lines l all e in
    let sum = changed_sum (is_covered w payment) (with_purchase w) (rate_kept w) u lines l e in
    let more = ap (part u l) (grown_paid w l h.1) ∙ part_sum (eq_by_cmp unit_cmp u (coin_of l.rate)) l.paid (price l.rate w - excess w l) in
    let one = amount-single unit_keys (coin_of l.rate) (price l.rate w - excess w l) u in
    omega (arith, sum, more, one)

refunded_sum : (w : Weight) (lines : List Line) (u : Unit) (o : Option Line) → find (is_refunded w) lines ≡ o
    → amount (goods_of (option_map (λ (line : Line). (line.rate.asset, refund_at w line)) o)) u + paid_sum u (change_first (is_refunded w) (without_refund w) lines) ≡ paid_sum u lines
refunded_sum w lines u None e =
    let none = amount-empty unit_keys u in
    let same = unchanged_sum (is_refunded w) (without_refund w) (λ l. refl) u lines e in
    omega (arith, none, same)
refunded_sum w lines u (Some l) e =
    let sum = changed_sum (is_refunded w) (without_refund w) (λ l. refl) u lines l e in
    let less : (l.paid - refund_at w l) + refund_at w l ≡ l.paid = omega arith in
    let parts = sym (part_sum (eq_by_cmp unit_cmp u (coin_of l.rate)) (l.paid - refund_at w l) (refund_at w l)) ∙ ap (part u l) less in
    let one = amount-single unit_keys (coin_of l.rate) (refund_at w l) u in
    omega (arith, sum, parts, one)

closed_unpaid : (lines : List Line) (u : Unit) → paid_sum u (Closed lines) ≡ 0
unfolding paid_sum
closed_unpaid [] u = refl
closed_unpaid (l ∷ ls) u =
    let rest = closed_unpaid ls u in
    let none = amount_if-zero (eq_by_cmp unit_cmp u (coin_of l.rate)) in
    omega (arith, rest, none)

move_paid : (m : Move) (lines : List Line) (u : Unit) → AreWithinEnd lines → amount (given_of m lines) u + paid_sum u (lines_after m lines) ≡ paid_sum u lines + amount (paid_of m lines) u
unfolding Bought Refunded
move_paid (Purchase w payment) lines u all =
    let none = amount-empty unit_keys u in
    let sum = bought_sum w payment lines u (paying w payment lines) all refl in
    omega (arith, none, sum)
move_paid (Refund w) lines u all =
    let none = amount-empty unit_keys u in
    let sum = refunded_sum w lines u (find (is_refunded w) lines) refl in
    omega (arith, none, sum)
move_paid Closing lines u all =
    let none = amount-empty unit_keys u in
    let given = amount-paid lines u in
    let rest = closed_unpaid lines u in
    omega (arith, none, given, rest)

moves_paid : (moves : List Move) (lines : List Line) (u : Unit) → AreWithinEnd lines
    → summed given_of u moves lines + paid_sum u (lines_after_all moves lines) ≡ paid_sum u lines + summed paid_of u moves lines
moves_paid [] lines u all = omega arith
moves_paid (m ∷ ms) lines u all =
    let here = move_paid m lines u all in
    let rest = moves_paid ms (lines_after m lines) u (moved_within m lines all) in
    omega (arith, here, rest)

pub refunds_paid : RefundsArePaid
refunds_paid moves lines u all =
    let sum = moves_paid moves lines u all in
    let before = amount-paid lines u in
    let after = amount-paid (lines_after_all moves lines) u in
    omega (arith, sum, before, after)

pub new_within : (rates : List Rate) → AreWithinEnd (new_lines rates)
new_within [] = tt
new_within (r ∷ rs) = (omega arith, new_within rs)

new_unpaid : (rates : List Rate) (u : Unit) → paid_sum u (new_lines rates) ≡ 0
unfolding paid_sum
new_unpaid [] u = refl
new_unpaid (r ∷ rs) u =
    let rest = new_unpaid rs u in
    let none = amount_if-zero (eq_by_cmp unit_cmp u (coin_of r)) in
    omega (arith, rest, none)

pub refunds_covered : RefundsAreCovered
refunds_covered moves rates u =
    let sum = moves_paid moves (new_lines rates) u (new_within rates) in
    let none = new_unpaid rates u in
    omega (arith, sum, none)

pub ends_kept : EndsAreKept
ends_kept [] lines all = all
ends_kept (m ∷ ms) lines all = ends_kept ms (lines_after m lines) (moved_within m lines all)

pub moves_kept : MovesAreKept
moves_kept m lines all = (
  same_bundles _ _ (λ u.
      let kept = move_kept m lines u all in
      let inner = amount-merge unit_keys (paid_of m lines) (saturated_of m lines) u in
      let both = amount-merge unit_keys (unspent_of m lines) (merge (paid_of m lines) (saturated_of m lines)) u in
      omega (arith, kept, inner, both)),
  same_bundles _ _ (λ u.
      let sum = move_paid m lines u all in
      let before = amount-paid lines u in
      let after = amount-paid (lines_after m lines) u in
      let left = amount-merge unit_keys (given_of m lines) (paid_goods (lines_after m lines)) u in
      let right = amount-merge unit_keys (paid_goods lines) (paid_of m lines) u in
      omega (arith, sum, before, after, left, right)),
)
