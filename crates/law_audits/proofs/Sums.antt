-- The sums of what a chain has, as sums over tests of listed assets.
use Rattle.std.specs.Prelude.{◌≡◌, ℕ, ◌+◌, Bool, true, false, ◌&&◌, not, List, [], ◌∷◌, sum_by, refl}
use Rattle.std.specs.declared.cmp.Ordering.{Ordering}
use Rattle.std.proofs.Common.{arith}
use Rattle.std.proofs.lemmas.List.Sums.{sum_by-cons}
use Rattle.amounts.proofs.Lemmas.Rows.{IsKeyOrder}
use Rattle.amounts.specs.Amounts.{Amounts, total}
use Rattle.amounts.proofs.Lemmas.AmountLaws.{total_alike, total_at_most, total_split}
use Rattle.asset_lists.specs.Listed.{Listed, listed_of}
use Rattle.asset_bundles.specs.Bundles.{Bundle}
use Rattle.asset_bundles.proofs.Lemmas.Bundles.{unit_keys}
use Rattle.asset_bundles.specs.Books.{Burn, is_unit_where}
use Rattle.asset_bundles.proofs.Lemmas.{burn_keys}
use Rattle.ledgers.specs.Ledgers.{Holder, Held, is_account}
use Rattle.ledgers.proofs.Lemmas.{holder_keys}
use Rattle.asset_bundles.specs.declared.trap.Trap.{Trap}
use Rattle.weight_trader.specs.Purchases.{paid_goods}
use Rattle.exec_base.specs.Part.{ChainPart}
use Rattle.law_runs.specs.Sums.{in_kept, in_places, burned_where}
use Rattle.law_runs.proofs.Lemmas.Sums.{account_total}
use Rattle.law_audits.proofs.Rows.{IsSum}

-- ---- sums of sums
and_middle : (a b c : Bool) → (a && (b && c)) ≡ (b && (a && c))
and_middle true b c = refl
and_middle false true c = refl
and_middle false false c = refl

-- the amounts at the keys of a map that pass a further test
pub total_sum : {K : Type 0} {R : K → K → Ordering} → IsKeyOrder R → (on : K → Bool) (g : K → Listed) (m : Amounts R) → IsSum (λ test. total (λ k. on k && test (g k)) m)
total_sum {K} o on g m = record {
  rises = λ t u more. total_at_most (λ k. on k && t (g k)) (λ k. on k && u (g k)) m (λ k. raise (on k) (t (g k)) (u (g k)) (more (g k)));
  splits = λ t u.
      let split = total_split o (λ k. on k && t (g k)) (λ k. u (g k)) m in
      let one = total_alike (λ k. u (g k) && (on k && t (g k))) (λ k. on k && (u (g k) && t (g k))) m (λ k. and_middle (u (g k)) (on k) (t (g k))) in
      let two = total_alike (λ k. not (u (g k)) && (on k && t (g k))) (λ k. on k && (not (u (g k)) && t (g k))) m (λ k. and_middle (not (u (g k))) (on k) (t (g k))) in
      omega (arith, split, one, two);
}
  where
    raise : (a t u : Bool) → (t ≡ true → u ≡ true) → (a && t) ≡ true → (a && u) ≡ true
    raise true t u more h = more h
    raise false t u more h = h

pub both_sum : (f g : (Listed → Bool) → ℕ) → IsSum f → IsSum g → IsSum (λ test. f test + g test)
both_sum f g x y = record {
  rises = λ t u more. let a = x.rises t u more in let b = y.rises t u more in omega (arith, a, b);
  splits = λ t u. let a = x.splits t u in let b = y.splits t u in omega (arith, a, b);
}

pub no_sum : IsSum (λ test. 0)
no_sum = record { rises = λ t u more. omega arith; splits = λ t u. refl }

pub each_sum : {X : Type 0} (f : X → (Listed → Bool) → ℕ) (xs : List X) → ((x : X) → IsSum (f x)) → IsSum (λ test. sum_by (λ x. f x test) xs)
each_sum f [] each = no_sum
each_sum f (x ∷ xs) each =
    let here = each x in
    let rest = each_sum f xs each in
    record {
      rises = λ t u more.
          let one = here.rises t u more in
          let others = rest.rises t u more in
          let a = sum_by-cons (λ x. f x t) x xs in
          let b = sum_by-cons (λ x. f x u) x xs in
          omega (arith, one, others, a, b);
      splits = λ t u.
          let one = here.splits t u in
          let others = rest.splits t u in
          let a = sum_by-cons (λ x. f x t) x xs in
          let b = sum_by-cons (λ x. f x (λ k. u k && t k)) x xs in
          let c = sum_by-cons (λ x. f x (λ k. not (u k) && t k)) x xs in
          omega (arith, one, others, a, b, c);
    }

-- ---- the sums of a chain
pub goods_sum : (b : Bundle) → IsSum (λ test. total (is_unit_where test) b)
goods_sum b = total_sum unit_keys (λ u. true) listed_of b

pub held_sum : (held : Held) → IsSum (λ test. total (λ (h : Holder). is_unit_where test h.1) held)
held_sum held = total_sum holder_keys (λ h. true) (λ (h : Holder). listed_of h.1) held

pub account_sum : (who : List ℕ) (p : ChainPart) → IsSum (λ test. account_total who (is_unit_where test) p)
account_sum who p = total_sum holder_keys (is_account who) (λ (h : Holder). listed_of h.1) p.held

pub burned_sum : (p : ChainPart) → IsSum (λ test. burned_where test p)
burned_sum p = total_sum burn_keys (λ burn. true) (λ (burn : Burn). burn.0) p.burns

pub places_sum : (p : ChainPart) → IsSum (λ test. in_places (is_unit_where test) p)
unfolding in_kept
places_sum p =
    let held = held_sum p.held in
    let traps = each_sum (λ (t : Trap) test. total (is_unit_where test) t.goods) p.traps.traps (λ t. goods_sum t.goods) in
    let paid = goods_sum (paid_goods p.lines) in
    let fees = goods_sum p.fees in
    let slot = goods_sum p.fee_slot in
    let parked = each_sum (λ (b : Bundle) test. total (is_unit_where test) b) p.parked goods_sum in
    both_sum _ _ (both_sum _ _ (both_sum _ _ held traps) (both_sum _ _ (both_sum _ _ paid fees) slot)) parked
