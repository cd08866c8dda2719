-- The orders of the keys that maps of amounts are made over: numbers, lists, pairs, and keys that represent other keys.
use Rattle.std.specs.Prelude.{◌≡◌, refl}
use Rattle.std.specs.Ordering.{nat_cmp, on, then_cmp, ordering_then}
use Rattle.std.specs.declared.cmp.Ordering.{Ordering}
use Rattle.std.specs.declared.cmp.Ordering.TheVariants.{Less, Equal, Greater}
use Rattle.std.specs.Cmp.{nat_cmp_total, on_total, then_total}
use Rattle.std.specs.Cmp.Lexicographic.{slice_cmp, lists_total}
use Rattle.std.specs.FinMap.{nat_cmp-IsAntisymmetric, slice_cmp-IsAntisymmetric}
use Rattle.amounts.proofs.Lemmas.Rows.{IsKeyOrder}

pub number_keys : IsKeyOrder nat_cmp
number_keys = record { total = nat_cmp_total; exact = nat_cmp-IsAntisymmetric }

-- item by item, the first that differs decides
pub list_keys : {K : Type 0} {R : K → K → Ordering} → IsKeyOrder R → IsKeyOrder (slice_cmp R)
list_keys o = record { total = lists_total o.total; exact = slice_cmp-IsAntisymmetric o.exact }

-- by what a function gives, where it gives no value twice
pub keys_by : {K L : Type 0} {R : L → L → Ordering} (f : K → L) → ((x y : K) → f x ≡ f y → x ≡ y) → IsKeyOrder R → IsKeyOrder (on f R)
keys_by f one o = record { total = on_total f o.total; exact = λ x y e. one x y (o.exact (f x) (f y) e) }

first_ties : (r s : Ordering) → ordering_then r s ≡ Equal → r ≡ Equal
first_ties Less s e = cc
first_ties Equal s e = refl
first_ties Greater s e = cc

second_ties : (r s : Ordering) → ordering_then r s ≡ Equal → s ≡ Equal
second_ties Less s e = cc
second_ties Equal s e = e
second_ties Greater s e = cc

-- by the first of the pair, then by the second
pub pair_keys : {K L : Type 0} {R : K → K → Ordering} {S : L → L → Ordering} → IsKeyOrder R → IsKeyOrder S
    → IsKeyOrder (then_cmp (on (λ (x : K × L). x.0) R) (on (λ (x : K × L). x.1) S))
pair_keys r s = record {
  total = then_total (on_total (λ x. x.0) r.total) (on_total (λ x. x.1) s.total);
  exact = λ x y e i. (r.exact x.0 y.0 (first_ties _ _ e) i, s.exact x.1 y.1 (second_ties _ _ e) i);
}
