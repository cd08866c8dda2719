-- Lemmas: the list of a message that arrives joins an empty holding without excess. A reader may skip this file.
use Rattle.std.proofs.Common.{◌≡◌, ℕ, zero, suc, ◌+◌, ◌-◌, ◌^◌, ◌<◌, ◌≤◌, Bool, true, false, List, [], ◌∷◌, Option, Some, None, refl, sym, ap, ◌∙◌, arith}
use Rattle.std.specs.Prelude.{cond}
use Rattle.std.specs.Option.{option_and_then}
use Rattle.std.specs.Ordering.{is_eq}
use Rattle.std.proofs.lemmas.List.Sums.{sum_by-cons}
use Rattle.amounts.specs.Amounts.{amount, total, empty}
use Rattle.amounts.proofs.Lemmas.AmountLaws.{amount-empty, amount-total, total-empty}
use Rattle.amounts.specs.Rows.{amount_if, sum_where}
use Rattle.amounts.proofs.Lemmas.{key_same, same_key}
use Rattle.locations.specs.declared.grammar.Junction.{Junction}
use Rattle.locations.specs.declared.relative.Location.{Location}
use Rattle.asset_lists.specs.declared.units.Asset.{Asset}
use Rattle.asset_lists.specs.declared.units.Instance.{Instance}
use Rattle.asset_lists.specs.declared.units.Fun.{Fun}
use Rattle.asset_lists.specs.Lists.{is_rising, is_of}
use Rattle.asset_lists.specs.Moves.{occurrences, reanchored_list}
use Rattle.asset_lists.proofs.Lemmas.{once_each}
use Rattle.asset_lists.specs.Units.{Unit, unit_of, unit_cmp, amount_of, amount_in, instance_in}
use Rattle.asset_lists.specs.Listed.{Listed, listed_of, lists}
use Rattle.asset_bundles.specs.Bundles.{Bundle, rows_of, bundle_of}
use Rattle.asset_bundles.proofs.Lemmas.Bundles.{unit_keys}
use Rattle.asset_bundles.proofs.Lemmas.BundleLaws.{total-bundle_of}
use Rattle.asset_bundles.specs.Books.{AreListed}
use Rattle.asset_bundles.specs.Joins.{most_of, Joined}
use Rattle.asset_bundles.proofs.Lemmas.{amount-Joined}
use Rattle.chain_ids.specs.declared.chain.ChainId.{ChainId}
use Rattle.trust_tables.specs.declared.chains.Site.{Site}
use Rattle.trust_tables.specs.Chains.{path_of_site, location_of}
use Rattle.exec_base.specs.Arrivals.{arrived_list}
use Rattle.law_runs.proofs.Lemmas.Shipping.{named_list}
use Rattle.law_nets.proofs.Fitting.{just_unit}
use Rattle.law_nets.proofs.Calls.{FitTogether}

-- ---- a list in order has each instance once
rises_by : (context : List Junction) (xs new : List Asset) (o : Option Location) → option_and_then (λ (target : Location). reanchored_list target context xs) o ≡ Some new → is_rising new ≡ true
rises_by context xs new None e = absurd cc
rises_by context xs new (Some target) e = (named_list target context xs new e).rising

pub arrived_rises : (site : Site) (sender : ChainId) (xs new : List Asset) → arrived_list site sender xs ≡ Some new → is_rising new ≡ true
unfolding arrived_list
arrived_rises site sender xs new e = rises_by (path_of_site (record { network = site.network; chain = sender })) xs new (location_of sender site.chain) e

one_for : (f : Fun) (instance : Instance) → instance_in f ≡ Some instance → amount_in f ≤ 1
one_for (Fun.Fungible n) instance e = absurd cc
one_for (Fun.NonFungible instance) other e = omega arith

counted_once : (u : Unit) (instance : Instance) → u.1 ≡ Some instance → (a : Asset) → amount_if (just_unit u (unit_of a)) (amount_of a) ≤ cond {A = ℕ} (is_of u a) 1 0
counted_once u instance e a =
    elim (just_unit u (unit_of a)) as (λ b. just_unit u (unit_of a) ≡ b → amount_if b (amount_of a) ≤ cond {A = ℕ} (is_of u a) 1 0) [
      | true ↦ λ t.
          let same : u ≡ unit_of a = key_same unit_keys u (unit_of a) t in
          let is : is_of u a ≡ true = ap (λ (v : Unit). is_eq (unit_cmp v u)) (sym same) ∙ same_key unit_keys u in
          let one : amount_of a ≤ 1 = one_for a.fun instance (sym (ap (λ (v : Unit). v.1) same) ∙ e) in
          let counts : cond {A = ℕ} (is_of u a) 1 0 ≡ 1 = ap (λ (b : Bool). cond {A = ℕ} b 1 0) is in
          omega (arith, one, counts)
      | false ↦ λ t. omega arith
    ] refl

instance_rows : (u : Unit) (instance : Instance) → u.1 ≡ Some instance → (xs : List Asset) → sum_where (just_unit u) (rows_of xs) ≤ occurrences u xs
instance_rows u instance e [] = omega arith
instance_rows u instance e (a ∷ xs) =
    let first = counted_once u instance e a in
    let rest = instance_rows u instance e xs in
    let count : occurrences u (a ∷ xs) ≡ cond {A = ℕ} (is_of u a) 1 0 + occurrences u xs = sum_by-cons (λ b. cond {A = ℕ} (is_of u b) 1 0) a xs in
    omega (arith, first, rest, count)

-- ---- a list that comes into an empty holding
none_of_empty : (u : Unit) → total {R = unit_cmp} (just_unit u) empty ≡ 0
none_of_empty u = total-empty unit_keys (just_unit u)

fit_by : (goods : Bundle) (u : Unit) (o : Option Instance) → u.1 ≡ o → total (just_unit u) (Joined empty goods) ≤ 2 ^ 127 → ((instance : Instance) → u.1 ≡ Some instance → total (just_unit u) goods ≤ 1) → total {R = unit_cmp} (just_unit u) empty + total (just_unit u) goods ≤ most_of o
fit_by goods u None e small once =
    let joined = amount-Joined empty goods u in
    let none = amount-empty unit_keys u in
    let a = amount-total unit_keys (Joined empty goods) u in
    let b = amount-total unit_keys goods u in
    let z = none_of_empty u in
    let end : most_of u.1 ≡ 2 ^ 128 - 1 = ap most_of e in
    omega (arith, small, joined, none, a, b, z, end)
fit_by goods u (Some instance) e small once = let one = once instance e in let z = none_of_empty u in omega (arith, one, z)

-- where what is held then is small, nothing was above
pub list_fits : (listed : List Listed) (new : List Asset) → is_rising new ≡ true → AreListed listed (bundle_of new)
    → ((u : Unit) → lists listed (listed_of u) ≡ true → total (just_unit u) (Joined empty (bundle_of new)) ≤ 2 ^ 127) → FitTogether empty (bundle_of new)
list_fits listed new rising inside small u =
    elim (lists listed (listed_of u)) as (λ b. lists listed (listed_of u) ≡ b → total {R = unit_cmp} (just_unit u) empty + total (just_unit u) (bundle_of new) ≤ most_of u.1) [
      | true ↦ λ t. fit_by (bundle_of new) u u.1 refl (small u t) (λ instance e.
          let rows = instance_rows u instance e new in
          let once = once_each new rising u in
          let whole = total-bundle_of (just_unit u) new in
          omega (arith, rows, once, whole))
      | false ↦ λ t. let none = unlisted_none t in let z = none_of_empty u in omega (arith, none, z)
    ] refl
  where
    not_held : (n : ℕ) → (0 < n → ⊥) → n ≡ 0
    not_held n h = elim n as (λ k. (0 < k → ⊥) → k ≡ 0) [
      | zero ↦ λ g. refl
      | suc k ↦ λ g. absurd (g (omega arith))
    ] h

    unlisted_none : lists listed (listed_of u) ≡ false → total (just_unit u) (bundle_of new) ≡ 0
    unlisted_none t = sym (amount-total unit_keys (bundle_of new) u) ∙ not_held (amount (bundle_of new) u) (λ some. let no_way : true ≡ false = sym (inside u some) ∙ t in absurd cc)
