-- What accounts hold at first: listed assets alone, and each instance once.
use Rattle.std.proofs.Common.{◌≡◌, ℕ, ◌+◌, ◌≤◌, Bool, true, false, List, [], ◌∷◌, Some, inl, inr, refl, sym, ap, ◌∙◌, subst, arith}
use Rattle.std.specs.Prelude.{◌||◌, not, is_some, find, if◌then◌else◌}
use Rattle.std.specs.List.{AllByRecursion, list_all, list_any, sum_by, IsDistinct}
use Rattle.std.specs.Ordering.{eq_by_cmp}
use Rattle.std.proofs.lemmas.Bool.{and_parts, and_from, cases_Bool}
use Rattle.std.proofs.lemmas.List.Sums.{sum_by-cons}
use Rattle.amounts.specs.Rows.{amount_if}
use Rattle.amounts.specs.Amounts.{total}
use Rattle.amounts.proofs.Lemmas.{key_same, same_key, total-merge}
use Rattle.asset_lists.specs.declared.units.Fun.{Fun}
use Rattle.asset_lists.specs.declared.units.Fun.TheVariants as funs
use Rattle.asset_lists.specs.declared.units.Instance.{Instance}
use Rattle.asset_lists.specs.Units.{Unit, unit_of, amount_of, unit_cmp, asset_id_cmp, instance_cmp, instance_in, amount_in}
use Rattle.asset_lists.specs.UnitLaws.{asset_id_total, instance_total}
use Rattle.asset_lists.proofs.Lemmas.UnitLaws.{asset_id_exact, instance_exact}
use Rattle.asset_lists.specs.Listed.{listed_of, lists}
use Rattle.asset_bundles.specs.Bundles.{bundle_of}
use Rattle.asset_bundles.proofs.Lemmas.Bundles.{unit_keys}
use Rattle.asset_bundles.proofs.Lemmas.BundleLaws.{total-bundle_of}
use Rattle.ledgers.specs.Ledgers.{Holder, Held, held_by, owners_of}
use Rattle.ledgers.proofs.Lemmas.{holder_keys, held_by_total}
use Rattle.trust_tables.specs.declared.rows.AssetRow.{AssetRow}
use Rattle.trust_tables.specs.Trust.{listing, is_row_of}
use Rattle.trust_tables.proofs.Lemmas.TrustLaws.{listing_says}
use Rattle.network_spec.specs.declared.chain.Balance.{Balance}
use Rattle.network_steps.specs.Tests.{is_balance, same_fun, same_holding}
use Rattle.network_steps.specs.Genesis.{with_balance, with_balances}
use Rattle.law_steps.specs.Rooms.{unlisted}
use Rattle.plain_lists.proofs.Lemmas.Facts.{false_not_true as not_both}

-- ---- sums over balances
weight : (Holder → Bool) → Balance → ℕ
weight t b = amount_if (t (b.who, unit_of b.asset)) (amount_of b.asset)

one_balance : (t : Holder → Bool) (held : Held) (b : Balance) → total t (with_balance held b) ≡ total t held + weight t b
unfolding weight
one_balance t held b =
    let sum = total-merge holder_keys t held (held_by b.who (bundle_of (b.asset ∷ []))) in
    let share = held_by_total t b.who (bundle_of (b.asset ∷ [])) in
    let list = total-bundle_of (λ (unit : Unit). t (b.who, unit)) (b.asset ∷ []) in
    omega (arith, sum, share, list)

all_balances : (t : Holder → Bool) (held : Held) (bs : List Balance) → total t (with_balances held bs) ≡ total t held + sum_by (weight t) bs
all_balances t held [] = omega arith
all_balances t held (b ∷ bs) =
    let one = one_balance t held b in
    let rest = all_balances t (with_balance held b) bs in
    let sum = sum_by-cons (weight t) b bs in
    omega (arith, one, rest, sum)

-- ---- listed assets
finds_some : {A : Type 0} (p : A → Bool) (xs : List A) → list_any p xs ≡ true → is_some (find p xs) ≡ true
finds_some p [] h = absurd cc
finds_some p (x ∷ xs) h =
    elim (p x) as (λ b. (b || list_any p xs) ≡ true → is_some (if b then Some x else find p xs) ≡ true) [
      | true ↦ λ g. refl
      | false ↦ λ g. finds_some p xs g
    ] h

balance_listed : (rows : List AssetRow) (b : Balance) → is_balance rows b ≡ true → lists (listing rows) (listed_of (unit_of b.asset)) ≡ true
balance_listed rows b h = listing_says rows b.asset ∙ finds_some (is_row_of b.asset) rows (and_parts (list_any (is_row_of b.asset) rows) _ h).0

abbrev pub of_unlisted : List AssetRow → Holder → Bool
of_unlisted rows h = unlisted rows (listed_of h.1)

nothing_of : (rows : List AssetRow) (b : Balance) → of_unlisted rows (b.who, unit_of b.asset) ≡ false → weight (of_unlisted rows) b ≡ 0
unfolding weight
nothing_of rows b h = ap (λ c. amount_if c (amount_of b.asset)) h

no_weight_of : (rows : List AssetRow) (bs : List Balance) → list_all (is_balance rows) bs ≡ true → sum_by (weight (of_unlisted rows)) bs ≡ 0
no_weight_of rows [] h = refl
no_weight_of rows (b ∷ bs) h =
    let parts = and_parts (is_balance rows b) (list_all (is_balance rows) bs) h in
    let rest = no_weight_of rows bs parts.1 in
    let one = nothing_of rows b (ap not (balance_listed rows b parts.0)) in
    let sum = sum_by-cons (weight (of_unlisted rows)) b bs in
    omega (arith, rest, one, sum)

pub none_unlisted : (rows : List AssetRow) (held : Held) (bs : List Balance) → total (of_unlisted rows) held ≡ 0 → list_all (is_balance rows) bs ≡ true → total (of_unlisted rows) (with_balances held bs) ≡ 0
none_unlisted rows held bs none h =
    let all = all_balances (of_unlisted rows) held bs in
    let nothing = no_weight_of rows bs h in
    omega (arith, all, nothing, none)

-- ---- instances
abbrev has_unit : Unit → Holder → Bool
has_unit unit h = eq_by_cmp unit_cmp unit h.1

ids_same : (u v : Unit) → u ≡ v → eq_by_cmp asset_id_cmp u.0 v.0 ≡ true
ids_same u v e = subst (λ (w : Unit). eq_by_cmp asset_id_cmp u.0 w.0 ≡ true) e (same_key {R = asset_id_cmp} (record { total = asset_id_total; exact = asset_id_exact }) u.0)

some_instance : (x y : Instance) → Some x ≡ Some y → x ≡ y
some_instance x y e = cc

funs_same : (who other : List ℕ) (f g : Fun) (i : Instance) → instance_in f ≡ Some i → instance_in g ≡ Some i → same_fun who f other g ≡ true
funs_same who other (funs.Fungible a) g i h k = absurd cc
funs_same who other (funs.NonFungible a) (funs.Fungible b) i h k = absurd cc
funs_same who other (funs.NonFungible a) (funs.NonFungible b) i h k =
    subst (λ (j : Instance). eq_by_cmp instance_cmp a j ≡ true) (some_instance a b (h ∙ sym k)) (same_key {R = instance_cmp} (record { total = instance_total; exact = instance_exact }) a)

one_of_instance : (f : Fun) (i : Instance) → instance_in f ≡ Some i → amount_in f ≡ 1
one_of_instance (funs.Fungible a) i h = absurd cc
one_of_instance (funs.NonFungible a) i h = refl

-- another balance of the instance would be the same holding
other_none : (unit : Unit) (i : Instance) → unit.1 ≡ Some i → (b y : Balance) → eq_by_cmp unit_cmp unit (unit_of b.asset) ≡ true → same_holding b y ≡ false → weight (has_unit unit) y ≡ 0
unfolding weight
other_none unit i is b y here differ =
    elim (eq_by_cmp unit_cmp unit (unit_of y.asset)) as (λ c. eq_by_cmp unit_cmp unit (unit_of y.asset) ≡ c → amount_if c (amount_of y.asset) ≡ 0) [
      | true ↦ λ t.
          let one = key_same unit_keys unit (unit_of b.asset) here in
          let two = key_same unit_keys unit (unit_of y.asset) t in
          let ids = ids_same (unit_of b.asset) (unit_of y.asset) (sym one ∙ two) in
          let same = funs_same b.who y.who b.asset.fun y.asset.fun i (ap (λ (u : Unit). u.1) (sym one) ∙ is) (ap (λ (u : Unit). u.1) (sym two) ∙ is) in
          absurd (not_both (same_holding b y) differ (and_from _ _ ids same))
      | false ↦ λ t. refl
    ] refl

others_none : (unit : Unit) (i : Instance) → unit.1 ≡ Some i → (b : Balance) (ys : List Balance) → eq_by_cmp unit_cmp unit (unit_of b.asset) ≡ true → AllByRecursion (λ y. same_holding b y ≡ false) ys → sum_by (weight (has_unit unit)) ys ≡ 0
others_none unit i is b [] here differ = refl
others_none unit i is b (y ∷ ys) here differ =
    let one = other_none unit i is b y here differ.0 in
    let rest = others_none unit i is b ys here differ.1 in
    let sum = sum_by-cons (weight (has_unit unit)) y ys in
    omega (arith, one, rest, sum)

at_most_one : (unit : Unit) (i : Instance) → unit.1 ≡ Some i → (bs : List Balance) → IsDistinct same_holding bs → sum_by (weight (has_unit unit)) bs ≤ 1
unfolding IsDistinct weight
at_most_one unit i is [] distinct = omega arith
at_most_one unit i is (b ∷ bs) distinct =
    let sum = sum_by-cons (weight (has_unit unit)) b bs in
    elim (cases_Bool (eq_by_cmp unit_cmp unit (unit_of b.asset))) [
      | inl here ↦
          let rest = others_none unit i is b bs here distinct.0 in
          let same = key_same unit_keys unit (unit_of b.asset) here in
          let one : amount_of b.asset ≡ 1 = one_of_instance b.asset.fun i (ap (λ (u : Unit). u.1) (sym same) ∙ is) in
          let counted : amount_if (eq_by_cmp unit_cmp unit (unit_of b.asset)) (amount_of b.asset) ≡ amount_of b.asset = ap (λ c. amount_if c (amount_of b.asset)) here in
          omega (arith, sum, rest, one, counted)
      | inr other ↦
          let rest = at_most_one unit i is bs distinct.1 in
          let counted : amount_if (eq_by_cmp unit_cmp unit (unit_of b.asset)) (amount_of b.asset) ≡ 0 = ap (λ c. amount_if c (amount_of b.asset)) other in
          omega (arith, sum, rest, counted)
    ]

pub one_owner : (unit : Unit) (i : Instance) → unit.1 ≡ Some i → (held : Held) (bs : List Balance) → owners_of unit held ≡ 0 → IsDistinct same_holding bs → owners_of unit (with_balances held bs) ≤ 1
one_owner unit i is held bs none distinct =
    let all = all_balances (has_unit unit) held bs in
    let few = at_most_one unit i is bs distinct in
    omega (arith, all, few, none)
