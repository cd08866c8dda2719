-- Ids that are lent, in order and once each.
use Rattle.std.proofs.Common.{◌≡◌, Bool, true, false, cond, List, [], ◌∷◌, map, refl, sym, ap, ◌∙◌}
use Rattle.std.specs.List.{AllByRecursion, dedup, dedup_from}
use Rattle.std.specs.List.Retain.{IsFiltered, DiffersFromLast}
use Rattle.std.specs.List.Sorted.{IsSorted, IsStrictlySortedBy}
use Rattle.std.specs.Ordering.{eq_by_cmp}
use Rattle.std.specs.declared.cmp.Ordering.{Ordering}
use Rattle.std.specs.declared.cmp.Ordering.TheVariants.{Less}
use Rattle.std.specs.Borrow.{Bor}
use Rattle.std.specs.Cmp.{on_total}
use Rattle.std.proofs.lemmas.List.Filters.{dedup_is}
use Rattle.std.proofs.lemmas.List.Kept.{IsStrictlySortedBy-dedup}
use Rattle.asset_lists.specs.declared.units.AssetId.{AssetId}
use Rattle.asset_lists.specs.Units.{asset_id_cmp}
use Rattle.asset_lists.specs.UnitLaws.{asset_id_total}

abbrev pub lent : Bor AssetId → AssetId
lent id = id.now

abbrev pub lent_cmp : Bor AssetId → Bor AssetId → Ordering
lent_cmp a b = asset_id_cmp a.now b.now

abbrev pub same_lent : Bor AssetId → Bor AssetId → Bool
same_lent a b = eq_by_cmp asset_id_cmp a.now b.now

either_map : (b : Bool) (xs ys : List (Bor AssetId)) → map lent (cond b xs ys) ≡ cond b (map lent xs) (map lent ys)
either_map true xs ys = refl
either_map false xs ys = refl

dedup_lent_from : (x : Bor AssetId) (xs : List (Bor AssetId)) → map lent (dedup_from same_lent x xs) ≡ dedup_from (eq_by_cmp asset_id_cmp) (lent x) (map lent xs)
dedup_lent_from x [] = refl
dedup_lent_from x (y ∷ ys) =
    either_map (same_lent y x) (dedup_from same_lent x ys) (x ∷ dedup_from same_lent y ys)
    ∙ (λ i. cond (same_lent y x) (dedup_lent_from x ys i) (lent x ∷ dedup_lent_from y ys i))

dedup_lent : (xs : List (Bor AssetId)) → map lent (dedup same_lent xs) ≡ dedup (eq_by_cmp asset_id_cmp) (map lent xs)
dedup_lent [] = refl
dedup_lent (x ∷ xs) = dedup_lent_from x xs

all_lent : (x : Bor AssetId) (xs : List (Bor AssetId)) → AllByRecursion (λ y. lent_cmp x y ≡ Less) xs → AllByRecursion (λ y. asset_id_cmp (lent x) y ≡ Less) (map lent xs)
all_lent x [] all = tt
all_lent x (y ∷ ys) all = (all.0, all_lent x ys all.1)

strictly_lent : (xs : List (Bor AssetId)) → IsStrictlySortedBy lent_cmp xs → IsStrictlySortedBy asset_id_cmp (map lent xs)
unfolding IsStrictlySortedBy
strictly_lent [] rising = tt
strictly_lent (x ∷ xs) rising = (all_lent x xs rising.0, strictly_lent xs rising.1)

pub rising_lent : (xs : List (Bor AssetId)) → IsSorted lent_cmp xs → IsStrictlySortedBy asset_id_cmp (map lent (dedup same_lent xs))
rising_lent xs sorted = strictly_lent (dedup same_lent xs) (IsStrictlySortedBy-dedup (on_total lent asset_id_total) (λ x y. refl) xs sorted)

pub deduped : (xs ys : List (Bor AssetId)) → IsFiltered (DiffersFromLast same_lent) [] xs ys → map lent ys ≡ dedup (eq_by_cmp asset_id_cmp) (map lent xs)
deduped xs ys h = ap (map lent) (dedup_is same_lent xs ys h) ∙ dedup_lent xs
