-- Chains by their names, paths of locations that are seen from the root, and units by their holders.
use Rattle.std.specs.Prelude.{◌≡◌, ℕ, ◌&&◌, Bool, true, false, List, [], ◌∷◌, Option, None, Some, option_map, find, map, sum_by, refl}
use Rattle.std.specs.Ordering.{eq_by_cmp}
use Rattle.std.specs.Cmp.{both_ways}
use Rattle.std.proofs.Common.{sym, ◌∙◌, subst, arith, cond}
use Rattle.std.proofs.lemmas.Bool.{and_parts, and_from}
use Rattle.std.proofs.lemmas.List.Sums.{sum_by-cons}
use Rattle.amounts.specs.Rows.{sum_where}
use Rattle.amounts.specs.Amounts.{amount}
use Rattle.amounts.proofs.Lemmas.AmountLaws.{total_alike, amount-total}
use Rattle.amounts.proofs.Lemmas.{same_key, key_same, total-from_rows}
use Rattle.locations.specs.declared.grammar.Junction.{Junction}
use Rattle.locations.specs.declared.relative.Location.{Location}
use Rattle.locations.specs.Chains.{path_of}
use Rattle.asset_lists.specs.declared.units.Asset.{Asset}
use Rattle.asset_lists.specs.declared.units.AssetId.{AssetId}
use Rattle.asset_lists.specs.declared.units.Instance.{Instance}
use Rattle.asset_lists.specs.declared.units.Kind.{Kind}
use Rattle.asset_lists.specs.Units.{asset_id_cmp}
use Rattle.asset_lists.proofs.Lemmas.UnitLaws.{asset_id_decides}
use Rattle.asset_bundles.specs.Bundles.{bundle_of, rows_of, is_asset, is_kind}
use Rattle.asset_bundles.proofs.Lemmas.Bundles.{unit_keys}
use Rattle.ledgers.specs.Ledgers.{Holder, Held, account_cmp, holder_cmp, is_account, is_holding_of, account_sum_of}
use Rattle.ledgers.proofs.Lemmas.{account_keys, holder_keys}
use Rattle.supply_audit.specs.Places.{asset_amount_in, list_share}
use Rattle.plain_lists.proofs.Lemmas.Facts.{find_mapped as find-map}

-- a path from the root
pub from_root : (root interior path : List Junction) → root ≡ [] → interior ≡ path → (let id : Location = record { parents = 0; interior = interior } in path_of root id) ≡ path
from_root root interior path is_root is_interior = λ i. path_of (is_root i) (record { parents = 0; interior = is_interior i })

-- what a list has of an asset, asset by asset
rows_share : (id : AssetId) (kind : Kind) (list : List Asset) → sum_where (is_asset id kind) (rows_of list) ≡ sum_by (list_share id kind) list
rows_share id kind [] = refl
rows_share id kind (a ∷ list) = let rest = rows_share id kind list in let all = sum_by-cons (list_share id kind) a list in omega (arith, rest, all)

pub in_list_is : (id : AssetId) (kind : Kind) (list : List Asset) → sum_by (list_share id kind) list ≡ asset_amount_in id kind (bundle_of list)
unfolding bundle_of
in_list_is id kind list = sym (total-from_rows unit_keys (is_asset id kind) (rows_of list) ∙ rows_share id kind list)

-- the one unit of an asset that has amounts
no_instance : (i : Option Instance) → is_kind Kind.Fungible i ≡ true → None ≡ i
no_instance None t = refl
no_instance (Some i) t = absurd (cc)

one_unit : (who : List ℕ) (id : AssetId) (h : Holder) → eq_by_cmp holder_cmp (who, (id, None)) h ≡ (is_account who h && is_holding_of (id, Kind.Fungible) h)
one_unit who id h =
    both_ways (eq_by_cmp holder_cmp (who, (id, None)) h) (is_account who h && is_holding_of (id, Kind.Fungible) h)
    (λ t.
    let same : (who, (id, None)) ≡ h = key_same holder_keys (who, (id, None)) h t in
    subst (λ (g : Holder). (is_account who g && is_holding_of (id, Kind.Fungible) g) ≡ true) same
    (and_from (eq_by_cmp account_cmp who who) (eq_by_cmp asset_id_cmp id id && true) (same_key account_keys who)
    (and_from (eq_by_cmp asset_id_cmp id id) true ((asset_id_decides id id).1 refl) refl)))
    (λ t.
    let parts = and_parts (is_account who h) (is_holding_of (id, Kind.Fungible) h) t in
    let unit = and_parts (eq_by_cmp asset_id_cmp id h.1.0) (is_kind Kind.Fungible h.1.1) parts.1 in
    let account : who ≡ h.0 = key_same account_keys who h.0 parts.0 in
    let name : id ≡ h.1.0 = (asset_id_decides id h.1.0).0 unit.0 in
    let none : None ≡ h.1.1 = no_instance h.1.1 unit.1 in
    let same : (who, (id, None)) ≡ h = λ i. (account i, (name i, none i)) in
    subst (λ (g : Holder). eq_by_cmp holder_cmp (who, (id, None)) g ≡ true) same (same_key holder_keys (who, (id, None))))

pub fungible_account : (held : Held) (who : List ℕ) (id : AssetId) → amount held (who, (id, None)) ≡ account_sum_of who (id, Kind.Fungible) held
fungible_account held who id =
    amount-total holder_keys held (who, (id, None))
    ∙ total_alike (eq_by_cmp holder_cmp (who, (id, None))) (λ (h : Holder). is_account who h && is_holding_of (id, Kind.Fungible) h) held (one_unit who id)
