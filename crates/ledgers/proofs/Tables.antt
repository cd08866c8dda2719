-- The list of assets as the table keeps it.
use Rattle.std.proofs.Common.{◌≡◌, ℕ, zero, suc, ◌+◌, false, not, ◌||◌, cond, if◌then◌else◌, List, [], ◌∷◌, ◌++◌, length, refl, sym, ap, ◌∙◌}
use Rattle.std.specs.Prelude.{Option, None, Some, nat_lt, slice_get}
use Rattle.std.specs.Ordering.{eq_by_cmp}
use Rattle.std.specs.List.{position, position_or_len, list_any, IsDistinct, AllByRecursion}
use Rattle.std.specs.Cmp.{eq_by_cmp_equiv}
use Rattle.asset_lists.specs.declared.units.AssetId.{AssetId}
use Rattle.asset_lists.specs.declared.units.AssetId.TheVariants.{Concrete, Abstract}
use Rattle.asset_lists.specs.declared.units.Kind.{Kind}
use Rattle.asset_lists.specs.Listed.{Listed, listed_cmp}
use Rattle.asset_bundles.proofs.Lemmas.{listed_keys}
use Rattle.indexmap.specs.IndexSet.{insert_key}
use Rattle.ledgers.specs.declared.listed_asset.ListedAsset.{ListedAsset}
use Rattle.ledgers.specs.AssetTable.{listed_key_of, row_cmp, table_keys}
use Rattle.ledgers.specs.Ledgers.{number_in}
use Rattle.ledgers.proofs.Numbers.{number_at}

pub keys_length : (xs : List ListedAsset) → length (table_keys xs) ≡ length xs
keys_length [] = refl
keys_length (x ∷ xs) = ap (λ n. suc n) (keys_length xs)

places : (k : Listed) (xs : List ListedAsset) → position_or_len (λ a. eq_by_cmp listed_cmp k (listed_key_of a)) xs ≡ position_or_len (eq_by_cmp listed_cmp k) (table_keys xs)
places k [] = refl
places k (x ∷ xs) = ap (λ n. cond {A = ℕ} (not (eq_by_cmp listed_cmp k (listed_key_of x))) (1 + n) 0) (places k xs)

-- the index of an asset in the table is its number
pub table_number : (xs : List ListedAsset) (a : ListedAsset) → position (eq_by_cmp row_cmp a) xs ≡ number_in (table_keys xs) (listed_key_of a)
table_number xs a = λ i. cond (nat_lt (places (listed_key_of a) xs i) (sym (keys_length xs) i)) (Some (places (listed_key_of a) xs i)) None

not_concrete : (xs : List ListedAsset) (n : ℕ) (bytes : List ℕ) (kind : Kind) → slice_get (table_keys xs) n ≡ Some (Abstract bytes, kind) → ⊥
not_concrete [] n bytes kind at = absurd (cc)
not_concrete (x ∷ xs) zero bytes kind at = clash (Concrete x.id) (ap (λ (o : Option Listed). id_of o) at)
  where
    id_of : Option Listed → AssetId
    id_of None = Abstract bytes
    id_of (Some k) = k.0

    clash : (a : AssetId) → ◌≡◌ {A = AssetId} (Concrete x.id) (Abstract bytes) → ⊥
    clash a e = absurd (cc)
not_concrete (x ∷ xs) (suc n) bytes kind at = not_concrete xs n bytes kind at

-- what isn't an index isn't listed
pub no_abstract : (xs : List ListedAsset) (bytes : List ℕ) (kind : Kind) → None ≡ number_in (table_keys xs) (Abstract bytes, kind)
no_abstract xs bytes kind =
    elim (number_in (table_keys xs) (Abstract bytes, kind)) as (λ o. number_in (table_keys xs) (Abstract bytes, kind) ≡ o → None ≡ o) [
      | None ↦ λ e. refl
      | Some n ↦ λ e. absurd (not_concrete xs n bytes kind (number_at (table_keys xs) (Abstract bytes, kind) n e))
    ] refl

-- an asset that is further on in a list without repeats isn't among the first
met : (k : Listed) (xs : List Listed) → AllByRecursion (λ y. eq_by_cmp listed_cmp k y ≡ false) xs → (front back : List Listed) (y : Listed) → xs ≡ front ++ y ∷ back → eq_by_cmp listed_cmp k y ≡ false
met k [] all [] back y e = absurd (cc)
met k [] all (x ∷ front) back y e = absurd (cc)
met k (z ∷ xs) all [] back y e = (let same : z ≡ y = cc in ap (eq_by_cmp listed_cmp k) (sym same) ∙ all.0)
met k (z ∷ xs) all (x ∷ front) back y e = (let rest : xs ≡ front ++ y ∷ back = cc in met k xs all.1 front back y rest)

pub not_among : (all : List Listed) → IsDistinct (eq_by_cmp listed_cmp) all → (front : List ListedAsset) (y : Listed) (back : List Listed) → all ≡ table_keys front ++ y ∷ back
    → list_any (λ a. eq_by_cmp listed_cmp y (listed_key_of a)) front ≡ false
unfolding IsDistinct
not_among all distinct [] y back e = refl
not_among [] distinct (x ∷ front) y back e = absurd (cc)
not_among (z ∷ all) distinct (x ∷ front) y back e =
    let first : z ≡ listed_key_of x = cc in
    let rest : all ≡ table_keys front ++ y ∷ back = cc in
    let here : eq_by_cmp listed_cmp y (listed_key_of x) ≡ false = (eq_by_cmp_equiv listed_keys.total).symm y (listed_key_of x) ∙ ap (λ k. eq_by_cmp listed_cmp k y) (sym first) ∙ met z all distinct.0 (table_keys front) back y rest in
    λ i. here i || not_among all distinct.1 front y back rest i

keys_push : (xs : List ListedAsset) (a : ListedAsset) (rest : List Listed) → table_keys (xs ++ a ∷ []) ++ rest ≡ table_keys xs ++ listed_key_of a ∷ rest
keys_push [] a rest = refl
keys_push (x ∷ xs) a rest = ap (λ ys. listed_key_of x ∷ ys) (keys_push xs a rest)

-- one more asset goes after the others
pub one_more_asset : (all : List Listed) → IsDistinct (eq_by_cmp listed_cmp) all → (xs : List ListedAsset) (a : ListedAsset) (rest : List Listed) → table_keys xs ++ listed_key_of a ∷ rest ≡ all
    → table_keys (insert_key (eq_by_cmp row_cmp) xs a) ++ rest ≡ all
one_more_asset all distinct xs a rest e =
    ap (λ b. table_keys (if b then xs else xs ++ a ∷ []) ++ rest) (not_among all distinct xs (listed_key_of a) rest (sym e)) ∙ keys_push xs a rest ∙ e

pub none_left : (xs : List Listed) → xs ++ [] ≡ xs
none_left [] = refl
none_left (x ∷ xs) = ap (λ ys. x ∷ ys) (none_left xs)
