-- What is looked up in a ledger's rows.
use Rattle.std.proofs.Common.{◌≡◌, ℕ, Bool, true, false, List, [], ◌∷◌, refl, sym, ap, ◌∙◌, subst, true≢false}
use Rattle.std.specs.Prelude.{Option, None, Some, unwrap_or, slice_get, if◌then◌else◌}
use Rattle.std.specs.Ordering.{eq_by_cmp, is_eq}
use Rattle.std.specs.declared.cmp.Ordering.{Ordering}
use Rattle.std.specs.declared.cmp.Ordering.TheVariants.{Less}
use Rattle.std.specs.Map.{lookup, keys_of}
use Rattle.std.specs.List.{AllByRecursion}
use Rattle.std.specs.List.Sorted.{IsStrictlySortedBy}
use Rattle.amounts.proofs.Lemmas.Rows.{IsKeyOrder}
use Rattle.amounts.proofs.Lemmas.Keys.{number_keys, pair_keys}
use Rattle.amounts.proofs.Lemmas.{same_key, key_same}
use Rattle.asset_lists.specs.declared.units.AssetId.{AssetId}
use Rattle.asset_lists.specs.declared.units.Instance.{Instance}
use Rattle.asset_lists.specs.declared.units.Kind.{Kind}
use Rattle.asset_lists.specs.DerivedOrder.{derived_instance_cmp}
use Rattle.asset_lists.specs.Units.{instance_cmp}
use Rattle.asset_lists.specs.UnitLaws.{instance_total}
use Rattle.asset_lists.proofs.Lemmas.UnitLaws.{instance_exact}
use Rattle.asset_lists.proofs.Lemmas.{instances_same}
use Rattle.asset_lists.specs.Listed.{Listed}
use Rattle.ledgers.specs.Ledgers.{Holder, account_cmp, holder_cmp}
use Rattle.ledgers.proofs.Lemmas.{account_keys, holder_keys}
use Rattle.ledgers.specs.LedgerRows.{IsOnce, owned, AmountKey, amount_key_cmp, OwnerKey, owner_key_cmp, fungible_row, amount_row, amount_rows, instance_row, owner_row, owner_rows}
use Rattle.plain_lists.proofs.Lemmas.Facts.{false_where_not_true as not_true, same_bools as both_ways}

pub amount_keys : IsKeyOrder amount_key_cmp
amount_keys = pair_keys account_keys number_keys

instances_in_order : IsKeyOrder instance_cmp
instances_in_order = record { total = instance_total; exact = instance_exact }

pub instance_keys : IsKeyOrder derived_instance_cmp
instance_keys = subst IsKeyOrder (λ i x y. sym (instances_same x y) i) instances_in_order

pub owner_keys : IsKeyOrder owner_key_cmp
owner_keys = pair_keys number_keys instance_keys

pub apart : {K : Type 0} {R : K → K → Ordering} (o : IsKeyOrder R) (j k : K) → (j ≡ k → ⊥) → eq_by_cmp R j k ≡ false
apart {R = R} o j k other = not_true (eq_by_cmp R j k) (λ t. other (key_same o j k t))

pub same_as : {K : Type 0} {R : K → K → Ordering} (o : IsKeyOrder R) (j k : K) → j ≡ k → eq_by_cmp R j k ≡ true
same_as {R = R} o j k e = subst (λ x. eq_by_cmp R j x ≡ true) e (same_key o j)

-- a row that is passed over, or found
passed : {X : Type 0} (b : Bool) (x y : Option X) → b ≡ false → (if b then x else y) ≡ y
passed true x y h = absurd (true≢false h)
passed false x y h = refl

-- rows after the one that is found have other keys
pub none_behind : {K X : Type 0} {R : K → K → Ordering} (o : IsKeyOrder R) (j k : K) (rows : List (K × X)) → AllByRecursion (λ q. R k q ≡ Less) (keys_of rows) → eq_by_cmp R j k ≡ true → lookup (eq_by_cmp R j) rows ≡ None
none_behind o j k [] later here = refl
none_behind {R = R} o j k (row ∷ rows) later here =
    let keys = key_same o j k here in
    let less : R j row.0 ≡ Less = ap (λ q. R q row.0) keys ∙ later.0 in
    passed _ (Some row.1) _ (ap is_eq less) ∙ none_behind o j k rows later.1 here

-- the id and the kind in what the list has at an index
id_in : Option Listed → AssetId → AssetId
id_in None id = id
id_in (Some asset) id = asset.0

pub same_ids : (x y : Listed) → Some x ≡ Some y → x.0 ≡ y.0
unfolding id_in
same_ids x y e = ap (λ o. id_in o x.0) e

kind_in : Option Listed → Kind → Kind
kind_in None kind = kind
kind_in (Some asset) kind = asset.1

pub same_kinds : (x y : Listed) → Some x ≡ Some y → x.1 ≡ y.1
unfolding kind_in
same_kinds x y e = ap (λ o. kind_in o x.1) e

-- ---- amounts
module _ (listed : List Listed) (once : IsOnce listed) (who : List ℕ) (id : AssetId) (n : ℕ) (at : slice_get listed n ≡ Some (id, Kind.Fungible)) where
  -- where the asset has a number, its rows are those under this number
  same_row : (m : ℕ) (w : List ℕ) (other : AssetId) → slice_get listed m ≡ Some (other, Kind.Fungible)
      → eq_by_cmp holder_cmp (who, (id, None)) (w, (other, None)) ≡ eq_by_cmp amount_key_cmp (who, n) (w, m)
  same_row m w other there = both_ways _ _
      (λ t.
      let holders = key_same holder_keys (who, (id, None)) (w, (other, None)) t in
      let ids : id ≡ other = ap (λ (h : Holder). h.1.0) holders in
      let places : n ≡ m = once.place n m (id, Kind.Fungible) at (there ∙ ap (λ x. Some (x, Kind.Fungible)) (sym ids)) in
      same_as amount_keys (who, n) (w, m) (λ i. (ap (λ (h : Holder). h.0) holders i, places i)))
      (λ t.
      let keys = key_same amount_keys (who, n) (w, m) t in
      let here : slice_get listed m ≡ Some (id, Kind.Fungible) = subst (λ k. slice_get listed k ≡ Some (id, Kind.Fungible)) (ap (λ (k : AmountKey). k.1) keys) at in
      let ids : id ≡ other = same_ids (id, Kind.Fungible) (other, Kind.Fungible) (sym here ∙ there) in
      same_as holder_keys (who, (id, None)) (w, (other, None)) (λ i. (ap (λ (k : AmountKey). k.0) keys i, (ids i, None))))

  other_row : (m : ℕ) (w : List ℕ) → (slice_get listed m ≡ Some (id, Kind.Fungible) → ⊥) → eq_by_cmp amount_key_cmp (who, n) (w, m) ≡ false
  other_row m w none = apart amount_keys (who, n) (w, m) (λ e. none (subst (λ k. slice_get listed k ≡ Some (id, Kind.Fungible)) (ap (λ (k : AmountKey). k.1) e) at))

  placed : (m : ℕ) (w : List ℕ) (v : ℕ) (other : AssetId) (kind : Kind) (more : List (Holder × ℕ)) (found : Option ℕ) → slice_get listed m ≡ Some (other, kind)
      → lookup (eq_by_cmp holder_cmp (who, (id, None))) more ≡ found
      → lookup (eq_by_cmp holder_cmp (who, (id, None))) (fungible_row other kind w v more) ≡ (if eq_by_cmp amount_key_cmp (who, n) (w, m) then Some v else found)
  placed m w v other Kind.Fungible more found e further = λ i. if same_row m w other e i then Some v else further i
  placed m w v other Kind.Class more found e further =
      further ∙ sym (passed _ (Some v) found (other_row m w (λ here. (let two = same_kinds (other, Kind.Class) (id, Kind.Fungible) (sym e ∙ here) in absurd (cc)))))

  pub lookup-amounts : (rows : List (AmountKey × ℕ)) (rest : List (Holder × ℕ)) → lookup (eq_by_cmp holder_cmp (who, (id, None))) rest ≡ None
      → lookup (eq_by_cmp holder_cmp (who, (id, None))) (amount_rows listed rows rest) ≡ lookup (eq_by_cmp amount_key_cmp (who, n)) rows
  lookup-amounts [] rest none = none
  lookup-amounts (row ∷ rows) rest none =
      let further = lookup-amounts rows rest none in
      elim (slice_get listed row.0.1) as (λ o. slice_get listed row.0.1 ≡ o → lookup (eq_by_cmp holder_cmp (who, (id, None))) (amount_row o row.0.0 row.1 (amount_rows listed rows rest))
      ≡ (if eq_by_cmp amount_key_cmp (who, n) row.0 then Some row.1 else lookup (eq_by_cmp amount_key_cmp (who, n)) rows)) [
        | None ↦ λ e. further ∙ sym (passed _ (Some row.1) _ (other_row row.0.1 row.0.0 (λ here. (let two : None ≡ Some (id, Kind.Fungible) = sym e ∙ here in absurd (cc)))))
        | Some asset ↦ λ e. placed row.0.1 row.0.0 row.1 asset.0 asset.1 (amount_rows listed rows rest) _ e further
      ] refl

-- ---- keys that no row has
module _ (listed : List Listed) (h : Holder) where
  -- amounts of fungible assets only
  module _ (none : (m : ℕ) (w : List ℕ) (other : AssetId) → slice_get listed m ≡ Some (other, Kind.Fungible) → h ≡ (w, (other, None)) → ⊥) (rest : List (Holder × ℕ)) where
    past_amount : (m : ℕ) (w : List ℕ) (v : ℕ) (other : AssetId) (kind : Kind) (more : List (Holder × ℕ)) → slice_get listed m ≡ Some (other, kind)
        → lookup (eq_by_cmp holder_cmp h) more ≡ lookup (eq_by_cmp holder_cmp h) rest
        → lookup (eq_by_cmp holder_cmp h) (fungible_row other kind w v more) ≡ lookup (eq_by_cmp holder_cmp h) rest
    past_amount m w v other Kind.Fungible more e further = passed _ (Some v) _ (apart holder_keys h (w, (other, None)) (none m w other e)) ∙ further
    past_amount m w v other Kind.Class more e further = further

    pub lookup-past_amounts : (rows : List (AmountKey × ℕ)) → lookup (eq_by_cmp holder_cmp h) (amount_rows listed rows rest) ≡ lookup (eq_by_cmp holder_cmp h) rest
    lookup-past_amounts [] = refl
    lookup-past_amounts (row ∷ rows) =
        let further = lookup-past_amounts rows in
        elim (slice_get listed row.0.1) as (λ o. slice_get listed row.0.1 ≡ o → lookup (eq_by_cmp holder_cmp h) (amount_row o row.0.0 row.1 (amount_rows listed rows rest)) ≡ lookup (eq_by_cmp holder_cmp h) rest) [
          | None ↦ λ e. further
          | Some asset ↦ λ e. past_amount row.0.1 row.0.0 row.1 asset.0 asset.1 (amount_rows listed rows rest) e further
        ] refl

  -- instances of classes only
  module _ (none : (m : ℕ) (w : List ℕ) (other : AssetId) (i : Instance) → slice_get listed m ≡ Some (other, Kind.Class) → h ≡ (w, (other, Some i)) → ⊥) where
    past_owner : (m : ℕ) (i : Instance) (owner : Option (List ℕ)) (other : AssetId) (kind : Kind) (more : List (Holder × ℕ)) → slice_get listed m ≡ Some (other, kind)
        → lookup (eq_by_cmp holder_cmp h) more ≡ None
        → lookup (eq_by_cmp holder_cmp h) (instance_row other kind i owner more) ≡ None
    past_owner m i owner other Kind.Fungible more e further = further
    past_owner m i None other Kind.Class more e further = further
    past_owner m i (Some w) other Kind.Class more e further = passed _ (Some 1) _ (apart holder_keys h (w, (other, Some i)) (none m w other i e)) ∙ further

    pub lookup-past_owners : (rows : List (OwnerKey × Option (List ℕ))) → lookup (eq_by_cmp holder_cmp h) (owner_rows listed rows) ≡ None
    lookup-past_owners [] = refl
    lookup-past_owners (row ∷ rows) =
        let further = lookup-past_owners rows in
        elim (slice_get listed row.0.0) as (λ o. slice_get listed row.0.0 ≡ o → lookup (eq_by_cmp holder_cmp h) (owner_row o row.0.1 row.1 (owner_rows listed rows)) ≡ None) [
          | None ↦ λ e. further
          | Some asset ↦ λ e. past_owner row.0.0 row.0.1 row.1 asset.0 asset.1 (owner_rows listed rows) e further
        ] refl

-- ---- owners
pub same_instances : (a b : Instance) → Some a ≡ Some b → a ≡ b
same_instances a b e = cc

module _ (listed : List Listed) (once : IsOnce listed) (who : List ℕ) (id : AssetId) (instance : Instance) (n : ℕ) (at : slice_get listed n ≡ Some (id, Kind.Class)) where
  pub same_owner_row : (m : ℕ) (i : Instance) (other : AssetId) → slice_get listed m ≡ Some (other, Kind.Class) → id ≡ other → instance ≡ i → eq_by_cmp owner_key_cmp (n, instance) (m, i) ≡ true
  same_owner_row m i other there ids instances =
      let places : n ≡ m = once.place n m (id, Kind.Class) at (there ∙ ap (λ x. Some (x, Kind.Class)) (sym ids)) in
      same_as owner_keys (n, instance) (m, i) (λ j. (places j, instances j))

  other_owner_row : (m : ℕ) (i : Instance) → (slice_get listed m ≡ Some (id, Kind.Class) → ⊥) → eq_by_cmp owner_key_cmp (n, instance) (m, i) ≡ false
  other_owner_row m i none = apart owner_keys (n, instance) (m, i) (λ e. none (subst (λ k. slice_get listed k ≡ Some (id, Kind.Class)) (ap (λ (k : OwnerKey). k.0) e) at))

  here_listed : (m : ℕ) (i : Instance) → eq_by_cmp owner_key_cmp (n, instance) (m, i) ≡ true → slice_get listed m ≡ Some (id, Kind.Class)
  here_listed m i t = subst (λ k. slice_get listed k ≡ Some (id, Kind.Class)) (ap (λ (k : OwnerKey). k.0) (key_same owner_keys (n, instance) (m, i) t)) at

  -- the amount that the rows show at the account and the instance
  unfoldable pub shown : List (Holder × ℕ) → ℕ
  shown rows = unwrap_or (lookup (eq_by_cmp holder_cmp (who, (id, Some instance))) rows) 0

  -- the row of the instance itself: what follows it shows nothing
  shown_here : (w : List ℕ) (i : Instance) (other : AssetId) (more : List (Holder × ℕ)) → id ≡ other → instance ≡ i → shown more ≡ 0
      → shown (((w, (other, Some i)), 1) ∷ more) ≡ owned who (Some w)
  unfolding shown
  shown_here w i other more ids instances none =
      let tests : eq_by_cmp holder_cmp (who, (id, Some instance)) (w, (other, Some i)) ≡ eq_by_cmp account_cmp who w =
      both_ways _ _
      (λ t. same_as account_keys who w (ap (λ (h : Holder). h.0) (key_same holder_keys (who, (id, Some instance)) (w, (other, Some i)) t)))
      (λ t. same_as holder_keys (who, (id, Some instance)) (w, (other, Some i)) (λ j. (key_same account_keys who w t j, (ids j, Some (instances j))))) in
      elim (eq_by_cmp account_cmp who w) as (λ b. eq_by_cmp holder_cmp (who, (id, Some instance)) (w, (other, Some i)) ≡ b
      → unwrap_or (if eq_by_cmp holder_cmp (who, (id, Some instance)) (w, (other, Some i)) then Some 1 else lookup (eq_by_cmp holder_cmp (who, (id, Some instance))) more) 0 ≡ (if b then 1 else 0)) [
        | true ↦ λ t. ap (λ b. unwrap_or (if b then Some 1 else lookup (eq_by_cmp holder_cmp (who, (id, Some instance))) more) 0) t
        | false ↦ λ t. ap (λ b. unwrap_or (if b then Some 1 else lookup (eq_by_cmp holder_cmp (who, (id, Some instance))) more) 0) t ∙ none
      ] tests

  -- the row of another instance
  shown_past : (w : List ℕ) (i : Instance) (other : AssetId) (more : List (Holder × ℕ)) → (id ≡ other → instance ≡ i → ⊥)
      → shown (((w, (other, Some i)), 1) ∷ more) ≡ shown more
  unfolding shown
  shown_past w i other more none =
      let test : eq_by_cmp holder_cmp (who, (id, Some instance)) (w, (other, Some i)) ≡ false =
      not_true _ (λ t.
      let holders = key_same holder_keys (who, (id, Some instance)) (w, (other, Some i)) t in
      none (ap (λ (h : Holder). h.1.0) holders) (same_instances instance i (ap (λ (h : Holder). h.1.1) holders))) in
      ap (λ o. unwrap_or o 0) (passed _ (Some 1) _ test)

  -- the row of a class, before what follows it
  shown_class : (m : ℕ) (i : Instance) (owner : Option (List ℕ)) (other : AssetId) (rows : List (OwnerKey × Option (List ℕ))) → slice_get listed m ≡ Some (other, Kind.Class)
      → AllByRecursion (λ q. owner_key_cmp (m, i) q ≡ Less) (keys_of rows)
      → shown (owner_rows listed rows) ≡ owned who (unwrap_or (lookup (eq_by_cmp owner_key_cmp (n, instance)) rows) None)
      → shown (instance_row other Kind.Class i owner (owner_rows listed rows))
      ≡ owned who (unwrap_or (if eq_by_cmp owner_key_cmp (n, instance) (m, i) then Some owner else lookup (eq_by_cmp owner_key_cmp (n, instance)) rows) None)
  shown_class m i owner other rows e later further =
      elim (eq_by_cmp owner_key_cmp (n, instance) (m, i)) as (λ b. eq_by_cmp owner_key_cmp (n, instance) (m, i) ≡ b → shown (instance_row other Kind.Class i owner (owner_rows listed rows))
      ≡ owned who (unwrap_or (if b then Some owner else lookup (eq_by_cmp owner_key_cmp (n, instance)) rows) None)) [
        | true ↦ λ t. here owner (key_same owner_keys (n, instance) (m, i) t) (further ∙ ap (λ o. owned who (unwrap_or o None)) (none_behind owner_keys (n, instance) (m, i) rows later t))
        | false ↦ λ t. past owner t
      ] refl
    where
      here : (o : Option (List ℕ)) → ◌≡◌ {A = OwnerKey} (n, instance) (m, i) → shown (owner_rows listed rows) ≡ 0 → shown (instance_row other Kind.Class i o (owner_rows listed rows)) ≡ owned who o
      here None keys none = none
      here (Some w) keys none =
          shown_here w i other (owner_rows listed rows)
          (same_ids (id, Kind.Class) (other, Kind.Class) (sym (subst (λ k. slice_get listed k ≡ Some (id, Kind.Class)) (ap (λ (k : OwnerKey). k.0) keys) at) ∙ e)) (ap (λ (k : OwnerKey). k.1) keys) none

      past : (o : Option (List ℕ)) → eq_by_cmp owner_key_cmp (n, instance) (m, i) ≡ false → shown (instance_row other Kind.Class i o (owner_rows listed rows)) ≡ owned who (unwrap_or (lookup (eq_by_cmp owner_key_cmp (n, instance)) rows) None)
      past None t = further
      past (Some w) t = shown_past w i other (owner_rows listed rows) (λ ids instances. true≢false (sym (same_owner_row m i other e ids instances) ∙ t)) ∙ further

  shown_row : (m : ℕ) (i : Instance) (owner : Option (List ℕ)) (other : AssetId) (kind : Kind) (rows : List (OwnerKey × Option (List ℕ))) → slice_get listed m ≡ Some (other, kind)
      → AllByRecursion (λ q. owner_key_cmp (m, i) q ≡ Less) (keys_of rows)
      → shown (owner_rows listed rows) ≡ owned who (unwrap_or (lookup (eq_by_cmp owner_key_cmp (n, instance)) rows) None)
      → shown (instance_row other kind i owner (owner_rows listed rows))
      ≡ owned who (unwrap_or (if eq_by_cmp owner_key_cmp (n, instance) (m, i) then Some owner else lookup (eq_by_cmp owner_key_cmp (n, instance)) rows) None)
  shown_row m i owner other Kind.Fungible rows e later further =
      further ∙ ap (λ o. owned who (unwrap_or o None)) (sym (passed _ (Some owner) _ (other_owner_row m i (λ here. (let two = same_kinds (other, Kind.Fungible) (id, Kind.Class) (sym e ∙ here) in absurd (cc))))))
  shown_row m i owner other Kind.Class rows e later further = shown_class m i owner other rows e later further

  shown_none : shown [] ≡ 0
  unfolding shown
  shown_none = refl

  pub lookup-owners : (rows : List (OwnerKey × Option (List ℕ))) → IsStrictlySortedBy owner_key_cmp (keys_of rows)
      → shown (owner_rows listed rows) ≡ owned who (unwrap_or (lookup (eq_by_cmp owner_key_cmp (n, instance)) rows) None)
  unfolding IsStrictlySortedBy
  lookup-owners [] sorted = shown_none
  lookup-owners (row ∷ rows) sorted =
      let further = lookup-owners rows sorted.1 in
      elim (slice_get listed row.0.0) as (λ o. slice_get listed row.0.0 ≡ o → shown (owner_row o row.0.1 row.1 (owner_rows listed rows))
      ≡ owned who (unwrap_or (if eq_by_cmp owner_key_cmp (n, instance) row.0 then Some row.1 else lookup (eq_by_cmp owner_key_cmp (n, instance)) rows) None)) [
        | None ↦ λ e. further ∙ ap (λ o. owned who (unwrap_or o None)) (sym (passed _ (Some row.1) _ (other_owner_row row.0.0 row.0.1 (λ here. (let two : None ≡ Some (id, Kind.Class) = sym e ∙ here in absurd (cc))))))
        | Some asset ↦ λ e. shown_row row.0.0 row.0.1 row.1 asset.0 asset.1 rows e sorted.0 further
      ] refl
