-- A row that is written changes what the rows hold at one account and unit.
use Rattle.std.proofs.Common.{◌≡◌, ℕ, Bool, true, false, List, refl, sym, ap, ◌∙◌, subst, true≢false}
use Rattle.std.specs.Prelude.{Option, None, Some, slice_get, if◌then◌else◌}
use Rattle.std.specs.Ordering.{eq_by_cmp}
use Rattle.std.specs.Map.{keys_of}
use Rattle.std.specs.List.Sorted.{IsStrictlySortedBy}
use Rattle.amounts.specs.Amounts.{amount, with_amount}
use Rattle.amounts.proofs.Lemmas.AmountLaws.{same_amounts, amount-with_amount}
use Rattle.amounts.proofs.Lemmas.{key_same}
use Rattle.asset_lists.specs.declared.units.AssetId.{AssetId}
use Rattle.asset_lists.specs.declared.units.Instance.{Instance}
use Rattle.asset_lists.specs.declared.units.Kind.{Kind}
use Rattle.asset_lists.specs.Listed.{Listed}
use Rattle.ledgers.specs.Ledgers.{Holder, account_cmp, holder_cmp, number_in}
use Rattle.ledgers.specs.LedgerRows.{owned, IsOnce, AmountKey, amount_key_cmp, OwnerKey, owner_key_cmp, amount_in_row, owner_at, held_in}
use Rattle.ledgers.proofs.Lemmas.{holder_keys, account_keys}
use Rattle.ledgers.proofs.RowLookups.{amount_keys, owner_keys, apart, same_as, same_instances, same_ids, same_kinds}
use Rattle.ledgers.proofs.RowAmounts.{held-fungible, held-no_fungible, held-instance, held-no_instance}
use Rattle.ledgers.proofs.Numbers.{number_at, no_number}
use Rattle.plain_lists.proofs.Lemmas.Facts.{same_bools as both_ways}

if_false : {X : Type 0} (b : Bool) (x y : X) → b ≡ false → (if b then x else y) ≡ y
if_false true x y h = absurd (true≢false h)
if_false false x y h = refl

module _ (listed : List Listed) (once : IsOnce listed)
    (amounts more_amounts : List (AmountKey × ℕ)) (owners more_owners : List (OwnerKey × Option (List ℕ)))
    (sorted : IsStrictlySortedBy owner_key_cmp (keys_of owners)) (more_sorted : IsStrictlySortedBy owner_key_cmp (keys_of more_owners)) where
  -- what stays at a unit whose rows stay
  pub same_fungible : (w : List ℕ) (id : AssetId) → ((m : ℕ) → slice_get listed m ≡ Some (id, Kind.Fungible) → amount_in_row more_amounts (w, m) ≡ amount_in_row amounts (w, m))
      → amount (held_in listed more_amounts more_owners) (w, (id, None)) ≡ amount (held_in listed amounts owners) (w, (id, None))
  same_fungible w id same =
      elim (number_in listed (id, Kind.Fungible)) as (λ o. number_in listed (id, Kind.Fungible) ≡ o → amount (held_in listed more_amounts more_owners) (w, (id, None)) ≡ amount (held_in listed amounts owners) (w, (id, None))) [
        | None ↦ λ e.
            held-no_fungible listed once more_amounts more_owners w id (no_number listed (id, Kind.Fungible) e)
            ∙ sym (held-no_fungible listed once amounts owners w id (no_number listed (id, Kind.Fungible) e))
        | Some m ↦ λ e.
            let at = number_at listed (id, Kind.Fungible) m e in
            held-fungible listed once more_amounts more_owners m w id at ∙ same m at ∙ sym (held-fungible listed once amounts owners m w id at)
      ] refl

  pub same_instance : (w : List ℕ) (id : AssetId) (i : Instance) → ((m : ℕ) → slice_get listed m ≡ Some (id, Kind.Class) → owner_at more_owners (m, i) ≡ owner_at owners (m, i))
      → amount (held_in listed more_amounts more_owners) (w, (id, Some i)) ≡ amount (held_in listed amounts owners) (w, (id, Some i))
  same_instance w id i same =
      elim (number_in listed (id, Kind.Class)) as (λ o. number_in listed (id, Kind.Class) ≡ o → amount (held_in listed more_amounts more_owners) (w, (id, Some i)) ≡ amount (held_in listed amounts owners) (w, (id, Some i))) [
        | None ↦ λ e.
            held-no_instance listed once more_amounts more_owners w id i (no_number listed (id, Kind.Class) e)
            ∙ sym (held-no_instance listed once amounts owners w id i (no_number listed (id, Kind.Class) e))
        | Some m ↦ λ e.
            let at = number_at listed (id, Kind.Class) m e in
            held-instance listed once more_amounts more_owners more_sorted m w id i at ∙ ap (owned w) (same m at)
            ∙ sym (held-instance listed once amounts owners sorted m w id i at)
      ] refl

  -- rows that read alike hold the same
  pub same_rows : ((q : AmountKey) → amount_in_row more_amounts q ≡ amount_in_row amounts q) → ((q : OwnerKey) → owner_at more_owners q ≡ owner_at owners q)
      → held_in listed more_amounts more_owners ≡ held_in listed amounts owners
  same_rows same_amount same_owner = same_amounts holder_keys _ _ (λ h. by h.0 h.1.0 h.1.1)
    where
      by : (w : List ℕ) (id : AssetId) (x : Option Instance) → amount (held_in listed more_amounts more_owners) (w, (id, x)) ≡ amount (held_in listed amounts owners) (w, (id, x))
      by w id None = same_fungible w id (λ m at. same_amount (w, m))
      by w id (Some i) = same_instance w id i (λ m at. same_owner (m, i))

  -- ---- the amount of a fungible asset
  module _ (n : ℕ) (who : List ℕ) (id : AssetId) (v : ℕ) (at : slice_get listed n ≡ Some (id, Kind.Fungible))
      (wrote : (q : AmountKey) → amount_in_row more_amounts q ≡ (if eq_by_cmp amount_key_cmp (who, n) q then v else amount_in_row amounts q))
      (kept : (q : OwnerKey) → owner_at more_owners q ≡ owner_at owners q) where
    fungible_here : (w : List ℕ) (other : AssetId) (m : ℕ) → slice_get listed m ≡ Some (other, Kind.Fungible)
        → amount (held_in listed more_amounts more_owners) (w, (other, None)) ≡ (if eq_by_cmp holder_cmp (w, (other, None)) (who, (id, None)) then v else amount (held_in listed amounts owners) (w, (other, None)))
    fungible_here w other m there =
        let tests : eq_by_cmp amount_key_cmp (who, n) (w, m) ≡ eq_by_cmp holder_cmp (w, (other, None)) (who, (id, None)) = both_ways _ _
        (λ t.
        let keys = key_same amount_keys (who, n) (w, m) t in
        let here : slice_get listed m ≡ Some (id, Kind.Fungible) = subst (λ k. slice_get listed k ≡ Some (id, Kind.Fungible)) (ap (λ (k : AmountKey). k.1) keys) at in
        let ids : other ≡ id = same_ids (other, Kind.Fungible) (id, Kind.Fungible) (sym there ∙ here) in
        same_as holder_keys (w, (other, None)) (who, (id, None)) (λ i. (sym (ap (λ (k : AmountKey). k.0) keys) i, (ids i, None))))
        (λ t.
        let holders = key_same holder_keys (w, (other, None)) (who, (id, None)) t in
        let places : n ≡ m = once.place n m (id, Kind.Fungible) at (there ∙ ap (λ x. Some (x, Kind.Fungible)) (ap (λ (h : Holder). h.1.0) holders)) in
        same_as amount_keys (who, n) (w, m) (λ i. (sym (ap (λ (h : Holder). h.0) holders) i, places i))) in
        held-fungible listed once more_amounts more_owners m w other there ∙ wrote (w, m)
        ∙ (λ i. if tests i then v else sym (held-fungible listed once amounts owners m w other there) i)

    fungible_nowhere : (w : List ℕ) (other : AssetId) → ((m : ℕ) → slice_get listed m ≡ Some (other, Kind.Fungible) → ⊥)
        → amount (held_in listed more_amounts more_owners) (w, (other, None)) ≡ (if eq_by_cmp holder_cmp (w, (other, None)) (who, (id, None)) then v else amount (held_in listed amounts owners) (w, (other, None)))
    fungible_nowhere w other none =
        let test = apart holder_keys (w, (other, None)) (who, (id, None)) (λ h. none n (at ∙ ap (λ x. Some (x, Kind.Fungible)) (sym (ap (λ (k : Holder). k.1.0) h)))) in
        held-no_fungible listed once more_amounts more_owners w other none ∙ sym (held-no_fungible listed once amounts owners w other none) ∙ sym (if_false _ v _ test)

    fungible_held_at : (w : List ℕ) (other : AssetId) (x : Option Instance)
        → amount (held_in listed more_amounts more_owners) (w, (other, x)) ≡ (if eq_by_cmp holder_cmp (w, (other, x)) (who, (id, None)) then v else amount (held_in listed amounts owners) (w, (other, x)))
    fungible_held_at w other None =
        elim (number_in listed (other, Kind.Fungible)) as (λ o. number_in listed (other, Kind.Fungible) ≡ o
        → amount (held_in listed more_amounts more_owners) (w, (other, None)) ≡ (if eq_by_cmp holder_cmp (w, (other, None)) (who, (id, None)) then v else amount (held_in listed amounts owners) (w, (other, None)))) [
          | None ↦ λ e. fungible_nowhere w other (no_number listed (other, Kind.Fungible) e)
          | Some m ↦ λ e. fungible_here w other m (number_at listed (other, Kind.Fungible) m e)
        ] refl
    fungible_held_at w other (Some i) =
        let test = apart holder_keys (w, (other, Some i)) (who, (id, None)) (λ h. (let units : Some i ≡ None = ap (λ (k : Holder). k.1.1) h in absurd (cc))) in
        same_instance w other i (λ m there. kept (m, i)) ∙ sym (if_false _ v _ test)

    pub held-with_amount : held_in listed more_amounts more_owners ≡ with_amount (held_in listed amounts owners) (who, (id, None)) v
    held-with_amount = same_amounts holder_keys _ _ (λ h. fungible_held_at h.0 h.1.0 h.1.1 ∙ sym (amount-with_amount holder_keys (held_in listed amounts owners) (who, (id, None)) v h))

  -- ---- the owner of an instance
  module _ (n : ℕ) (who : List ℕ) (id : AssetId) (i : Instance) (v : ℕ) (owner : Option (List ℕ)) (at : slice_get listed n ≡ Some (id, Kind.Class))
      (kept : (m : ℕ) (w : List ℕ) → (n ≡ m → ⊥) → amount_in_row more_amounts (w, m) ≡ amount_in_row amounts (w, m))
      (wrote : (q : OwnerKey) → owner_at more_owners q ≡ (if eq_by_cmp owner_key_cmp (n, i) q then owner else owner_at owners q))
      (means : (w : List ℕ) → owned w owner ≡ (if eq_by_cmp account_cmp w who then v else owned w (owner_at owners (n, i)))) where
    instance_here : (w : List ℕ) (other : AssetId) (j : Instance) (m : ℕ) → slice_get listed m ≡ Some (other, Kind.Class)
        → amount (held_in listed more_amounts more_owners) (w, (other, Some j)) ≡ (if eq_by_cmp holder_cmp (w, (other, Some j)) (who, (id, Some i)) then v else amount (held_in listed amounts owners) (w, (other, Some j)))
    instance_here w other j m there =
        held-instance listed once more_amounts more_owners more_sorted m w other j there ∙ ap (owned w) (wrote (m, j))
        ∙ elim (eq_by_cmp owner_key_cmp (n, i) (m, j)) as (λ b. eq_by_cmp owner_key_cmp (n, i) (m, j) ≡ b
        → owned w (if b then owner else owner_at owners (m, j)) ≡ (if eq_by_cmp holder_cmp (w, (other, Some j)) (who, (id, Some i)) then v else amount (held_in listed amounts owners) (w, (other, Some j)))) [
          | true ↦ λ t.
              let keys = key_same owner_keys (n, i) (m, j) t in
              let here : slice_get listed m ≡ Some (id, Kind.Class) = subst (λ k. slice_get listed k ≡ Some (id, Kind.Class)) (ap (λ (k : OwnerKey). k.0) keys) at in
              let ids : other ≡ id = same_ids (other, Kind.Class) (id, Kind.Class) (sym there ∙ here) in
              let tests : eq_by_cmp account_cmp w who ≡ eq_by_cmp holder_cmp (w, (other, Some j)) (who, (id, Some i)) = both_ways _ _
              (λ s. same_as holder_keys (w, (other, Some j)) (who, (id, Some i)) (λ k. (key_same account_keys w who s k, (ids k, Some (sym (ap (λ (x : OwnerKey). x.1) keys) k)))))
              (λ s. same_as account_keys w who (ap (λ (h : Holder). h.0) (key_same holder_keys (w, (other, Some j)) (who, (id, Some i)) s))) in
              means w ∙ (λ k. if tests k then v else (ap (λ x. owned w (owner_at owners x)) keys ∙ sym (held-instance listed once amounts owners sorted m w other j there)) k)
          | false ↦ λ t.
              let test = apart holder_keys (w, (other, Some j)) (who, (id, Some i)) (λ h.
              let places : n ≡ m = once.place n m (id, Kind.Class) at (there ∙ ap (λ x. Some (x, Kind.Class)) (ap (λ (k : Holder). k.1.0) h)) in
              let instances : j ≡ i = same_instances j i (ap (λ (k : Holder). k.1.1) h) in
              true≢false (sym (same_as owner_keys (n, i) (m, j) (λ k. (places k, sym instances k))) ∙ t)) in
              sym (held-instance listed once amounts owners sorted m w other j there) ∙ sym (if_false _ v _ test)
        ] refl

    instance_nowhere : (w : List ℕ) (other : AssetId) (j : Instance) → ((m : ℕ) → slice_get listed m ≡ Some (other, Kind.Class) → ⊥)
        → amount (held_in listed more_amounts more_owners) (w, (other, Some j)) ≡ (if eq_by_cmp holder_cmp (w, (other, Some j)) (who, (id, Some i)) then v else amount (held_in listed amounts owners) (w, (other, Some j)))
    instance_nowhere w other j none =
        let test = apart holder_keys (w, (other, Some j)) (who, (id, Some i)) (λ h. none n (at ∙ ap (λ x. Some (x, Kind.Class)) (sym (ap (λ (k : Holder). k.1.0) h)))) in
        held-no_instance listed once more_amounts more_owners w other j none ∙ sym (held-no_instance listed once amounts owners w other j none) ∙ sym (if_false _ v _ test)

    instance_held_at : (w : List ℕ) (other : AssetId) (x : Option Instance)
        → amount (held_in listed more_amounts more_owners) (w, (other, x)) ≡ (if eq_by_cmp holder_cmp (w, (other, x)) (who, (id, Some i)) then v else amount (held_in listed amounts owners) (w, (other, x)))
    instance_held_at w other None =
        let test = apart holder_keys (w, (other, None)) (who, (id, Some i)) (λ h. (let units : None ≡ Some i = ap (λ (k : Holder). k.1.1) h in absurd (cc))) in
        same_fungible w other (λ m there. kept m w (λ places. (let kinds = same_kinds (other, Kind.Fungible) (id, Kind.Class) (sym there ∙ subst (λ k. slice_get listed k ≡ Some (id, Kind.Class)) places at) in absurd (cc))))
        ∙ sym (if_false _ v _ test)
    instance_held_at w other (Some j) =
        elim (number_in listed (other, Kind.Class)) as (λ o. number_in listed (other, Kind.Class) ≡ o
        → amount (held_in listed more_amounts more_owners) (w, (other, Some j)) ≡ (if eq_by_cmp holder_cmp (w, (other, Some j)) (who, (id, Some i)) then v else amount (held_in listed amounts owners) (w, (other, Some j)))) [
          | None ↦ λ e. instance_nowhere w other j (no_number listed (other, Kind.Class) e)
          | Some m ↦ λ e. instance_here w other j m (number_at listed (other, Kind.Class) m e)
        ] refl

    pub held-with_owner : held_in listed more_amounts more_owners ≡ with_amount (held_in listed amounts owners) (who, (id, Some i)) v
    held-with_owner = same_amounts holder_keys _ _ (λ h. instance_held_at h.0 h.1.0 h.1.1 ∙ sym (amount-with_amount holder_keys (held_in listed amounts owners) (who, (id, Some i)) v h))
