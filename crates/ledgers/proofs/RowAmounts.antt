-- What a ledger's rows hold, at each account and unit.
use Rattle.std.proofs.Common.{◌≡◌, ℕ, List, sym, ap, ◌∙◌}
use Rattle.std.specs.Prelude.{Option, None, Some, unwrap_or, slice_get}
use Rattle.std.specs.Ordering.{eq_by_cmp}
use Rattle.std.specs.Map.{lookup, keys_of}
use Rattle.std.specs.List.Sorted.{IsStrictlySortedBy}
use Rattle.amounts.specs.Amounts.{amount}
use Rattle.amounts.proofs.Lemmas.Entries.{amount-from_entries}
use Rattle.asset_lists.specs.declared.units.AssetId.{AssetId}
use Rattle.asset_lists.specs.declared.units.Instance.{Instance}
use Rattle.asset_lists.specs.declared.units.Kind.{Kind}
use Rattle.asset_lists.specs.Listed.{Listed}
use Rattle.ledgers.specs.Ledgers.{Holder, holder_cmp}
use Rattle.ledgers.specs.LedgerRows.{owned, IsOnce, AmountKey, OwnerKey, owner_key_cmp, amount_in_row, owner_at, amount_rows, owner_rows, held_in}
use Rattle.ledgers.proofs.Lemmas.{holder_keys}
use Rattle.ledgers.proofs.RowLookups.{shown, lookup-amounts, lookup-past_amounts, lookup-past_owners, lookup-owners}

module _ (listed : List Listed) (once : IsOnce listed) (amounts : List (AmountKey × ℕ)) (owners : List (OwnerKey × Option (List ℕ))) where
  pub held-fungible : (n : ℕ) (who : List ℕ) (id : AssetId) → slice_get listed n ≡ Some (id, Kind.Fungible)
      → amount (held_in listed amounts owners) (who, (id, None)) ≡ amount_in_row amounts (who, n)
  unfolding held_in
  held-fungible n who id at =
      let past : lookup (eq_by_cmp holder_cmp (who, (id, None))) (owner_rows listed owners) ≡ None = lookup-past_owners listed (who, (id, None)) (λ m w other i e h. (let units : None ≡ Some i = ap (λ (k : Holder). k.1.1) h in absurd (cc))) owners in
      amount-from_entries holder_keys (amount_rows listed amounts (owner_rows listed owners)) (who, (id, None))
      ∙ ap (λ o. unwrap_or o 0) (lookup-amounts listed once who id n at amounts (owner_rows listed owners) past)

  pub held-no_fungible : (who : List ℕ) (id : AssetId) → ((n : ℕ) → slice_get listed n ≡ Some (id, Kind.Fungible) → ⊥)
      → amount (held_in listed amounts owners) (who, (id, None)) ≡ 0
  unfolding held_in
  held-no_fungible who id none =
      let past : lookup (eq_by_cmp holder_cmp (who, (id, None))) (owner_rows listed owners) ≡ None = lookup-past_owners listed (who, (id, None)) (λ m w other i e h. (let units : None ≡ Some i = ap (λ (k : Holder). k.1.1) h in absurd (cc))) owners in
      amount-from_entries holder_keys (amount_rows listed amounts (owner_rows listed owners)) (who, (id, None))
      ∙ ap (λ o. unwrap_or o 0) (lookup-past_amounts listed (who, (id, None)) (λ m w other e h. none m (e ∙ ap (λ x. Some (x, Kind.Fungible)) (sym (ap (λ (k : Holder). k.1.0) h)))) (owner_rows listed owners) amounts ∙ past)

  past_instances : (who : List ℕ) (id : AssetId) (i : Instance)
      → amount (held_in listed amounts owners) (who, (id, Some i)) ≡ unwrap_or (lookup (eq_by_cmp holder_cmp (who, (id, Some i))) (owner_rows listed owners)) 0
  unfolding held_in
  past_instances who id i =
      amount-from_entries holder_keys (amount_rows listed amounts (owner_rows listed owners)) (who, (id, Some i))
      ∙ ap (λ o. unwrap_or o 0) (lookup-past_amounts listed (who, (id, Some i)) (λ m w other e h. (let units : Some i ≡ None = ap (λ (k : Holder). k.1.1) h in absurd (cc))) (owner_rows listed owners) amounts)

  pub held-instance : IsStrictlySortedBy owner_key_cmp (keys_of owners) → (n : ℕ) (who : List ℕ) (id : AssetId) (i : Instance) → slice_get listed n ≡ Some (id, Kind.Class)
      → amount (held_in listed amounts owners) (who, (id, Some i)) ≡ owned who (owner_at owners (n, i))
  unfolding shown
  held-instance sorted n who id i at = past_instances who id i ∙ lookup-owners listed once who id i n at owners sorted

  pub held-no_instance : (who : List ℕ) (id : AssetId) (i : Instance) → ((n : ℕ) → slice_get listed n ≡ Some (id, Kind.Class) → ⊥)
      → amount (held_in listed amounts owners) (who, (id, Some i)) ≡ 0
  held-no_instance who id i none = past_instances who id i
      ∙ ap (λ o. unwrap_or o 0) (lookup-past_owners listed (who, (id, Some i)) (λ m w other j e h. none m (e ∙ ap (λ x. Some (x, Kind.Class)) (sym (ap (λ (k : Holder). k.1.0) h)))) owners)
