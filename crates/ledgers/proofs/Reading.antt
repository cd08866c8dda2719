-- What the rows say of sums, parts and owners.
use Rattle.std.proofs.Common.{◌≡◌, ℕ, zero, suc, get_or, [], ◌∷◌, ◌<◌, true, false, ◌&&◌, if◌then◌else◌, List, length, refl, sym, ap, ◌∙◌, subst, arith, true≢false}
use Rattle.std.specs.Prelude.{Option, None, Some, slice_get, is_some, IsTrue, IsFalse, MatchOption}
use Rattle.std.specs.Ordering.{eq_by_cmp}
use Rattle.std.proofs.lemmas.Bool.{and_parts, and_from}
use Rattle.std.proofs.lemmas.Option.{slice_get-get_or}
use Rattle.amounts.specs.Amounts.{amount}
use Rattle.amounts.proofs.Lemmas.{same_key, key_same}
use Rattle.asset_lists.specs.declared.units.AssetId.{AssetId}
use Rattle.asset_lists.specs.declared.units.Instance.{Instance}
use Rattle.asset_lists.specs.declared.units.Kind.{Kind}
use Rattle.asset_lists.specs.Units.{Unit, unit_cmp}
use Rattle.asset_bundles.proofs.Lemmas.Bundles.{unit_keys}
use Rattle.asset_lists.specs.Listed.{Listed, listed_of}
use Rattle.asset_bundles.specs.declared.wide_sum.WideSum.{WideSum}
use Rattle.ledgers.specs.declared.faults.DepositFault.{DepositFault}
use Rattle.asset_bundles.specs.Totals.{wide_value}
use Rattle.ledgers.specs.Ledgers.{Holder, account_cmp, holder_cmp, Held, is_account, is_holding_of, sum_of, account_sum_of, owners_of, IsOwner, number_in, is_barred}
use Rattle.ledgers.specs.LedgerFaults.{IsBarred}
use Rattle.asset_lists.specs.declared.units.Asset.{Asset}
use Rattle.ledgers.specs.LedgerRows.{AmountKey, OwnerKey, amount_in_row, owner_at, owned, held_in, IsSound}
use Rattle.ledgers.proofs.Lemmas.{holder_keys, account_keys}
use Rattle.ledgers.proofs.RowAmounts.{held-fungible, held-instance}
use Rattle.ledgers.proofs.Numbers.{number_at}
use Rattle.ledgers.proofs.Soundness.{asset_is, is_its_asset}
use Rattle.ledgers.proofs.RowChanges.{held_listed}
use Rattle.ledgers.proofs.Totals.{total_none, total_one}
use Rattle.plain_lists.proofs.Lemmas.Facts.{false_where_not_true as not_true}

no_instance : (id other : AssetId) (x : Option Instance) → ◌≡◌ {A = Listed} (id, Kind.Fungible) (listed_of (other, x)) → ◌≡◌ {A = Unit} (id, None) (other, x)
no_instance id other None e = λ i. (ap (λ (k : Listed). k.0) e i, None)
no_instance id other (Some j) e = (let kinds : Kind.Fungible ≡ Kind.Class = ap (λ (k : Listed). k.1) e in absurd (cc))

-- what an account has of a fungible asset is the amount of its one unit
pub fungible_part : (held : Held) (who : List ℕ) (id : AssetId) → account_sum_of who (id, Kind.Fungible) held ≡ amount held (who, (id, None))
fungible_part held who id =
    total_one holder_keys (λ h. is_account who h && is_holding_of (id, Kind.Fungible) h) held (who, (id, None))
    (and_from _ _ (same_key account_keys who) (is_its_asset (id, Kind.Fungible) (id, None) refl))
    (λ q passes other.
    let parts = and_parts (is_account who q) (is_holding_of (id, Kind.Fungible) q) passes in
    let accounts : who ≡ q.0 = key_same account_keys who q.0 parts.0 in
    let units = no_instance id q.1.0 q.1.1 (asset_is (id, Kind.Fungible) q.1 parts.1) in
    absurd (true≢false (sym (subst (λ k. eq_by_cmp holder_cmp k (who, (id, None)) ≡ true) (λ i. (accounts i, units i)) (same_key holder_keys (who, (id, None)))) ∙ other)))

pub inside : {X : Type 0} (xs : List X) (i : ℕ) (x : X) → slice_get xs i ≡ Some x → i < length xs
inside [] i x h = absurd (cc)
inside (y ∷ xs) zero x h = omega arith
inside (y ∷ xs) (suc i) x h = let rest = inside xs i x h in omega (arith, rest)

module _ (listed : List Listed) (amounts : List (AmountKey × ℕ)) (owners : List (OwnerKey × Option (List ℕ))) (sums : List WideSum) (sound : IsSound listed amounts owners sums) where
  pub part_is : (n : ℕ) (who : List ℕ) (id : AssetId) (kind : Kind) → number_in listed (id, kind) ≡ Some n → amount_in_row amounts (who, n) ≡ account_sum_of who (id, kind) (held_in listed amounts owners)
  part_is n who id Kind.Fungible is = sym (held-fungible listed sound.once amounts owners n who id (number_at listed (id, Kind.Fungible) n is)) ∙ sym (fungible_part (held_in listed amounts owners) who id)
  part_is n who id Kind.Class is = sound.counted n who id (number_at listed (id, Kind.Class) n is)

  -- an asset that isn't listed is held by nobody
  nothing_held : (asset : Listed) → number_in listed asset ≡ None → (h : Holder) → is_holding_of asset h ≡ true → amount (held_in listed amounts owners) h ≡ 0
  nothing_held asset none h passes =
      held_listed listed amounts owners sums sound h.0 h.1.0 h.1.1 (ap (number_in listed) (sym (asset_is asset h.1 passes)) ∙ none)

  pub part_none : (who : List ℕ) (asset : Listed) → number_in listed asset ≡ None → account_sum_of who asset (held_in listed amounts owners) ≡ 0
  part_none who asset none = total_none holder_keys (λ h. is_account who h && is_holding_of asset h) (held_in listed amounts owners) (λ h passes. nothing_held asset none h (and_parts (is_account who h) (is_holding_of asset h) passes).1)

  pub sum_none : (asset : Listed) → number_in listed asset ≡ None → sum_of asset (held_in listed amounts owners) ≡ 0
  sum_none asset none = total_none holder_keys (is_holding_of asset) (held_in listed amounts owners) (nothing_held asset none)

  pub sum_is : (n : ℕ) (asset : Listed) (s : WideSum) → number_in listed asset ≡ Some n → s ≡ get_or sums n s → wide_value s ≡ sum_of asset (held_in listed amounts owners)
  sum_is n asset s is at =
      let place = number_at listed asset n is in
      let within = inside listed n asset place in
      let many = sound.as_many in
      sound.summed n asset s place (slice_get-get_or sums n s (omega (arith, within, many)) ∙ ap Some (sym at))

  -- ---- owners
  same_unit : (unit : Unit) (h : Holder) → eq_by_cmp unit_cmp unit h.1 ≡ true → h ≡ (h.0, unit)
  same_unit unit h passes = λ i. (h.0, sym (key_same unit_keys unit h.1 passes) i)

  pub owner_none : (n : ℕ) (id : AssetId) (i : Instance) → number_in listed (id, Kind.Class) ≡ Some n → owner_at owners (n, i) ≡ None → owners_of (id, Some i) (held_in listed amounts owners) ≡ 0
  owner_none n id i is none =
      total_none holder_keys (λ (h : Holder). eq_by_cmp unit_cmp (id, Some i) h.1) (held_in listed amounts owners) (λ h passes.
      ap (amount (held_in listed amounts owners)) (same_unit (id, Some i) h passes)
      ∙ held-instance listed sound.once amounts owners sound.sorted n h.0 id i (number_at listed (id, Kind.Class) n is) ∙ ap (owned h.0) none)

  pub owner_unlisted : (id : AssetId) (i : Instance) → number_in listed (id, Kind.Class) ≡ None → owners_of (id, Some i) (held_in listed amounts owners) ≡ 0
  owner_unlisted id i none =
      total_none holder_keys (λ (h : Holder). eq_by_cmp unit_cmp (id, Some i) h.1) (held_in listed amounts owners) (λ h passes.
      ap (amount (held_in listed amounts owners)) (same_unit (id, Some i) h passes) ∙ held_listed listed amounts owners sums sound h.0 id (Some i) none)

  pub owner_is : (n : ℕ) (id : AssetId) (i : Instance) (who : List ℕ) → number_in listed (id, Kind.Class) ≡ Some n → owner_at owners (n, i) ≡ Some who → IsOwner (held_in listed amounts owners) (id, Some i) who
  owner_is n id i who is at =
      let place = number_at listed (id, Kind.Class) n is in
      let has : amount (held_in listed amounts owners) (who, (id, Some i)) ≡ 1 =
      held-instance listed sound.once amounts owners sound.sorted n who id i place ∙ ap (owned who) at ∙ ap (λ b. if b then 1 else 0) (same_key account_keys who) in
      record {
        has = has;
        alone = total_one holder_keys (λ (h : Holder). eq_by_cmp unit_cmp (id, Some i) h.1) (held_in listed amounts owners) (who, (id, Some i)) (same_key unit_keys (id, Some i))
            (λ h passes other.
            let account : eq_by_cmp account_cmp h.0 who ≡ false = not_true _ (λ t.
            true≢false (sym (subst (λ k. eq_by_cmp holder_cmp k (who, (id, Some i)) ≡ true) (λ j. (sym (key_same account_keys h.0 who t) j, key_same unit_keys (id, Some i) h.1 passes j)) (same_key holder_keys (who, (id, Some i)))) ∙ other)) in
            ap (amount (held_in listed amounts owners)) (same_unit (id, Some i) h passes)
            ∙ held-instance listed sound.once amounts owners sound.sorted n h.0 id i place ∙ ap (owned h.0) at ∙ ap (λ b. if b then 1 else 0) account)
            ∙ has;
      }

  pub owner_read : (n : ℕ) (id : AssetId) (i : Instance) (o : Option (List ℕ)) → number_in listed (id, Kind.Class) ≡ Some n → o ≡ owner_at owners (n, i)
      → MatchOption o (owners_of (id, Some i) (held_in listed amounts owners) ≡ 0) (IsOwner (held_in listed amounts owners) (id, Some i))
  owner_read n id i None is e = owner_none n id i is (sym e)
  owner_read n id i (Some who) is e = owner_is n id i who is (sym e)

-- an answer that says why tells whether
pub barred_or_not : (held : Held) (who : List ℕ) (a : Asset) (o : Option DepositFault)
    → MatchOption o (IsFalse (is_barred held who a)) (λ fault. IsTrue (is_barred held who a) × IsBarred held who a fault) → is_some o ≡ is_barred held who a
barred_or_not held who a None h = sym h
barred_or_not held who a (Some fault) h = sym h.0
