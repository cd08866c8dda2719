-- One amount is written: the counts and the running sums follow.
use Rattle.std.proofs.Common.{◌≡◌, ℕ, zero, suc, ◌+◌, ◌<◌, ◌≤◌, Bool, true, false, ◌&&◌, if◌then◌else◌, ◌⊎◌, inl, inr, length-set, List, [], ◌∷◌, set, refl, sym, ap, ◌∙◌, subst, arith, true≢false}
use Rattle.std.specs.Prelude.{Option, None, Some, slice_get, IsSome}
use Rattle.std.specs.Ordering.{eq_by_cmp, nat_cmp}
use Rattle.std.specs.Map.{keys_of}
use Rattle.std.specs.List.Sorted.{IsStrictlySortedBy}
use Rattle.std.proofs.lemmas.Bool.{and_parts, and_from}
use Rattle.amounts.specs.Rows.{amount_if, sum_where}
use Rattle.amounts.proofs.Lemmas.Rows.{IsKeyOrder}
use Rattle.amounts.proofs.Lemmas.Keys.{number_keys}
use Rattle.amounts.specs.Amounts.{amount, total, with_amount}
use Rattle.amounts.proofs.Lemmas.AmountLaws.{total-with_amount, total-empty}
use Rattle.amounts.specs.Entries.{from_entries}
use Rattle.amounts.proofs.Lemmas.{same_key, key_same}
use Rattle.asset_lists.specs.declared.units.AssetId.{AssetId}
use Rattle.asset_lists.specs.declared.units.Instance.{Instance}
use Rattle.asset_lists.specs.declared.units.Kind.{Kind}
use Rattle.asset_lists.specs.Units.{Unit, asset_id_cmp}
use Rattle.asset_lists.specs.UnitLaws.{asset_id_total}
use Rattle.asset_lists.proofs.Lemmas.UnitLaws.{asset_id_exact}
use Rattle.asset_bundles.specs.Bundles.{is_asset, is_kind}
use Rattle.asset_lists.specs.Listed.{Listed, kind_of, listed_of}
use Rattle.asset_bundles.specs.declared.wide_sum.WideSum.{WideSum}
use Rattle.asset_bundles.specs.Totals.{wide_value}
use Rattle.ledgers.specs.Ledgers.{Holder, account_cmp, is_account, is_holding_of, sum_of, account_sum_of}
use Rattle.ledgers.specs.LedgerRows.{AmountKey, amount_key_cmp, OwnerKey, owner_key_cmp, amount_in_row, held_in, IsOnce, AreSmall, IsSound}
use Rattle.ledgers.proofs.Lemmas.{holder_keys, account_keys}
use Rattle.ledgers.proofs.RowLookups.{amount_keys, apart, same_as}
use Rattle.plain_lists.proofs.Lemmas.Facts.{same_some as one_value, same_bools as both_ways}

id_keys : IsKeyOrder Rattle.asset_lists.specs.Units.asset_id_cmp
id_keys = record { total = asset_id_total; exact = asset_id_exact }

-- ---- which units are of an asset
kind_is : (kind : Kind) (x : Option Instance) → is_kind kind x ≡ true → kind ≡ kind_of x
kind_is Kind.Fungible None h = refl
kind_is Kind.Fungible (Some i) h = absurd (cc)
kind_is Kind.Class None h = absurd (cc)
kind_is Kind.Class (Some i) h = refl

is_its_kind : (x : Option Instance) → is_kind (kind_of x) x ≡ true
is_its_kind None = refl
is_its_kind (Some i) = refl

pub asset_is : (asset : Listed) (unit : Unit) → is_asset asset.0 asset.1 unit ≡ true → asset ≡ listed_of unit
asset_is asset unit h =
    let parts = and_parts (eq_by_cmp asset_id_cmp asset.0 unit.0) (is_kind asset.1 unit.1) h in
    λ i. (key_same id_keys asset.0 unit.0 parts.0 i, kind_is asset.1 unit.1 parts.1 i)

pub is_its_asset : (asset : Listed) (unit : Unit) → asset ≡ listed_of unit → is_asset asset.0 asset.1 unit ≡ true
is_its_asset asset unit e = subst (λ (k : Listed). is_asset k.0 k.1 unit ≡ true) (sym e) (and_from _ _ (same_key id_keys unit.0) (is_its_kind unit.1))

-- ---- sums over rows
pub total-at_most : {K : Type 0} {R : K → K → _} (o : IsKeyOrder R) (p : K → Bool) (es : List (K × ℕ)) → total p (from_entries {R = R} es) ≤ sum_where p es
unfolding from_entries
total-at_most {R = R} o p [] = (let none = total-empty {R = R} o p in omega (arith, none))
total-at_most {R = R} o p (e ∷ es) =
    let rest = total-at_most {R = R} o p es in
    let one = total-with_amount o p (from_entries es) e.0 e.1 in
    omega (arith, rest, one)

-- ---- a write at one account and unit
module _ (listed : List Listed) (once : IsOnce listed) (n : ℕ) (who : List ℕ) (unit : Unit) (at : slice_get listed n ≡ Some (listed_of unit)) where
  same_place : (m : ℕ) (asset : Listed) → slice_get listed m ≡ Some asset → is_asset asset.0 asset.1 unit ≡ eq_by_cmp nat_cmp n m
  same_place m asset there = both_ways _ _
      (λ t. same_as number_keys n m (once.place n m (listed_of unit) at (there ∙ ap Some (asset_is asset unit t))))
      (λ t. is_its_asset asset unit (here_is asset (sym there ∙ sym (ap (slice_get listed) (key_same number_keys n m t)) ∙ at)))
    where
      here_is : (k : Listed) → Some k ≡ Some (listed_of unit) → k ≡ listed_of unit
      here_is k e = cc

  same_holding : (m : ℕ) (w : List ℕ) (asset : Listed) → slice_get listed m ≡ Some asset → (is_account w (who, unit) && is_holding_of asset (who, unit)) ≡ eq_by_cmp amount_key_cmp (who, n) (w, m)
  same_holding m w asset there = both_ways _ _
      (λ t.
      let parts = and_parts (eq_by_cmp account_cmp w who) (is_asset asset.0 asset.1 unit) t in
      let places : n ≡ m = key_same number_keys n m (sym (same_place m asset there) ∙ parts.1) in
      same_as amount_keys (who, n) (w, m) (λ i. (sym (key_same account_keys w who parts.0) i, places i)))
      (λ t.
      let keys = key_same amount_keys (who, n) (w, m) t in
      and_from _ _ (same_as account_keys w who (sym (ap (λ (k : AmountKey). k.0) keys))) (same_place m asset there ∙ same_as number_keys n m (ap (λ (k : AmountKey). k.1) keys)))

if_moved : (b : Bool) (row next part more v had : ℕ) → row ≡ part → next + had ≡ row + v → more + amount_if b had ≡ part + amount_if b v → (if b then next else row) ≡ more
if_moved true row next part more v had e f g = omega (arith, e, f, g)
if_moved false row next part more v had e f g = omega (arith, e, g)

slice_get-set : {X : Type 0} (xs : List X) (n m : ℕ) (x y : X) → slice_get (set xs n x) m ≡ Some y → ((n ≡ m) × (x ≡ y)) ⊎ ((n ≡ m → ⊥) × (slice_get xs m ≡ Some y))
slice_get-set [] n m x y h = absurd (cc)
slice_get-set (z ∷ zs) zero zero x y h = inl (refl, one_value x y h)
slice_get-set (z ∷ zs) zero (suc m) x y h = inr (λ e. omega (arith, e), h)
slice_get-set (z ∷ zs) (suc n) zero x y h = inr (λ e. omega (arith, e), h)
slice_get-set (z ∷ zs) (suc n) (suc m) x y h =
    elim (slice_get-set zs n m x y h) [
      | inl here ↦ inl (ap (λ k. suc k) here.0, here.1)
      | inr other ↦ inr (λ e. other.0 (omega (arith, e)), other.1)
    ]

if_summed : (b : Bool) (total more v had : ℕ) → more + amount_if b had ≡ total + amount_if b v → b ≡ false → more ≡ total
if_summed true total more v had e h = absurd (true≢false h)
if_summed false total more v had e h = omega (arith, e)

if_raised : (b : Bool) (total more v had s next : ℕ) → more + amount_if b had ≡ total + amount_if b v → b ≡ true → s ≡ total → next + had ≡ s + v → next ≡ more
if_raised true total more v had s next e h f g = omega (arith, e, f, g)
if_raised false total more v had s next e h f g = absurd (true≢false (sym h))

-- what is so of the rows is so after one amount is written: its row changes as it does, and so does the sum of its asset
pub record IsWrite (listed : List Listed) (amounts more_amounts : List (AmountKey × ℕ)) (owners more_owners : List (OwnerKey × Option (List ℕ))) (sums : List WideSum) (n : ℕ) (who : List ℕ) (unit : Unit) (v : ℕ) (next : ℕ) (s t : WideSum) : Type 0 where
  pub at : slice_get listed n ≡ Some (listed_of unit)
  pub held : held_in listed more_amounts more_owners ≡ with_amount (held_in listed amounts owners) (who, unit) v
  pub wrote : (q : AmountKey) → amount_in_row more_amounts q ≡ (if eq_by_cmp amount_key_cmp (who, n) q then next else amount_in_row amounts q)
  pub row : next + amount (held_in listed amounts owners) (who, unit) ≡ amount_in_row amounts (who, n) + v
  pub small : AreSmall more_amounts
  pub sorted : IsStrictlySortedBy owner_key_cmp (keys_of more_owners)
  pub sum_was : slice_get sums n ≡ Some s
  pub sum : wide_value t + amount (held_in listed amounts owners) (who, unit) ≡ wide_value s + v

pub still_sound : (listed : List Listed) (amounts more_amounts : List (AmountKey × ℕ)) (owners more_owners : List (OwnerKey × Option (List ℕ))) (sums : List WideSum) (n : ℕ) (who : List ℕ) (unit : Unit) (v next : ℕ) (s t : WideSum)
    → IsSound listed amounts owners sums → IsWrite listed amounts more_amounts owners more_owners sums n who unit v next s t
    → IsSound listed more_amounts more_owners (set sums n t)
still_sound listed amounts more_amounts owners more_owners sums n who unit v next s t sound write = record {
  once = sound.once;
  small = write.small;
  sorted = write.sorted;
  counted = counted;
  numbered = numbered;
  as_many = length-set sums n t ∙ sound.as_many;
  summed = summed;
}
  where
    had : ℕ
    had = amount (held_in listed amounts owners) (who, unit)

    totals : (p : Holder → Bool) → total p (held_in listed more_amounts more_owners) + amount_if (p (who, unit)) (amount (held_in listed amounts owners) (who, unit)) ≡ total p (held_in listed amounts owners) + amount_if (p (who, unit)) v
    totals p = ap (λ h. total p h + amount_if (p (who, unit)) (amount (held_in listed amounts owners) (who, unit))) write.held ∙ total-with_amount holder_keys p (held_in listed amounts owners) (who, unit) v

    counted : (m : ℕ) (w : List ℕ) (id : AssetId) → slice_get listed m ≡ Some (id, Kind.Class) → amount_in_row more_amounts (w, m) ≡ account_sum_of w (id, Kind.Class) (held_in listed more_amounts more_owners)
    counted m w id there =
        let same = same_holding listed sound.once n who unit write.at m w (id, Kind.Class) there in
        let whole = totals (λ h. is_account w h && is_holding_of (id, Kind.Class) h) in
        write.wrote (w, m)
        ∙ if_here (eq_by_cmp amount_key_cmp (who, n) (w, m)) refl (sym same) (sound.counted m w id there) whole
      where
        if_here : (b : Bool) → eq_by_cmp amount_key_cmp (who, n) (w, m) ≡ b → eq_by_cmp amount_key_cmp (who, n) (w, m) ≡ (is_account w (who, unit) && is_holding_of (id, Kind.Class) (who, unit))
            → amount_in_row amounts (w, m) ≡ account_sum_of w (id, Kind.Class) (held_in listed amounts owners)
            → account_sum_of w (id, Kind.Class) (held_in listed more_amounts more_owners) + amount_if (is_account w (who, unit) && is_holding_of (id, Kind.Class) (who, unit)) (amount (held_in listed amounts owners) (who, unit))
            ≡ account_sum_of w (id, Kind.Class) (held_in listed amounts owners) + amount_if (is_account w (who, unit) && is_holding_of (id, Kind.Class) (who, unit)) v
            → (if b then next else amount_in_row amounts (w, m)) ≡ account_sum_of w (id, Kind.Class) (held_in listed more_amounts more_owners)
        if_here true e same count whole =
            let passes : (is_account w (who, unit) && is_holding_of (id, Kind.Class) (who, unit)) ≡ true = sym same ∙ e in
            let keys = key_same amount_keys (who, n) (w, m) e in
            let row : next + amount (held_in listed amounts owners) (who, unit) ≡ account_sum_of w (id, Kind.Class) (held_in listed amounts owners) + v = write.row ∙ ap (λ k. amount_in_row amounts k + v) keys ∙ ap (λ k. k + v) count in
            if_raised _ _ _ v _ _ next whole passes refl row
        if_here false e same count whole = count ∙ sym (if_summed _ _ _ v _ whole (sym same ∙ e))

    numbered : (m : ℕ) (w : List ℕ) → 0 < amount_in_row more_amounts (w, m) → IsSome (slice_get listed m)
    numbered m w some = by (eq_by_cmp amount_key_cmp (who, n) (w, m)) refl
      where
        by : (b : Bool) → eq_by_cmp amount_key_cmp (who, n) (w, m) ≡ b → IsSome (slice_get listed m)
        by true e = subst (λ k. IsSome (slice_get listed k)) (ap (λ (k : AmountKey). k.1) (key_same amount_keys (who, n) (w, m) e)) (subst IsSome (sym write.at) refl)
        by false e = sound.numbered m w (subst (λ v. 0 < v) (write.wrote (w, m) ∙ ap (λ b. if b then next else amount_in_row amounts (w, m)) e) some)

    summed : (m : ℕ) (asset : Listed) (x : WideSum) → slice_get listed m ≡ Some asset → slice_get (set sums n t) m ≡ Some x → wide_value x ≡ sum_of asset (held_in listed more_amounts more_owners)
    summed m asset x there is =
        let same = same_place listed sound.once n who unit write.at m asset there in
        elim (slice_get-set sums n m t x is) [
          | inl here ↦ ap wide_value (sym here.1) ∙ if_raised _ _ _ v _ (wide_value s) (wide_value t) (totals (is_holding_of asset)) (same ∙ same_as number_keys n m here.0) (sound.summed m asset s there (ap (slice_get sums) (sym here.0) ∙ write.sum_was)) write.sum
          | inr other ↦ sound.summed m asset x there other.1 ∙ sym (if_summed _ _ _ v _ (totals (is_holding_of asset)) (same ∙ apart number_keys n m other.0))
        ]
