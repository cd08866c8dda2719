-- An asset taken out of an account or given to it, and what the rows hold then.
use Rattle.std.proofs.Common.{◌≡◌, ℕ, ◌+◌, ◌-◌, ◌^◌, ◌<◌, ◌≤◌, Bool, true, false, ◌&&◌, if◌then◌else◌, List, length, refl, sym, ap, ◌∙◌, subst, arith}
use Rattle.std.specs.Prelude.{Option, None, Some, unwrap_or, slice_get, IsSome}
use Rattle.std.specs.Ordering.{eq_by_cmp}
use Rattle.std.specs.Map.{keys_of, lookup}
use Rattle.std.specs.List.Sorted.{IsStrictlySortedBy}
use Rattle.std.proofs.lemmas.Bool.{and_from}
use Rattle.amounts.specs.Amounts.{amount, with_amount, plus, minus}
use Rattle.amounts.proofs.Lemmas.{same_key, key_same, amount_at_most}
use Rattle.asset_lists.specs.declared.units.AssetId.{AssetId}
use Rattle.asset_lists.specs.declared.units.Instance.{Instance}
use Rattle.asset_lists.specs.declared.units.Kind.{Kind}
use Rattle.asset_lists.specs.declared.units.Fun.{Fun}
use Rattle.asset_lists.specs.Units.{Unit, instance_in, amount_in}
use Rattle.asset_lists.specs.Listed.{Listed, listed_of}
use Rattle.asset_bundles.specs.declared.wide_sum.WideSum.{WideSum}
use Rattle.asset_bundles.specs.Totals.{wide_value}
use Rattle.ledgers.specs.Ledgers.{account_cmp, is_account, is_holding_of, sum_of, account_sum_of, number_in}
use Rattle.ledgers.specs.LedgerRows.{AmountKey, amount_key_cmp, OwnerKey, owner_key_cmp, amount_in_row, owner_at, owned, OwnerIs, held_in, AreSmall, IsSumWritten, IsSound, HasAmountRow, HasOwnerRow, HasInstanceRow}
use Rattle.ledgers.specs.RowState.{may_take}
use Rattle.ledgers.proofs.Lemmas.{holder_keys, account_keys}
use Rattle.ledgers.proofs.RowLookups.{amount_keys, apart}
use Rattle.ledgers.proofs.RowAmounts.{held-fungible, held-no_fungible, held-instance, held-no_instance}
use Rattle.ledgers.proofs.RowMoves.{same_rows, held-with_amount, held-with_owner}
use Rattle.ledgers.proofs.Numbers.{number_at, no_number}
use Rattle.ledgers.proofs.Soundness.{is_its_asset, IsWrite, still_sound}
use Rattle.ledgers.proofs.Bounds.{sum_bound, count_bound}

is_owner : (b : Bool) → 1 ≤ (if b then 1 else 0) → b ≡ true
is_owner true h = refl
is_owner false h = absurd (omega (arith, h))

-- ---- what one account has of an asset, and the rows
module _ (listed : List Listed) (amounts : List (AmountKey × ℕ)) (owners : List (OwnerKey × Option (List ℕ))) (sums : List WideSum) (sound : IsSound listed amounts owners sums) where
  -- a row has what is held of its unit, at least
  pub row_at_least : (n : ℕ) (who : List ℕ) (id : AssetId) (x : Option Instance) → slice_get listed n ≡ Some (listed_of (id, x)) → amount (held_in listed amounts owners) (who, (id, x)) ≤ amount_in_row amounts (who, n)
  row_at_least n who id None at = (let same = held-fungible listed sound.once amounts owners n who id at in omega (arith, same))
  row_at_least n who id (Some i) at =
      let passes = and_from (is_account who (who, (id, Some i))) (is_holding_of (id, Kind.Class) (who, (id, Some i))) (same_key account_keys who) (is_its_asset (id, Kind.Class) (id, Some i) refl) in
      let most = amount_at_most holder_keys (λ h. is_account who h && is_holding_of (id, Kind.Class) h) (held_in listed amounts owners) (who, (id, Some i)) passes in
      let count = sound.counted n who id at in
      omega (arith, most, count)

  -- and so has the running sum
  pub sum_at_least : (n : ℕ) (who : List ℕ) (unit : Unit) (s : WideSum) → slice_get listed n ≡ Some (listed_of unit) → slice_get sums n ≡ Some s → amount (held_in listed amounts owners) (who, unit) ≤ wide_value s
  sum_at_least n who unit s at is =
      let most = amount_at_most holder_keys (is_holding_of (listed_of unit)) (held_in listed amounts owners) (who, unit) (is_its_asset (listed_of unit) unit refl) in
      let sum = sound.summed n (listed_of unit) s at is in
      omega (arith, most, sum)

  -- a unit that is held is listed
  pub held_listed : (who : List ℕ) (id : AssetId) (x : Option Instance) → number_in listed (listed_of (id, x)) ≡ None → amount (held_in listed amounts owners) (who, (id, x)) ≡ 0
  held_listed who id None none = held-no_fungible listed sound.once amounts owners who id (no_number listed (id, Kind.Fungible) none)
  held_listed who id (Some i) none = held-no_instance listed sound.once amounts owners who id i (no_number listed (id, Kind.Class) none)

  -- what the rows say of one account and unit
  pub held_fungible : (n : ℕ) (who : List ℕ) (id : AssetId) → number_in listed (id, Kind.Fungible) ≡ Some n → amount_in_row amounts (who, n) ≡ amount (held_in listed amounts owners) (who, (id, None))
  held_fungible n who id is = sym (held-fungible listed sound.once amounts owners n who id (number_at listed (id, Kind.Fungible) n is))

  pub held_instance : (n : ℕ) (who : List ℕ) (id : AssetId) (i : Instance) → number_in listed (id, Kind.Class) ≡ Some n → owned who (owner_at owners (n, i)) ≡ amount (held_in listed amounts owners) (who, (id, Some i))
  held_instance n who id i is = sym (held-instance listed sound.once amounts owners sound.sorted n who id i (number_at listed (id, Kind.Class) n is))

  -- ---- rows that read alike
  pub alike_sound : (more_amounts : List (AmountKey × ℕ)) (more_owners : List (OwnerKey × Option (List ℕ)))
      → ((q : AmountKey) → amount_in_row more_amounts q ≡ amount_in_row amounts q) → ((q : OwnerKey) → owner_at more_owners q ≡ owner_at owners q)
      → AreSmall more_amounts → IsStrictlySortedBy owner_key_cmp (keys_of more_owners)
      → (held_in listed more_amounts more_owners ≡ held_in listed amounts owners) × IsSound listed more_amounts more_owners sums
  alike_sound more_amounts more_owners same_amount same_owner small sorted =
      let held : held_in listed more_amounts more_owners ≡ held_in listed amounts owners = same_rows listed sound.once amounts more_amounts owners more_owners sound.sorted sorted same_amount same_owner in (
        held,
        record {
          once = sound.once;
          small = small;
          sorted = sorted;
          counted = λ n who id at. same_amount (who, n) ∙ sound.counted n who id at ∙ sym (ap (account_sum_of who (id, Kind.Class)) held);
          numbered = λ n who some. sound.numbered n who (subst (λ v. 0 < v) (same_amount (who, n)) some);
          as_many = sound.as_many;
          summed = λ n asset s at is. sound.summed n asset s at is ∙ sym (ap (sum_of asset) held);
        },
      )

  -- ---- an asset is taken out
  module _ (more_amounts : List (AmountKey × ℕ)) (more_owners : List (OwnerKey × Option (List ℕ))) (sorted : IsStrictlySortedBy owner_key_cmp (keys_of more_owners))
      (n : ℕ) (who : List ℕ) (id : AssetId) where
    taken_held : (fun : Fun) → slice_get listed n ≡ Some (listed_of (id, instance_in fun)) → amount_in fun ≤ amount (held_in listed amounts owners) (who, (id, instance_in fun))
        → ((q : AmountKey) → amount_in_row more_amounts q ≡ (if eq_by_cmp amount_key_cmp (who, n) q then amount_in_row amounts (who, n) - amount_in fun else amount_in_row amounts q))
        → OwnerIs (instance_in fun) n None owners more_owners
        → held_in listed more_amounts more_owners ≡ minus (held_in listed amounts owners) (who, (id, instance_in fun)) (amount_in fun)
    unfolding minus
    taken_held (Fun.Fungible a) at enough wrote owner =
        held-with_amount listed sound.once amounts more_amounts owners more_owners sound.sorted sorted n who id (amount_in_row amounts (who, n) - a) at wrote owner
        ∙ ap (λ v. with_amount (held_in listed amounts owners) (who, (id, None)) (v - a)) (sym (held-fungible listed sound.once amounts owners n who id at))
    taken_held (Fun.NonFungible i) at enough wrote owner =
        held-with_owner listed sound.once amounts more_amounts owners more_owners sound.sorted sorted n who id i (amount (held_in listed amounts owners) (who, (id, Some i)) - 1) None at
        (λ m w other. wrote (w, m) ∙ elsewhere m w other) owner (means (owner_at owners (n, i)) (held-instance listed sound.once amounts owners sound.sorted n who id i at))
      where
        elsewhere : (m : ℕ) (w : List ℕ) → (n ≡ m → ⊥) → (if eq_by_cmp amount_key_cmp (who, n) (w, m) then amount_in_row amounts (who, n) - 1 else amount_in_row amounts (w, m)) ≡ amount_in_row amounts (w, m)
        elsewhere m w other = ap (λ b. if b then amount_in_row amounts (who, n) - 1 else amount_in_row amounts (w, m)) (apart amount_keys (who, n) (w, m) (λ e. other (ap (λ (k : AmountKey). k.1) e)))

        left : (h : ℕ) (b : Bool) → h ≡ (if b then 1 else 0) → h - 1 ≡ 0
        left h true e = omega (arith, e)
        left h false e = omega (arith, e)

        means : (o : Option (List ℕ)) → amount (held_in listed amounts owners) (who, (id, Some i)) ≡ owned who o → (w : List ℕ) → 0 ≡ (if eq_by_cmp account_cmp w who then amount (held_in listed amounts owners) (who, (id, Some i)) - 1 else owned w o)
        means None has w = absurd (omega (arith, enough, has))
        means (Some o) has w =
            let owner : who ≡ o = key_same account_keys who o (is_owner (eq_by_cmp account_cmp who o) (omega (arith, enough, has))) in
            elim (eq_by_cmp account_cmp w who) as (λ b. eq_by_cmp account_cmp w who ≡ b → 0 ≡ (if b then amount (held_in listed amounts owners) (who, (id, Some i)) - 1 else (if eq_by_cmp account_cmp w o then 1 else 0))) [
              | true ↦ λ t. sym (left _ (eq_by_cmp account_cmp who o) has)
              | false ↦ λ t. sym (ap (λ b. if b then 1 else 0) (sym (ap (eq_by_cmp account_cmp w) owner) ∙ t))
            ] refl

    taken_row : (next had row a : ℕ) → next ≡ row - a → a ≤ had → had ≤ row → next + had ≡ row + (had - a)
    taken_row next had row a e le most = omega (arith, e, le, most)

    pub taken : (fun : Fun) → number_in listed (listed_of (id, instance_in fun)) ≡ Some n → amount_in fun ≤ amount (held_in listed amounts owners) (who, (id, instance_in fun))
        → ((q : AmountKey) → amount_in_row more_amounts q ≡ (if eq_by_cmp amount_key_cmp (who, n) q then amount_in_row amounts (who, n) - amount_in fun else amount_in_row amounts q))
        → OwnerIs (instance_in fun) n None owners more_owners → AreSmall more_amounts
        → (more_sums : List WideSum) → (s : WideSum) × (t : WideSum) × IsSumWritten n sums more_sums s t × (wide_value t ≡ wide_value s - amount_in fun)
        → (held_in listed more_amounts more_owners ≡ minus (held_in listed amounts owners) (who, (id, instance_in fun)) (amount_in fun)) × IsSound listed more_amounts more_owners more_sums
    unfolding minus
    taken fun is enough wrote owner small more_sums (s, t, sum, lowered) =
        let at = number_at listed (listed_of (id, instance_in fun)) n is in
        let held = taken_held fun at enough wrote owner in
        let row = row_at_least n who id (instance_in fun) at in
        let most = sum_at_least n who (id, instance_in fun) s at sum.was in
        let write : IsWrite listed amounts more_amounts owners more_owners sums n who (id, instance_in fun) (amount (held_in listed amounts owners) (who, (id, instance_in fun)) - amount_in fun) (amount_in_row amounts (who, n) - amount_in fun) s t =
        record {
          at = at;
          held = held;
          wrote = wrote;
          row = taken_row _ _ _ _ refl enough row;
          small = small;
          sorted = sorted;
          sum_was = sum.was;
          sum = taken_row _ _ _ _ lowered enough most;
        } in
        (held, subst (IsSound listed more_amounts more_owners) (sym sum.written) (still_sound listed amounts more_amounts owners more_owners sums n who (id, instance_in fun) _ _ s t sound write))

    -- ---- an asset is given
    no_owner : (i : Instance) → slice_get listed n ≡ Some (id, Kind.Class) → ((w : List ℕ) → amount (held_in listed amounts owners) (w, (id, Some i)) ≡ 0) → owner_at owners (n, i) ≡ None
    no_owner i at none = by (owner_at owners (n, i)) refl
      where
        by : (o : Option (List ℕ)) → owner_at owners (n, i) ≡ o → o ≡ None
        by None e = refl
        by (Some o) e =
            let has : amount (held_in listed amounts owners) (o, (id, Some i)) ≡ 1 =
            held-instance listed sound.once amounts owners sound.sorted n o id i at ∙ ap (owned o) e ∙ ap (λ b. if b then 1 else 0) (same_key account_keys o) in
            let nobody = none o in
            absurd (omega (arith, has, nobody))

    given_held : (fun : Fun) → slice_get listed n ≡ Some (listed_of (id, instance_in fun)) → may_take fun who (id, instance_in fun) (held_in listed amounts owners)
        → ((q : AmountKey) → amount_in_row more_amounts q ≡ (if eq_by_cmp amount_key_cmp (who, n) q then amount_in_row amounts (who, n) + amount_in fun else amount_in_row amounts q))
        → OwnerIs (instance_in fun) n (Some who) owners more_owners
        → held_in listed more_amounts more_owners ≡ plus (held_in listed amounts owners) (who, (id, instance_in fun)) (amount_in fun)
    unfolding plus
    given_held (Fun.Fungible a) at may wrote owner =
        held-with_amount listed sound.once amounts more_amounts owners more_owners sound.sorted sorted n who id (amount_in_row amounts (who, n) + a) at wrote owner
        ∙ ap (λ v. with_amount (held_in listed amounts owners) (who, (id, None)) (v + a)) (sym (held-fungible listed sound.once amounts owners n who id at))
    given_held (Fun.NonFungible i) at may wrote owner =
        held-with_owner listed sound.once amounts more_amounts owners more_owners sound.sorted sorted n who id i (amount (held_in listed amounts owners) (who, (id, Some i)) + 1) (Some who) at
        (λ m w other. wrote (w, m) ∙ elsewhere m w other) owner means
      where
        elsewhere : (m : ℕ) (w : List ℕ) → (n ≡ m → ⊥) → (if eq_by_cmp amount_key_cmp (who, n) (w, m) then amount_in_row amounts (who, n) + 1 else amount_in_row amounts (w, m)) ≡ amount_in_row amounts (w, m)
        elsewhere m w other = ap (λ b. if b then amount_in_row amounts (who, n) + 1 else amount_in_row amounts (w, m)) (apart amount_keys (who, n) (w, m) (λ e. other (ap (λ (k : AmountKey). k.1) e)))

        one : (h : ℕ) → h ≡ 0 → h + 1 ≡ 1
        one h e = omega (arith, e)

        means : (w : List ℕ) → owned w (Some who) ≡ (if eq_by_cmp account_cmp w who then amount (held_in listed amounts owners) (who, (id, Some i)) + 1 else owned w (owner_at owners (n, i)))
        means w = λ j. if eq_by_cmp account_cmp w who then sym (one _ (may who)) j else sym (ap (owned w) (no_owner i at may)) j

    -- the row of the account and the running sum have room for it
    pub row_room : (fun : Fun) → number_in listed (listed_of (id, instance_in fun)) ≡ Some n → may_take fun who (id, instance_in fun) (held_in listed amounts owners) → length owners < 2 ^ 63
        → amount_in_row amounts (who, n) + amount_in fun < 2 ^ 128
    row_room (Fun.Fungible a) is may few =
        let same = held-fungible listed sound.once amounts owners n who id (number_at listed (id, Kind.Fungible) n is) in
        omega (arith, same, may)
    row_room (Fun.NonFungible i) is may few =
        let count = sound.counted n who id (number_at listed (id, Kind.Class) n is) in
        let most = count_bound listed amounts owners who id few in
        omega (arith, count, most)

    pub sum_room : (unit : Unit) (a : ℕ) → a < 2 ^ 128 → number_in listed (listed_of unit) ≡ Some n → length amounts < 2 ^ 63 → length owners < 2 ^ 63 → (s : WideSum) → slice_get sums n ≡ Some s → wide_value s + a < 2 ^ 192
    sum_room unit a fits is few few_owners s was =
        let sum = sound.summed n (listed_of unit) s (number_at listed (listed_of unit) n is) was in
        let most = sum_bound listed amounts owners (is_holding_of (listed_of unit)) sound.small few few_owners in
        omega (arith, sum, most, fits)

    given_row : (next had row a : ℕ) → next ≡ row + a → next + had ≡ row + (had + a)
    given_row next had row a e = omega (arith, e)

    pub given : (fun : Fun) → number_in listed (listed_of (id, instance_in fun)) ≡ Some n → may_take fun who (id, instance_in fun) (held_in listed amounts owners)
        → ((q : AmountKey) → amount_in_row more_amounts q ≡ (if eq_by_cmp amount_key_cmp (who, n) q then amount_in_row amounts (who, n) + amount_in fun else amount_in_row amounts q))
        → OwnerIs (instance_in fun) n (Some who) owners more_owners → AreSmall more_amounts
        → (more_sums : List WideSum) → (s : WideSum) × (t : WideSum) × IsSumWritten n sums more_sums s t × (wide_value t ≡ wide_value s + amount_in fun)
        → (held_in listed more_amounts more_owners ≡ plus (held_in listed amounts owners) (who, (id, instance_in fun)) (amount_in fun)) × IsSound listed more_amounts more_owners more_sums
    unfolding plus
    given fun is may wrote owner small more_sums (s, t, sum, raised) =
        let at = number_at listed (listed_of (id, instance_in fun)) n is in
        let held = given_held fun at may wrote owner in
        let write : IsWrite listed amounts more_amounts owners more_owners sums n who (id, instance_in fun) (amount (held_in listed amounts owners) (who, (id, instance_in fun)) + amount_in fun) (amount_in_row amounts (who, n) + amount_in fun) s t =
        record {
          at = at;
          held = held;
          wrote = wrote;
          row = given_row _ _ _ _ refl;
          small = small;
          sorted = sorted;
          sum_was = sum.was;
          sum = given_row _ _ _ _ raised;
        } in
        (held, subst (IsSound listed more_amounts more_owners) (sym sum.written) (still_sound listed amounts more_amounts owners more_owners sums n who (id, instance_in fun) _ _ s t sound write))

-- ---- in the words of the code
module _ (listed : List Listed) (amounts : List (AmountKey × ℕ)) (owners : List (OwnerKey × Option (List ℕ))) (sums : List WideSum) (sound : IsSound listed amounts owners sums) (n : ℕ) (who : List ℕ) (id : AssetId) (fun : Fun) where
  pub held_of_amount : (a : ℕ) → Some n ≡ number_in listed (listed_of (id, instance_in fun)) → fun ≡ Fun.Fungible a → amount_in_row amounts (who, n) ≡ amount (held_in listed amounts owners) (who, (id, instance_in fun))
  held_of_amount a is e =
      let at : (f : Fun) → f ≡ Fun.Fungible a → Some n ≡ number_in listed (listed_of (id, instance_in f)) → amount_in_row amounts (who, n) ≡ amount (held_in listed amounts owners) (who, (id, instance_in f)) =
      λ f h. subst (λ g. Some n ≡ number_in listed (listed_of (id, instance_in g)) → amount_in_row amounts (who, n) ≡ amount (held_in listed amounts owners) (who, (id, instance_in g))) (sym h)
      (λ num. held_fungible listed amounts owners sums sound n who id (sym num)) in
      at fun e is

  pub held_of_instance : (i : Instance) → Some n ≡ number_in listed (listed_of (id, instance_in fun)) → fun ≡ Fun.NonFungible i → owned who (owner_at owners (n, i)) ≡ amount (held_in listed amounts owners) (who, (id, instance_in fun))
  held_of_instance i is e =
      let at : (f : Fun) → f ≡ Fun.NonFungible i → Some n ≡ number_in listed (listed_of (id, instance_in f)) → owned who (owner_at owners (n, i)) ≡ amount (held_in listed amounts owners) (who, (id, instance_in f)) =
      λ f h. subst (λ g. Some n ≡ number_in listed (listed_of (id, instance_in g)) → owned who (owner_at owners (n, i)) ≡ amount (held_in listed amounts owners) (who, (id, instance_in g))) (sym h)
      (λ num. held_instance listed amounts owners sums sound n who id i (sym num)) in
      at fun e is

-- the same write, by another name of what is written
pub wrote_as : (rows more : List (AmountKey × ℕ)) (k : AmountKey) (v w : ℕ) → v ≡ w → ((q : AmountKey) → amount_in_row more q ≡ (if eq_by_cmp amount_key_cmp k q then v else amount_in_row rows q))
    → (q : AmountKey) → amount_in_row more q ≡ (if eq_by_cmp amount_key_cmp k q then w else amount_in_row rows q)
wrote_as rows more k v w e h q = subst (λ x. amount_in_row more q ≡ (if eq_by_cmp amount_key_cmp k q then x else amount_in_row rows q)) e (h q)

-- ---- rows that say something are there
pub amount_row_there : (rows : List (AmountKey × ℕ)) (k : AmountKey) → 0 < amount_in_row rows k → HasAmountRow rows k
amount_row_there rows k h = there (lookup (eq_by_cmp amount_key_cmp k) rows) h
  where
    there : (o : Option ℕ) → 0 < unwrap_or o 0 → IsSome o
    there None h = absurd (omega (arith, h))
    there (Some v) h = refl

pub owner_row_there : (rows : List (OwnerKey × Option (List ℕ))) (k : OwnerKey) (who : List ℕ) → 0 < owned who (owner_at rows k) → HasOwnerRow rows k
owner_row_there rows k who h = there (lookup (eq_by_cmp owner_key_cmp k) rows) h
  where
    there : (o : Option (Option (List ℕ))) → 0 < owned who (unwrap_or o None) → IsSome o
    there None h = absurd (omega (arith, h))
    there (Some v) h = refl

pub instance_row_there : (listed : List Listed) (amounts : List (AmountKey × ℕ)) (owners : List (OwnerKey × Option (List ℕ))) (sums : List WideSum) → IsSound listed amounts owners sums → (n : ℕ) (who : List ℕ) (id : AssetId) (x : Option Instance)
    → number_in listed (listed_of (id, x)) ≡ Some n → 0 < amount (held_in listed amounts owners) (who, (id, x)) → HasInstanceRow owners n x
instance_row_there listed amounts owners sums sound n who id None is some = tt
instance_row_there listed amounts owners sums sound n who id (Some i) is some =
    let same = held_instance listed amounts owners sums sound n who id i is in
    owner_row_there owners (n, i) who (omega (arith, same, some))
