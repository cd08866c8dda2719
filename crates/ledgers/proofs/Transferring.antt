-- What one account gives and another gets.
use Rattle.std.proofs.Common.{◌≡◌, ℕ, ◌+◌, ◌-◌, ◌^◌, ◌<◌, ◌≤◌, Bool, true, false, if◌then◌else◌, List, [], ◌∷◌, refl, sym, ap, ◌∙◌, subst, arith, true≢false, inl, inr}
use Rattle.std.specs.Prelude.{Option, None, Some, nat_lt, MatchOption, IsSomeAnd}
use Rattle.std.specs.Ordering.{eq_by_cmp}
use Rattle.std.specs.List.{list_all}
use Rattle.std.proofs.lemmas.Bool.{and_from, cases_Bool}
use Rattle.amounts.specs.Rows.{sum_where, amount_if}
use Rattle.amounts.specs.Amounts.{amount, difference, IsWithin}
use Rattle.amounts.proofs.Lemmas.{same_key, key_same, total_none, amount-from_rows, amount-difference, merge-difference}
use Rattle.asset_lists.specs.declared.units.AssetId.{AssetId}
use Rattle.asset_lists.specs.declared.units.Instance.{Instance}
use Rattle.asset_lists.specs.declared.units.Kind.{Kind}
use Rattle.asset_lists.specs.declared.units.Fun.{Fun}
use Rattle.asset_lists.specs.declared.units.Asset.{Asset}
use Rattle.asset_lists.specs.Units.{Unit, unit_of, amount_of, unit_cmp, instance_in, amount_in}
use Rattle.asset_lists.specs.Lists.{has_zero}
use Rattle.asset_bundles.specs.Bundles.{bundle_of}
use Rattle.asset_bundles.proofs.Lemmas.Bundles.{unit_keys}
use Rattle.asset_lists.specs.Listed.{Listed, listed_of, lists}
use Rattle.asset_bundles.specs.declared.wide_sum.WideSum.{WideSum}
use Rattle.ledgers.specs.Ledgers.{Holder, account_cmp, holder_cmp, Held, Accounts, held_by, owners_of, number_in, overflow, is_barred, barred, Transferred}
use Rattle.ledgers.specs.LedgerFaults.{IsBarred, IsTransferBar, IsTransferFault}
use Rattle.ledgers.specs.declared.faults.DepositFault.{DepositFault}
use Rattle.ledgers.specs.declared.faults.TransferFault.{TransferFault}
use Rattle.ledgers.specs.LedgerRows.{AmountKey, OwnerKey, owner_at, owned, held_in, IsSound}
use Rattle.ledgers.specs.AccountRows.{account_rows, HasAll}
use Rattle.ledgers.proofs.Lemmas.{holder_keys, account_keys}
use Rattle.ledgers.proofs.RowLookups.{apart}
use Rattle.ledgers.proofs.RowAmounts.{held-fungible, held-instance}
use Rattle.ledgers.proofs.RowWriting.{small_at}
use Rattle.ledgers.proofs.Numbers.{number_at}
use Rattle.ledgers.proofs.RowChanges.{held_listed}
use Rattle.ledgers.proofs.AccountMoves.{none_zero, held_by_rows}
use Rattle.ledgers.proofs.Opening.{listed_by_number}
use Rattle.plain_lists.proofs.Lemmas.Facts.{at_least_not_below as not_more}

-- ---- what overflows and what bars
-- the amount that is told is that of the first asset that bars, or none bars
abbrev IsToldBy : Held → List ℕ → Option ℕ → Option Asset → Type 0
IsToldBy held who told found = MatchOption told (found ≡ None) (λ have. IsSomeAnd found (λ a. IsBarred held who a (DepositFault.Overflow have)))

told_here : (held : Held) (who : List ℕ) (a : Asset) (b : Bool) (have : ℕ) (rest : Option ℕ) (found : Option Asset) → IsBarred held who a (DepositFault.Overflow have) → IsToldBy held who rest found
    → IsToldBy held who (if b then Some have else rest) (if b then Some a else found)
told_here held who a true have rest found here later = here
told_here held who a false have rest found here later = later

told_later : (held : Held) (who : List ℕ) (a : Asset) (b c : Bool) (have : ℕ) (rest : Option ℕ) (found : Option Asset) → b ≡ false → c ≡ false → IsToldBy held who rest found
    → IsToldBy held who (if b then Some have else rest) (if c then Some a else found)
told_later held who a true c have rest found h k later = absurd (true≢false h)
told_later held who a false true have rest found h k later = absurd (true≢false k)
told_later held who a false false have rest found h k later = later

-- ---- how much may be held
owned_one : (who : List ℕ) (o : Option (List ℕ)) → owned who o ≤ 1
owned_one who None = omega arith
owned_one who (Some w) = elim (eq_by_cmp account_cmp who w) as (λ b. (if b then 1 else 0) ≤ 1) [ true ↦ omega arith | false ↦ omega arith ]

owned_alone : (who w : List ℕ) (o : Option (List ℕ)) → 0 < owned who o → (w ≡ who → ⊥) → owned w o ≡ 0
owned_alone who w None some other = refl
owned_alone who w (Some x) some other =
    elim (cases_Bool (eq_by_cmp account_cmp who x)) [
      | inl here ↦ ap (λ b. if b then 1 else 0) (apart account_keys w x (λ e. other (e ∙ sym (key_same account_keys who x here))))
      | inr there ↦ (let none : owned who (Some x) ≡ 0 = ap (λ b. if b then 1 else 0) there in absurd (omega (arith, none, some)))
    ]

module _ (listed : List Listed) (amounts : List (AmountKey × ℕ)) (owners : List (OwnerKey × Option (List ℕ))) (sums : List WideSum) (sound : IsSound listed amounts owners sums) where
  pub held_most : (who : List ℕ) (id : AssetId) (x : Option Instance) → amount (held_in listed amounts owners) (who, (id, x)) ≤ 2 ^ 128 - 1
  held_most who id None =
      elim (number_in listed (id, Kind.Fungible)) as (λ o. number_in listed (id, Kind.Fungible) ≡ o → amount (held_in listed amounts owners) (who, (id, None)) ≤ 2 ^ 128 - 1) [
        | None ↦ λ e. (let none = held_listed listed amounts owners sums sound who id None e in omega (arith, none))
        | Some n ↦ λ e. (let same = held-fungible listed sound.once amounts owners n who id (number_at listed (id, Kind.Fungible) n e) in
            let most = small_at amounts (who, n) sound.small in omega (arith, same, most))
      ] refl
  held_most who id (Some i) =
      elim (number_in listed (id, Kind.Class)) as (λ o. number_in listed (id, Kind.Class) ≡ o → amount (held_in listed amounts owners) (who, (id, Some i)) ≤ 2 ^ 128 - 1) [
        | None ↦ λ e. (let none = held_listed listed amounts owners sums sound who id (Some i) e in omega (arith, none))
        | Some n ↦ λ e. (let same = held-instance listed sound.once amounts owners sound.sorted n who id i (number_at listed (id, Kind.Class) n e) in
            let most = owned_one who (owner_at owners (n, i)) in omega (arith, same, most))
      ] refl

  -- an instance is held by one account alone
  pub instance_alone : (who : List ℕ) (id : AssetId) (i : Instance) → 0 < amount (held_in listed amounts owners) (who, (id, Some i))
      → (amount (held_in listed amounts owners) (who, (id, Some i)) ≤ 1) × ((w : List ℕ) → (w ≡ who → ⊥) → amount (held_in listed amounts owners) (w, (id, Some i)) ≡ 0)
  instance_alone who id i some =
      elim (number_in listed (id, Kind.Class)) as (λ o. number_in listed (id, Kind.Class) ≡ o
      → (amount (held_in listed amounts owners) (who, (id, Some i)) ≤ 1) × ((w : List ℕ) → (w ≡ who → ⊥) → amount (held_in listed amounts owners) (w, (id, Some i)) ≡ 0)) [
        | None ↦ λ e. (let none = held_listed listed amounts owners sums sound who id (Some i) e in absurd (omega (arith, none, some)))
        | Some n ↦ λ e.
            let at = number_at listed (id, Kind.Class) n e in
            let same = held-instance listed sound.once amounts owners sound.sorted n who id i at in
            let most = owned_one who (owner_at owners (n, i)) in (
              omega (arith, same, most),
              λ w other. held-instance listed sound.once amounts owners sound.sorted n w id i at ∙ owned_alone who w (owner_at owners (n, i)) (omega (arith, same, some)) other,
            )
      ] refl

  -- what is held is listed
  pub held_is_listed : (who : List ℕ) (id : AssetId) (x : Option Instance) → 0 < amount (held_in listed amounts owners) (who, (id, x)) → lists listed (listed_of (id, x)) ≡ true
  held_is_listed who id x some =
      elim (number_in listed (listed_of (id, x))) as (λ o. number_in listed (listed_of (id, x)) ≡ o → lists listed (listed_of (id, x)) ≡ true) [
        | None ↦ λ e. (let none = held_listed listed amounts owners sums sound who id x e in absurd (omega (arith, none, some)))
        | Some n ↦ λ e. listed_by_number listed (listed_of (id, x)) n e
      ] refl

  -- ---- a list that an account has
  within_first : (b : Bool) (n m h : ℕ) → amount_if b n + m ≤ h → b ≡ true → n ≤ h
  within_first true n m h le t = omega (arith, le)
  within_first false n m h le t = absurd (true≢false (sym t))

  pub all_listed : (who : List ℕ) (xs : List Asset) → ((q : Holder) → sum_where (eq_by_cmp holder_cmp q) (account_rows who xs) ≤ amount (held_in listed amounts owners) q) → has_zero xs ≡ false
      → list_all (λ a. lists listed (listed_of (unit_of a))) xs ≡ true
  all_listed who [] within zeros = refl
  all_listed who (a ∷ xs) within zeros =
      let some = none_zero a xs zeros in
      let here = within_first (eq_by_cmp holder_cmp (who, unit_of a) (who, unit_of a)) (amount_of a) _ _ (within (who, unit_of a)) (same_key holder_keys (who, unit_of a)) in
      let positive = some.0 in
      and_from _ _ (held_is_listed who a.id (instance_in a.fun) (omega (arith, here, positive)))
      (all_listed who xs (λ q. let le = within q in omega (arith, le)) some.1)

  -- ---- what the receiver may take once the giver has given
  module _ (from to : List ℕ) (taken after : Held) (has : (q : Holder) → amount taken q ≤ amount (held_in listed amounts owners) q)
      (left : (q : Holder) → amount after q ≡ amount (held_in listed amounts owners) q - amount taken q) where
    may_after_fun_instance : (id : AssetId) (i : Instance) → 1 ≤ amount taken (from, (id, Some i)) → (w : List ℕ) → amount after (w, (id, Some i)) ≡ 0
    may_after_fun_instance id i given = λ w.
        let le = has (from, (id, Some i)) in
        let alone = instance_alone from id i (omega (arith, le, given)) in
        let now = left (w, (id, Some i)) in
        elim (cases_Bool (eq_by_cmp account_cmp w from)) [
          | inl same ↦ (let at_from = subst (λ k. amount after (k, (id, Some i)) ≡ amount (held_in listed amounts owners) (k, (id, Some i)) - amount taken (k, (id, Some i))) (key_same account_keys w from same) now in
              let one = alone.0 in
              let none : amount after (from, (id, Some i)) ≡ 0 = omega (arith, at_from, one, given) in
              ap (λ k. amount after (k, (id, Some i))) (key_same account_keys w from same) ∙ none)
          | inr other ↦ (let nothing = alone.1 w (λ e. true≢false (sym (subst (λ k. eq_by_cmp account_cmp k from ≡ true) (sym e) (same_key account_keys from)) ∙ other)) in omega (arith, now, nothing))
        ]

    -- an instance that was given has no owner
    unit_apart : (id : AssetId) (i : Instance) → ((w : List ℕ) → amount after (w, (id, Some i)) ≡ 0) → (q : Holder) → 0 < amount after q → eq_by_cmp unit_cmp (id, Some i) q.1 ≡ false
    unit_apart id i none q some = elim (cases_Bool (eq_by_cmp unit_cmp (id, Some i) q.1)) [
      | inl same ↦ (let here = ap (λ u. amount after (q.0, u)) (sym (key_same unit_keys (id, Some i) q.1 same)) ∙ none q.0 in absurd (omega (arith, here, some)))
      | inr other ↦ other
    ]

    first_after : (fun : Fun) (id : AssetId) (rest : Option ℕ) (found : Option Asset) → amount_in fun ≤ amount taken (from, (id, instance_in fun)) → IsToldBy after to rest found
        → let a : Asset = record { id = id; fun = fun } in IsToldBy after to (if nat_lt (2 ^ 128 - 1) (amount after (to, unit_of a) + amount_of a) then Some (amount after (to, unit_of a)) else rest) (if is_barred after to a then Some a else found)
    first_after (Fun.Fungible n) id rest found given told = told_here after to (record { id = id; fun = Fun.Fungible n }) (nat_lt (2 ^ 128 - 1) (amount after (to, (id, None)) + n)) _ rest found (refl, refl) told
    first_after (Fun.NonFungible i) id rest found given told =
        let none = may_after_fun_instance id i given in
        let owners = total_none holder_keys (λ (h : Holder). eq_by_cmp unit_cmp (id, Some i) h.1) after (unit_apart id i none) in
        let here = none to in
        told_later after to (record { id = id; fun = Fun.NonFungible i }) (nat_lt (2 ^ 128 - 1) (amount after (to, (id, Some i)) + 1)) (nat_lt 0 (owners_of (id, Some i) after)) (amount after (to, (id, Some i))) rest found (not_more (2 ^ 128 - 1) (amount after (to, (id, Some i)) + 1) (omega (arith, here))) (not_more 0 (owners_of (id, Some i) after) (omega (arith, owners))) told

    -- what overflows once it is given is what bars the receiver
    pub told_after : (xs : List Asset) → ((q : Holder) → sum_where (eq_by_cmp holder_cmp q) (account_rows from xs) ≤ amount taken q) → IsToldBy after to (overflow after to xs) (barred after to xs)
    told_after [] within = refl
    told_after (a ∷ xs) within =
        let here = within_first (eq_by_cmp holder_cmp (from, unit_of a) (from, unit_of a)) (amount_of a) _ _ (within (from, unit_of a)) (same_key holder_keys (from, unit_of a)) in
        first_after a.fun a.id (overflow after to xs) (barred after to xs) here (told_after xs (λ q. let le = within q in omega (arith, le)))

-- ---- overflows
pub same_overflow : (m n : Held) (who : List ℕ) (xs : List Asset) → ((u : Unit) → amount m (who, u) ≡ amount n (who, u)) → overflow m who xs ≡ overflow n who xs
same_overflow m n who [] same = refl
same_overflow m n who (a ∷ xs) same = λ i. if nat_lt (2 ^ 128 - 1) (same (unit_of a) i + amount_of a) then Some (same (unit_of a) i) else same_overflow m n who xs same i

-- rows of another account
pub no_rows_there : (who w : List ℕ) (u : Unit) (xs : List Asset) → (w ≡ who → ⊥) → sum_where (eq_by_cmp holder_cmp (w, u)) (account_rows who xs) ≡ 0
no_rows_there who w u [] other = refl
no_rows_there who w u (a ∷ xs) other =
    let rest = no_rows_there who w u xs other in
    let here : amount_if (eq_by_cmp holder_cmp (w, u) (who, unit_of a)) (amount_of a) ≡ 0 = ap (λ b. amount_if b (amount_of a)) (apart holder_keys (w, u) (who, unit_of a) (λ e. other (ap (λ (h : Holder). h.0) e))) in
    omega (arith, rest, here)

pub amount-held_by : (who : List ℕ) (xs : List Asset) (q : Holder) → amount (held_by who (bundle_of xs)) q ≡ sum_where (eq_by_cmp holder_cmp q) (account_rows who xs)
amount-held_by who xs q = ap (λ m. amount m q) (sym (held_by_rows who xs)) ∙ amount-from_rows holder_keys (account_rows who xs) q

pub left_to : (held : Held) (from to : List ℕ) (xs : List Asset) → (to ≡ from → ⊥) → (u : Unit) → amount (difference held (held_by from (bundle_of xs))) (to, u) ≡ amount held (to, u)
left_to held from to xs other u =
    let left = amount-difference holder_keys held (held_by from (bundle_of xs)) (to, u) in
    let none = amount-held_by from xs (to, u) ∙ no_rows_there from to u xs other in
    omega (arith, left, none)

-- an account that gives to itself has as much as before
none_over : (b : Bool) (x : ℕ) (rest : Option ℕ) → b ≡ false → rest ≡ None → (if b then Some x else rest) ≡ None
none_over true x rest h e = absurd (true≢false h)
none_over false x rest h e = e

self_first : (b : Bool) (n m t : ℕ) → amount_if b n + m ≤ t → b ≡ true → n ≤ t
self_first true n m t le e = omega (arith, le)
self_first false n m t le e = absurd (true≢false (sym e))

pub no_self_overflow : (who : List ℕ) (held taken after : Held) → ((u : Unit) → amount held (who, u) ≤ 2 ^ 128 - 1) → ((q : Holder) → amount taken q ≤ amount held q) → ((q : Holder) → amount after q ≡ amount held q - amount taken q)
    → (xs : List Asset) → ((q : Holder) → sum_where (eq_by_cmp holder_cmp q) (account_rows who xs) ≤ amount taken q) → overflow after who xs ≡ None
no_self_overflow who held taken after most has left [] within = refl
no_self_overflow who held taken after most has left (a ∷ xs) within =
    let le = has (who, unit_of a) in
    let now = left (who, unit_of a) in
    let all = most (unit_of a) in
    let here = self_first (eq_by_cmp holder_cmp (who, unit_of a) (who, unit_of a)) (amount_of a) _ _ (within (who, unit_of a)) (same_key holder_keys (who, unit_of a)) in
    none_over _ _ (overflow after who xs) (not_more (2 ^ 128 - 1) (amount after (who, unit_of a) + amount_of a) (omega (arith, le, now, all, here)))
    (no_self_overflow who held taken after most has left xs (λ q. let rest = within q in omega (arith, rest)))

pub given_back : (who : List ℕ) (xs : List Asset) (ledger : Accounts) → IsWithin (held_by who (bundle_of xs)) ledger.held → Transferred who who xs ledger ≡ ledger
given_back who xs ledger within = λ i. record { listed = ledger.listed; held = merge-difference holder_keys ledger.held (held_by who (bundle_of xs)) within i }

-- ---- in the words of the code
same_rows_at : (n m : ℕ) → n ≡ m → m ≤ n
same_rows_at n m e = omega (arith, e)

pub has_held_by : (held : Held) (who : List ℕ) (xs : List Asset) → HasAll held who xs → IsWithin (held_by who (bundle_of xs)) held
has_held_by held who xs has = subst (λ m. IsWithin m held) (held_by_rows who xs) has

rows_within : (who : List ℕ) (xs : List Asset) (q : Holder) → sum_where (eq_by_cmp holder_cmp q) (account_rows who xs) ≤ amount (held_by who (bundle_of xs)) q
rows_within who xs q = same_rows_at _ _ (amount-held_by who xs q)

module _ (listed : List Listed) (amounts : List (AmountKey × ℕ)) (owners : List (OwnerKey × Option (List ℕ))) (sums : List WideSum) (sound : IsSound listed amounts owners sums) where
  pub self_fits : (who : List ℕ) (xs : List Asset) → HasAll (held_in listed amounts owners) who xs → overflow (difference (held_in listed amounts owners) (held_by who (bundle_of xs))) who xs ≡ None
  self_fits who xs has =
      no_self_overflow who (held_in listed amounts owners) (held_by who (bundle_of xs)) (difference (held_in listed amounts owners) (held_by who (bundle_of xs)))
      (λ u. held_most listed amounts owners sums sound who u.0 u.1) (has_held_by (held_in listed amounts owners) who xs has)
      (amount-difference holder_keys (held_in listed amounts owners) (held_by who (bundle_of xs))) xs (rows_within who xs)

  -- what the receiver can take in once the giver has given, or the first asset that bars it
  pub receiver_bar : (from to : List ℕ) (xs : List Asset) → HasAll (held_in listed amounts owners) from xs → (told : Option ℕ) → overflow (difference (held_in listed amounts owners) (held_by from (bundle_of xs))) to xs ≡ told
      → IsToldBy (difference (held_in listed amounts owners) (held_by from (bundle_of xs))) to told (barred (difference (held_in listed amounts owners) (held_by from (bundle_of xs))) to xs)
  receiver_bar from to xs has told is =
      subst (λ o. IsToldBy (difference (held_in listed amounts owners) (held_by from (bundle_of xs))) to o (barred (difference (held_in listed amounts owners) (held_by from (bundle_of xs))) to xs)) is
      (told_after listed amounts owners sums sound from to (held_by from (bundle_of xs)) (difference (held_in listed amounts owners) (held_by from (bundle_of xs))) (has_held_by (held_in listed amounts owners) from xs has)
      (amount-difference holder_keys (held_in listed amounts owners) (held_by from (bundle_of xs))) xs (rows_within from xs))

  -- an account can always give to itself
  pub self_free : (who : List ℕ) (xs : List Asset) → HasAll (held_in listed amounts owners) who xs → barred (difference (held_in listed amounts owners) (held_by who (bundle_of xs))) who xs ≡ None
  self_free who xs has = receiver_bar who who xs has None (self_fits who xs has)

  pub given_listed : (who : List ℕ) (xs : List Asset) → HasAll (held_in listed amounts owners) who xs → has_zero xs ≡ false → list_all (λ a. lists listed (listed_of (unit_of a))) xs ≡ true
  given_listed who xs has zeros = all_listed listed amounts owners sums sound who xs (λ q. subst (λ n. n ≤ amount (held_in listed amounts owners) q) (amount-from_rows holder_keys (account_rows who xs) q) (has q)) zeros

pub other_overflow : (held : Held) (from to : List ℕ) (xs : List Asset) → (to ≡ from → ⊥) → overflow (difference held (held_by from (bundle_of xs))) to xs ≡ overflow held to xs
other_overflow held from to xs other = same_overflow (difference held (held_by from (bundle_of xs))) held to xs (left_to held from to xs other)

pub two_accounts : (from to : List ℕ) (b : Bool) → b ≡ eq_by_cmp account_cmp from to → b ≡ false → to ≡ from → ⊥
two_accounts from to b is other e = true≢false (sym (subst (λ k. eq_by_cmp account_cmp from k ≡ true) (sym e) (same_key account_keys from)) ∙ sym is ∙ other)

pub one_account : (from to : List ℕ) (b : Bool) → b ≡ eq_by_cmp account_cmp from to → b ≡ true → from ≡ to
one_account from to b is here = key_same account_keys from to (sym is ∙ here)

-- ---- the same of a ledger and of what the code reads of it
pub as_seen : (P : Accounts → List Asset → Type 0) (l k : Accounts) (xs ys : List Asset) → l ≡ k → xs ≡ ys → P l xs → P k ys
as_seen P l k xs ys same list p = subst (λ m. P m ys) same (subst (P l) list p)

-- a transfer that is refused before it is made is refused
pub bar_is_fault : (ledger : Accounts) (from to : List ℕ) (xs : List Asset) (fault : TransferFault) → IsTransferBar ledger from to xs fault → IsTransferFault ledger from to xs fault
bar_is_fault ledger from to xs (TransferFault.NotEnough have) h = h
bar_is_fault ledger from to xs (TransferFault.Overflow have) h = h
bar_is_fault ledger from to xs TransferFault.Memory h = absurd h
