-- What a document says that accounts hold, placed one by one.
use Rattle.std.proofs.Common.{◌≡◌, ℕ, zero, suc, ◌+◌, ◌-◌, ◌^◌, ◌<◌, ◌≤◌, Bool, true, false, ◌&&◌, ◌||◌, if◌then◌else◌, List, [], ◌∷◌, ◌++◌, length, get_or, take, refl, sym, ap, ◌∙◌, subst, arith, true≢false, inl, inr}
use Rattle.std.specs.Prelude.{Option, None, Some, nat_lt, nat_eq, is_some, IsSomeAnd}
use Rattle.std.specs.List.{list_any, find, AllByRecursion, IsDistinct, list_all}
use Rattle.std.specs.List.Sorted.{IsStrictlySortedBy}
use Rattle.std.specs.Ordering.{eq_by_cmp, is_eq}
use Rattle.std.proofs.lemmas.Bool.{and_parts, and_from, cases_Bool}
use Rattle.std.proofs.lemmas.Cmp.{tied_itself}
use Rattle.std.proofs.lemmas.Slice.Eq.{bytes_eq-Decides}
use Rattle.std.proofs.lemmas.List.{take_more}
use Rattle.std.proofs.lemmas.List.Elements.{All-from_recursion}
use Rattle.amounts.specs.Rows.{amount_if}
use Rattle.amounts.specs.Amounts.{amount, total, empty}
use Rattle.amounts.proofs.Lemmas.AmountLaws.{total-empty, amount-total}
use Rattle.amounts.proofs.Lemmas.{total-merge, key_same}
use Rattle.asset_lists.specs.declared.units.Asset.{Asset}
use Rattle.asset_lists.specs.declared.units.AssetId.{AssetId}
use Rattle.asset_lists.specs.declared.units.Fun.{Fun}
use Rattle.asset_lists.specs.declared.units.Instance.{Instance}
use Rattle.asset_lists.specs.Units.{Unit, unit_of, unit_cmp, asset_id_cmp, instance_cmp, instance_in, amount_in, amount_of, is_zero}
use Rattle.asset_lists.specs.UnitLaws.{instance_total}
use Rattle.asset_lists.proofs.Lemmas.UnitLaws.{asset_id_decides}
use Rattle.asset_lists.specs.Listed.{listed_of, lists}
use Rattle.asset_bundles.specs.Bundles.{bundle_of, held_assets}
use Rattle.asset_bundles.proofs.Lemmas.Bundles.{unit_keys}
use Rattle.asset_bundles.proofs.Lemmas.BundleLaws.{total-bundle_of, held_assets-holding}
use Rattle.trust_tables.specs.declared.rows.AssetRow.{AssetRow}
use Rattle.trust_tables.specs.Trust.{is_row_of, listing}
use Rattle.trust_tables.proofs.Lemmas.TrustLaws.{listing_says}
use Rattle.ledgers.specs.declared.faults.DepositFault.{DepositFault}
use Rattle.ledgers.specs.Ledgers.{Holder, Held, holder_cmp, held_by, owners_of, is_barred_fun, is_barred, barred}
use Rattle.ledgers.specs.LedgerFaults.{IsBarred, IsFirstBarred, IsDepositFault}
use Rattle.ledgers.proofs.Lemmas.{holder_keys, held_by_total}
use Rattle.network_spec.specs.declared.chain.Balance.{Balance}
use Rattle.network_spec.specs.Networks.{same_fun, same_holding}
use Rattle.network_steps.specs.Tests.{past_amounts, is_placeable, is_balance}
use Rattle.network_steps.specs.Genesis.{with_balance, with_balances}

-- ---- balances, one after another
pub one_more_balance : (held : Held) (bs : List Balance) (b : Balance) → with_balances held (bs ++ b ∷ []) ≡ with_balance (with_balances held bs) b
one_more_balance held [] b = refl
one_more_balance held (c ∷ bs) b = one_more_balance (with_balance held c) bs b

pub next_balances : (held : Held) (bs : List Balance) (i : ℕ) (b : Balance) → i < length bs → b ≡ get_or bs i b → with_balances held (take (i + 1) bs) ≡ with_balance (with_balances held (take i bs)) b
next_balances held bs i b inside at =
    let cut : take (i + 1) bs ≡ take i bs ++ b ∷ [] = take_more bs i b inside ∙ ap (λ (x : Balance). take i bs ++ x ∷ []) (sym at) in
    ap (with_balances held) cut ∙ one_more_balance held (take i bs) b

-- what passes no test isn't counted
passes_none : (p : Holder → Bool) (b : Balance) → p (b.who, unit_of b.asset) ≡ false → (held : Held) → total p (with_balance held b) ≡ total p held
passes_none p b not held =
    let more : total p (held_by b.who (bundle_of (b.asset ∷ []))) ≡ amount_if (p (b.who, unit_of b.asset)) (amount_of b.asset) + 0 =
    held_by_total p b.who (bundle_of (b.asset ∷ [])) ∙ total-bundle_of (λ unit. p (b.who, unit)) (b.asset ∷ []) in
    let nothing : amount_if (p (b.who, unit_of b.asset)) (amount_of b.asset) ≡ 0 = ap (λ t. amount_if t (amount_of b.asset)) not in
    let sum = total-merge holder_keys p held (held_by b.who (bundle_of (b.asset ∷ []))) in
    omega (arith, more, nothing, sum)

pub none_counted : (p : Holder → Bool) (held : Held) (bs : List Balance) → AllByRecursion (λ (b : Balance). p (b.who, unit_of b.asset) ≡ false) bs → total p (with_balances held bs) ≡ total p held
none_counted p held [] none = refl
none_counted p held (b ∷ bs) none = none_counted p (with_balance held b) bs none.1 ∙ passes_none p b none.0 held

-- ---- each account with each asset once, and each instance once
same_id : (a b : AssetId) → a ≡ b → eq_by_cmp asset_id_cmp a b ≡ true
same_id a b same = (asset_id_decides a b).1 same

fungible_fun : (who other : List ℕ) (f : Fun) (n : ℕ) → instance_in f ≡ None → who ≡ other → same_fun who f other (Fun.Fungible n) ≡ true
fungible_fun who other (Fun.Fungible m) n none same = (bytes_eq-Decides who other).1 same
fungible_fun who other (Fun.NonFungible i) n none same = absurd (cc)

instance_fun : (who other : List ℕ) (f : Fun) (i : Instance) → instance_in f ≡ Some i → same_fun who f other (Fun.NonFungible i) ≡ true
instance_fun who other (Fun.Fungible m) i some = absurd (cc)
instance_fun who other (Fun.NonFungible j) i some = (let same : j ≡ i = cc in ap (λ x. eq_by_cmp instance_cmp x i) same ∙ ap is_eq (tied_itself instance_total i))

fungible_twice : (a b : Balance) (n : ℕ) → b.asset.fun ≡ Fun.Fungible n → ◌≡◌ {A = Holder} (b.who, unit_of b.asset) (a.who, unit_of a.asset) → same_holding a b ≡ true
fungible_twice a b n is same =
    let id : a.asset.id ≡ b.asset.id = ap (λ (h : Holder). h.1.0) (sym same) in
    let none : instance_in a.asset.fun ≡ None = ap (λ (h : Holder). h.1.1) (sym same) ∙ ap instance_in is in
    and_from _ _ (same_id a.asset.id b.asset.id id) (ap (same_fun a.who a.asset.fun b.who) is ∙ fungible_fun a.who b.who a.asset.fun n none (ap (λ (h : Holder). h.0) (sym same)))

instance_twice : (a b : Balance) (i : Instance) → b.asset.fun ≡ Fun.NonFungible i → unit_of b.asset ≡ unit_of a.asset → same_holding a b ≡ true
instance_twice a b i is same =
    let id : a.asset.id ≡ b.asset.id = ap (λ (u : Unit). u.0) (sym same) in
    let some : instance_in a.asset.fun ≡ Some i = ap (λ (u : Unit). u.1) (sym same) ∙ ap instance_in is in
    and_from _ _ (same_id a.asset.id b.asset.id id) (ap (same_fun a.who a.asset.fun b.who) is ∙ instance_fun a.who b.who a.asset.fun i some)

never_both : (b : Bool) → b ≡ true → b ≡ false → ⊥
never_both b passes fails = true≢false (sym passes ∙ fails)

other_holder : (a b : Balance) (n : ℕ) → b.asset.fun ≡ Fun.Fungible n → same_holding a b ≡ false → eq_by_cmp holder_cmp (b.who, unit_of b.asset) (a.who, unit_of a.asset) ≡ false
other_holder a b n is apart =
    elim (cases_Bool (eq_by_cmp holder_cmp (b.who, unit_of b.asset) (a.who, unit_of a.asset))) [
      | inl same ↦ absurd (never_both (same_holding a b) (fungible_twice a b n is (key_same holder_keys _ _ same)) apart)
      | inr other ↦ other
    ]

other_instance : (a b : Balance) (i : Instance) → b.asset.fun ≡ Fun.NonFungible i → same_holding a b ≡ false → eq_by_cmp unit_cmp (unit_of b.asset) (unit_of a.asset) ≡ false
other_instance a b i is apart =
    elim (cases_Bool (eq_by_cmp unit_cmp (unit_of b.asset) (unit_of a.asset))) [
      | inl same ↦ absurd (never_both (same_holding a b) (instance_twice a b i is (key_same unit_keys _ _ same)) apart)
      | inr other ↦ other
    ]

all_so : {A : Type 0} (P Q : A → Type 0) → ((x : A) → P x → Q x) → (xs : List A) → AllByRecursion P xs → AllByRecursion Q xs
all_so P Q so [] all = tt
all_so P Q so (x ∷ xs) all = (so x all.0, all_so P Q so xs all.1)

abbrev pub AreOthers : Balance → List Balance → Type 0
AreOthers b bs = AllByRecursion (λ (a : Balance). same_holding a b ≡ false) bs

nothing_held : (b : Balance) (bs : List Balance) (n : ℕ) → b.asset.fun ≡ Fun.Fungible n → AreOthers b bs → amount (with_balances empty bs) (b.who, unit_of b.asset) ≡ 0
nothing_held b bs n is others =
    let h : Holder = (b.who, unit_of b.asset) in
    amount-total holder_keys (with_balances empty bs) h
    ∙ none_counted (eq_by_cmp holder_cmp h) empty bs (all_so (λ (a : Balance). same_holding a b ≡ false) (λ (a : Balance). eq_by_cmp holder_cmp h (a.who, unit_of a.asset) ≡ false) (λ a apart. other_holder a b n is apart) bs others)
    ∙ total-empty holder_keys (eq_by_cmp holder_cmp h)

nobody_owns : (b : Balance) (bs : List Balance) (i : Instance) → b.asset.fun ≡ Fun.NonFungible i → AreOthers b bs → owners_of (unit_of b.asset) (with_balances empty bs) ≡ 0
nobody_owns b bs i is others =
    let test : Holder → Bool = λ h. eq_by_cmp unit_cmp (unit_of b.asset) h.1 in
    none_counted test empty bs (all_so (λ (a : Balance). same_holding a b ≡ false) (λ (a : Balance). eq_by_cmp unit_cmp (unit_of b.asset) (unit_of a.asset) ≡ false) (λ a apart. other_instance a b i is apart) bs others)
    ∙ total-empty holder_keys test

-- ---- so nothing bars it
within_end : (most have n : ℕ) → have ≡ 0 → n ≤ most → nat_lt most (have + n) ≡ false
within_end most have n none small = grind (arith, none, small)

none_owns : (owners : ℕ) → owners ≡ 0 → nat_lt 0 owners ≡ false
none_owns owners none = ap (nat_lt 0) none

unbarred : (f : Fun) (have owners : ℕ) → ((n : ℕ) → f ≡ Fun.Fungible n → have ≡ 0) → ((i : Instance) → f ≡ Fun.NonFungible i → owners ≡ 0) → amount_in f ≤ 2 ^ 128 - 1 → is_barred_fun f have owners ≡ false
unbarred (Fun.Fungible n) have owners none nobody small = within_end (2 ^ 128 - 1) have n (none n refl) small
unbarred (Fun.NonFungible i) have owners none nobody small = none_owns owners (nobody i refl)

pub record IsPlaceable (rows : List AssetRow) (b : Balance) : Type 0 where
  pub some : is_zero b.asset ≡ false
  pub listed : lists (listing rows) (listed_of (unit_of b.asset)) ≡ true
  pub positive : 0 < amount_of b.asset

not_zero : (n : ℕ) → nat_lt 0 n ≡ true → (nat_eq n 0 ≡ false) × (0 < n)
not_zero n some = (grind (arith, some), grind (arith, some))

pub any_found : {A : Type 0} (p : A → Bool) (xs : List A) → is_some (find p xs) ≡ list_any p xs
any_found p [] = refl
any_found {A} p (x ∷ xs) = elim (p x) as (λ b. is_some (if b then Some x else find p xs) ≡ (b || list_any p xs)) [
  | true ↦ refl
  | false ↦ any_found p xs
]

pub placeable : (rows : List AssetRow) (b : Balance) → is_placeable rows b ≡ true → IsPlaceable rows b
placeable rows b is =
    let parts = and_parts (list_any (is_row_of b.asset) rows) (nat_lt 0 (amount_of b.asset)) is in
    let some = not_zero (amount_of b.asset) parts.1 in
    record { some = some.0; listed = listing_says rows b.asset ∙ any_found (is_row_of b.asset) rows ∙ parts.0; positive = some.1 }

first_two : (a b c : Bool) → (a && (b && c)) ≡ true → (a && b) ≡ true
first_two true true c h = refl
first_two true false c h = absurd cc
first_two false b c h = absurd cc

-- what a document may say that accounts hold can be placed
pub balances_placeable : (rows : List AssetRow) (bs : List Balance) → list_all (is_balance rows) bs ≡ true → list_all (is_placeable rows) bs ≡ true
balances_placeable rows [] all = refl
balances_placeable rows (b ∷ bs) all =
    let parts = and_parts (is_balance rows b) (list_all (is_balance rows) bs) all in
    and_from _ _ (first_two (list_any (is_row_of b.asset) rows) (nat_lt 0 (amount_of b.asset)) (nat_lt (amount_of b.asset) past_amounts) parts.0) (balances_placeable rows bs parts.1)

pub small_amount : (a : Asset) (n : ℕ) → n ≡ amount_of a → n < 2 ^ 128 → amount_of a ≤ 2 ^ 128 - 1
small_amount a n is small = grind (arith, is, small)

pub alone_held : (a : Asset) → 0 < amount_of a → held_assets (bundle_of (a ∷ [])) ≡ a ∷ []
unfolding IsStrictlySortedBy
alone_held a some = held_assets-holding (a ∷ []) (record { rising = (tt, tt); positive = (some, tt) })

pub free_balance : (rows : List AssetRow) (bs : List Balance) (b : Balance) → IsPlaceable rows b → amount_of b.asset ≤ 2 ^ 128 - 1 → AreOthers b bs → barred (with_balances empty bs) b.who (held_assets (bundle_of (b.asset ∷ []))) ≡ None
free_balance rows bs b is small others =
    let held = with_balances empty bs in
    let free : is_barred held b.who b.asset ≡ false =
    unbarred b.asset.fun (amount held (b.who, unit_of b.asset)) (owners_of (unit_of b.asset) held) (λ n fungible. nothing_held b bs n fungible others) (λ i instance. nobody_owns b bs i instance others) small in
    ap (barred held b.who) (alone_held b.asset is.positive) ∙ ap (λ t. if t then Some b.asset else None) free

-- ---- those before it
pub others_before : (bs : List Balance) (i : ℕ) (b : Balance) → IsDistinct same_holding bs → i < length bs → b ≡ get_or bs i b → AreOthers b (take i bs)
unfolding IsDistinct
others_before [] i b once inside at = absurd (omega (arith, inside))
others_before (a ∷ bs) zero b once inside at = tt
others_before (a ∷ bs) (suc i) b once inside at =
    let within : i < length bs = omega (arith, inside) in (
      subst (λ x. same_holding a x ≡ false) (sym at) (All-from_recursion (λ x. same_holding a x ≡ false) bs once.0 i b within),
      others_before bs i b once.1 within at,
    )

-- ---- no other refusal than memory's
none_of : {A : Type 0} (o : Option A) (P : A → Type 0) → o ≡ None → IsSomeAnd o P → ⊥
none_of None P none is = is
none_of (Some x) P none is = absurd (cc)

pub only_memory : (held : Held) (who : List ℕ) (list : List Asset) (fault : DepositFault) → barred held who list ≡ None → (fault ≡ DepositFault.Memory → ⊥) → IsDepositFault held who list fault → ⊥
only_memory held who list (DepositFault.Overflow have) free other is = none_of (barred held who list) (λ a. IsBarred held who a (DepositFault.Overflow have)) free is
only_memory held who list (DepositFault.InstanceExists owner) free other is = none_of (barred held who list) (λ a. IsBarred held who a (DepositFault.InstanceExists owner)) free is
only_memory held who list DepositFault.Memory free other is = other refl

never : {A : Type 0} (o : Option A) → IsSomeAnd o (λ _. ⊥) → ⊥
never None h = h
never (Some x) h = h

-- what bars an account is why it isn't put there
pub barred_so : (held : Held) (who : List ℕ) (list : List Asset) (fault : DepositFault) → IsFirstBarred held who list fault → IsDepositFault held who list fault
barred_so held who list (DepositFault.Overflow have) h = h
barred_so held who list (DepositFault.InstanceExists owner) h = h
barred_so held who list DepositFault.Memory h = absurd (never (barred held who list) h)
