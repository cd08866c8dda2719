-- Lists of assets as rows of an account.
use Rattle.std.proofs.Common.{◌≡◌, ℕ, zero, suc, ◌+◌, ◌-◌, ◌<◌, ◌≤◌, Bool, true, false, ◌||◌, if◌then◌else◌, cond, List, [], ◌∷◌, length, get_or, drop, drop-cons, add-one, not, inl, inr, ◌⊎◌, refl, sym, ap, ◌∙◌, subst, arith, true≢false}
use Rattle.std.specs.Prelude.{Option, None, Some, slice_get, nat_lt, IsSome}
use Rattle.std.specs.Ordering.{eq_by_cmp}
use Rattle.std.specs.List.{list_any, position_or_len}
use Rattle.std.proofs.lemmas.Bool.{and_parts, cases_Bool}
use Rattle.std.proofs.lemmas.Option.{slice_get-get_or}
use Rattle.std.proofs.lemmas.List.Sums.{sum_by-cons}
use Rattle.amounts.specs.Rows.{sum_where, amount_if}
use Rattle.amounts.proofs.Lemmas.Rows.{sum_where-rows_at}
use Rattle.amounts.specs.Amounts.{amount, plus, minus, plus_all, minus_all, from_rows, merge, difference}
use Rattle.amounts.proofs.Lemmas.AmountLaws.{same_amounts}
use Rattle.amounts.proofs.Lemmas.{same_key, key_same, amount-from_rows, amount-map_keys, amount-plus, amount-minus, plus_all-from_rows, minus_all-from_rows}
use Rattle.asset_lists.specs.declared.units.Fun.{Fun}
use Rattle.asset_lists.specs.declared.units.Asset.{Asset}
use Rattle.asset_lists.specs.Units.{Unit, unit_of, amount_of, unit_cmp, instance_in, is_zero}
use Rattle.asset_lists.specs.Lists.{has_zero, is_rising, stands_before, is_of}
use Rattle.asset_lists.specs.Moves.{occurrences}
use Rattle.asset_lists.proofs.Lemmas.{once_each}
use Rattle.asset_bundles.specs.Bundles.{rows_of, bundle_of}
use Rattle.asset_bundles.proofs.Lemmas.Bundles.{unit_keys}
use Rattle.asset_bundles.proofs.Lemmas.BundleLaws.{total-bundle_of}
use Rattle.asset_lists.specs.declared.units.Instance.{Instance}
use Rattle.asset_lists.specs.Listed.{Listed, listed_cmp, listed_of, lists}
use Rattle.ledgers.specs.declared.rows.Rows.{Rows}
use Rattle.ledgers.specs.Ledgers.{Holder, holder_cmp, Held, held_by, shortage, number_in}
use Rattle.ledgers.specs.LedgerRows.{HasInstanceRow}
use Rattle.ledgers.specs.RowState.{may_take, HasDepositRows, KeepsRows}
use Rattle.ledgers.specs.AccountRows.{account_rows, HasAll, MayTakeAll}
use Rattle.ledgers.proofs.Lemmas.{holder_keys}
use Rattle.ledgers.proofs.RowLookups.{apart}
use Rattle.plain_lists.proofs.Lemmas.Facts.{neither_true as neither, not_zero_positive as nat_zero}

-- ---- a list at one index
pub at_place : (xs : List Asset) (i : ℕ) (a : Asset) → i < length xs → a ≡ get_or xs i a → drop i xs ≡ a ∷ drop (i + 1) xs
at_place xs i a inside is = drop-cons xs i a inside ∙ ap (λ x. x ∷ drop (suc i) xs) (sym is) ∙ ap (λ n. a ∷ drop n xs) (sym (add-one i))

pub past_end : (xs : List Asset) (i : ℕ) → length xs ≤ i → drop i xs ≡ []
past_end [] zero all = refl
past_end [] (suc i) all = refl
past_end (x ∷ xs) zero all = absurd (omega (arith, all))
past_end (x ∷ xs) (suc i) all = past_end xs i (omega (arith, all))

pub whole_list : (xs : List Asset) → drop 0 xs ≡ xs
whole_list [] = refl
whole_list (x ∷ xs) = refl

-- ---- shortages
pub short_here : (held : Held) (who : List ℕ) (a : Asset) (rest : List Asset) → amount held (who, unit_of a) < amount_of a → shortage held who (a ∷ rest) ≡ Some (amount held (who, unit_of a))
short_here held who a rest h = grind (arith, h)

pub short_later : (held : Held) (who : List ℕ) (a : Asset) (rest : List Asset) → amount_of a ≤ amount held (who, unit_of a) → shortage held who (a ∷ rest) ≡ shortage held who rest
short_later held who a rest h = grind (arith, h)

-- ---- what is taken, asset by asset
pub none_zero : (a : Asset) (rest : List Asset) → has_zero (a ∷ rest) ≡ false → (0 < amount_of a) × (has_zero rest ≡ false)
none_zero a rest h = let both = neither (is_zero a) (has_zero rest) h in (nat_zero (amount_of a) both.0, both.1)

here_first : (b : Bool) (n m h : ℕ) → amount_if b n + m ≤ h → b ≡ true → n ≤ h
here_first true n m h le t = omega (arith, le)
here_first false n m h le t = absurd (true≢false (sym t))

pub has_first : (held : Held) (who : List ℕ) (a : Asset) (rest : List Asset) → HasAll held who (a ∷ rest) → amount_of a ≤ amount held (who, unit_of a)
has_first held who a rest has =
    let le = subst (λ n. n ≤ amount held (who, unit_of a)) (amount-from_rows holder_keys (account_rows who (a ∷ rest)) (who, unit_of a)) (has (who, unit_of a)) in
    here_first (eq_by_cmp holder_cmp (who, unit_of a) (who, unit_of a)) (amount_of a) _ _ le (same_key holder_keys (who, unit_of a))

if_less : (b : Bool) (n m h : ℕ) → amount_if b n + m ≤ h → m ≤ h - amount_if b n
if_less true n m h le = omega (arith, le)
if_less false n m h le = omega (arith, le)

pub has_rest : (held : Held) (who : List ℕ) (a : Asset) (rest : List Asset) → HasAll held who (a ∷ rest) → HasAll (minus held (who, unit_of a) (amount_of a)) who rest
has_rest held who a rest has q =
    let le = subst (λ n. n ≤ amount held q) (amount-from_rows holder_keys (account_rows who (a ∷ rest)) q) (has q) in
    let more = if_less (eq_by_cmp holder_cmp q (who, unit_of a)) (amount_of a) _ _ le in
    let left = amount-minus holder_keys held (who, unit_of a) (amount_of a) q in
    let some = amount-from_rows holder_keys (account_rows who rest) q in
    omega (arith, more, left, some)

pub minus_first : (held : Held) (who : List ℕ) (a : Asset) (rest : List Asset) → minus_all held (account_rows who (a ∷ rest)) ≡ minus_all (minus held (who, unit_of a) (amount_of a)) (account_rows who rest)
unfolding minus_all
minus_first held who a rest = refl

pub plus_first : (held : Held) (who : List ℕ) (a : Asset) (rest : List Asset) → plus_all held (account_rows who (a ∷ rest)) ≡ plus_all (plus held (who, unit_of a) (amount_of a)) (account_rows who rest)
unfolding plus_all
plus_first held who a rest = refl

pub minus_none : (held : Held) → minus_all held [] ≡ held
unfolding minus_all
minus_none held = refl

pub plus_none : (held : Held) → plus_all held [] ≡ held
unfolding plus_all
plus_none held = refl

-- ---- units that are there once
pub counted_first : (u : Unit) (a : Asset) (xs : List Asset) → occurrences u (a ∷ xs) ≡ cond {A = ℕ} (is_of u a) 1 0 + occurrences u xs
counted_first u a xs = sum_by-cons (λ b. cond {A = ℕ} (is_of u b) 1 0) a xs

one_at_least : (b : Bool) (n m : ℕ) → n ≡ cond {A = ℕ} b 1 0 + m → n ≤ 1 → b ≡ true → m ≡ 0
one_at_least true n m e le t = omega (arith, e, le)
one_at_least false n m e le t = absurd (true≢false (sym t))

pub once_first : (a : Asset) (rest : List Asset) → is_rising (a ∷ rest) ≡ true → occurrences (unit_of a) rest ≡ 0
once_first a rest rising = one_at_least (is_of (unit_of a) a) _ _ (counted_first (unit_of a) a rest) (once_each (a ∷ rest) rising (unit_of a)) (same_key unit_keys (unit_of a))

none_first : (b : Bool) (n m : ℕ) → n ≡ cond {A = ℕ} b 1 0 + m → n ≡ 0 → (b ≡ false) × (m ≡ 0)
none_first true n m e z = absurd (omega (arith, e, z))
none_first false n m e z = (refl, omega (arith, e, z))

other_unit : (u : Unit) (b : Asset) (rest : List Asset) → occurrences u (b ∷ rest) ≡ 0 → (unit_of b ≡ u → ⊥) × (occurrences u rest ≡ 0)
other_unit u b rest none =
    let parts = none_first (is_of u b) _ _ (counted_first u b rest) none in
    (λ same. true≢false (sym (subst (λ v. eq_by_cmp unit_cmp (unit_of b) v ≡ true) same (same_key unit_keys (unit_of b))) ∙ parts.0), parts.1)

-- ---- what is given, asset by asset
same_elsewhere : (held : Held) (who w : List ℕ) (u v : Unit) (x : ℕ) → (v ≡ u → ⊥) → amount (plus held (who, u) x) (w, v) ≡ amount held (w, v)
same_elsewhere held who w u v x other =
    let more = amount-plus holder_keys held (who, u) x (w, v) in
    let none : amount_if (eq_by_cmp holder_cmp (w, v) (who, u)) x ≡ 0 = ap (λ b. amount_if b x) (apart holder_keys (w, v) (who, u) (λ e. other (ap (λ (h : Holder). h.1) e))) in
    omega (arith, more, none)

may_by : (held : Held) (who : List ℕ) (u : Unit) (x : ℕ) (fun : Fun) (v : Unit) → (v ≡ u → ⊥) → may_take fun who v held → may_take fun who v (plus held (who, u) x)
may_by held who u x (Fun.Fungible n) v other may = (let same = same_elsewhere held who who u v x other in omega (arith, same, may))
may_by held who u x (Fun.NonFungible i) v other may = λ w. same_elsewhere held who w u v x other ∙ may w

pub may_later : (held : Held) (who : List ℕ) (u : Unit) (x : ℕ) (rest : List Asset) → occurrences u rest ≡ 0 → MayTakeAll held who rest → MayTakeAll (plus held (who, u) x) who rest
may_later held who u x [] none may = may
may_later held who u x (b ∷ rest) none may =
    let other = other_unit u b rest none in
    (may_by held who u x b.fun (unit_of b) other.0 may.0, may_later held who u x rest other.1 may.1)

pub rising_rest : (a : Asset) (rest : List Asset) → is_rising (a ∷ rest) ≡ true → is_rising rest ≡ true
rising_rest a rest rising = (and_parts (stands_before a rest) (is_rising rest) rising).1

-- ---- an account's rows as a map
pub held_by_rows : (who : List ℕ) (xs : List Asset) → from_rows (account_rows who xs) ≡ held_by who (bundle_of xs)
unfolding held_by
held_by_rows who xs = same_amounts holder_keys _ _ (λ q.
    amount-from_rows holder_keys (account_rows who xs) q ∙ sum_where-rows_at (eq_by_cmp holder_cmp q) (λ (u : Unit). (who, u)) (rows_of xs)
    ∙ sym (total-bundle_of (λ u. eq_by_cmp holder_cmp q (who, u)) xs) ∙ sym (amount-map_keys {S = unit_cmp} holder_keys (λ (u : Unit). (who, u)) (bundle_of xs) q))

pub minus_whole : (held : Held) (who : List ℕ) (xs : List Asset) → minus_all held (account_rows who xs) ≡ difference held (held_by who (bundle_of xs))
minus_whole held who xs = minus_all-from_rows holder_keys held (account_rows who xs) ∙ ap (difference held) (held_by_rows who xs)

pub plus_whole : (held : Held) (who : List ℕ) (xs : List Asset) → plus_all held (account_rows who xs) ≡ merge held (held_by who (bundle_of xs))
plus_whole held who xs = plus_all-from_rows holder_keys held (account_rows who xs) ∙ ap (merge held) (held_by_rows who xs)

-- ---- no shortage
absent_sum : (who w : List ℕ) (u : Unit) (xs : List Asset) → occurrences u xs ≡ 0 → sum_where (eq_by_cmp holder_cmp (w, u)) (account_rows who xs) ≡ 0
absent_sum who w u [] none = refl
absent_sum who w u (b ∷ xs) none =
    let other = other_unit u b xs none in
    let rest = absent_sum who w u xs other.1 in
    let here : amount_if (eq_by_cmp holder_cmp (w, u) (who, unit_of b)) (amount_of b) ≡ 0 = ap (λ t. amount_if t (amount_of b)) (apart holder_keys (w, u) (who, unit_of b) (λ e. other.0 (sym (ap (λ (h : Holder). h.1) e)))) in
    omega (arith, rest, here)

not_short : (b : Bool) (x : ℕ) (rest : Option ℕ) → (if b then Some x else rest) ≡ None → (b ≡ false) × (rest ≡ None)
not_short true x rest h = absurd (cc)
not_short false x rest h = (refl, h)

le_from_lt : (n m : ℕ) → nat_lt n m ≡ false → m ≤ n
le_from_lt n m h = grind (arith, h)

enough_rows : (held : Held) (who : List ℕ) (xs : List Asset) → is_rising xs ≡ true → shortage held who xs ≡ None → (q : Holder) → sum_where (eq_by_cmp holder_cmp q) (account_rows who xs) ≤ amount held q
enough_rows held who [] rising none q = omega arith
enough_rows held who (a ∷ xs) rising none q =
    let parts = not_short (nat_lt (amount held (who, unit_of a)) (amount_of a)) _ (shortage held who xs) none in
    let le = le_from_lt (amount held (who, unit_of a)) (amount_of a) parts.0 in
    let rest = enough_rows held who xs (rising_rest a xs rising) parts.1 q in
    elim (cases_Bool (eq_by_cmp holder_cmp q (who, unit_of a))) [
      | inl here ↦ (let absent = subst (λ k. sum_where (eq_by_cmp holder_cmp k) (account_rows who xs) ≡ 0) (sym (key_same holder_keys q (who, unit_of a) here)) (absent_sum who who (unit_of a) xs (once_first a xs rising)) in
          let at_q = subst (λ k. amount_of a ≤ amount held k) (sym (key_same holder_keys q (who, unit_of a) here)) le in
          let one : amount_if (eq_by_cmp holder_cmp q (who, unit_of a)) (amount_of a) ≡ amount_of a = ap (λ t. amount_if t (amount_of a)) here in
          omega (arith, absent, at_q, one))
      | inr other ↦ (let none_here : amount_if (eq_by_cmp holder_cmp q (who, unit_of a)) (amount_of a) ≡ 0 = ap (λ t. amount_if t (amount_of a)) other in
          omega (arith, rest, none_here))
    ]

pub has_all : (held : Held) (who : List ℕ) (xs : List Asset) → is_rising xs ≡ true → shortage held who xs ≡ None → HasAll held who xs
has_all held who xs rising none q = subst (λ n. n ≤ amount held q) (sym (amount-from_rows holder_keys (account_rows who xs) q)) (enough_rows held who xs rising none q)

-- ---- rows that stay
pub rows_same : (r : Rows) → KeepsRows r r
rows_same r = record { assets = refl; amounts = λ q h. h; owners = λ q h. h }

pub rows_then : (r s t : Rows) → KeepsRows r s → KeepsRows s t → KeepsRows r t
rows_then r s t a b = record { assets = b.assets ∙ a.assets; amounts = λ q h. b.amounts q (a.amounts q h); owners = λ q h. b.owners q (a.owners q h) }

instance_stays : (old new : Rows) → KeepsRows old new → (n : ℕ) (x : Option Instance) → HasInstanceRow old.owners.entries n x → HasInstanceRow new.owners.entries n x
instance_stays old new keeps n None h = h
instance_stays old new keeps n (Some i) h = keeps.owners (n, i) h

pub room_stays : (old new : Rows) → KeepsRows old new → (who : List ℕ) (a : Asset) → HasDepositRows old who a → HasDepositRows new who a
room_stays old new keeps who a room n is =
    let rows = room n (ap (λ l. number_in l (listed_of (unit_of a))) (sym keeps.assets) ∙ is) in
    (keeps.amounts (who, n) rows.0, instance_stays old new keeps n (instance_in a.fun) rows.1)

-- ---- listed assets
any_within : (p : Listed → Bool) (xs : List Listed) → list_any p xs ≡ true → position_or_len p xs < length xs
any_within p [] h = absurd (true≢false (sym h))
any_within p (x ∷ xs) h =
    elim (p x) as (λ b. (b || list_any p xs) ≡ true → cond {A = ℕ} (not b) (1 + position_or_len p xs) 0 < suc (length xs)) [
      | true ↦ λ t. omega arith
      | false ↦ λ t. (let rest = any_within p xs t in omega (arith, rest))
    ] h

some_found : (n m : ℕ) → n < m → IsSome (cond (nat_lt n m) (Some n) None)
some_found n m h = grind (arith, h)

pub number_there : (listed : List Listed) (k : Listed) → lists listed k ≡ true → IsSome (number_in listed k)
number_there listed k h = some_found _ (length listed) (any_within (eq_by_cmp listed_cmp k) listed h)

pub slice_here : (xs : List Asset) (i : ℕ) (a : Asset) → i < length xs → a ≡ get_or xs i a → slice_get xs i ≡ Some a
slice_here xs i a inside is = slice_get-get_or xs i a inside ∙ ap Some (sym is)

pub slice_inside : (xs : List Asset) (i : ℕ) (a : Asset) → slice_get xs i ≡ Some a → i < length xs
slice_inside [] i a h = absurd (cc)
slice_inside (x ∷ xs) zero a h = omega arith
slice_inside (x ∷ xs) (suc i) a h = let rest = slice_inside xs i a h in omega (arith, rest)

earlier : (k i : ℕ) → k < i + 1 → (k < i) ⊎ (k ≡ i)
earlier k i h = grind (arith, h)

-- room for one more
pub more_room : (old new : Rows) (who : List ℕ) (xs : List Asset) (i : ℕ) (a : Asset) → KeepsRows old new → slice_get xs i ≡ Some a → HasDepositRows new who a
    → ((k : ℕ) (b : Asset) → k < i → slice_get xs k ≡ Some b → HasDepositRows old who b) → (k : ℕ) (b : Asset) → k < i + 1 → slice_get xs k ≡ Some b → HasDepositRows new who b
more_room old new who xs i a keeps at room before k b h is =
    elim (earlier k i h) [
      | inl lt ↦ room_stays old new keeps who b (before k b lt is)
      | inr same ↦ (let e : Some a ≡ Some b = sym at ∙ ap (slice_get xs) (sym same) ∙ is in
          let equal : a ≡ b = cc in subst (HasDepositRows new who) equal room)
    ]
