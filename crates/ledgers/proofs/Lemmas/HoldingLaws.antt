-- Lemmas that proofs cite. A reader of the definitions may skip this file.
use Rattle.std.proofs.Common.{◌≡◌, ◌∙◌, ℕ, ◌+◌, ◌-◌, ◌<◌, Bool, true, false, ◌&&◌, cond, List, [], ◌∷◌, ◌++◌, length, length-append, map, Option, Some, refl, sym, ap, subst, arith, T}
use Rattle.std.specs.Ordering.{eq_by_cmp, is_eq, is_lt, ordering_then}
use Rattle.std.specs.declared.cmp.Ordering.{Ordering}
use Rattle.std.specs.declared.cmp.Ordering.TheVariants.{Less, Equal, Greater}
use Rattle.std.specs.FinMap.{is_sorted}
use Rattle.std.specs.FinMap.Entries.{below_all}
use Rattle.std.proofs.lemmas.Bool.{and_parts, and_from}
use Rattle.amounts.specs.Rows.{IsPositive, sum_where, rows_at, amount_if}
use Rattle.amounts.proofs.Lemmas.Rows.{sum_where-rows_at}
use Rattle.amounts.specs.Amounts.{rows, restriction, from_rows}
use Rattle.amounts.proofs.Lemmas.AmountLaws.{rows_sorted, rows_positive, same_amounts, total-restriction, total-rows}
use Rattle.amounts.proofs.Lemmas.{key_same, same_key, rows-from_rows, amount-from_rows, amount-map_keys}
use Rattle.asset_lists.specs.Units.{Unit, unit_cmp}
use Rattle.asset_lists.specs.declared.units.Asset.{Asset}
use Rattle.asset_bundles.specs.Bundles.{assets_of_rows, held_assets}
use Rattle.asset_bundles.proofs.Lemmas.Bundles.{unit_keys}
use Rattle.ledgers.specs.Ledgers.{Holder, Held, account_cmp, holder_cmp, is_account, account_goods, holding_of, IsNext, NoneNext}
use Rattle.ledgers.proofs.Lemmas.{account_keys, holder_keys}
use Rattle.ledgers.specs.Holdings.{asset_held, holding_at}
use Rattle.ledgers.proofs.Lemmas.Shown.{shown, rows_of_account}
use Rattle.ledgers.proofs.Lemmas.RowLaws.{next_rows, row_holds, all_from, all_shown, none_after, some_rows, shown_most}

abbrev Row : Type 0
Row = Holder × ℕ

abbrev unit_in : Holder → Unit
unit_in h = h.1

abbrev units : List Row → List (Unit × ℕ)
units es = rows_at unit_in es

-- ---- the units of an account's rows are in order, and none has 0
same_account : (o u : Ordering) → is_eq o ≡ true → is_lt (ordering_then o u) ≡ true → is_lt u ≡ true
same_account Less u e h = cc
same_account Equal u e h = h
same_account Greater u e h = cc

-- a row after one of the account
below_on : (who : List ℕ) (e f : Row) (es : List Row) (c : Bool) → is_account who f.0 ≡ c → is_account who e.0 ≡ true → is_lt (holder_cmp e.0 f.0) ≡ true
    → below_all unit_cmp e.0.1 (units (rows_of_account who es)) ≡ true → below_all unit_cmp e.0.1 (units (rows_of_account who (f ∷ es))) ≡ true
below_on who e f es true k t less rest =
    let accounts : e.0.0 ≡ f.0.0 = sym (key_same account_keys who e.0.0 t) ∙ key_same account_keys who f.0.0 k in
    let tied : eq_by_cmp account_cmp e.0.0 f.0.0 ≡ true = subst (λ a. eq_by_cmp account_cmp e.0.0 a ≡ true) accounts (same_key account_keys e.0.0) in
    rw k (and_from _ _ (same_account _ _ tied less) rest)
below_on who e f es false k t less rest = rw k rest

below_units : (who : List ℕ) (e : Row) (es : List Row) → is_account who e.0 ≡ true → below_all holder_cmp e.0 es ≡ true → below_all unit_cmp e.0.1 (units (rows_of_account who es)) ≡ true
below_units who e [] t b = refl
below_units who e (f ∷ es) t b =
    let parts = and_parts (is_lt (holder_cmp e.0 f.0)) (below_all holder_cmp e.0 es) b in
    below_on who e f es (is_account who f.0) refl t parts.0 (below_units who e es t parts.1)

sorted_on : (who : List ℕ) (e : Row) (es : List Row) (c : Bool) → is_account who e.0 ≡ c → below_all holder_cmp e.0 es ≡ true
    → is_sorted unit_cmp (units (rows_of_account who es)) ≡ true → is_sorted unit_cmp (units (rows_of_account who (e ∷ es))) ≡ true
sorted_on who e es true k b rest = rw k (and_from _ _ (below_units who e es k b) rest)
sorted_on who e es false k b rest = rw k rest

sorted_units : (who : List ℕ) (es : List Row) → is_sorted holder_cmp es ≡ true → is_sorted unit_cmp (units (rows_of_account who es)) ≡ true
sorted_units who [] s = refl
sorted_units who (e ∷ es) s =
    let parts = and_parts (below_all holder_cmp e.0 es) (is_sorted holder_cmp es) s in
    sorted_on who e es (is_account who e.0) refl parts.0 (sorted_units who es parts.1)

positive_units : (who : List ℕ) (es : List Row) → IsPositive es → IsPositive (units (rows_of_account who es))
positive_units who [] p = tt
positive_units who (e ∷ es) p = (let rest = positive_units who es p.1 in elim (is_account who e.0) as (λ b. IsPositive (units (cond b (e ∷ rows_of_account who es) (rows_of_account who es)))) [ true ↦ (p.0, rest) | false ↦ rest ])

-- ---- together they are what the account holds
sum_of_account : (p : Holder → Bool) (who : List ℕ) (es : List Row) → sum_where p (rows_of_account who es) ≡ sum_where (λ h. is_account who h && p h) es
sum_of_account p who [] = refl
sum_of_account p who (e ∷ es) = (
    let rest = sum_of_account p who es in
    elim (is_account who e.0) as (λ b. sum_where p (cond b (e ∷ rows_of_account who es) (rows_of_account who es)) ≡ amount_if (b && p e.0) e.1 + sum_where (λ h. is_account who h && p h) es) [
      | true ↦ ap (λ n. amount_if (p e.0) e.1 + n) rest
      | false ↦ omega (arith, rest)
    ])

goods_are : (who : List ℕ) (held : Held) → from_rows {R = unit_cmp} (units (rows_of_account who (rows held))) ≡ account_goods who held
unfolding account_goods
goods_are who held = same_amounts unit_keys _ _ (λ u.
    amount-from_rows unit_keys (units (rows_of_account who (rows held))) u
    ∙ sum_where-rows_at (eq_by_cmp unit_cmp u) unit_in (rows_of_account who (rows held))
    ∙ sum_of_account (λ h. eq_by_cmp unit_cmp u h.1) who (rows held)
    ∙ total-rows (λ h. is_account who h && eq_by_cmp unit_cmp u h.1) held
    ∙ sym (total-restriction holder_keys (λ (h : Holder). eq_by_cmp unit_cmp u h.1) (is_account who) held)
    ∙ sym (amount-map_keys {S = holder_cmp} unit_keys unit_in (restriction (is_account who) held) u))

pub true_of : (b : Bool) → T b → b ≡ true
true_of true h = refl
true_of false h = absurd h

is_T : (b : Bool) → b ≡ true → T b
is_T b e = subst T (sym e) tt

rows_are : (who : List ℕ) (held : Held) → rows (account_goods who held) ≡ units (rows_of_account who (rows held))
rows_are who held =
    ap rows (sym (goods_are who held))
    ∙ rows-from_rows unit_keys (units (rows_of_account who (rows held))) (is_T _ (sorted_units who (rows held) (true_of _ (rows_sorted held)))) (positive_units who (rows held) (rows_positive held))

-- ---- the assets of an account, and of its rows
abbrev AreHeld : List ℕ → List Row → Type 0
AreHeld who es = map holding_at (rows_of_account who es) ≡ map (λ (a : Asset). (who, a)) (assets_of_rows (units (rows_of_account who es)))

held_on : (who : List ℕ) (e : Row) (es : List Row) (c : Bool) → is_account who e.0 ≡ c → AreHeld who es → AreHeld who (e ∷ es)
held_on who e es true k rest =
    let account : who ≡ e.0.0 = key_same account_keys who e.0.0 k in
    rw k (ap (λ (a : List ℕ). (a, asset_held e) ∷ map holding_at (rows_of_account who es)) (sym account) ∙ ap (λ (t : List (List ℕ × Asset)). (who, asset_held e) ∷ t) rest)
held_on who e es false k rest = rw k rest

are_held : (who : List ℕ) (es : List Row) → AreHeld who es
are_held who [] = refl
are_held who (e ∷ es) = held_on who e es (is_account who e.0) refl (are_held who es)

pub account_assets : (who : List ℕ) (held : Held) → map (λ (a : Asset). (who, a)) (held_assets (account_goods who held)) ≡ map holding_at (rows_of_account who (rows held))
unfolding held_assets
account_assets who held = ap (λ rs. map (λ (a : Asset). (who, a)) (assets_of_rows rs)) (rows_are who held) ∙ sym (are_held who (rows held))

-- ---- what an account holds, by the rows
held_some : (who : List ℕ) (held : Held) → 0 < sum_where (is_account who) (rows held) → 0 < holding_of who held
held_some who held some = (let same = total-rows (is_account who) held in omega (arith, same, some))

some_held : (who : List ℕ) (held : Held) → 0 < holding_of who held → 0 < sum_where (is_account who) (rows held)
some_held who held some = (let same = total-rows (is_account who) held in omega (arith, same, some))

-- ---- what is shown when the next account is
pub shown_next : (after : Option (List ℕ)) (who : List ℕ) (held : Held) → IsNext after held who → shown (Some who) (rows held) ≡ shown after (rows held) ++ rows_of_account who (rows held)
shown_next after who held n =
    next_rows after who (rows held) n.later (true_of _ (rows_sorted held))
    (all_from _ _ (λ r some later before. n.least r.0.0 later (held_some r.0.0 held some) before) (rows held) (row_holds (rows held) (rows_positive held)))

-- fewer rows are left
pub rows_fewer : (after : Option (List ℕ)) (who : List ℕ) (held : Held) → IsNext after held who
    → length (rows held) - length (shown (Some who) (rows held)) < length (rows held) - length (shown after (rows held))
rows_fewer after who held n =
    let all = ap length (shown_next after who held n) ∙ length-append (shown after (rows held)) (rows_of_account who (rows held)) in
    let some = some_rows who (rows held) (some_held who held n.holds) in
    let most = shown_most (Some who) (rows held) in
    omega (arith, all, some, most)

-- where no account is next, all rows are shown
pub whole_shown : (after : Option (List ℕ)) (held : Held) → NoneNext after held → shown after (rows held) ≡ rows held
whole_shown after held none =
    all_shown after (rows held) (all_from _ _ (λ r some. none_after after r.0.0 (λ later. (let zero = none r.0.0 later in absurd (omega (arith, held_some r.0.0 held some, zero))))) (rows held) (row_holds (rows held) (rows_positive held)))

-- ---- the same for the account as a call was handed it
pub next_as : (given after : Option (List ℕ)) (held : Held) (who : List ℕ) → given ≡ after → IsNext given held who → IsNext after held who
next_as given after held who e n = subst (λ a. IsNext a held who) e n

pub none_as : (given after : Option (List ℕ)) (held : Held) → given ≡ after → NoneNext given held → NoneNext after held
none_as given after held e n = subst (λ a. NoneNext a held) e n
