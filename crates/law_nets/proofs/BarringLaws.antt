-- Lemmas: where of each unit no more is there than one bundle may hold, no account is barred from it. A reader may skip this file.
use Rattle.std.proofs.Common.{◌≡◌, ℕ, ◌+◌, ◌-◌, ◌^◌, ◌<◌, ◌≤◌, Bool, true, false, List, [], ◌∷◌, Option, Some, None, refl, sym, ap, ◌∙◌, subst, arith}
use Rattle.std.specs.Prelude.{not, is_some, find, if◌then◌else◌}
use Rattle.std.specs.List.{AllByRecursion}
use Rattle.amounts.specs.Amounts.{amount, total, rows, IsWithin}
use Rattle.amounts.proofs.Lemmas.AmountLaws.{rows_positive}
use Rattle.amounts.specs.Rows.{IsPositive, amount_if, sum_where}
use Rattle.amounts.proofs.Lemmas.{same_key, amount_at_most, amount-rows, amount-difference}
use Rattle.locations.specs.declared.relative.Location.{Location}
use Rattle.operands.specs.declared.error.XcmError.{XcmError}
use Rattle.operands.specs.declared.error.XcmError.TheVariants as error
use Rattle.asset_lists.specs.declared.units.Asset.{Asset}
use Rattle.asset_lists.specs.declared.units.AssetId.{AssetId}
use Rattle.asset_lists.specs.declared.units.Instance.{Instance}
use Rattle.asset_lists.specs.declared.units.Fun.{Fun}
use Rattle.asset_lists.specs.Lists.{IsAssetList}
use Rattle.asset_lists.specs.Units.{Unit, unit_of, amount_of}
use Rattle.asset_lists.specs.Listed.{listed_of, lists}
use Rattle.asset_bundles.specs.Bundles.{Bundle, rows_of, bundle_of, fun_of, assets_of_rows, held_assets}
use Rattle.asset_bundles.proofs.Lemmas.Bundles.{unit_keys}
use Rattle.asset_bundles.proofs.Lemmas.BundleLaws.{amount-bundle_of}
use Rattle.asset_bundles.specs.Books.{AreListed}
use Rattle.asset_bundles.specs.Joins.{most_of}
use Rattle.trust_tables.specs.declared.rows.AssetRow.{AssetRow}
use Rattle.trust_tables.specs.Accounts.{account_of}
use Rattle.trust_tables.specs.Trust.{row_of, listing}
use Rattle.trust_tables.proofs.Lemmas.TrustLaws.{listing_says}
use Rattle.ledgers.specs.Ledgers.{Holder, Held, Withdrawn, held_by, is_barred, barred, owners_of}
use Rattle.ledgers.proofs.Lemmas.{holder_keys}
use Rattle.exec_base.specs.Part.{ChainPart, accounts_of}
use Rattle.exec_base.specs.Sending.{unless, or_else}
use Rattle.exec_base.specs.Host.{first_fault, debit_fault, credit_fault, at_account, given, withdraw_refusal, deposit_refusal, transfer_refusal, fee_held, fee_drawn}
use Rattle.exec_rules.specs.Machine.{Machine, machine}
use Rattle.exec_rules.proofs.Lemmas.AnswerLaws.{unless_held, unless_next, none_first, none_next}
use Rattle.exec_rules.specs.Holdings.{at_origin, holding_paid, payment_of}
use Rattle.exec_rules.specs.Fees.{after_fee}
use Rattle.law_runs.specs.Calls.{Withdraws}
use Rattle.law_runs.proofs.Lemmas.Calls.{no_shortage}
use Rattle.law_nets.specs.Barring.{TakesAll, NothingBarred}
use Rattle.law_nets.proofs.Fitting.{just_unit, FitsBundle, held_within, accounts_in_places}
use Rattle.plain_lists.proofs.Lemmas.Facts.{at_least_not_below as not_above}

-- ---- one asset
-- what all accounts have of a unit, and what more there is
abbrev accounts_have : Unit → Held → ℕ
accounts_have u held = total (λ (h : Holder). just_unit u h.1) held

free : (held : Held) (who : List ℕ) (id : AssetId) (f : Fun) (more : ℕ) → let a : Asset = record { id = id; fun = f } in accounts_have (unit_of a) held + more ≤ most_of (unit_of a).1 → amount_of a ≤ more → is_barred held who a ≡ false
free held who id (Fun.Fungible n) more fits less =
    let u : Unit = (id, None) in
    let own = amount_at_most holder_keys (λ (h : Holder). just_unit u h.1) held (who, u) (same_key unit_keys u) in
    not_above (2 ^ 128 - 1) (amount held (who, u) + n) (omega (arith, own, fits, less))
free held who id (Fun.NonFungible instance) more fits less =
    let u : Unit = (id, Some instance) in
    not_above 0 (owners_of u held) (omega (arith, fits, less))

-- ---- a list of assets
-- what accounts have of each unit, and what more there is, is no more than one bundle may hold
abbrev HaveRoom : Held → (Unit → ℕ) → Type 0
HaveRoom held more = (u : Unit) → accounts_have u held + more u ≤ most_of u.1

list_free : (held : Held) (more : Unit → ℕ) → HaveRoom held more → (who : List ℕ) (list : List Asset) → ((u : Unit) → sum_where (just_unit u) (rows_of list) ≤ more u) → barred held who list ≡ None
list_free held more room who [] less = refl
list_free held more room who (a ∷ list) less =
    let head : amount_of a ≤ more (unit_of a) =
    (let all = less (unit_of a) in
    let counted : amount_if (just_unit (unit_of a) (unit_of a)) (amount_of a) ≡ amount_of a = ap (λ b. amount_if b (amount_of a)) (same_key unit_keys (unit_of a)) in
    omega (arith, all, counted)) in
    ap (λ (b : Bool). if b then Some a else find (is_barred held who) list) (free held who a.id a.fun (more (unit_of a)) (room (unit_of a)) head)
    ∙ list_free held more room who list (λ u. let all = less u in omega (arith, all))

-- an instance counts as 1
counts_less : (id : AssetId) (o : Option Instance) (n : ℕ) → 0 < n → amount_of (record { id = id; fun = fun_of o n }) ≤ n
counts_less id None n some = omega arith
counts_less id (Some instance) n some = omega (arith, some)

same_unit : (id : AssetId) (o : Option Instance) (n : ℕ) → unit_of (record { id = id; fun = fun_of o n }) ≡ (id, o)
same_unit id None n = refl
same_unit id (Some instance) n = refl

if_less : (b : Bool) (m n : ℕ) → m ≤ n → amount_if b m ≤ amount_if b n
if_less true m n le = le
if_less false m n le = omega arith

rows_less : (u : Unit) (es : List (Unit × ℕ)) → IsPositive es → sum_where (just_unit u) (rows_of (assets_of_rows es)) ≤ sum_where (just_unit u) es
rows_less u [] positive = omega arith
rows_less u (e ∷ es) positive =
    let a : Asset = record { id = e.0.0; fun = fun_of e.0.1 e.1 } in
    let one = if_less (just_unit u e.0) (amount_of a) e.1 (counts_less e.0.0 e.0.1 e.1 positive.0) in
    let same : amount_if (just_unit u (unit_of a)) (amount_of a) ≡ amount_if (just_unit u e.0) (amount_of a) = ap (λ (v : Unit). amount_if (just_unit u v) (amount_of a)) (same_unit e.0.0 e.0.1 e.1) in
    let rest = rows_less u es positive.1 in
    omega (arith, one, same, rest)

goods_less : (goods : Bundle) (u : Unit) → sum_where (just_unit u) (rows_of (held_assets goods)) ≤ amount goods u
unfolding held_assets
goods_less goods u =
    let less = rows_less u (rows goods) (rows_positive goods) in
    let whole = amount-rows unit_keys goods u in
    omega (arith, less, whole)

-- ---- what isn't refused
abbrev AllHaveRows : List AssetRow → List Asset → Type 0
AllHaveRows rows list = AllByRecursion (λ (a : Asset). is_some (row_of rows a) ≡ true) list

-- a bundle of listed units
rows_listed : (rows : List AssetRow) (es : List (Unit × ℕ)) → IsPositive es → ((u : Unit) → 0 < sum_where (just_unit u) es → lists (listing rows) (listed_of u) ≡ true) → AllHaveRows rows (assets_of_rows es)
rows_listed rows [] positive inside = tt
rows_listed rows (e ∷ es) positive inside =
    let a : Asset = record { id = e.0.0; fun = fun_of e.0.1 e.1 } in
    let counted : amount_if (just_unit e.0 e.0) e.1 ≡ e.1 = ap (λ b. amount_if b e.1) (same_key unit_keys e.0) in
    let held : 0 < amount_if (just_unit e.0 e.0) e.1 + sum_where (just_unit e.0) es = (let some = positive.0 in omega (arith, counted, some)) in
    let one : lists (listing rows) (listed_of (unit_of a)) ≡ true = ap (λ (u : Unit). lists (listing rows) (listed_of u)) (same_unit e.0.0 e.0.1 e.1) ∙ inside e.0 held in
    (sym (listing_says rows a) ∙ one, rows_listed rows es positive.1 (λ u some. inside u (omega (arith, some))))

assets_listed : (rows : List AssetRow) (goods : Bundle) → AreListed (listing rows) goods → AllHaveRows rows (held_assets goods)
unfolding held_assets
assets_listed all goods inside = rows_listed all (rows goods) (rows_positive goods) (λ u some. let whole = amount-rows unit_keys goods u in inside u (omega (arith, whole, some)))

accepted : (p : ChainPart) (account : List ℕ) (held : Held) (a : Asset) → is_some (row_of p.rows a) ≡ true → is_barred held account a ≡ false
    → unless (is_some (row_of p.rows a)) error.AssetNotFound (unless (not (is_barred held account a)) error.FailedToTransactAsset None) ≡ None
accepted p account held a listed free =
    ap (λ (b : Bool). unless b error.AssetNotFound (unless (not (is_barred held account a)) error.FailedToTransactAsset None)) listed
    ∙ ap (λ (b : Bool). unless (not b) error.FailedToTransactAsset None) free

-- an account that is barred from nothing takes the list
takes_list : (p : ChainPart) (account : List ℕ) (list : List Asset) → AllHaveRows p.rows list → barred p.held account list ≡ None → first_fault (credit_fault p (Some account)) list ≡ None
takes_list p account [] listed none = refl
takes_list p account (a ∷ list) listed none =
    elim (is_barred p.held account a) as (λ b. is_barred p.held account a ≡ b → (if b then Some a else find (is_barred p.held account) list) ≡ None → first_fault (credit_fault p (Some account)) (a ∷ list) ≡ None) [
      | true ↦ λ t h. absurd cc
      | false ↦ λ t h. ap (λ (o : Option XcmError). or_else o (first_fault (credit_fault p (Some account)) list)) (accepted p account p.held a listed.0 t) ∙ takes_list p account list listed.1 h
    ] refl none

taken_in : (p : ChainPart) (o : Option (List ℕ)) (account : List ℕ) → o ≡ Some account → (list : List Asset) → AllHaveRows p.rows list → barred p.held account list ≡ None → first_fault (credit_fault p o) list ≡ None
taken_in p o account found list listed none = ap (λ (o : Option (List ℕ)). first_fault (credit_fault p o) list) found ∙ takes_list p account list listed none

-- ---- less than a machine that fits
-- accounts and holding have no more than another machine's
pub record IsLess (m k : Machine) : Type 0 where
  pub rows : k.part.rows ≡ m.part.rows
  pub accounts : IsWithin k.part.held m.part.held
  pub holding : IsWithin k.regs.holding m.regs.holding

no_account_gives : (p : ChainPart) (a : Asset) → debit_fault p None a ≡ None → ⊥
no_account_gives p a h = let k = unless_next (is_some (row_of p.rows a)) _ _ h in absurd cc

module _ (withdraws : Withdraws) where
  given_less : (p : ChainPart) (o : Option (List ℕ)) (list : List Asset) (u : Unit) → IsAssetList list → first_fault (debit_fault p o) list ≡ None
      → accounts_have u (at_account o (λ account. (Withdrawn account list (accounts_of p)).held) p.held) + sum_where (just_unit u) (rows_of list) ≤ accounts_have u p.held
  given_less p None [] u in_order ok = omega arith
  given_less p None (a ∷ rest) u in_order ok = absurd (no_account_gives p a (none_first _ _ ok))
  given_less p (Some who) list u in_order ok =
      let less = withdraws (accounts_of p) who list (λ (h : Holder). just_unit u h.1) in_order (no_shortage p who list ok) in
      let whole = amount-bundle_of list u in
      let counted = amount_at_most unit_keys (just_unit u) (bundle_of list) u (same_key unit_keys u) in
      omega (arith, less, whole, counted)

  gives : (p : ChainPart) (list : List Asset) (from : Location) → withdraw_refusal p list from ≡ None → first_fault (debit_fault p (account_of from p.site)) list ≡ None
  unfolding withdraw_refusal
  gives p list from h = h

  same_behind : (a b : Option XcmError) → (a ≡ None → b ≡ None) → or_else a b ≡ a
  same_behind None b h = h refl
  same_behind (Some e) b h = refl

  given_listed : (p : ChainPart) (o : Option (List ℕ)) (list : List Asset) → first_fault (debit_fault p o) list ≡ None → AllHaveRows p.rows list
  given_listed p o [] h = tt
  given_listed p o (a ∷ list) h = (unless_held _ _ _ (none_first _ _ h), given_listed p o list (none_next _ _ h))

  transfers_paid : (p : ChainPart) (list : List Asset) (from to : Location) (account : List ℕ) → account_of to p.site ≡ Some account → (withdraw_refusal p list from ≡ None → barred (given p list from).held account list ≡ None)
      → transfer_refusal p list from to ≡ withdraw_refusal p list from
  unfolding transfer_refusal withdraw_refusal
  transfers_paid p list from to account found free =
      same_behind _ _ (λ ok. taken_in (given p list from) (account_of to p.site) account found list (given_listed p (account_of from p.site) list ok) (free ok))

  deposits_taken : (p : ChainPart) (goods : Bundle) (who : Location) → first_fault (credit_fault p (account_of who p.site)) (held_assets goods) ≡ None → deposit_refusal p goods who ≡ None
  unfolding deposit_refusal
  deposits_taken p goods who h = h

  module _ (m k : Machine) (fits : FitsBundle m) (listed : AreListed (listing m.part.rows) m.regs.holding) (less : IsLess m k) where
    accounts_fit : (u : Unit) → accounts_have u k.part.held + amount k.regs.holding u ≤ most_of u.1
    accounts_fit u =
        let all = fits u in
        let accounts = held_within (λ (h : Holder). just_unit u h.1) m.part.held k.part.held less.accounts in
        let places = accounts_in_places (just_unit u) m.part in
        let holding = less.holding u in
        let counted = amount_at_most unit_keys (just_unit u) m.regs.holding u (same_key unit_keys u) in
        omega (arith, all, accounts, places, holding, counted)

    held_free : (who : List ℕ) (goods : Bundle) → IsWithin goods k.regs.holding → barred k.part.held who (held_assets goods) ≡ None
    held_free who goods within = list_free k.part.held (amount goods) (λ u. let all = accounts_fit u in let le = within u in omega (arith, all, le)) who (held_assets goods) (goods_less goods)

    given_free : (who : List ℕ) (list : List Asset) (from : Location) → IsAssetList list → withdraw_refusal k.part list from ≡ None → barred (given k.part list from).held who list ≡ None
    given_free who list from in_order ok =
        list_free (given k.part list from).held (λ u. sum_where (just_unit u) (rows_of list))
        (λ u.
        let all = accounts_fit u in
        let le = given_less k.part (account_of from k.part.site) list u in_order (gives k.part list from ok) in
        omega (arith, all, le)) who list (λ u. omega arith)

    goods_listed : (goods : Bundle) → IsWithin goods k.regs.holding → AreListed (listing k.part.rows) goods
    goods_listed goods within u some =
        subst (λ (rows : List AssetRow). lists (listing rows) (listed_of u) ≡ true) (sym less.rows) (listed u (let a = within u in let b = less.holding u in omega (arith, a, b, some)))

    pub takes_all : TakesAll k
    takes_all = record {
      held = held_free;
      given = given_free;
      deposits = λ who account goods found within.
          deposits_taken k.part goods who (taken_in k.part (account_of who k.part.site) account found (held_assets goods) (assets_listed k.part.rows goods (goods_listed goods within)) (held_free account goods within));
      transfers = λ from to account list found in_order. transfers_paid k.part list from to account found (λ ok. given_free account list from in_order ok);
    }

-- ---- a fee set aside
same_less : (m : Machine) → IsLess m m
same_less m = record { rows = refl; accounts = λ h. omega arith; holding = λ u. omega arith }

drawn_less : (m : Machine) (p : ChainPart) → p.rows ≡ m.part.rows → IsWithin p.held m.part.held → (goods : Bundle) → IsLess m (machine m.regs (fee_held p goods))
unfolding fee_held
drawn_less m p rows accounts goods = record { rows = rows; accounts = accounts; holding = λ u. omega arith }

paid_less : (m : Machine) (fee : Asset) → IsLess m (machine (holding_paid m fee).regs (fee_held m.part (payment_of fee)))
unfolding fee_held
paid_less m fee = record { rows = refl; accounts = λ h. omega arith; holding = λ u. let e = amount-difference unit_keys m.regs.holding (payment_of fee) u in omega (arith, e) }

given_within : (p : ChainPart) (o : Option (List ℕ)) (list : List Asset) → IsWithin (at_account o (λ account. (Withdrawn account list (accounts_of p)).held) p.held) p.held
given_within p None list h = omega arith
given_within p (Some who) list h = let e = amount-difference holder_keys p.held (held_by who (bundle_of list)) h in omega (arith, e)

fee_drawn_within : (p : ChainPart) (list : List Asset) (who : Location) → IsWithin (fee_drawn p list who).held p.held
unfolding fee_drawn
fee_drawn_within p list who = given_within p (account_of who p.site) list

fee_drawn_rows : (p : ChainPart) (list : List Asset) (who : Location) → (fee_drawn p list who).rows ≡ p.rows
unfolding fee_drawn
fee_drawn_rows p list who = refl

less_at : (m : Machine) (o : Option Location) (change : Location → Machine) → ((who : Location) → IsLess m (change who)) → IsLess m (at_origin o change m)
less_at m None change h = same_less m
less_at m (Some who) change h = h who

less_if : (m : Machine) (b : Bool) (x y : Machine) → IsLess m x → IsLess m y → IsLess m (if b then x else y)
less_if m true x y h k = h
less_if m false x y h k = k

fee_less : (m : Machine) (fee : Asset) → IsLess m (after_fee m fee)
fee_less m fee =
    less_if m m.regs.fees_mode _ _
    (less_at m m.regs.origin (λ who. machine m.regs (fee_held (fee_drawn m.part (fee ∷ []) who) (payment_of fee)))
    (λ who. drawn_less m (fee_drawn m.part (fee ∷ []) who) (fee_drawn_rows m.part (fee ∷ []) who) (fee_drawn_within m.part (fee ∷ []) who) (payment_of fee)))
    (paid_less m fee)

pub nothing_barred : Withdraws → (m : Machine) → FitsBundle m → AreListed (listing m.part.rows) m.regs.holding → NothingBarred m
nothing_barred withdraws m fits listed = record {
  now = takes_all withdraws m m fits listed (same_less m);
  behind_fee = λ fee. takes_all withdraws m (after_fee m fee) fits listed (fee_less m fee);
}
