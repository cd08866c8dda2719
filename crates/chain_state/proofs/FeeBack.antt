-- A fee that was drawn from an account can be given back to it.
use Rattle.std.proofs.Common.{◌≡◌, ℕ, ◌+◌, ◌-◌, ◌^◌, ◌<◌, ◌≤◌, Bool, true, false, not, List, [], ◌∷◌, refl, sym, ap, ◌∙◌, arith, true≢false}
use Rattle.std.specs.Prelude.{Option, None, Some, is_some, nat_le}
use Rattle.std.specs.Ordering.{eq_by_cmp}
use Rattle.std.proofs.lemmas.Bool.Decides.{nat_tests}
use Rattle.amounts.specs.Rows.{amount_if}
use Rattle.amounts.specs.Amounts.{amount, difference}
use Rattle.amounts.proofs.Lemmas.{same_key, amount-map_keys, amount-difference}
use Rattle.locations.specs.declared.relative.Location.{Location}
use Rattle.operands.specs.declared.error.XcmError.{XcmError}
use Rattle.operands.specs.declared.error.XcmError.TheVariants as error
use Rattle.asset_lists.specs.declared.units.AssetId.{AssetId}
use Rattle.asset_lists.specs.declared.units.Asset.{Asset}
use Rattle.asset_lists.specs.declared.units.Fun.{Fun}
use Rattle.asset_lists.specs.Units.{Unit, unit_of, unit_cmp, amount_of}
use Rattle.asset_bundles.specs.Bundles.{bundle_of}
use Rattle.asset_bundles.proofs.Lemmas.BundleLaws.{total-bundle_of}
use Rattle.trust_tables.specs.Accounts.{account_of}
use Rattle.trust_tables.specs.Trust.{row_of}
use Rattle.ledgers.specs.Ledgers.{holder_cmp, held_by, is_barred, is_barred_fun, owners_of, Withdrawn}
use Rattle.ledgers.proofs.Lemmas.{holder_keys}
use Rattle.exec_base.specs.Part.{ChainPart, accounts_of}
use Rattle.exec_base.specs.Sending.{unless, or_else}
use Rattle.exec_base.specs.Host.{first_fault, floor_of, with_account, debit_fault, credit_fault, is_price, IsPrice, deposit_refusal}
use Rattle.chain_state.proofs.Trading.{one_held}

same_sum : (n : ℕ) → amount_if true n + 0 ≡ n
same_sum n = omega arith

fee_amount : (who : List ℕ) (fee : Asset) → amount (held_by who (bundle_of (fee ∷ []))) (who, unit_of fee) ≡ amount_of fee
unfolding held_by
fee_amount who fee =
    amount-map_keys {S = unit_cmp} holder_keys (λ (unit : Unit). (who, unit)) (bundle_of (fee ∷ [])) (who, unit_of fee)
    ∙ total-bundle_of (λ (unit : Unit). eq_by_cmp holder_cmp (who, unit_of fee) (who, unit)) (fee ∷ [])
    ∙ ap (λ b. amount_if b (amount_of fee) + 0) (same_key holder_keys (who, unit_of fee)) ∙ same_sum (amount_of fee)

no_bar : (fun : Fun) (have owners n : ℕ) → is_price fun ≡ true → have + n < 2 ^ 128 → n ≡ amount_of (record { id = AssetId.Abstract []; fun = fun }) → is_barred_fun fun have owners ≡ false
no_bar (Fun.Fungible m) have owners n price small is = (let same : n ≡ m = is in grind (arith, small, same))
no_bar (Fun.NonFungible instance) have owners n price small is = absurd (true≢false (sym price))

some_amount : (fun : Fun) (id : AssetId) → is_price fun ≡ true → 0 < amount_of (record { id = id; fun = fun })
some_amount (Fun.Fungible m) id price = grind (arith, price)
some_amount (Fun.NonFungible instance) id price = absurd (true≢false (sym price))

-- the account has room for what it gave
pub fee_back : (p : ChainPart) (fee : Asset) (who : Location) (account : List ℕ) → IsPrice fee → account_of who p.site ≡ Some account → is_some (row_of p.rows fee) ≡ true
    → amount_of fee ≤ amount p.held (account, unit_of fee) → amount p.held (account, unit_of fee) < 2 ^ 128
    → deposit_refusal (record p { held = (Withdrawn account (fee ∷ []) (accounts_of p)).held }) (bundle_of (fee ∷ [])) who ≡ None
unfolding deposit_refusal
fee_back p fee who account price at row enough small =
    let held = difference p.held (held_by account (bundle_of (fee ∷ []))) in
    let left : amount held (account, unit_of fee) ≡ amount p.held (account, unit_of fee) - amount_of fee =
    amount-difference holder_keys p.held (held_by account (bundle_of (fee ∷ []))) (account, unit_of fee) ∙ ap (λ n. amount p.held (account, unit_of fee) - n) (fee_amount account fee) in
    let free : is_barred held account fee ≡ false = no_bar fee.fun (amount held (account, unit_of fee)) (owners_of (unit_of fee) held) (amount_of fee) price (omega (arith, left, enough, small)) refl in
    ap (first_fault (credit_fault (record p { held = held }) (account_of who p.site))) (one_held fee (some_amount fee.fun fee.id price))
    ∙ ap (λ o. or_else (unless (is_some (row_of p.rows fee)) error.AssetNotFound (with_account o (λ w. unless (not (is_barred held w fee)) error.FailedToTransactAsset None))) None) at
    ∙ ap (λ b. or_else (unless b error.AssetNotFound (unless (not (is_barred held account fee)) error.FailedToTransactAsset None)) None) row
    ∙ ap (λ b. or_else (unless (not b) error.FailedToTransactAsset None) None) free

passes : (b : Bool) (e : XcmError) (next : Option XcmError) → unless b e next ≡ None → (b ≡ true) × (next ≡ None)
passes true e next h = (refl, h)
passes false e next h = absurd (cc)

-- what it gives and must keep, it has
within : (n f m : ℕ) → nat_le (n + f) m ≡ true → n ≤ m
within n f m h = grind (arith, nat_tests, h)

-- an account that can give: there is a row, and it has enough
pub gives : (p : ChainPart) (who : List ℕ) (a : Asset) → debit_fault p (Some who) a ≡ None → (is_some (row_of p.rows a) ≡ true) × (amount_of a ≤ amount p.held (who, unit_of a))
gives p who a h =
    let row = passes (is_some (row_of p.rows a)) error.AssetNotFound _ h in
    let has = passes (nat_le (amount_of a + floor_of p who (unit_of a)) (amount p.held (who, unit_of a))) error.FailedToTransactAsset None row.1 in
    (row.0, within (amount_of a) (floor_of p who (unit_of a)) (amount p.held (who, unit_of a)) has.0)
