-- What moves conserve.
use Rattle.std.proofs.Common.{◌≡◌, ℕ, ◌+◌, Bool, List, ◌∙◌, arith}
use Rattle.std.specs.Prelude.{None}
use Rattle.amounts.specs.Amounts.{amount, total}
use Rattle.amounts.proofs.Lemmas.{total-merge, total-difference}
use Rattle.asset_lists.specs.declared.units.Asset.{Asset}
use Rattle.asset_lists.specs.Lists.{IsAssetList}
use Rattle.asset_lists.specs.Listed.{Listed}
use Rattle.asset_bundles.specs.Bundles.{Bundle, bundle_of}
use Rattle.ledgers.specs.Ledgers.{Accounts, Holder, IsOther, held_by, is_holding_of, sum_of, shortage, Withdrawn, Deposited, Transferred}
use Rattle.ledgers.proofs.Lemmas.{holder_keys, held_by_total, less_other, more_other}
use Rattle.ledgers.proofs.AccountMoves.{has_all}
use Rattle.ledgers.proofs.Transferring.{has_held_by}

pub withdrawn_kept : (ledger : Accounts) (who : List ℕ) (assets : List Asset) (p : Holder → Bool) → IsAssetList assets → shortage ledger.held who assets ≡ None
    → total p (Withdrawn who assets ledger).held + total (λ unit. p (who, unit)) (bundle_of assets) ≡ total p ledger.held
withdrawn_kept ledger who assets p list none =
    let less = total-difference holder_keys p ledger.held (held_by who (bundle_of assets)) (has_held_by ledger.held who assets (has_all ledger.held who assets list.rising none)) in
    let same = held_by_total p who (bundle_of assets) in
    omega (arith, less, same)

pub deposited_kept : (ledger : Accounts) (who : List ℕ) (goods : Bundle) (p : Holder → Bool) → total p (Deposited who goods ledger).held ≡ total p ledger.held + total (λ unit. p (who, unit)) goods
deposited_kept ledger who goods p =
    let more = total-merge holder_keys p ledger.held (held_by who goods) in
    let same = held_by_total p who goods in
    omega (arith, more, same)

pub transferred_kept : (ledger : Accounts) (from to : List ℕ) (assets : List Asset) (p : Holder → Bool) → IsAssetList assets → shortage ledger.held from assets ≡ None
    → total p (Transferred from to assets ledger).held + total (λ unit. p (from, unit)) (bundle_of assets) ≡ total p ledger.held + total (λ unit. p (to, unit)) (bundle_of assets)
transferred_kept ledger from to assets p list none =
    let given = withdrawn_kept ledger from assets p list none in
    let got = deposited_kept (Withdrawn from assets ledger) to (bundle_of assets) p in
    omega (arith, given, got)

pub sums_kept : (ledger : Accounts) (from to : List ℕ) (assets : List Asset) (asset : Listed) → IsAssetList assets → shortage ledger.held from assets ≡ None
    → sum_of asset (Transferred from to assets ledger).held ≡ sum_of asset ledger.held
sums_kept ledger from to assets asset list none =
    let both = transferred_kept ledger from to assets (is_holding_of asset) list none in
    omega (arith, both)

pub others_withdrawn : (ledger : Accounts) (who : List ℕ) (assets : List Asset) (holder : Holder) → IsOther who (bundle_of assets) holder → amount (Withdrawn who assets ledger).held holder ≡ amount ledger.held holder
others_withdrawn ledger who assets = less_other ledger.held who (bundle_of assets)

pub others_deposited : (ledger : Accounts) (who : List ℕ) (goods : Bundle) (holder : Holder) → IsOther who goods holder → amount (Deposited who goods ledger).held holder ≡ amount ledger.held holder
others_deposited ledger who goods = more_other ledger.held who goods

pub others_transferred : (ledger : Accounts) (from to : List ℕ) (assets : List Asset) (holder : Holder) → IsOther from (bundle_of assets) holder → IsOther to (bundle_of assets) holder
    → amount (Transferred from to assets ledger).held holder ≡ amount ledger.held holder
others_transferred ledger from to assets holder giver receiver =
    others_deposited (Withdrawn from assets ledger) to (bundle_of assets) holder receiver ∙ others_withdrawn ledger from assets holder giver
