-- The ledger of a chain: which assets the chain lists, and what each account holds of them.
-- Source: the accounts that xcm-executor's asset transactors move assets of. That an amount ends at 2^128-1, that an
-- instance has one owner, and the order of refusals are this project's own rules.
use Rattle.std.specs.Prelude.{◌≡◌, ℕ, ◌+◌, ◌-◌, ◌^◌, ◌<◌, ◌&&◌, Bool, nat_lt, if◌then◌else◌, List, [], ◌∷◌, Option, None, Some, ⊤}
use Rattle.std.specs.Ordering.{nat_cmp, on, then_cmp, eq_by_cmp}
use Rattle.std.specs.declared.cmp.Ordering.{Ordering}
use Rattle.std.specs.declared.cmp.Ordering.TheVariants.{Less}
use Rattle.std.specs.Cmp.Lexicographic.{slice_cmp}
use Rattle.std.specs.List.{position, find}
use Rattle.amounts.specs.Amounts.{Amounts, amount, total, merge, difference, restriction, map_keys}
use Rattle.locations.specs.declared.relative.Location.{Location}
use Rattle.asset_lists.specs.declared.units.AssetId.TheVariants.{Concrete}
use Rattle.asset_lists.specs.declared.units.Kind.{Kind}
use Rattle.asset_lists.specs.declared.units.Fun.{Fun}
use Rattle.asset_lists.specs.declared.units.Asset.{Asset}
use Rattle.asset_lists.specs.Units.{Unit, unit_of, amount_of, unit_cmp}
use Rattle.asset_bundles.specs.Bundles.{Bundle, bundle_of, is_asset}
use Rattle.asset_lists.specs.Listed.{Listed, listed_cmp}

-- an account, by its bytes, and a unit that it may hold
abbrev pub Holder : Type 0
Holder = List ℕ × Unit

abbrev pub account_cmp : List ℕ → List ℕ → Ordering
account_cmp = slice_cmp nat_cmp

-- by account, then by unit
abbrev pub holder_cmp : Holder → Holder → Ordering
holder_cmp = then_cmp (on (λ (h : Holder). h.0) account_cmp) (on (λ (h : Holder). h.1) unit_cmp)

-- what all accounts hold. The amount of an instance is 1
abbrev pub Held : Type 0
Held = Amounts holder_cmp

-- a ledger: the assets that it lists, and what its accounts hold
pub record Accounts : Type 0 where
  pub listed : List Listed
  pub held : Held

-- ---- what is listed
abbrev pub listed_pair : Location × Kind → Listed
listed_pair row = (Concrete row.0, row.1)

-- the index of an asset in the list
abbrev pub number_in : List Listed → Listed → Option ℕ
number_in listed asset = position (eq_by_cmp listed_cmp asset) listed

-- ---- sums
abbrev pub is_account : List ℕ → Holder → Bool
is_account who h = eq_by_cmp account_cmp who h.0

abbrev pub is_holding_of : Listed → Holder → Bool
is_holding_of asset h = is_asset asset.0 asset.1 h.1

-- what all accounts hold of an asset: the amount of a fungible one, the number of instances of a class
abbrev pub sum_of : Listed → Held → ℕ
sum_of asset held = total (is_holding_of asset) held

-- the same of one account
abbrev pub account_sum_of : List ℕ → Listed → Held → ℕ
account_sum_of who asset held = total (λ h. is_account who h && is_holding_of asset h) held

-- all that an account holds, all units added up: 0 where it holds nothing
abbrev pub holding_of : List ℕ → Held → ℕ
holding_of who held = total (is_account who) held

-- how many accounts have an instance
abbrev pub owners_of : Unit → Held → ℕ
owners_of unit held = total (λ (h : Holder). eq_by_cmp unit_cmp unit h.1) held

-- the account has the instance, and no other account does
pub record IsOwner (held : Held) (unit : Unit) (who : List ℕ) : Type 0 where
  pub has : amount held (who, unit) ≡ 1
  pub alone : owners_of unit held ≡ 1

-- all that an account holds, as a bundle
unfoldable pub account_goods : List ℕ → Held → Bundle
account_goods who held = map_keys (λ (h : Holder). h.1) (restriction (is_account who) held)

-- ---- accounts in order
-- after an account, or any account where none is given
abbrev pub IsAfter : Option (List ℕ) → List ℕ → Type 0
IsAfter None who = ⊤
IsAfter (Some a) who = account_cmp a who ≡ Less

-- no account after another holds something
abbrev pub NoneNext : Option (List ℕ) → Held → Type 0
NoneNext after held = (who : List ℕ) → IsAfter after who → holding_of who held ≡ 0

-- the first account after another that holds something
pub record IsNext (after : Option (List ℕ)) (held : Held) (who : List ℕ) : Type 0 where
  pub holds : 0 < holding_of who held
  pub later : IsAfter after who
  pub least : (w : List ℕ) → IsAfter after w → 0 < holding_of w held → account_cmp w who ≡ Less → ⊥

-- ---- moves
-- goods as what an account holds
unfoldable pub held_by : List ℕ → Bundle → Held
held_by who goods = map_keys (λ (unit : Unit). (who, unit)) goods

-- another account, or a unit that isn't among the goods
abbrev pub IsOther : List ℕ → Bundle → Holder → Type 0
IsOther who goods holder = who ≡ holder.0 → amount goods holder.1 ≡ 0

-- the ledger after the account gave these
abbrev pub Withdrawn : List ℕ → List Asset → Accounts → Accounts
Withdrawn who assets ledger = record { listed = ledger.listed; held = difference ledger.held (held_by who (bundle_of assets)) }

-- the ledger after the account got these goods
abbrev pub Deposited : List ℕ → Bundle → Accounts → Accounts
Deposited who goods ledger = record { listed = ledger.listed; held = merge ledger.held (held_by who goods) }

-- the withdrawal from one account and then the deposit to the other
abbrev pub Transferred : List ℕ → List ℕ → List Asset → Accounts → Accounts
Transferred from to assets ledger = Deposited to (bundle_of assets) (Withdrawn from assets ledger)

-- ---- refusals
-- what the account has of the first listed asset of which it has less than is asked
abbrev pub shortage : Held → List ℕ → List Asset → Option ℕ
shortage held who [] = None
shortage held who (a ∷ rest) = if nat_lt (amount held (who, unit_of a)) (amount_of a) then Some (amount held (who, unit_of a)) else shortage held who rest

-- what the account has of the first listed asset of which it would then have more than 2^128-1
abbrev pub overflow : Held → List ℕ → List Asset → Option ℕ
overflow held who [] = None
overflow held who (a ∷ rest) = if nat_lt (2 ^ 128 - 1) (amount held (who, unit_of a) + amount_of a) then Some (amount held (who, unit_of a)) else overflow held who rest

-- the account would have more than 2^128-1 of it, or the instance has an owner
abbrev pub is_barred_fun : Fun → ℕ → ℕ → Bool
is_barred_fun (Fun.Fungible n) have owners = nat_lt (2 ^ 128 - 1) (have + n)
is_barred_fun (Fun.NonFungible instance) have owners = nat_lt 0 owners

abbrev pub is_barred : Held → List ℕ → Asset → Bool
is_barred held who a = is_barred_fun a.fun (amount held (who, unit_of a)) (owners_of (unit_of a) held)

-- the first asset that the account can't take in
abbrev pub barred : Held → List ℕ → List Asset → Option Asset
barred held who assets = find (is_barred held who) assets
