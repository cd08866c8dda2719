-- What a chain has of each asset, and what a network has: every sum is a total over the one test on units.
use Rattle.std.specs.Prelude.{◌≡◌, ℕ, ◌+◌, ◌≤◌, if◌then◌else◌, ◌&&◌, List, Option, Some, slice_get, sum_by}
use Rattle.amounts.specs.Amounts.{total}
use Rattle.asset_bundles.specs.Bundles.{Bundle}
use Rattle.asset_bundles.specs.Books.{Burns}
use Rattle.ledgers.specs.Ledgers.{Holder, Held, is_account}
use Rattle.asset_bundles.specs.declared.trap.Trap.{Trap}
use Rattle.chain_ids.specs.declared.chain.ChainId.{ChainId}
use Rattle.trust_tables.specs.declared.rows.AssetRow.{AssetRow}
use Rattle.trust_tables.specs.declared.rows.AssetRole.TheVariants.{Derivative}
use Rattle.trust_tables.specs.Accounts.{sovereign_account}
use Rattle.chain_ids.specs.Chains.{same_chain}
use Rattle.law_coherence.specs.UniversalAssets.{UniversalAsset, Choice, every, just, is_unit_at, is_burn_at}
use Rattle.law_coherence.specs.Networks.{Table, context_of, IsIn, asset_of_row, is_home}
use Rattle.asset_lists.specs.declared.units.Instance.{Instance}

-- what a queued message carries, under the sender's names
pub data Cargo : Type 0 where
  Nothing : Cargo
  Deposit : Bundle → Cargo
  Withdrawal : Bundle → Cargo
  Teleport : Bundle → Cargo

pub record Channel : Type 0 where
  pub to : ChainId
  pub queue : List Cargo

pub record Part : Type 0 where
  pub table : Table
  pub held : Held
  pub traps : List Trap
  pub fees : Bundle
  pub parked : List Bundle
  pub holding : Bundle
  pub burns : Burns
  -- for each row of the table, its checking account: it is a record, and holds nothing
  pub checking : List (Option ℕ)
  pub outgoing : List Channel

abbrev pub chain_of_part : Part → ChainId
chain_of_part p = p.table.site.chain

-- ---- one chain
abbrev pub in_bundle : Table → UniversalAsset → Choice → Bundle → ℕ
in_bundle t a choice b = total (is_unit_at (context_of t) a choice) b

-- everything but the channels
unfoldable pub stock : UniversalAsset → Choice → Part → ℕ
stock a choice p =
    total (λ (h : Holder). is_unit_at (context_of p.table) a choice h.1) p.held
    + sum_by (λ (t : Trap). in_bundle p.table a choice t.goods) p.traps
    + in_bundle p.table a choice p.fees
    + sum_by (in_bundle p.table a choice) p.parked
    + in_bundle p.table a choice p.holding

-- what is counted: the whole asset, with what was burned of it, or one instance of a class
pub data Count : Type 0 where
  Whole : Count
  Only : Instance → Count

abbrev pub choice_of : Count → Choice
choice_of Whole = every
choice_of (Only instance) = just (Some instance)

-- one account
unfoldable pub account_amount : List ℕ → UniversalAsset → Choice → Part → ℕ
account_amount who a choice p = total (λ (h : Holder). is_account who h && is_unit_at (context_of p.table) a choice h.1) p.held

-- what the chain keeps for another, in that chain's account
abbrev pub held_for : ChainId → UniversalAsset → Count → Part → ℕ
held_for chain a count p = account_amount (sovereign_account (chain_of_part p) chain) a (choice_of count) p

unfoldable pub burned : UniversalAsset → Part → ℕ
burned a p = total (is_burn_at (context_of p.table) a) p.burns

-- everything but the channels, and for the whole asset also what was burned
abbrev pub debt : UniversalAsset → Count → Part → ℕ
debt a Whole p = stock a every p + burned a p
debt a (Only instance) p = stock a (just (Some instance)) p

abbrev pub teleported : Table → UniversalAsset → Choice → Cargo → ℕ
teleported t a choice Nothing = 0
teleported t a choice (Deposit b) = 0
teleported t a choice (Withdrawal b) = 0
teleported t a choice (Teleport b) = in_bundle t a choice b

abbrev pub deposited_amount : Table → UniversalAsset → Choice → Cargo → ℕ
deposited_amount t a choice Nothing = 0
deposited_amount t a choice (Deposit b) = in_bundle t a choice b
deposited_amount t a choice (Withdrawal b) = 0
deposited_amount t a choice (Teleport b) = 0

abbrev pub withdrawn_amount : Table → UniversalAsset → Choice → Cargo → ℕ
withdrawn_amount t a choice Nothing = 0
withdrawn_amount t a choice (Deposit b) = 0
withdrawn_amount t a choice (Withdrawal b) = in_bundle t a choice b
withdrawn_amount t a choice (Teleport b) = 0

-- in all channels, and in those to one chain
unfoldable pub in_channels : (Cargo → ℕ) → List Channel → ℕ
in_channels f channels = sum_by (λ (c : Channel). sum_by f c.queue) channels

unfoldable pub in_channels_to : ChainId → (Cargo → ℕ) → List Channel → ℕ
in_channels_to chain f channels = sum_by (λ (c : Channel). if same_chain c.to chain then sum_by f c.queue else 0) channels

abbrev pub flight : UniversalAsset → Choice → Part → ℕ
flight a choice p = in_channels (teleported p.table a choice) p.outgoing

abbrev pub deposits : ChainId → UniversalAsset → Count → Part → ℕ
deposits chain a count p = in_channels_to chain (deposited_amount p.table a (choice_of count)) p.outgoing

abbrev pub withdrawals : ChainId → UniversalAsset → Count → Part → ℕ
withdrawals chain a count p = in_channels_to chain (withdrawn_amount p.table a (choice_of count)) p.outgoing

-- ---- the network
abbrev pub WorldView : Type 0
WorldView = List Part

abbrev pub own : UniversalAsset → Part → ℕ
own a p = stock a every p + flight a every p + burned a p

unfoldable pub home : UniversalAsset → Part → ℕ
home a p = if is_home a p.table then own a p else 0

-- Home + Flight + Burned
unfoldable pub supply : UniversalAsset → WorldView → ℕ
supply a w = sum_by (home a) w

abbrev pub Conserved : WorldView → WorldView → Type 0
Conserved genesis w = (a : UniversalAsset) → supply a w ≡ supply a genesis

-- what there is at homes of some instances, and under way between them
unfoldable pub alive : UniversalAsset → Choice → Part → ℕ
alive a choice p = if is_home a p.table then stock a choice p + flight a choice p else 0

unfoldable pub population : UniversalAsset → Choice → WorldView → ℕ
population a choice w = sum_by (alive a choice) w

-- Owed, of a chain to its reserve, and what the chain burned of it
abbrev pub owed : UniversalAsset → Count → Part → Part → ℕ
owed a count c r = debt a count c + withdrawals (chain_of_part r) a count c + deposits (chain_of_part c) a count r

-- each row of a derivative is covered at its reserve, whatever is counted
abbrev pub Backed : WorldView → Type 0
Backed w = (i j : ℕ) (c r : Part) (row : AssetRow) (count : Count) → slice_get w i ≡ Some c → slice_get w j ≡ Some r
    → IsIn c.table.rows row → row.role ≡ Derivative (chain_of_part r)
    → owed (asset_of_row c.table row) count c r ≤ held_for (chain_of_part c) (asset_of_row c.table row) count r

-- of each derivative of the first chain, what the second keeps for it, less what is owed and what the first chain burned of it, is no less than
-- before: the cover doesn't shrink
abbrev pub KeepsCover : (c c' r r' : Part) → Type 0
KeepsCover c c' r r' = (row : AssetRow) (count : Count) → IsIn c.table.rows row → row.role ≡ Derivative (chain_of_part r)
    → owed (asset_of_row c.table row) count c' r' + held_for (chain_of_part c) (asset_of_row c.table row) count r
    ≤ owed (asset_of_row c.table row) count c r + held_for (chain_of_part c) (asset_of_row c.table row) count r'

-- nor does any cover, from one world of a network to another
abbrev pub NoCoverShrinks : WorldView → WorldView → Type 0
NoCoverShrinks old new = (i j : ℕ) (c c' r r' : Part) → slice_get old i ≡ Some c → slice_get new i ≡ Some c' → slice_get old j ≡ Some r → slice_get new j ≡ Some r'
    → KeepsCover c c' r r'
