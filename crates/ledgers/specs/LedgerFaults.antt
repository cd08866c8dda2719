-- Why a ledger refuses a move. Memory is refused only to a move that nothing else forbids.
use Rattle.std.specs.Prelude.{◌≡◌, ℕ, List, None, Some, IsSome, IsSomeAnd}
use Rattle.amounts.specs.Amounts.{amount}
use Rattle.asset_lists.specs.declared.units.Asset.{Asset}
use Rattle.asset_lists.specs.Units.{unit_of, instance_in}
use Rattle.ledgers.specs.declared.faults.LedgerFault.{LedgerFault}
use Rattle.ledgers.specs.declared.faults.TransferFault.{TransferFault}
use Rattle.ledgers.specs.declared.faults.DepositFault.{DepositFault}
use Rattle.ledgers.specs.Ledgers.{Held, Accounts, IsOwner, Withdrawn, shortage, barred}

-- the first asset of which there isn't enough decides
abbrev pub IsLedgerFault : Held → List ℕ → List Asset → LedgerFault → Type 0
IsLedgerFault held who assets (LedgerFault.NotEnough have) = shortage held who assets ≡ Some have
IsLedgerFault held who assets LedgerFault.Memory = shortage held who assets ≡ None

-- why the account can't take this asset in: an amount would pass 2^128-1, or an instance has an owner
abbrev pub IsBarred : Held → List ℕ → Asset → DepositFault → Type 0
IsBarred held who a (DepositFault.Overflow have) = (instance_in a.fun ≡ None) × (have ≡ amount held (who, unit_of a))
IsBarred held who a (DepositFault.InstanceExists owner) = IsSome (instance_in a.fun) × IsOwner held (unit_of a) owner
IsBarred held who a DepositFault.Memory = ⊥

-- why it can't take in the first of these assets that it can't take in
abbrev pub IsFirstBarred : Held → List ℕ → List Asset → DepositFault → Type 0
IsFirstBarred held who assets fault = IsSomeAnd (barred held who assets) (λ a. IsBarred held who a fault)

-- the first asset that can't be taken in decides
abbrev pub IsDepositFault : Held → List ℕ → List Asset → DepositFault → Type 0
IsDepositFault held who assets (DepositFault.Overflow have) = IsFirstBarred held who assets (DepositFault.Overflow have)
IsDepositFault held who assets (DepositFault.InstanceExists owner) = IsFirstBarred held who assets (DepositFault.InstanceExists owner)
IsDepositFault held who assets DepositFault.Memory = barred held who assets ≡ None

-- a transfer is the withdrawal and then the deposit: the giver has all of it, and the receiver can take it in once it is given
pub record IsTransferable (ledger : Accounts) (from to : List ℕ) (assets : List Asset) : Type 0 where
  pub enough : shortage ledger.held from assets ≡ None
  pub free : barred (Withdrawn from assets ledger).held to assets ≡ None

-- the giver's assets come first, and then the receiver's. An instance that was given has no owner, so it bars nobody
abbrev pub IsTransferBar : Accounts → List ℕ → List ℕ → List Asset → TransferFault → Type 0
IsTransferBar ledger from to assets (TransferFault.NotEnough have) = shortage ledger.held from assets ≡ Some have
IsTransferBar ledger from to assets (TransferFault.Overflow have) = (shortage ledger.held from assets ≡ None) × IsFirstBarred (Withdrawn from assets ledger).held to assets (DepositFault.Overflow have)
IsTransferBar ledger from to assets TransferFault.Memory = ⊥

abbrev pub IsTransferFault : Accounts → List ℕ → List ℕ → List Asset → TransferFault → Type 0
IsTransferFault ledger from to assets (TransferFault.NotEnough have) = IsTransferBar ledger from to assets (TransferFault.NotEnough have)
IsTransferFault ledger from to assets (TransferFault.Overflow have) = IsTransferBar ledger from to assets (TransferFault.Overflow have)
IsTransferFault ledger from to assets TransferFault.Memory = IsTransferable ledger from to assets
