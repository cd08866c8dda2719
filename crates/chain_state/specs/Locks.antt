-- A lock that may be set, and a message about it that a channel takes. This project's own.
use Rattle.std.specs.Prelude.{◌≡◌, ℕ, true, false, List, Option, Some, nat_le}
use Rattle.std.specs.Option.{option_map_or}
use Rattle.locations.specs.declared.relative.Location.{Location}
use Rattle.chain_ids.specs.declared.chain.ChainId.{ChainId}
use Rattle.operands.specs.declared.error.XcmError.{XcmError}
use Rattle.operands.specs.declared.error.XcmError.TheVariants as error
use Rattle.asset_lists.specs.declared.units.Asset.{Asset}
use Rattle.asset_lists.specs.Units.{amount_of}
use Rattle.asset_locks.specs.LockMaps.{LockKey, NoteKey, noted}
use Rattle.xcm_program.specs.declared.instruction.Instruction.{Instruction}
use Rattle.exec_base.specs.Part.{ChainPart}
use Rattle.exec_base.specs.Sending.{unless}
use Rattle.exec_base.specs.Host.{where_locks, lock_key, is_lockable, request_key}
use Rattle.chain_state.specs.Sends.{IsAcceptedByChannel}

-- the asset may be locked under the key; or it may not, whatever comes after
pub record MayLock (p : ChainPart) (a : Asset) (owner unlocker : Location) (key : LockKey) : Type 0 where
  pub on : p.locks ≡ true
  pub is : lock_key p a owner unlocker ≡ Some key
  pub enough : is_lockable p a key ≡ true

abbrev pub MayNotLock : ChainPart → Asset → Location → Location → Type 0
MayNotLock p a owner unlocker =
    (rest : Option XcmError) → where_locks p (unless (option_map_or (is_lockable p a) (lock_key p a owner unlocker) false) error.LockError rest) ≡ Some error.LockError

-- so much is noted under the key; or it isn't, whatever comes after
pub record MayRequest (p : ChainPart) (a : Asset) (owner locker : Location) (key : NoteKey) : Type 0 where
  pub on : p.locks ≡ true
  pub is : request_key a owner locker ≡ Some key
  pub enough : nat_le (amount_of a) (noted key p.locked) ≡ true

abbrev pub MayNotRequest : ChainPart → Asset → Location → Location → Type 0
MayNotRequest p a owner locker =
    (rest : Option XcmError) → where_locks p (unless (option_map_or (λ (k : NoteKey). nat_le (amount_of a) (noted k p.locked)) (request_key a owner locker) false) error.LockError rest) ≡ Some error.LockError

-- the program is there, and the channel takes it
pub record IsTold (p : ChainPart) (dest : Location) (o : Option (List Instruction)) (to : ChainId) (bytes : List ℕ) : Type 0 where
  pub program : List Instruction
  pub is : o ≡ Some program
  pub taken : IsAcceptedByChannel p dest program to bytes
