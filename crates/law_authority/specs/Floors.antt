-- What accounts must keep, who may let a lock fall, and on whose account a lock may be set. This project's own rule.
use Rattle.std.specs.Prelude.{◌≡◌, ◌<◌, true, Some}
use Rattle.std.specs.List.{AllByRecursion}
use Rattle.locations.specs.declared.relative.Location.{Location}
use Rattle.asset_lists.specs.declared.units.Asset.{Asset}
use Rattle.asset_locks.specs.LockMaps.{LockKey, LocksAndNotes, no_locks, lock_at}
use Rattle.xcm_program.specs.declared.instruction.Instruction.{Instruction, out-Instruction}
use Rattle.xcm_program.specs.declared.instruction.Instruction.TheOpen.{Instruction-F}
use Rattle.channel_parts.specs.Channels.{Waiting, Outgoing}
use Rattle.exec_base.specs.Part.{ChainPart}
use Rattle.law_hosts.specs.Floors.{HoldsFloors, FreesPools}
use Rattle.exec_rules.specs.Machine.{Machine}
use Rattle.law_runs.specs.Safety.{AreLists}
use Rattle.network_steps.specs.Worlds.{Member, World}
use Rattle.network_steps.specs.Steps.{is_sovereign}
use Rattle.law_authority.specs.Origins.{speaker_of}

-- ---- locks that fall, and that rise

-- each lock that is lower than before is one of these; each that is higher is one of these
abbrev pub FallsOnly : (LockKey → Type 0) → LocksAndNotes → LocksAndNotes → Type 0
FallsOnly May old new = (key : LockKey) → lock_at key new < lock_at key old → May key

abbrev pub RisesOnly : (LockKey → Type 0) → LocksAndNotes → LocksAndNotes → Type 0
RisesOnly May old new = (key : LockKey) → lock_at key old < lock_at key new → May key

abbrev pub IsUnlocking : Instruction-F Instruction → Type 0
IsUnlocking l = (asset : Asset) × (target : Location) × (l ≡ Instruction-F.UnlockAsset asset target)

-- the instruction unlocks, and the origin is the lock's unlocker
abbrev pub LetsFall : Instruction → Machine → LockKey → Type 0
LetsFall x m key = (m.regs.origin ≡ Some key.2) × IsUnlocking (out-Instruction x)

-- the lock is on the account for which the instruction speaks
abbrev pub IsSpeakers : Machine → LockKey → Type 0
IsSpeakers m key = speaker_of m ≡ Some key.0

-- no account of a whole chain has a lock
abbrev pub NoSovereignLocks : LocksAndNotes → Type 0
NoSovereignLocks l = (key : LockKey) → is_sovereign key.0 ≡ true → lock_at key l ≡ 0

-- each account has at least its floor of each asset, and no account of a pool has a lock
abbrev pub KeepsChainFloors : ChainPart → Type 0
KeepsChainFloors p = HoldsFloors p × FreesPools p

-- in the whole network
abbrev pub AllHoldFloors : World → Type 0
AllHoldFloors w = AllByRecursion (λ (m : Member). KeepsChainFloors m.part) w

abbrev pub NoneSovereign : World → Type 0
NoneSovereign w = AllByRecursion (λ (m : Member). NoSovereignLocks m.part.locked) w

-- ---- lists of what waits

-- the lists of a message are in order, those of all that waits at a chain, and of all that waits in the network
abbrev pub HasLists : Waiting → Type 0
HasLists x = AllByRecursion AreLists x.program

abbrev pub WaitInOrder : ChainPart → Type 0
WaitInOrder p = AllByRecursion (λ (c : Outgoing). AllByRecursion HasLists c.queue) p.channels

abbrev pub AllInOrder : World → Type 0
AllInOrder w = AllByRecursion (λ (m : Member). WaitInOrder m.part) w

-- nothing is locked in the network
abbrev pub NothingLocked : World → Type 0
NothingLocked w = AllByRecursion (λ (m : Member). m.part.locked ≡ no_locks) w
