-- What each call of an instruction does to floors and locks.
use Rattle.std.proofs.Common.{◌≡◌, List, [], ◌∷◌, Some, None, sym, ap, ◌∙◌, subst}
use Rattle.asset_lists.specs.declared.units.Asset.{Asset}
use Rattle.asset_lists.specs.Lists.{IsAssetList}
use Rattle.asset_lists.specs.Units.{amount_of}
use Rattle.asset_bundles.specs.Bundles.{IsHolding, bundle_of}
use Rattle.asset_locks.specs.LockMaps.{LockKey, LocksAndNotes}
use Rattle.xcm_program.specs.declared.instruction.Instruction.{Instruction, out-Instruction}
use Rattle.xcm_program.specs.declared.instruction.Instruction.TheOpen.{Instruction-F}
use Rattle.exec_base.specs.declared.settings.Settings.{Settings}
use Rattle.exec_base.specs.Sending.{sent}
use Rattle.exec_base.specs.Host.{given, withdraw_refusal, withdrawn, deposited, transfer_refusal, transferred, transfer_out_refusal, transferred_out, deposited_out, fee_drawn, lock_key, asset_unlocked, note_key, asset_noted, request_key}
use Rattle.exec_rules.specs.Machine.{Machine}
use Rattle.exec_rules.specs.Run.{Halted}
use Rattle.exec_rules.proofs.Lemmas.AnswerLaws.{none_first}
use Rattle.exec_rules.specs.Instructions.{xcm}
use Rattle.exec_rules.specs.Stopping.{leaves_on_oom}
use Rattle.exec_rules.specs.HostCalls.{MachineWithGoods, between, MachineCall, why_not, after}
use Rattle.exec_rules.specs.Reasons.{IsFrom, Moment, HasReason}
use Rattle.exec_rules.proofs.Lemmas.ReasonLaws.{each_keeps}
use Rattle.exec_rules.proofs.Lemmas.KeptLaws.{halted_keeps}
use Rattle.law_runs.specs.Safety.{HasList}
use Rattle.law_authority.specs.Origins.{speaker_at}
use Rattle.law_steps.specs.Calm.{IsMute}
use Rattle.law_hosts.specs.Floors.{HasFloors, HoldsFloors, NoPoolLocks, FreesPools}
use Rattle.law_hosts.proofs.Lemmas.{HasOnce, one_once, holding_once, given_floors, got_floors, settled_floors, held_floors, unlocked_floors, noted_floors, reduced_floors, locked_floors, exchanged_floors, locking_frees, unlocking_frees, noting_frees, reducing_frees}
use Rattle.law_authority.specs.Floors.{KeepsChainFloors, FallsOnly, RisesOnly, IsUnlocking, LetsFall, IsSpeakers}
use Rattle.law_authority.proofs.Locking.{locked_is, requested_is, same_falls, same_rises, then_falls, then_rises, locked_falls, locked_rises, unlocked_falls, unlocked_rises, noted_falls, noted_rises, reduced_falls, reduced_rises, lock_on, lock_by}

-- ---- floors
abbrev pub Holding : Type 0
Holding = (xs : List Asset) → IsAssetList xs → IsHolding xs

-- the list of an instruction has each unit once
listed_once : Holding → (l k : Instruction-F Instruction) (list : List Asset) → HasList Instruction l → l ≡ k → (HasList Instruction k → IsAssetList list) → HasOnce list
listed_once holding l k list fits is says = holding_once list (holding list (says (subst (HasList Instruction) is fits)))

module _ (holding : Holding) where
  pub call_floors : (moment : Moment) (l : Instruction-F Instruction) (m : Machine) (c : MachineCall) (t : MachineWithGoods) → HasList Instruction l → HasReason moment l m t c → why_not c t ≡ None → FreesPools t.part → HoldsFloors t.part → HoldsFloors (after c t).part
  unfolding withdraw_refusal withdrawn deposited transfer_refusal transferred transfer_out_refusal transferred_out deposited_out fee_drawn asset_unlocked asset_noted sent
  call_floors moment l m (MachineCall.Withdraw list who) t fits asks ok free floors = given_floors t.part list (listed_once holding l (Instruction-F.WithdrawAsset list) list fits asks.2 (λ h. h)) floors who ok
  call_floors moment l m (MachineCall.Draw fee who) t fits asks ok free floors = given_floors t.part (fee ∷ []) (one_once fee) floors who ok
  call_floors moment l m (MachineCall.Transfer list from to) t fits asks ok free floors =
      got_floors (given t.part list from) (bundle_of list) to (given_floors t.part list (listed_once holding l (Instruction-F.TransferAsset list to) list fits asks.2 (λ h. h)) floors from (none_first _ _ ok))
  call_floors moment l m (MachineCall.TransferOut list from dest program) t fits asks ok free floors =
      got_floors (given t.part list from) (bundle_of list) dest
      (given_floors t.part list (listed_once holding l (Instruction-F.TransferReserveAsset list dest program) list fits asks.2 (λ h. h)) floors from (none_first _ _ (none_first _ _ ok)))
  call_floors moment l m (MachineCall.Deposit who) t fits asks ok free floors = got_floors t.part t.goods who floors
  call_floors moment l m (MachineCall.DepositOut dest program) t fits asks ok free floors = got_floors t.part t.goods dest floors
  call_floors moment l m (MachineCall.Exchange want maximal) t fits asks ok free floors = exchanged_floors t.part t.goods want maximal free floors
  call_floors moment l m (MachineCall.Dispatch account c) t fits asks ok free floors = held_floors t.part account c floors
  call_floors moment l m MachineCall.Settle t fits asks ok free floors = settled_floors t.part floors
  call_floors moment l m (MachineCall.Lock a owner unlocker) t fits asks ok free floors =
      subst (λ (locked : LocksAndNotes). HasFloors locked t.part.held) (sym (locked_is t.part a owner unlocker)) (locked_floors t.part a owner unlocker ok floors)
  call_floors moment l m (MachineCall.Unlock a target from) t fits asks ok free floors = unlocked_floors (lock_key t.part a target from) (amount_of a) t.part.locked t.part.held floors
  call_floors moment l m (MachineCall.Note a owner from) t fits asks ok free floors = noted_floors (note_key a owner from) (amount_of a) t.part.locked t.part.held floors
  call_floors moment l m (MachineCall.Request a owner locker) t fits asks ok free floors =
      subst (λ (locked : LocksAndNotes). HasFloors locked t.part.held) (sym (requested_is t.part a owner locker)) (reduced_floors (request_key a owner locker) (amount_of a) t.part.locked t.part.held floors)
  call_floors moment l m _ t fits asks ok free floors = floors

-- no account of a pool gets a lock
call_frees : (c : MachineCall) (t : MachineWithGoods) → why_not c t ≡ None → FreesPools t.part → FreesPools (after c t).part
unfolding asset_unlocked asset_noted
call_frees (MachineCall.Lock a owner unlocker) t ok free = subst (NoPoolLocks t.part.pools) (sym (locked_is t.part a owner unlocker)) (locking_frees t.part a owner unlocker ok free)
call_frees (MachineCall.Unlock a target from) t ok free = unlocking_frees t.part.pools (lock_key t.part a target from) (amount_of a) t.part.locked free
call_frees (MachineCall.Note a owner from) t ok free = noting_frees t.part.pools (note_key a owner from) (amount_of a) t.part.locked free
call_frees (MachineCall.Request a owner locker) t ok free = subst (NoPoolLocks t.part.pools) (sym (requested_is t.part a owner locker)) (reducing_frees t.part.pools (request_key a owner locker) (amount_of a) t.part.locked free)
call_frees _ t ok free = free

pub call_keeps : Holding → (moment : Moment) (l : Instruction-F Instruction) (m : Machine) (c : MachineCall) (t : MachineWithGoods) → HasList Instruction l → HasReason moment l m t c → why_not c t ≡ None → KeepsChainFloors t.part → KeepsChainFloors (after c t).part
call_keeps holding moment l m c t fits asks ok h = (call_floors holding moment l m c t fits asks ok h.1 h.0, call_frees c t ok h.1)

-- ---- which locks fall
abbrev Lets : Instruction-F Instruction → Machine → LockKey → Type 0
Lets l m key = (m.regs.origin ≡ Some key.2) × IsUnlocking l

pub call_falls : (moment : Moment) (l : Instruction-F Instruction) (m : Machine) (c : MachineCall) (t : MachineWithGoods) → HasReason moment l m t c → FallsOnly (Lets l m) t.part.locked (after c t).part.locked
unfolding asset_unlocked asset_noted
call_falls moment l m (MachineCall.Lock a owner unlocker) t asks =
    subst (FallsOnly (Lets l m) t.part.locked) (sym (locked_is t.part a owner unlocker)) (locked_falls (Lets l m) (lock_key t.part a owner unlocker) (amount_of a) t.part.locked)
call_falls moment l m (MachineCall.Unlock a target from) t asks =
    unlocked_falls (Lets l m) (lock_key t.part a target from) (amount_of a) t.part.locked (λ k e. (asks.0 ∙ ap Some (sym (lock_by t.part a target from k e)), (a, target, asks.1)))
call_falls moment l m (MachineCall.Note a owner from) t asks = noted_falls (Lets l m) (note_key a owner from) (amount_of a) t.part.locked
call_falls moment l m (MachineCall.Request a owner locker) t asks =
    subst (FallsOnly (Lets l m) t.part.locked) (sym (requested_is t.part a owner locker)) (reduced_falls (Lets l m) (request_key a owner locker) (amount_of a) t.part.locked)
call_falls moment l m _ t asks = same_falls (Lets l m) t.part.locked

-- ---- and which rise
abbrev Speakers : MachineWithGoods → Machine → LockKey → Type 0
Speakers t m key = speaker_at t.part.site m.regs.origin ≡ Some key.0

pub call_rises : (moment : Moment) (l : Instruction-F Instruction) (m : Machine) (c : MachineCall) (t : MachineWithGoods) → HasReason moment l m t c → RisesOnly (Speakers t m) t.part.locked (after c t).part.locked
unfolding asset_unlocked asset_noted
call_rises moment l m (MachineCall.Lock a owner unlocker) t asks =
    subst (RisesOnly (Speakers t m) t.part.locked) (sym (locked_is t.part a owner unlocker))
    (locked_rises (Speakers t m) (lock_key t.part a owner unlocker) (amount_of a) t.part.locked (λ k e. ap (speaker_at t.part.site) asks.1 ∙ lock_on t.part a owner unlocker k e))
call_rises moment l m (MachineCall.Unlock a target from) t asks = unlocked_rises (Speakers t m) (lock_key t.part a target from) (amount_of a) t.part.locked
call_rises moment l m (MachineCall.Note a owner from) t asks = noted_rises (Speakers t m) (note_key a owner from) (amount_of a) t.part.locked
call_rises moment l m (MachineCall.Request a owner locker) t asks =
    subst (RisesOnly (Speakers t m) t.part.locked) (sym (requested_is t.part a owner locker)) (reduced_rises (Speakers t m) (request_key a owner locker) (amount_of a) t.part.locked)
call_rises moment l m _ t asks = same_rises (Speakers t m) t.part.locked

-- where an instruction that tells of a lock is refused, none rises
never_locks : (May : LockKey → Type 0) (moment : Moment) (l : Instruction-F Instruction) (m : Machine) (c : MachineCall) (t : MachineWithGoods) → IsMute l m → HasReason moment l m t c → RisesOnly May t.part.locked (after c t).part.locked
unfolding asset_unlocked asset_noted
never_locks May moment l m (MachineCall.Lock a owner unlocker) t mute asks =
    absurd (let no_way : None ≡ Some owner = sym (subst (λ (k : Instruction-F Instruction). IsMute k m) asks.2 mute) ∙ asks.1 in cc no_way)
never_locks May moment l m (MachineCall.Unlock a target from) t mute asks = unlocked_rises May (lock_key t.part a target from) (amount_of a) t.part.locked
never_locks May moment l m (MachineCall.Note a owner from) t mute asks = noted_rises May (note_key a owner from) (amount_of a) t.part.locked
never_locks May moment l m (MachineCall.Request a owner locker) t mute asks =
    subst (RisesOnly May t.part.locked) (sym (requested_is t.part a owner locker)) (reduced_rises May (request_key a owner locker) (amount_of a) t.part.locked)
never_locks May moment l m _ t mute asks = same_rises May t.part.locked

-- ---- whole instructions, accepted or not, and where memory is refused in them
module _ (x : Instruction) (m : Machine) where
  abbrev FallsTo : MachineWithGoods → Type 0
  FallsTo t = FallsOnly (LetsFall x m) m.part.locked t.part.locked

  falls_on : (c : MachineCall) (t : MachineWithGoods) → HasReason Moment.Inside (out-Instruction x) m t c → FallsTo t → FallsTo (after c t)
  falls_on c t asks h = then_falls (LetsFall x m) m.part.locked t.part.locked (after c t).part.locked h (call_falls Moment.Inside (out-Instruction x) m c t asks)

  pub done_falls : FallsOnly (LetsFall x m) m.part.locked (xcm.done x m).part.locked
  done_falls = each_keeps (out-Instruction x) m FallsTo (λ c t asks from h. falls_on c t asks h) (λ t from h. h) (same_falls (LetsFall x m) m.part.locked)

  pub halted_falls : (now : Machine) → Halted xcm leaves_on_oom x m now → FallsOnly (LetsFall x m) m.part.locked now.part.locked
  halted_falls now h = halted_keeps x m FallsTo (λ c t asks from ok k. falls_on c t asks k) (λ t from k. k) now h (same_falls (LetsFall x m) m.part.locked)

  abbrev RisesTo : MachineWithGoods → Type 0
  RisesTo t = RisesOnly (IsSpeakers m) m.part.locked t.part.locked

  rises_on : (c : MachineCall) (t : MachineWithGoods) → HasReason Moment.Inside (out-Instruction x) m t c → IsFrom m t → RisesTo t → RisesTo (after c t)
  rises_on c t asks from h = then_rises (IsSpeakers m) m.part.locked t.part.locked (after c t).part.locked h
      (subst (λ (s : Settings). RisesOnly (λ (key : LockKey). speaker_at s.site m.regs.origin ≡ Some key.0) t.part.locked (after c t).part.locked) from.settings (call_rises Moment.Inside (out-Instruction x) m c t asks))

  pub done_rises : RisesOnly (IsSpeakers m) m.part.locked (xcm.done x m).part.locked
  done_rises = each_keeps (out-Instruction x) m RisesTo rises_on (λ t from h. h) (same_rises (IsSpeakers m) m.part.locked)

  pub halted_rises : (now : Machine) → Halted xcm leaves_on_oom x m now → RisesOnly (IsSpeakers m) m.part.locked now.part.locked
  halted_rises now h = halted_keeps x m RisesTo (λ c t asks from ok k. rises_on c t asks from k) (λ t from k. k) now h (same_rises (IsSpeakers m) m.part.locked)

  -- none rises where it is mute
  module _ (May : LockKey → Type 0) (start : LocksAndNotes) (mute : IsMute (out-Instruction x) m) where
    abbrev NoneTo : MachineWithGoods → Type 0
    NoneTo t = RisesOnly May start t.part.locked

    none_on : (c : MachineCall) (t : MachineWithGoods) → HasReason Moment.Inside (out-Instruction x) m t c → NoneTo t → NoneTo (after c t)
    none_on c t asks h = then_rises May start t.part.locked (after c t).part.locked h (never_locks May Moment.Inside (out-Instruction x) m c t mute asks)

    pub done_none : NoneTo (between m) → RisesOnly May start (xcm.done x m).part.locked
    done_none h = each_keeps (out-Instruction x) m NoneTo (λ c t asks from k. none_on c t asks k) (λ t from k. k) h

    pub halted_none : (now : Machine) → Halted xcm leaves_on_oom x m now → NoneTo (between m) → RisesOnly May start now.part.locked
    halted_none now h k = halted_keeps x m NoneTo (λ c t asks from ok j. none_on c t asks j) (λ t from j. j) now h k
