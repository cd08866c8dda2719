-- A lock that may be set, or a note that may be asked for, isn't refused for itself; what is sent of it is in its channel.
use Rattle.std.proofs.Common.{◌≡◌, ◌++◌, ◌+◌, ◌<◌, ℕ, Bool, true, false, ◌&&◌, List, [], ◌∷◌, refl, sym, ap, ◌∙◌, subst, arith}
use Rattle.std.specs.Prelude.{Option, None, Some, Err, nat_le, nat_eq, IsFalse}
use Rattle.std.specs.Option.{option_map, option_map_or}
use Rattle.std.proofs.lemmas.Bool.Decides.{nat_tests}
use Rattle.locations.specs.declared.relative.Location.{Location}
use Rattle.chain_ids.specs.declared.chain.ChainId.{ChainId}
use Rattle.operands.specs.declared.error.XcmError.{XcmError}
use Rattle.operands.specs.declared.error.XcmError.TheVariants as error
use Rattle.asset_lists.specs.declared.units.Asset.{Asset}
use Rattle.asset_lists.specs.declared.units.AssetId.{AssetId}
use Rattle.asset_lists.specs.declared.units.Fun.{Fun}
use Rattle.asset_lists.specs.Units.{amount_of, amount_in, is_zero}
use Rattle.asset_lists.specs.Moves.{reanchored_id, moved}
use Rattle.locations.specs.declared.grammar.Junction.{Junction}
use Rattle.asset_locks.specs.LockMaps.{LockKey, NoteKey, LocksAndNotes, noted, Locked, Reduced}
use Rattle.xcm_program.specs.declared.instruction.Instruction.{Instruction, roll-Instruction, out-roll-Instruction}
use Rattle.xcm_program.specs.declared.instruction.Instruction.TheOpen.{Instruction-F}
use Rattle.xcm_program.specs.Everywhere.{AllInside}
use Rattle.xcm_program.specs.Measure.{inner, deep_count_one}
use Rattle.xcm_program.specs.Conversions.{names_concrete_ids, is_concrete_id, is_convertible_one, HasAmount, HasAmounts}
use Rattle.xcm_program.proofs.Lemmas.{deep_count_inside, deep_count_one-is, convertible_inside, is_convertible_one-is, amounts_open, amounts_here}
use Rattle.channel_parts.specs.Channels.{Outgoing}
use Rattle.channel_parts.specs.declared.cargo.Cargo.{Cargo}
use Rattle.versioned_xcm.specs.Reading.{message_of}
use Rattle.chain_queues.specs.Decoded.{program_read}
use Rattle.chain_queues.specs.Queues as queues
use Rattle.chain_queues.specs.Queues.{pushed}
use Rattle.exec_base.specs.declared.event.Event.{Event}
use Rattle.exec_base.specs.Part.{ChainPart}
use Rattle.exec_base.specs.Sending.{unless, named_refusal, named_sent, IsForwardable}
use Rattle.exec_base.specs.Host.{lock_key, is_lockable, note_program, with_lock, lock_refusal, asset_locked, request_key, unlock_program, with_less_noted, request_refusal, asset_requested}
use Rattle.exec_base.specs.declared.faults.HostFault.{HostFault}
use Rattle.exec_base.specs.declared.faults.HostFault.TheVariants.{Xcm, Memory}
use Rattle.exec_base.specs.Answers.{AnswersOrRefuses}
use Rattle.chain_state.specs.Sends.{IsAcceptedByChannel, IsSendFault}
use Rattle.chain_state.specs.Locks.{MayLock, MayRequest, IsTold}
use Rattle.chain_state.proofs.Led.{sent_is}
use Rattle.chain_state.proofs.Sendable.{unrefused_by}
use Rattle.chain_state.proofs.Forwarding.{moved_place}

-- ---- refusals
pub lock_goes : (p : ChainPart) (a : Asset) (owner unlocker : Location) (key : LockKey) → MayLock p a owner unlocker key → lock_refusal p a owner unlocker ≡ named_refusal p unlocker (note_program p a owner unlocker)
unfolding lock_refusal
lock_goes p a owner unlocker key m =
    let rest = named_refusal p unlocker (note_program p a owner unlocker) in
    ap (λ (b : Bool). unless b error.LockError (unless (option_map_or (is_lockable p a) (lock_key p a owner unlocker) false) error.LockError rest)) m.on
    ∙ ap (λ (o : Option LockKey). unless (option_map_or (is_lockable p a) o false) error.LockError rest) m.is
    ∙ ap (λ (b : Bool). unless b error.LockError rest) m.enough

pub request_goes : (p : ChainPart) (a : Asset) (owner locker : Location) (key : NoteKey) → MayRequest p a owner locker key → request_refusal p a owner locker ≡ named_refusal p locker (unlock_program p a (Some key) locker)
unfolding request_refusal
request_goes p a owner locker key m =
    let test = λ (k : NoteKey). nat_le (amount_of a) (noted k p.locked) in
    let rest = λ (o : Option NoteKey). named_refusal p locker (unlock_program p a o locker) in
    ap (λ (b : Bool). unless b error.LockError (unless (option_map_or test (request_key a owner locker) false) error.LockError (rest (request_key a owner locker)))) m.on
    ∙ ap (λ (o : Option NoteKey). unless (option_map_or test o false) error.LockError (rest o)) m.is
    ∙ ap (λ (b : Bool). unless b error.LockError (rest (Some key))) m.enough

pub told_goes : (p : ChainPart) (dest : Location) (o : Option (List Instruction)) (to : ChainId) (bytes : List ℕ) → IsTold p dest o to bytes → named_refusal p dest o ≡ None
told_goes p dest o to bytes t = ap (named_refusal p dest) t.is ∙ unrefused_by p dest t.program to bytes t.taken

-- ---- what is then left
abbrev pub posted_at : ChainId → List ℕ → ℕ → ChainPart → ChainPart
posted_at to bytes n q = record q { channels = pushed to (program_read (message_of bytes)) Cargo.Nothing q.channels; pending_events = q.pending_events ++ Event.Sent q.site.chain to n ∷ [] }

pub told_sent : (p : ChainPart) (locked : LocksAndNotes) (dest : Location) (o : Option (List Instruction)) (to : ChainId) (bytes : List ℕ) (n : ℕ) → IsTold p dest o to bytes
    → option_map (λ (c : Outgoing). c.next) (queues.channel_to to p.channels) ≡ Some n → posted_at to bytes n (record p { locked = locked }) ≡ named_sent (record p { locked = locked }) dest o
told_sent p locked dest o to bytes n t number =
    let q : ChainPart = record p { locked = locked } in
    let there : IsAcceptedByChannel q dest t.program to bytes = record { channel = t.taken.channel; found = t.taken.found; accepted = t.taken.accepted } in
    sent_is q dest t.program to bytes Cargo.Nothing n there number ∙ sym (ap (named_sent q dest) t.is)

pub lock_leaves : (p : ChainPart) (a : Asset) (owner unlocker : Location) (key : LockKey) (to : ChainId) (bytes : List ℕ) (n : ℕ) → MayLock p a owner unlocker key → IsTold p unlocker (note_program p a owner unlocker) to bytes
    → option_map (λ (c : Outgoing). c.next) (queues.channel_to to p.channels) ≡ Some n → posted_at to bytes n (record p { locked = Locked key (amount_of a) p.locked }) ≡ asset_locked p a owner unlocker
unfolding asset_locked
lock_leaves p a owner unlocker key to bytes n m t number =
    told_sent p (Locked key (amount_of a) p.locked) unlocker (note_program p a owner unlocker) to bytes n t number
    ∙ ap (λ (o : Option LockKey). named_sent (with_lock p a o) unlocker (note_program p a owner unlocker)) (sym m.is)

pub request_leaves : (p : ChainPart) (a : Asset) (owner locker : Location) (key : NoteKey) (to : ChainId) (bytes : List ℕ) (n : ℕ) → MayRequest p a owner locker key → IsTold p locker (unlock_program p a (Some key) locker) to bytes
    → option_map (λ (c : Outgoing). c.next) (queues.channel_to to p.channels) ≡ Some n → posted_at to bytes n (record p { locked = Reduced key (amount_of a) p.locked }) ≡ asset_requested p a owner locker
unfolding asset_requested
request_leaves p a owner locker key to bytes n m t number =
    told_sent p (Reduced key (amount_of a) p.locked) locker (unlock_program p a (Some key) locker) to bytes n t number
    ∙ ap (λ (o : Option NoteKey). named_sent (with_less_noted p a o) locker (unlock_program p a o locker)) (sym m.is)

-- ---- what is sent may be sent
one_count : (l : Instruction-F Instruction) → deep_count_one (roll-Instruction l) ≡ 1 + deep_count_inside (inner l)
one_count l = deep_count_one-is (roll-Instruction l) ∙ ap (λ (x : Instruction-F Instruction). 1 + deep_count_inside (inner x)) (out-roll-Instruction l)

one_convertible : (l : Instruction-F Instruction) → is_convertible_one (roll-Instruction l) ≡ (names_concrete_ids l && convertible_inside (inner l))
one_convertible l = is_convertible_one-is (roll-Instruction l) ∙ ap (λ (x : Instruction-F Instruction). names_concrete_ids x && convertible_inside (inner x)) (out-roll-Instruction l)

-- the amount of a sound instruction
pub amount_here : (l : Instruction-F Instruction) → IsForwardable (roll-Instruction l ∷ []) → HasAmount Instruction l
amount_here l f = subst (HasAmount Instruction) (out-roll-Instruction l) (amounts_open (roll-Instruction l) f.amounts.0).0

pub some_amount : (a : Asset) → IsFalse (is_zero a) → 0 < amount_of a
some_amount a h = by_fun a.fun h
  where
    by_fun : (f : Fun) → nat_eq (amount_in f) 0 ≡ false → 0 < amount_in f
    by_fun f h = grind (arith, nat_tests, h)

-- one instruction without a program inside
pub one_forwardable : (l : Instruction-F Instruction) → inner l ≡ None → names_concrete_ids l ≡ true → HasAmount Instruction l → IsForwardable (roll-Instruction l ∷ [])
one_forwardable l flat places some = record {
  few = (let a = one_count l in let n = ap deep_count_inside flat in omega (arith, a, n));
  named = ap (λ b. b && true) (one_convertible l ∙ ap (λ b. b && convertible_inside (inner l)) places ∙ ap convertible_inside flat);
  amounts = (amounts_here (roll-Instruction l) (subst (HasAmount Instruction) (sym (out-roll-Instruction l)) some) (subst (λ (x : Instruction-F Instruction). AllInside HasAmounts (inner x)) (sym (out-roll-Instruction l)) (subst (AllInside HasAmounts) (sym flat) tt)), tt);
}

-- an asset as the receiver names it has a location, and its amount
moved_by : (a b : Asset) (o : Option AssetId) → ((id : AssetId) → o ≡ Some id → is_concrete_id id ≡ true) → option_map (λ id. record { id = id; fun = a.fun }) o ≡ Some b → (is_concrete_id b.id ≡ true) × (is_zero b ≡ is_zero a)
moved_by a b None places e = absurd cc
moved_by a b (Some id) places e = (
  ap (λ (x : Asset). is_concrete_id x.id) (sym (same_asset (record { id = id; fun = a.fun }) b e)) ∙ places id refl,
  ap (λ (x : Asset). is_zero x) (sym (same_asset (record { id = id; fun = a.fun }) b e)),
)
  where
    same_asset : (x y : Asset) → Some x ≡ Some y → x ≡ y
    same_asset x y e = cc

pub moved_asset : (target : Location) (context : List Junction) (a b : Asset) → moved target context a ≡ Some b → (is_concrete_id b.id ≡ true) × (is_zero b ≡ is_zero a)
moved_asset target context a b e = moved_by a b (reanchored_id target context a.id) (λ id at. moved_place target context a.id id at) e

-- a fault of sending is the call's, where the rule goes on to sending; all is as it was
pub fault_of : (refusal named : Option XcmError) (number : ℕ) (after p : ChainPart) (fault : HostFault) → refusal ≡ named → IsSendFault named fault → AnswersOrRefuses refusal number after p (Err fault) p
fault_of refusal named number after p (Xcm e) goes h = (goes ∙ h, refl)
fault_of refusal named number after p Memory goes h = refl
