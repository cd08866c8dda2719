use Rattle.std.proofs.Common.{◌<◌, ℕ, refl, sym, ap, ◌∙◌, subst}
use Rattle.xcm_program.specs.declared.instruction.Instruction.TheOpen.{Instruction-F}
use Rattle.asset_locks.specs.LockMaps.{LocksAndNotes, Locked, LockKey}
use Rattle.exec_base.specs.Sending.{number_to, named_refusal}
use Rattle.exec_base.specs.Host.{asset_locked, note_program, lock_refusal}
use Rattle.chain_state.specs.PartOf.{part_of}
use Rattle.chain_state.proofs.Led.{taken_free, taken_spelled, number_is}
use Rattle.chain_state.proofs.Locked.{lock_goes, told_goes, lock_leaves, posted_at, amount_here, some_amount, fault_of}
use Rattle.law_hosts.specs.Floors.{HasFloors}
use Rattle.law_hosts.proofs.Lemmas.{locked_frees, lockable_apart, lockable_floors}
use Rattle.chain_state.proofs.Floored.{after_either}
use Rattle.chain_state.specs.Facts.{KeepsLockFloors}
use Rattle.chain_state.proofs.Lemmas.Facts.{keeps_floors}
use Rattle.chain_state.specs.Known.{floors_there, pools_free}
use Rattle.chain_state.proofs.state.ChainState.lock.Goals as goal

pub returns-in_default : goal.returns-in_default
unfolding lock_refusal
returns-in_default c = record { step = (c.in_default.ensures (named_refusal (part_of c.args.self.now) c.args.unlocker.now (note_program (part_of c.args.self.now) c.args.asset.now c.args.owner.now c.args.unlocker.now)), refl) }

pub returns-in-Err : goal.returns-in-Err
returns-in-Err c = record { step = fault_of (lock_refusal (part_of c.args.self.now) c.args.asset.now c.args.owner.now c.args.unlocker.now) (named_refusal (part_of c.args.self.now) c.args.unlocker.now (note_program (part_of c.args.self.now) c.args.asset.now c.args.owner.now c.args.unlocker.now)) (number_to (part_of c.args.self.now) c.args.unlocker.now) (asset_locked (part_of c.args.self.now) c.args.asset.now c.args.owner.now c.args.unlocker.now) (part_of c.args.self.now) c.in-Err.fault (lock_goes (part_of c.args.self.now) c.args.asset.now c.args.owner.now c.args.unlocker.now _ c.in-Some.ensures) c.in-Err.ensures }

pub lock-requires : goal.lock-requires
lock-requires c = record { some = subst (λ n. 0 < n) (sym c.amount.ensures) (some_amount c.args.asset.now (amount_here (Instruction-F.LockAsset c.args.asset.now c.args.unlocker.now) c.requires.forwardable)) }

pub post-requires-clause-spelled : goal.post-requires-clause-spelled
post-requires-clause-spelled c = taken_spelled (part_of c.args.self.now) c.args.unlocker.now c.in-Ok.ensures.program c.in-Ok.ready.0 c.in-Ok.ready.1.items c.in-Ok.ensures.taken

pub post-requires-clause-free : goal.post-requires-clause-free
post-requires-clause-free c = taken_free (part_of c.args.self.now) c.args.unlocker.now c.in-Ok.ensures.program c.in-Ok.ready.0 c.in-Ok.ready.1.items c.in-Ok.ensures.taken

pub returns : goal.returns
returns c =
    let p = part_of c.args.self.now in
    let dest = c.args.unlocker.now in
    let to = c.in-Ok.ready.0 in
    let bytes = c.in-Ok.ready.1.items in
    let told = c.in-Ok.ensures in
    let may = c.in-Some.ensures in
    let number = c.post.ensures.number in
    record {
      step = (
        lock_goes p c.args.asset.now c.args.owner.now dest _ may ∙ told_goes p dest _ to bytes told,
        number_is p dest told.program to bytes c.post.result told.taken number,
        c.post.ensures.posted
            ∙ (λ i. posted_at to bytes c.post.result (record p { locked = (c.in_ok-lock.ensures.locked ∙ ap (λ n. Locked (c.in-Some.place.0, c.in-Some.place.1.now, c.args.unlocker.now) n (part_of c.args.self.now).locked) c.amount.ensures) i; pending_events = c.reserve.ensures.items i }))
            ∙ lock_leaves p c.args.asset.now c.args.owner.now dest _ to bytes c.post.result may told number,
      );
    }

pub invariant_of-self-2-clause-floors : goal.invariant_of-self-2-clause-floors
invariant_of-self-2-clause-floors c =
    let f = c.args.self.now in
    let p = part_of f in
    let key : LockKey = (c.in-Some.place.0, c.in-Some.place.1.now, c.args.unlocker.now) in
    let n = c.amount.result in
    let may = c.in-Some.ensures in
    let locked = subst (λ (a : ℕ). HasFloors (Locked key a f.locked) f.ledger.held) (sym c.amount.ensures) (lockable_floors p c.args.asset.now c.args.owner.now c.args.unlocker.now key may.is may.enough (floors_there f)) in
    after_either (λ (l : LocksAndNotes). KeepsLockFloors f.settings.pools l f.ledger.held) f.locked (Locked key n f.locked) c.lock.new.self c.lock.result c.lock.ensures.locked c.lock.ensures.kept
    f.floors (keeps_floors _ _ _ locked (locked_frees f.settings.pools key n f.locked (lockable_apart p c.args.asset.now key c.in-Some.ensures.enough) (pools_free f)))
