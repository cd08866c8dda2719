use Rattle.std.proofs.Common.{refl, ap, ◌∙◌}
use Rattle.std.specs.Prelude.{Some}
use Rattle.asset_locks.specs.LockMaps.{LocksAndNotes, Reduced, NoteKey}
use Rattle.exec_base.specs.Sending.{number_to, named_refusal}
use Rattle.exec_base.specs.Host.{asset_requested, request_key, unlock_program, request_refusal}
use Rattle.chain_state.specs.PartOf.{part_of}
use Rattle.chain_state.proofs.Led.{taken_free, taken_spelled, taken_decodes, number_is}
use Rattle.chain_state.proofs.Locked.{request_goes, told_goes, request_leaves, posted_at, fault_of}
use Rattle.law_hosts.proofs.Lemmas.{reduced_frees, reduced_floors}
use Rattle.chain_state.proofs.Floored.{after_either}
use Rattle.chain_state.specs.Facts.{KeepsLockFloors}
use Rattle.chain_state.proofs.Lemmas.Facts.{keeps_floors}
use Rattle.chain_state.specs.Known.{floors_there, pools_free}
use Rattle.chain_state.proofs.state.ChainState.request.Goals as goal

pub returns-in_default : goal.returns-in_default
unfolding request_refusal
returns-in_default c = record { step = (c.in_default.ensures (named_refusal (part_of c.args.self.now) c.args.locker.now (unlock_program (part_of c.args.self.now) c.args.asset.now (request_key c.args.asset.now c.args.owner.now c.args.locker.now) c.args.locker.now)), refl) }

pub returns-in-Err : goal.returns-in-Err
returns-in-Err c = record { step = fault_of (request_refusal (part_of c.args.self.now) c.args.asset.now c.args.owner.now c.args.locker.now) (named_refusal (part_of c.args.self.now) c.args.locker.now (unlock_program (part_of c.args.self.now) c.args.asset.now (Some (c.args.locker.now, c.in-Some.place.1.now, c.in-Some.place.0)) c.args.locker.now)) (number_to (part_of c.args.self.now) c.args.locker.now) (asset_requested (part_of c.args.self.now) c.args.asset.now c.args.owner.now c.args.locker.now) (part_of c.args.self.now) c.in-Err.fault (request_goes (part_of c.args.self.now) c.args.asset.now c.args.owner.now c.args.locker.now _ c.in-Some.ensures) (c.in-Err.ensures c.in-Some.place.1.now) }

pub post-requires-clause-message : goal.post-requires-clause-message
post-requires-clause-message c = taken_decodes (part_of c.args.self.now) c.args.locker.now (c.in-Ok.ensures c.in-Some.place.1.now).program c.in-Ok.ready.0 c.in-Ok.ready.1.items (c.in-Ok.ensures c.in-Some.place.1.now).taken

pub post-requires-clause-spelled : goal.post-requires-clause-spelled
post-requires-clause-spelled c = taken_spelled (part_of c.args.self.now) c.args.locker.now (c.in-Ok.ensures c.in-Some.place.1.now).program c.in-Ok.ready.0 c.in-Ok.ready.1.items (c.in-Ok.ensures c.in-Some.place.1.now).taken

pub post-requires-clause-free : goal.post-requires-clause-free
post-requires-clause-free c = taken_free (part_of c.args.self.now) c.args.locker.now (c.in-Ok.ensures c.in-Some.place.1.now).program c.in-Ok.ready.0 c.in-Ok.ready.1.items (c.in-Ok.ensures c.in-Some.place.1.now).taken

pub returns : goal.returns
returns c =
    let p = part_of c.args.self.now in
    let dest = c.args.locker.now in
    let to = c.in-Ok.ready.0 in
    let bytes = c.in-Ok.ready.1.items in
    let told = c.in-Ok.ensures c.in-Some.place.1.now in
    let may = c.in-Some.ensures in
    let number = c.post.ensures.number in
    record {
      step = (
        request_goes p c.args.asset.now c.args.owner.now dest _ may ∙ told_goes p dest _ to bytes told,
        number_is p dest told.program to bytes c.post.result told.taken number,
        c.post.ensures.posted
            ∙ (λ i. posted_at to bytes c.post.result (record p { locked = (c.in-Ok-reduce.ensures.reduced ∙ ap (λ n. Reduced (c.args.locker.now, c.in-Some.place.1.now, c.in-Some.place.0) n (part_of c.args.self.now).locked) c.amount.ensures) i; pending_events = c.reserve.ensures.items i }))
            ∙ request_leaves p c.args.asset.now c.args.owner.now dest _ to bytes c.post.result may told number,
      );
    }

pub invariant_of-self-2-clause-floors : goal.invariant_of-self-2-clause-floors
invariant_of-self-2-clause-floors c =
    let f = c.args.self.now in
    let key : NoteKey = (c.args.locker.now, c.in-Some.place.1.now, c.in-Some.place.0) in
    let n = c.amount.result in
    after_either (λ (l : LocksAndNotes). KeepsLockFloors f.settings.pools l f.ledger.held) f.locked (Reduced key n f.locked) c.reduce.new.self c.reduce.result c.reduce.ensures.reduced c.reduce.ensures.kept
    f.floors (keeps_floors _ _ _ (reduced_floors (Some key) n f.locked f.ledger.held (floors_there f)) (reduced_frees f.settings.pools key n f.locked (pools_free f)))
