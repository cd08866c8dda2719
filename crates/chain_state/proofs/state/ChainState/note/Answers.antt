use Rattle.std.specs.Prelude.{Some}
use Rattle.std.proofs.Common.{sym, subst, ◌<◌}
use Rattle.xcm_program.specs.declared.instruction.Instruction.TheOpen.{Instruction-F}
use Rattle.chain_state.proofs.Locked.{amount_here, some_amount}
use Rattle.asset_locks.specs.LockMaps.{LocksAndNotes, NoteKey, Noted}
use Rattle.law_hosts.proofs.Lemmas.{noted_frees, noted_floors}
use Rattle.chain_state.proofs.Floored.{after_either}
use Rattle.chain_state.specs.Facts.{KeepsLockFloors}
use Rattle.chain_state.proofs.Lemmas.Facts.{keeps_floors}
use Rattle.chain_state.specs.Known.{floors_there, pools_free}
use Rattle.chain_state.proofs.state.ChainState.note.Goals as goal

pub note-requires : goal.note-requires
note-requires c = record { some = subst (λ n. 0 < n) (sym c.amount.ensures) (some_amount c.args.asset.now (amount_here (Instruction-F.NoteUnlockable c.args.asset.now c.args.owner.now) c.requires.forwardable)) }

pub invariant_of-self-clause-floors : goal.invariant_of-self-clause-floors
invariant_of-self-clause-floors c =
    let f = c.args.self.now in
    let key : NoteKey = (c.args.from.now, c.in-Some.id.now, c.in-Some-last_account.who) in
    let n = c.amount.result in
    after_either (λ (l : LocksAndNotes). KeepsLockFloors f.settings.pools l f.ledger.held) f.locked (Noted key n f.locked) c.note.new.self c.note.result c.note.ensures.noted c.note.ensures.kept
    f.floors (keeps_floors _ _ _ (noted_floors (Some key) n f.locked f.ledger.held (floors_there f)) (noted_frees f.settings.pools key n f.locked (pools_free f)))
