use Rattle.std.specs.Prelude.{Some}
use Rattle.asset_locks.specs.LockMaps.{LocksAndNotes, LockKey, Unlocked}
use Rattle.law_hosts.proofs.Lemmas.{unlocked_frees, unlocked_floors}
use Rattle.chain_state.proofs.Floored.{after_either}
use Rattle.chain_state.specs.Facts.{KeepsLockFloors}
use Rattle.chain_state.proofs.Lemmas.Facts.{keeps_floors}
use Rattle.chain_state.specs.Known.{floors_there, pools_free}
use Rattle.chain_state.proofs.state.ChainState.unlock.Goals as goal

pub invariant_of-self-clause-floors : goal.invariant_of-self-clause-floors
invariant_of-self-clause-floors c =
    let f = c.args.self.now in
    let key : LockKey = (c.in-Some.place.0, c.in-Some.place.1.now, c.args.from.now) in
    let n = c.amount.result in
    after_either (λ (l : LocksAndNotes). KeepsLockFloors f.settings.pools l f.ledger.held) f.locked (Unlocked key n f.locked) c.unlock.new.self c.unlock.result c.unlock.ensures.unlocked c.unlock.ensures.kept
    f.floors (keeps_floors _ _ _ (unlocked_floors (Some key) n f.locked f.ledger.held (floors_there f)) (unlocked_frees f.settings.pools key n f.locked (pools_free f)))
