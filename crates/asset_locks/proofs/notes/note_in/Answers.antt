use Rattle.std.proofs.Common.{◌∙◌}
use Rattle.std.specs.Prelude.{unwrap_or}
use Rattle.asset_locks.specs.LockMaps.{NoteKey}
use Rattle.asset_locks.proofs.Noting.{note_read}
use Rattle.asset_locks.proofs.notes.note_in.Goals as goal

pub returns : goal.returns
returns c =
    let key : NoteKey = (c.args.locker.now, c.args.id.now, c.args.owner.now) in
    c.unwrap_or.ensures ∙ note_read c.args.rows.now.entries key c.key_of.result c.key_of.ensures c.copied.result (c.copied.ensures ∙ c.get.ensures.value)
