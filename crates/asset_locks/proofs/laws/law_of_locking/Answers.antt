use Rattle.asset_locks.proofs.Lemmas.{locked_enough, locked_other, floor-Locked, floor_other-Locked, notes_stay-Locked}
use Rattle.asset_locks.proofs.laws.law_of_locking.Goals as goal

pub returns : goal.returns
returns c = record { lock = locked_enough; other_locks = locked_other; floor = floor-Locked; other_floors = floor_other-Locked; notes = notes_stay-Locked }
