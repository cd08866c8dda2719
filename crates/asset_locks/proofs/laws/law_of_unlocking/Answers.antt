use Rattle.asset_locks.proofs.Lemmas.{unlocked_itself, unlocked_other, floor_less-Unlocked, others_count, floor_other-Unlocked, notes_stay-Unlocked}
use Rattle.asset_locks.proofs.laws.law_of_unlocking.Goals as goal

pub returns : goal.returns
returns c = record { lock = unlocked_itself; other_locks = unlocked_other; no_higher = floor_less-Unlocked; no_lower = others_count; other_floors = floor_other-Unlocked; notes = notes_stay-Unlocked }
