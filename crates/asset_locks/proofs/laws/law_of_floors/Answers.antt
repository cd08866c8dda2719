use Rattle.asset_locks.proofs.Lemmas.{lock_within_floor, floor_is_lock, floor_at_most}
use Rattle.asset_locks.proofs.laws.law_of_floors.Goals as goal

pub returns : goal.returns
returns c = record { no_more = lock_within_floor; as_much = floor_is_lock; least = floor_at_most }
