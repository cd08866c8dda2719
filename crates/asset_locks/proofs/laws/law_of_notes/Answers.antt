use Rattle.asset_locks.proofs.Lemmas.{noted_enough, noted_other, reduced_itself, reduced_other, note_undone, locks_stay-Noted, locks_stay-Reduced, floor_stays-Noted, floor_stays-Reduced}
use Rattle.asset_locks.proofs.laws.law_of_notes.Goals as goal

pub returns : goal.returns
returns c = record { set = noted_enough; others_set = noted_other; reduced = reduced_itself; others_reduced = reduced_other; undone = note_undone; locks_set = locks_stay-Noted; locks_reduced = locks_stay-Reduced; floors_set = floor_stays-Noted; floors_reduced = floor_stays-Reduced }
