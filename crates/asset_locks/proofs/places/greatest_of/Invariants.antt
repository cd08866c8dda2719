use Rattle.asset_locks.proofs.Searching.{Walk}
use Rattle.asset_locks.proofs.places.greatest_of.Given as goal

abbrev pub invariant-loop-lock : goal.invariant-loop-lock
invariant-loop-lock l = Walk (l.who, l.id) l.locks l.most l.lock-items l.lock-index
