use Rattle.std.proofs.Common.{◌≤◌, sym, subst}
use Rattle.asset_lists.specs.Units.{Unit}
use Rattle.asset_lists.specs.Moves.{occurrences}
use Rattle.ledgers.proofs.ledger.Ledger.held.Goals as goal

pub mint-requires-clause-once : goal.mint-requires-clause-once
mint-requires-clause-once c = subst (λ xs. (unit : Unit) → occurrences unit xs ≤ 1) (sym c.as_slice.ensures.value) c.in_ok-found.ensures.once
