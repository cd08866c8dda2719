use Rattle.std.proofs.Common.{[], ◌∷◌, refl}
use Rattle.asset_lists.proofs.Lemmas.{once_each}
use Rattle.test_execution.proofs.transactor_rows.deposited.Goals as goal

pub mint-requires-clause-once : goal.mint-requires-clause-once
mint-requires-clause-once c = once_each (c.args.asset ∷ []) refl
