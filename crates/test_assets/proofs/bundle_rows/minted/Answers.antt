use Rattle.std.proofs.Common.{◌≤◌, sym, subst}
use Rattle.asset_lists.proofs.Lemmas.{once_each}
use Rattle.asset_lists.specs.Moves.{occurrences}
use Rattle.test_assets.proofs.bundle_rows.minted.Goals as goal

pub mint-requires-clause-once : goal.mint-requires-clause-once
mint-requires-clause-once c unit = subst (λ xs. occurrences unit xs ≤ 1) (sym c.items.ensures.value) (once_each c.args.list.now c.items.ensures.list.rising unit)
