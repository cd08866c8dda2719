use Rattle.std.proofs.Common.{map, sym, subst}
use Rattle.std.specs.Ordering.{eq_by_cmp}
use Rattle.std.specs.List.{IsDistinct}
use Rattle.asset_lists.specs.Listed.{listed_cmp}
use Rattle.ledgers.specs.Ledgers.{listed_pair}
use Rattle.bench_net.proofs.deposits.deposited.Goals as goal

pub open-requires-clause-distinct : goal.open-requires-clause-distinct
unfolding IsDistinct
open-requires-clause-distinct c = subst (λ xs. IsDistinct (eq_by_cmp listed_cmp) (map listed_pair xs)) (sym c.in_ok-list.ensures.items) (tt, tt)
