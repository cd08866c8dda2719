-- The three assets, each once, and the three holdings.
use Rattle.std.proofs.Common.{refl}
use Rattle.std.specs.Ordering.{eq_by_cmp}
use Rattle.std.specs.List.{IsDistinct}
use Rattle.asset_lists.specs.Listed.{listed_cmp}
use Rattle.network_spec.specs.Networks.{same_holding}
use Rattle.test_execution.specs.Natives.{fixture_natives, balances}

pub each_once : IsDistinct (eq_by_cmp listed_cmp) fixture_natives
unfolding IsDistinct
each_once = ((refl, (refl, tt)), ((refl, tt), (tt, tt)))

pub each_held_once : IsDistinct same_holding balances
unfolding IsDistinct
each_held_once = ((refl, (refl, tt)), ((refl, tt), (tt, tt)))
