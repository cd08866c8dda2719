-- The positions of the rows of a derivative's asset: at its chain, and at its reserve. This project's own rule.
use Rattle.std.specs.Prelude.{List}
use Rattle.chain_ids.specs.declared.chain.ChainId.{ChainId}
use Rattle.supply_audit.specs.declared.place.Place.{Place}

pub record Covered : Type 0 where
  pub here : ChainId
  pub there : ChainId
  pub own : List Place
  pub kept : List Place
