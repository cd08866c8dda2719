-- What the laws of shapes say of each step, as the premise of those of conservation. This project's own rule.
use Rattle.std.proofs.Common.{ℕ, List}
use Rattle.chain_ids.specs.declared.chain.ChainId.{ChainId}
use Rattle.network_steps.specs.Worlds as networks
use Rattle.network_steps.specs.Steps.{exec, deliver, claim}
use Rattle.law_steps.specs.Shapes.{AllShaped}
use Rattle.law_steps.specs.Fates.{KeepsShapes}

-- ---- what the steps rely on: the laws of the crates below
pub record ShapeLaws : Type 0 where
  pub admits : KeepsShapes
  pub exec : (w : networks.World) (chain : ChainId) (account bytes : List ℕ) → AllShaped w → AllShaped (exec w chain account bytes).world
  pub deliver : (w : networks.World) (from to : ChainId) → AllShaped w → AllShaped (deliver w from to).world
  pub claim : (w : networks.World) (from to : ChainId) (bytes : List ℕ) → AllShaped w → AllShaped (claim w from to bytes).world
