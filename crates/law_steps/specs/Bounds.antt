-- The first worlds for which the laws speak. This project's own rule.
use Rattle.std.proofs.Common.{◌^◌, ◌<◌}
use Rattle.law_coherence.specs.UniversalAssets.{UniversalAsset}
use Rattle.law_coherence.specs.Networks.{Agrees}
use Rattle.law_coherence.specs.Parts.{WorldView, supply, Backed}
use Rattle.law_coherence.specs.Steps.{tables_of}
use Rattle.law_coherence.specs.Checking.{AllChecked, AllBounded}

-- what a world is made from
pub record IsSoundGenesis (first : WorldView) : Type 0 where
  pub agrees : Agrees (tables_of first)
  pub backed : Backed first
  pub small : (a : UniversalAsset) → supply a first < 2 ^ 127
  pub checked : AllChecked first
  pub bounded : AllBounded first
