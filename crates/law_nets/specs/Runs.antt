-- The steps that a network has run. This project's own rule.
use Rattle.std.specs.Prelude.{◌≡◌, List}
use Rattle.network_spec.specs.declared.network.NetworkSpec.{NetworkSpec}
use Rattle.network_steps.specs.Worlds.{World}
use Rattle.network_steps.specs.Steps.{Step, last_world}
use Rattle.network_steps.specs.Genesis.{order_of, first_world}

-- the world after these steps, from the first world of the document on
abbrev pub HasRun : NetworkSpec → World → List Step → Type 0
HasRun spec w steps = w ≡ last_world (order_of spec) (first_world spec) steps

-- a world that some steps led to
pub record HasPast (spec : NetworkSpec) (w : World) : Type 0 where
  pub steps : List Step
  pub run : HasRun spec w steps

-- that it has a past, and not which: this has one proof at most, so a network can keep it
abbrev pub HasSomePast : NetworkSpec → World → Type 0
HasSomePast spec w = ∥ HasPast spec w ∥₁
