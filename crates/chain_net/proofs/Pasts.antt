-- A step from a world that steps led to. A reader may skip this file.
use Rattle.std.proofs.Common.{◌≡◌, sym, subst}
use Rattle.std.proofs.Math.Logic.{∥∥₁_map}
use Rattle.network_spec.specs.declared.network.NetworkSpec.{NetworkSpec}
use Rattle.network_steps.specs.Worlds.{World}
use Rattle.network_steps.specs.Steps.{Step, next_world}
use Rattle.network_steps.specs.Genesis.{order_of}
use Rattle.law_nets.specs.Runs.{HasPast, HasSomePast}

abbrev pub LeadsOn : Type 0
LeadsOn = (spec : NetworkSpec) (w : World) (step : Step) → HasPast spec w → HasPast spec (next_world (order_of spec) w step)

-- the next world has a past
pub past_more : LeadsOn → (spec : NetworkSpec) (w now : World) (step : Step) → HasPast spec w → now ≡ next_world (order_of spec) w step → HasPast spec now
past_more leads spec w now step past is = subst (HasPast spec) (sym is) (leads spec w step past)

pub some_past_more : LeadsOn → (spec next : NetworkSpec) (w now : World) (step : Step) → HasSomePast spec w → next ≡ spec → now ≡ next_world (order_of spec) w step → HasSomePast next now
some_past_more leads spec next w now step reached same is =
    ∥∥₁_map reached (λ (past : HasPast spec w). subst (λ (s : NetworkSpec). HasPast s now) (sym same) (past_more leads spec w now step past is))
