use Rattle.std.proofs.Common.{◌≡◌, refl}
use Rattle.network_steps.specs.Steps.{next_world}
use Rattle.network_steps.specs.Fixed.{all_settings}
use Rattle.network_steps.specs.Worlds.{World}
use Rattle.law_independence.specs.Acts.{Act, step_of, stepped_by}
use Rattle.law_independence.proofs.Changing.{free}
use Rattle.law_independence.proofs.laws.law_of_independence.Goals as goal

pub returns-clause-step : goal.returns-clause-step
returns-clause-step c = λ order w t. elim t as (λ t. next_world order w (step_of t) ≡ (stepped_by w t).world) [
  | Act.Exec chain account bytes ↦ refl
  | Act.Deliver from to ↦ refl
  | Act.Claim from to bytes ↦ refl
]

pub returns-clause-free : goal.returns-clause-free
returns-clause-free c = free kept
  where
    kept : (w : World) (t : Act) → all_settings (stepped_by w t).world ≡ all_settings w
    kept w (Act.Exec chain account bytes) = c.law_of_constant_settings.ensures.exec w chain account bytes
    kept w (Act.Deliver from to) = c.law_of_constant_settings.ensures.deliver w from to
    kept w (Act.Claim from to bytes) = c.law_of_constant_settings.ensures.claim w from to bytes
