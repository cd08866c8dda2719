-- A line's step, as a network has it and as a line tells it.
use Rattle.std.proofs.Common.{◌≡◌, refl}
use Rattle.input_lines.specs.declared.step.Step.{Step as LineStep}
use Rattle.input_lines.specs.declared.step.Step.TheVariants as told
use Rattle.report_blocks.specs.Asked.{world_step, line_step}

pub told_back : (step : LineStep) → line_step (world_step step) ≡ step
told_back (told.Exec chain account message) = refl
told_back (told.Deliver from to) = refl
told_back (told.Claim from to message) = refl
told_back _ = refl
