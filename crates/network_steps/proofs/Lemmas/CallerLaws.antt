-- Lemmas that proofs cite, in this crate and above it: what holds of a step that changes nothing, and of the one that is made for another caller,
-- holds of the step. A reader of the contracts may skip this file.
use Rattle.std.specs.Prelude.{Bool, true, false, if◌then◌else◌}
use Rattle.network_steps.specs.declared.step_result.StepResult.{StepResult}
use Rattle.network_steps.specs.Worlds.{World, Stepped, unchanged}

pub by_caller : (P : Stepped → Type 0) (w : World) (refused : Bool) (s : Stepped) → P (unchanged StepResult.SovereignCaller w) → P s → P (if refused then unchanged StepResult.SovereignCaller w else s)
by_caller P w true s still ran = still
by_caller P w false s still ran = ran
