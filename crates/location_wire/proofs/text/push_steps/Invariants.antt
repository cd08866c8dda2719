use Rattle.std.proofs.Common.{◌≡◌, ◌++◌, drop, map}
use Rattle.std.specs.String.{string_bytes}
use Rattle.scale_codec.specs.Spelling.{joined}
use Rattle.location_wire.specs.Texts.{path_step_text}
use Rattle.location_wire.proofs.text.push_steps.Given as goal

abbrev pub invariant-loop-step : goal.invariant-loop-step
invariant-loop-step l = string_bytes l.text ++ joined (map path_step_text (drop l.step-index l.items)) ≡ string_bytes l.fn.text ++ joined (map path_step_text l.items)
