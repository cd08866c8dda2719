-- The world of a network, and what it was opened with. This project's own.
--
--   world_of       its chains, each with its rules and its part of the world
--   spec_of        the network document that it was opened with
--   is_stopped     a call has answered that memory was refused
--   trace_of       what the last step told: at the chain that acted, or nothing where the step was refused
use Rattle.std.specs.Prelude.{ℕ, Bool, List, [], Option, slice_get}
use Rattle.std.specs.Option.{option_map_or}
use Rattle.exec_base.specs.declared.event.Event.{Event}
use Rattle.network_spec.specs.declared.network.NetworkSpec.{NetworkSpec}
use Rattle.network_steps.specs.declared.step_result.StepResult.{StepResult}
use Rattle.network_steps.specs.Worlds.{Member, World, Stepped}
use Rattle.chain_net.specs.declared.net.Net.{Net}
use Rattle.chain_net.specs.Chains.{world_in}

abbrev pub world_of : Net → World
world_of n = world_in n.rules.items n.chains.items

abbrev pub spec_of : Net → NetworkSpec
spec_of n = n.spec

abbrev pub is_stopped : Net → Bool
is_stopped n = n.stopped

-- what was told last at the chain of that index
abbrev pub told_at : Option ℕ → World → List Event
told_at acted w = option_map_or (λ (place : ℕ). option_map_or (λ (m : Member). m.part.events) (slice_get w place) []) acted []

abbrev pub trace_of : Net → List Event
trace_of n = told_at n.acted (world_of n)

-- a step that answered this, and left this network
abbrev pub stepped : StepResult → Net → Stepped
stepped answer n = record { answer = answer; trace = trace_of n; world = world_of n }
