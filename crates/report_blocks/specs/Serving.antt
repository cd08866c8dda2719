-- What serving a line of the input does. This project's own rule.
use Rattle.std.specs.Prelude.{◌≡◌, ℕ, List, Bool, false, Ok, Err, string_bytes}
use Rattle.network_spec.specs.declared.network.NetworkSpec.{NetworkSpec}
use Rattle.network_steps.specs.Worlds.{World}
use Rattle.network_steps.specs.Steps.{Step, next_world}
use Rattle.network_steps.specs.Genesis.{order_of, first_world}
use Rattle.network_config.specs.Network.{network_of}
use Rattle.document_entries.specs.declared.fault.NetworkFault.{NetworkFault}
use Rattle.chain_net.specs.declared.net.Net.{Net}
use Rattle.chain_net.specs.Nets.{world_of, spec_of, is_stopped}
use Rattle.report_blocks.specs.declared.line_outcome.LineOutcome.{LineOutcome}
use Rattle.report_blocks.specs.declared.line_outcome.LineOutcome.TheVariants as served
use Rattle.report_blocks.specs.Asked.{Asked, Nothing, Asks, Unknown}
use Rattle.report_blocks.specs.Blocks.{step_block}

-- the network that the bytes describe, with nothing that happened in it
pub record IsOpened (bytes : List ℕ) (net : Net) : Type 0 where
  pub read : network_of bytes ≡ Ok (spec_of net)
  pub first : world_of net ≡ first_world (spec_of net)
  pub running : is_stopped net ≡ false

-- what is wrong with the bytes
abbrev pub IsRefused : List ℕ → NetworkFault → Type 0
IsRefused bytes fault = network_of bytes ≡ Err fault

-- a step was run, and this is its block; or the line asks for no step
abbrev pub IsServed : Bool → NetworkSpec → World → ℕ → Asked → LineOutcome → World → Type 0
IsServed audit spec w number asked served.Nothing now = (asked ≡ Nothing) × (now ≡ w)
IsServed audit spec w number asked served.Unknown now = (asked ≡ Unknown) × (now ≡ w)
IsServed audit spec w number asked (served.Block text) now =
    (step : Step) × (asked ≡ Asks step) × (string_bytes text ≡ step_block audit spec w number step)
    × (now ≡ next_world (order_of spec) w step)
