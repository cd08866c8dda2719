-- Whether the first instruction of a message is done. That a teleport is lost where it isn't is this project's own rule.
use Rattle.std.specs.Prelude.{Bool}
use Rattle.weight_trader.specs.Purchases.{no_weight}
use Rattle.channel_parts.specs.Channels.{Waiting}
use Rattle.exec_base.specs.declared.event.Event.{Event}
use Rattle.exec_base.specs.Host.{told}
use Rattle.exec_rules.specs.Execution.{executed}
use Rattle.network_steps.specs.Worlds.{Member, chain_of}
use Rattle.network_steps.specs.Acting.{begun}
use Rattle.network_steps.specs.Steps.{name_at}

-- the flag of the execution of a delivered message
abbrev pub is_first_done : Member → Member → Waiting → Bool
is_first_done sender receiver x =
    (executed receiver.rules (name_at (chain_of receiver) (chain_of sender)) no_weight x.program
    (told (begun (chain_of sender) x.cargo receiver.part) (Event.Message (chain_of sender) (chain_of receiver) x.number))).0.1
