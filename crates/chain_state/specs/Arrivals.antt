-- By which call the assets of a message arrive, and which are on their way. This project's own.
use Rattle.std.specs.Prelude.{Bool, true, false}
use Rattle.channel_parts.specs.declared.cargo.Cargo.{Cargo}
use Rattle.channel_parts.specs.declared.cargo.Cargo.TheVariants.{Nothing, Deposit, Away}
use Rattle.exec_base.specs.Host.{Arrival, ByWithdrawal, ByDeposit, ByTeleport}
use Rattle.chain_state.specs.declared.send.arrivals.ArrivalKind.{ArrivalKind}

abbrev pub arrival_by : ArrivalKind → Arrival
arrival_by ArrivalKind.Withdrawal = ByWithdrawal
arrival_by ArrivalKind.Deposit = ByDeposit
arrival_by ArrivalKind.Teleport = ByTeleport

-- goods on their way were given up at their sender
abbrev pub is_away : Cargo → Bool
is_away Nothing = false
is_away (Deposit list) = false
is_away (Away shipment) = true
