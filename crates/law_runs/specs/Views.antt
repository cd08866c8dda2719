-- A chain as the laws of conservation see it: a part with what it holds, owes and sends. This project's own vocabulary.
--
--   seen       a chain's part of the world, with what a run on it holds
--   view       a machine, a run's registers with the chain
use Rattle.std.specs.Prelude.{map}
use Rattle.amounts.specs.Amounts.{merge}
use Rattle.asset_bundles.specs.Bundles.{Bundle, bundle_of}
use Rattle.asset_bundles.specs.declared.shipment.Way.{Way}
use Rattle.channel_parts.specs.declared.cargo.Cargo as carried
use Rattle.channel_parts.specs.declared.cargo.Cargo.TheVariants as cargos
use Rattle.channel_parts.specs.Channels.{Waiting, Outgoing}
use Rattle.weight_trader.specs.Purchases.{paid_goods}
use Rattle.exec_base.specs.Part.{ChainPart}
use Rattle.exec_rules.specs.Machine.{Machine}
use Rattle.law_coherence.specs.Networks.{Table}
use Rattle.law_coherence.specs.Parts.{Cargo, Nothing, Deposit, Withdrawal, Teleport, Channel, Part}

-- where a chain is and what it lists
abbrev pub table_of : ChainPart → Table
table_of p = record { site = p.site; rows = p.rows }

abbrev pub shipped_by : Way → Bundle → Cargo
shipped_by Way.Withdrawal goods = Withdrawal goods
shipped_by Way.Teleport goods = Teleport goods

-- what a message carries, as amounts under its sender's names
abbrev pub cargo_of : carried.Cargo → Cargo
cargo_of cargos.Nothing = Nothing
cargo_of (cargos.Deposit list) = Deposit (bundle_of list)
cargo_of (cargos.Away shipment) = shipped_by shipment.way shipment.units

abbrev pub channel_of : Outgoing → Channel
channel_of c = record { to = c.channel.to; queue = map (λ (m : Waiting). cargo_of m.cargo) c.queue }

-- paid for weight, kept for deliveries, and set aside for one
abbrev pub fees_of : ChainPart → Bundle
fees_of p = merge (merge (paid_goods p.lines) p.fees) p.fee_slot

abbrev pub seen : Bundle → ChainPart → Part
seen holding p = record {
  table = table_of p;
  held = p.held;
  traps = p.traps.traps;
  fees = fees_of p;
  parked = p.parked;
  holding = holding;
  burns = p.burns;
  checking = p.checking;
  outgoing = map channel_of p.channels;
}

abbrev pub view : Machine → Part
view m = seen m.regs.holding m.part
