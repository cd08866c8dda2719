-- A channel with what waits in it: a message has a number, a program and a cargo. This project's own rule.
use Rattle.std.specs.Prelude.{ℕ, ◌+◌, ◌-◌, ◌^◌, min, List, [], ◌∷◌, ◌++◌}
use Rattle.asset_bundles.specs.Bundles.{Bundle}
use Rattle.asset_bundles.specs.declared.shipment.Way.{Way}
use Rattle.xcm_program.specs.declared.instruction.Instruction.{Instruction}
use Rattle.channel_parts.specs.declared.cargo.Cargo.{Cargo}
use Rattle.channel_parts.specs.declared.channel.Channel.{Channel}

-- a message that waits, the program that its bytes mean and what it carries
pub record Waiting : Type 0 where
  pub number : ℕ
  pub program : List Instruction
  pub cargo : Cargo

-- a channel, the number of its next message, and what waits in it, oldest first
pub record Outgoing : Type 0 where
  pub channel : Channel
  pub next : ℕ
  pub queue : List Waiting

-- a channel that nothing was sent on
abbrev pub opened : Channel → Outgoing
opened channel = record { channel = channel; next = 1; queue = [] }

-- a message put last; a number that would pass 2^64-1 stays there
abbrev pub with_waiting : List Instruction → Cargo → Outgoing → Outgoing
with_waiting program cargo c = record c { next = min (c.next + 1) (2 ^ 64 - 1); queue = c.queue ++ record { number = c.next; program = program; cargo = cargo } ∷ [] }

-- units on their way
abbrev pub away : Way → Bundle → Cargo
away way units = Cargo.Away (record { way = way; units = units })
