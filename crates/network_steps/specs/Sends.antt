-- How many deliveries there may still be: one for each message that waits, and one for each that may yet be sent. This project's own rule.
use Rattle.std.specs.Prelude.{ℕ, ◌+◌, List, sum_by}
use Rattle.xcm_program.specs.Measure.{sends}
use Rattle.channel_parts.specs.Channels.{Waiting, Outgoing}
use Rattle.network_steps.specs.Worlds.{Member, World}

-- of a message that waits: itself, and what its program may send
abbrev pub message_count : Waiting → ℕ
message_count x = 1 + sends x.program

abbrev pub queue_count : Outgoing → ℕ
queue_count c = sum_by message_count c.queue

abbrev pub queued : List Outgoing → ℕ
queued channels = sum_by queue_count channels

abbrev pub deliveries_left : World → ℕ
deliveries_left w = sum_by (λ (m : Member). queued m.part.channels) w
