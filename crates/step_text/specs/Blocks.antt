-- The blocks of a report, chain by chain: what accounts hold, what is trapped, what waits. This project's own rule.
use Rattle.std.specs.Prelude.{◌≡◌, ℕ, Bool, List, [], ◌∷◌, ◌++◌, Option, Some, None, flat_map, find}
use Rattle.std.specs.Option.{option_and_then, option_map_or}
use Rattle.amounts.specs.Amounts.{rows}
use Rattle.chain_ids.specs.Chains.{same_chain}
use Rattle.chain_ids.specs.declared.chain.ChainId.{ChainId}
use Rattle.operands.specs.declared.version.Version.{Version}
use Rattle.asset_bundles.specs.Bundles.{held_assets}
use Rattle.trust_tables.specs.declared.rows.AssetRow.{AssetRow}
use Rattle.asset_locks.specs.LockMaps.{LocksAndNotes, locks_of}
use Rattle.asset_bundles.specs.declared.trap.Trap.{Trap}
use Rattle.ledgers.specs.Ledgers.{Holder, Held}
use Rattle.ledgers.specs.Holdings.{asset_held}
use Rattle.xcm_format.specs.Messages.{message, version_byte}
use Rattle.channel_parts.specs.Channels.{Waiting, Outgoing}
use Rattle.chain_queues.specs.declared.queues.Queue.{Queue}
use Rattle.chain_queues.specs.declared.queues.Queued.{Queued}
use Rattle.chain_queues.specs.Queues.{channel_to}
use Rattle.exec_base.specs.Part.{ChainPart}
use Rattle.step_text.specs.Lines.{balance_line, checking_line, locked_line, trap_line, queue_line}

-- ---- under `balances`

abbrev pub holder_line : ChainId → Holder × ℕ → List ℕ
holder_line chain row = balance_line chain row.0.0 (asset_held row)

-- a line for each account, by bytes, and each of its assets in holding order: the order of the rows of what all accounts hold
unfoldable pub accounts_text : ChainId → Held → List ℕ
accounts_text chain held = flat_map (holder_line chain) (rows held)

abbrev pub checking_if : ChainId → AssetRow → Option ℕ → List ℕ
checking_if chain row None = []
checking_if chain row (Some amount) = checking_line chain row.id amount

-- a line for each listed asset with a checking account, in listed order
unfoldable pub checking_text : ChainId → List AssetRow → List (Option ℕ) → List ℕ
checking_text chain [] amounts = []
checking_text chain (row ∷ listed) [] = []
checking_text chain (row ∷ listed) (amount ∷ amounts) = checking_if chain row amount ++ checking_text chain listed amounts

-- a line for each lock, by account, asset and unlocker
abbrev pub locked_text : ChainId → LocksAndNotes → List ℕ
locked_text chain locked = flat_map (locked_line chain) (locks_of locked)

abbrev pub balances_of : ChainPart → List ℕ
balances_of p =
    accounts_text p.site.chain p.held ++ checking_text p.site.chain p.rows p.checking
    ++ locked_text p.site.chain p.locked

-- ---- under `traps`

abbrev pub trap_text : ChainId → Trap → List ℕ
trap_text chain t = trap_line chain t.number t.origin (held_assets t.goods)

-- oldest first
abbrev pub trapped_text : ChainId → List Trap → List ℕ
trapped_text chain traps = flat_map (trap_text chain) traps

abbrev pub chain_traps_text : ChainPart → List ℕ
chain_traps_text p = trapped_text p.site.chain p.traps.traps

-- ---- under `queues`

-- a message that waits, of which its bytes are kept
abbrev pub queued_line : ChainId → ChainId → Queued → List ℕ
queued_line from to q = queue_line from to q.number q.bytes.items

-- oldest first, what waits in a channel of which the bytes are kept; nothing where there is no channel
abbrev pub queue_lines : ChainId → Option Queue → List ℕ
queue_lines from queue =
    option_map_or (λ (q : Queue). flat_map (queued_line from q.channel.to) q.waiting.items) queue []

-- a message that waits, spelled in the version of its channel
abbrev pub waiting_line : Version → ChainId → ChainId → Waiting → List ℕ
waiting_line v from to w = queue_line from to w.number (message v w.program)

-- the bytes begin with the version's
abbrev pub IsSpelledIn : Version → List ℕ → Type 0
IsSpelledIn v bytes = (rest : List ℕ) × (bytes ≡ version_byte v ∷ rest)

-- oldest first
abbrev pub channel_text : ChainId → Outgoing → List ℕ
channel_text from c = flat_map (waiting_line c.channel.version from c.channel.to) c.queue

abbrev pub is_part_of : ChainId → ChainPart → Bool
is_part_of chain p = same_chain p.site.chain chain

-- the channel from one chain to another
abbrev pub link_text : List ChainPart → ChainId × ChainId → List ℕ
link_text parts link =
    option_map_or (λ (c : Outgoing). channel_text link.0 c) (option_and_then (λ (p : ChainPart). channel_to link.1 p.channels) (find (is_part_of link.0) parts)) []

-- by channel, in listed order
abbrev pub queues_of : List (ChainId × ChainId) → List ChainPart → List ℕ
queues_of order parts = flat_map (link_text parts) order
