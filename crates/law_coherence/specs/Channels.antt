-- A message goes after the others of its channel, and the oldest is taken: what that does to the sums over channels.
use Rattle.std.specs.Prelude.{◌+◌, Bool, if◌then◌else◌, List, [], ◌∷◌, ◌++◌, Option, Some, None}
use Rattle.std.specs.List.{list_any}
use Rattle.chain_ids.specs.declared.chain.ChainId.{ChainId}
use Rattle.chain_ids.specs.Chains.{same_chain}
use Rattle.law_coherence.specs.Parts.{Cargo, Channel}

-- a channel leads there
abbrev pub has_channel : ChainId → List Channel → Bool
has_channel chain channels = list_any (λ (c : Channel). same_chain c.to chain) channels

abbrev pub with_last : Cargo → Channel → Channel
with_last cargo c = record { to = c.to; queue = c.queue ++ cargo ∷ [] }

abbrev pub cargo_pushed : ChainId → Cargo → List Channel → List Channel
cargo_pushed chain cargo [] = []
cargo_pushed chain cargo (c ∷ rest) = if same_chain c.to chain then with_last cargo c ∷ rest else c ∷ cargo_pushed chain cargo rest

-- the oldest of the channel, and the channels without it
abbrev pub oldest_cargo : List Cargo → Option Cargo
oldest_cargo [] = None
oldest_cargo (cargo ∷ rest) = Some cargo

abbrev pub behind_first : List Cargo → List Cargo
behind_first [] = []
behind_first (cargo ∷ rest) = rest

abbrev pub front : ChainId → List Channel → Option Cargo
front chain [] = None
front chain (c ∷ rest) = if same_chain c.to chain then oldest_cargo c.queue else front chain rest

abbrev pub cargo_popped : ChainId → List Channel → List Channel
cargo_popped chain [] = []
cargo_popped chain (c ∷ rest) = if same_chain c.to chain then record { to = c.to; queue = behind_first c.queue } ∷ rest else c ∷ cargo_popped chain rest
