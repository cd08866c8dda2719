-- The lines of blocks, and those that open and end a report, each with its line feed. This project's own rule.
use Rattle.std.specs.Prelude.{ℕ, List, ◌++◌, Option, Some, None, codes, decimal}
use Rattle.locations.specs.declared.grammar.Junction.{Junction}
use Rattle.locations.specs.declared.relative.Location.{Location}
use Rattle.location_wire.specs.Texts.{hex_text, location_text, path_text}
use Rattle.chain_ids.specs.Texts.{chain_text}
use Rattle.chain_ids.specs.declared.chain.ChainId.{ChainId}
use Rattle.asset_lists.specs.declared.units.Asset.{Asset}
use Rattle.asset_lists.specs.declared.units.Kind.{Kind}
use Rattle.asset_locks.specs.declared.lock.Lock.{Lock}
use Rattle.document_entries.specs.Texts.{fault_text}
use Rattle.document_entries.specs.declared.fault.NetworkFault.{NetworkFault}
use Rattle.network_coherence.specs.declared.faults.Incoherent.{Incoherent}
use Rattle.network_coherence.specs.Texts.{incoherent_text}
use Rattle.ledgers.specs.declared.supplies.Supply.{Supply}
use Rattle.ledgers.specs.declared.supplies.Backing.{Backing}
use Rattle.message_text.specs.Words.{asset_text}
use Rattle.step_text.specs.Texts.{kind_name, total_text, assets_text}

-- ---- blocks

-- what an account holds of an asset
abbrev pub balance_line : ChainId → List ℕ → Asset → List ℕ
balance_line chain account asset =
    codes "  balance " ++ chain_text chain ++ codes " " ++ hex_text account ++ codes " " ++ asset_text asset ++ codes "\n"

-- the checking account of an asset that a chain lists
abbrev pub checking_line : ChainId → Location → ℕ → List ℕ
checking_line chain id amount =
    codes "  checking " ++ chain_text chain ++ codes " " ++ location_text id ++ codes " " ++ decimal amount ++ codes "\n"

-- what of an asset an account must keep, and who may unlock it
abbrev pub locked_line : ChainId → Lock → List ℕ
locked_line chain l =
    codes "  locked " ++ (chain_text chain ++ (codes " " ++ (hex_text l.who ++ (codes " " ++ (location_text l.id
    ++ (codes " " ++ (decimal l.amount ++ (codes " " ++ (location_text l.unlocker ++ codes "\n")))))))))

-- what was trapped under a number, and who may claim it
abbrev pub trap_line : ChainId → ℕ → Location → List Asset → List ℕ
trap_line chain number origin assets =
    codes "  trap " ++ chain_text chain ++ codes " " ++ decimal number ++ codes " " ++ location_text origin ++ codes ": " ++ assets_text assets ++ codes "\n"

-- a message that waits
abbrev pub queue_line : ChainId → ChainId → ℕ → List ℕ → List ℕ
queue_line from to number bytes =
    codes "  queue " ++ chain_text from ++ codes " " ++ chain_text to ++ codes " " ++ decimal number ++ codes " " ++ hex_text bytes ++ codes "\n"

-- where an asset with homes is: at its homes, in flight, burned
abbrev pub supply_line : Kind → List Junction → Supply → List ℕ
supply_line kind path s =
    codes "  supply " ++ (kind_name kind ++ (codes " " ++ (path_text path ++ (codes " home " ++ (total_text s.home
    ++ (codes " flight " ++ (total_text s.flight ++ (codes " burned " ++ (total_text s.burned ++ codes "\n")))))))))

-- what the reserve holds for a chain's derivative, and what the chain owes
abbrev pub backing_line : ChainId → Kind → List Junction → Backing → List ℕ
backing_line chain kind path b =
    codes "  backing " ++ (chain_text chain ++ (codes " " ++ (kind_name kind ++ (codes " " ++ (path_text path
    ++ (codes " held " ++ (total_text b.held ++ (codes " owed " ++ (total_text b.owed ++ codes "\n")))))))))

-- ---- the beginning and the end

-- whether the network is coherent, or the first cause why not with its two chains
abbrev pub opening_line : Option Incoherent → List ℕ
opening_line None = codes "coherent\n"
opening_line (Some x) =
    codes "not coherent: " ++ incoherent_text x ++ codes "\n"

abbrev pub network_refused_line : NetworkFault → List ℕ
network_refused_line fault = codes "network refused: " ++ fault_text fault ++ codes "\n"

-- lines count from 1, over the whole input
abbrev pub line_refused_line : ℕ → List ℕ
line_refused_line line = codes "line " ++ decimal line ++ codes " refused\n"
