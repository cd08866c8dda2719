-- The network document. Source: this project's own rule, over JSON as `serde_json` reads it.
use Rattle.std.specs.Prelude.{ℕ, List, [], ◌∷◌, ◌+◌, Bool, false, ◌||◌, ◌&&◌, ◌==◌, nat_le, bytes_eq, codes, Option, Some, is_some, is_none, Result, Ok, if◌then◌else◌}
use Rattle.std.specs.Option.{option_map}
use Rattle.serde_json.specs.Data.{Data, Items, no_items, item}
use Rattle.serde_json.specs.Find.{as_object, get}
use Rattle.locations.specs.declared.grammar.NetworkId.{NetworkId}
use Rattle.locations.specs.declared.grammar.NetworkId.TheVariants.{ByGenesis, Polkadot, Kusama, Westend, Rococo, Wococo}
use Rattle.network_spec.specs.declared.network.NetworkSpec.{NetworkSpec}
use Rattle.document_entries.specs.declared.fault.NetworkFault.{NetworkFault}
use Rattle.document_entries.specs.declared.fault.NetworkFault.TheVariants.{BadValue, LimitPassed}
use Rattle.document_entries.specs.Forms.{Form, ◌>>=◌, ◌>>◌, or_fault, where_true, fields, defaulted, text, bytes32, number_within, list_field, entries, count}
use Rattle.document_entries.specs.Entries.{channel_entry}
use Rattle.network_config.specs.Chains.{top, channel_at, short_list, chain_entry}

-- the network of a name, or of the hash of its first block
abbrev pub network_of_text : List ℕ → Option NetworkId
network_of_text s =
    if bytes_eq s (codes "Polkadot") then Some Polkadot
    else if bytes_eq s (codes "Kusama") then Some Kusama
    else if bytes_eq s (codes "Westend") then Some Westend
    else if bytes_eq s (codes "Rococo") then Some Rococo
    else if bytes_eq s (codes "Wococo") then Some Wococo
    else option_map ByGenesis (bytes32 s)

unfoldable pub network_id_form : Form NetworkId
network_id_form place value = do
  s ← text place value
  or_fault (BadValue place) (network_of_text s)

-- 1 or 2; format 2 has fees, calls, locks and pools
unfoldable pub has_fees : Form Bool
has_fees place value = do
  n ← number_within 1 2 place value
  Ok (n == 2)

-- whether the entry is the relay chain's
abbrev pub is_relay_entry : Data → Bool
is_relay_entry value = is_some (as_object value) && is_none (get (codes "para") value)

abbrev pub has_relay : Items → Bool
has_relay no_items = false
has_relay (item value items) = is_relay_entry value || has_relay items

-- how many chains there are: the relay chain is always there
abbrev pub chain_count : Items → ℕ
chain_count items = if has_relay items then count items else count items + 1

unfoldable pub chains_list : Form Items
chains_list place value = do
  items ← list_field (codes "chains") place value
  where_true (LimitPassed place) (nat_le (chain_count items) 64) items

abbrev pub top_fields : List (List ℕ)
top_fields = codes "network" ∷ codes "chains" ∷ codes "channels" ∷ codes "format" ∷ []

-- the network that the values mean, its chains in the document's order
unfoldable pub shapes : Data → Result NetworkSpec NetworkFault
shapes value = do
  fields top_fields top value
  network_id_form ← defaulted (codes "network") Polkadot network_id_form top value
  chain_items ← chains_list top value
  channel_items ← short_list (codes "channels") 256 top value
  fees ← defaulted (codes "format") false has_fees top value
  chains ← entries (chain_entry fees) 0 chain_items
  channels ← entries (λ index. channel_entry fees (channel_at index)) 0 channel_items
  Ok (record { network = network_id_form; chains = chains; channels = channels })
