-- A chain's entry in a network document, a line a field. Source: this project's own rule.
use Rattle.std.specs.Prelude.{ℕ, Bool, true, false, List, [], ◌∷◌, nat_le, codes, Option, Some, None, Result, Ok}
use Rattle.serde_json.specs.Data.{Data, Items}
use Rattle.serde_json.specs.Find.{get, as_bool}
use Rattle.chain_ids.specs.declared.chain.ChainId.{ChainId}
use Rattle.chain_ids.specs.declared.chain.ChainId.TheVariants.{Relay, Para}
use Rattle.operands.specs.declared.weight.Weight.{Weight}
use Rattle.barriers.specs.declared.barrier.Barrier.{Barrier}
use Rattle.barriers.specs.declared.barrier.Barrier.TheVariants.{Credit, Paid, Responses}
use Rattle.asset_pools.specs.declared.pool.Pool.{Pool}
use Rattle.weight_trader.specs.declared.rate.Rate.{Rate}
use Rattle.trust_tables.specs.declared.rows.AssetRow.{AssetRow}
use Rattle.operands.specs.declared.pallet.PalletInfo.{PalletInfo}
use Rattle.network_spec.specs.declared.chain.Balance.{Balance}
use Rattle.network_spec.specs.declared.chain.ChainSpec.{ChainSpec}
use Rattle.document_entries.specs.declared.fault.NetworkFault.{NetworkFault}
use Rattle.document_entries.specs.declared.fault.NetworkFault.TheVariants.{WrongKind, LimitPassed}
use Rattle.document_entries.specs.declared.fault.Place.{Place}
use Rattle.document_entries.specs.declared.fault.Section.{Section}
use Rattle.document_entries.specs.declared.fault.Section.TheVariants.{Top, Fields, Barriers, Rates, Assets, Accounts, Pallets, Queries, Pools, Channels}
use Rattle.document_entries.specs.Forms.{Form, ◌>>=◌, ◌>>◌, or_fault, where_true, fields, defaulted, number_within, bytes32_form, pair, list_field, entries, count}
use Rattle.document_entries.specs.Entries.{made, u32, barrier, rate, asset_row, account, pallet, query, pool}
use Rattle.network_config.specs.declared.head.ChainHead.{ChainHead}
use Rattle.network_config.specs.declared.head.Served.{Served}

-- ---- positions

-- the document as a whole
abbrev pub top : Place
top = record { chain = None; section = Top; index = 0 }

-- a chain's own fields
abbrev pub fields_of : ℕ → Place
fields_of chain = record { chain = Some chain; section = Fields; index = 0 }

-- an entry of a list of a chain
abbrev pub in_chain : ℕ → Section → ℕ → Place
in_chain chain section index = record { chain = Some chain; section = section; index = index }

abbrev pub channel_at : ℕ → Place
channel_at index = record { chain = None; section = Channels; index = index }

-- ---- a chain's own fields

-- a parachain has a number
abbrev pub para_field : Form ChainId
para_field = defaulted (codes "para") Relay (made Para u32)

abbrev pub weight_of_pair : ℕ × ℕ → Weight
weight_of_pair (ref_time, proof_size) = record { ref_time = ref_time; proof_size = proof_size }

abbrev pub weight_field : List ℕ → ℕ → ℕ → Form Weight
weight_field name ref_time proof_size = defaulted name (record { ref_time = ref_time; proof_size = proof_size }) (made weight_of_pair pair)

-- 32 zeros
abbrev pub no_account : List ℕ
no_account = 0 ∷ 0 ∷ 0 ∷ 0 ∷ 0 ∷ 0 ∷ 0 ∷ 0 ∷ 0 ∷ 0 ∷ 0 ∷ 0 ∷ 0 ∷ 0 ∷ 0 ∷ 0 ∷ 0 ∷ 0 ∷ 0 ∷ 0 ∷ 0 ∷ 0 ∷ 0 ∷ 0 ∷ 0 ∷ 0 ∷ 0 ∷ 0 ∷ 0 ∷ 0 ∷ 0 ∷ 0 ∷ []

unfoldable pub chain_head : Form ChainHead
chain_head place value = do
  chain ← para_field place value
  unit ← weight_field (codes "unit_weight") 1000 100 place value
  limit ← weight_field (codes "max_weight") 1000000000000 5242880 place value
  max_instructions ← defaulted (codes "max_instructions") 100 (number_within 1 100) place value
  max_holding ← defaulted (codes "max_holding") 64 (number_within 20 64) place value
  fee_account ← defaulted (codes "fee_account") no_account bytes32_form place value
  Ok (record { chain = chain; rules = record { unit = unit; max_instructions = max_instructions }; limit = limit; max_holding = max_holding; fee_account = fee_account })

-- ---- its lists

-- a list of at most so many
unfoldable pub short_list : List ℕ → ℕ → Form Items
short_list name most place value = do
  items ← list_field name place value
  where_true (LimitPassed place) (nat_le (count items) most) items

-- what is a list is one, and no list is too long
unfoldable pub checked_lists : Form (Unit {0})
checked_lists place value = do
  list_field (codes "barriers") place value
  list_field (codes "rates") place value
  short_list (codes "assets") 128 place value
  list_field (codes "accounts") place value
  short_list (codes "pallets") 64 place value
  list_field (codes "queries") place value
  Ok tt

-- the entries of a list of a chain, each of this form
abbrev pub entries_field : {X : Type 0} → List ℕ → Section → Form X → ℕ → Data → Result (List X) NetworkFault
entries_field name section form chain value = do
  items ← list_field name (fields_of chain) value
  entries (λ index. form (in_chain chain section index)) 0 items

abbrev pub default_barriers : List Barrier
default_barriers = Credit ∷ Paid ∷ Responses ∷ []

-- the barriers, which have a default
abbrev pub barriers_or : Option Data → ℕ → Data → Result (List Barrier) NetworkFault
barriers_or None chain value = Ok default_barriers
barriers_or (Some listed) chain value = entries_field (codes "barriers") Barriers barrier chain value

unfoldable pub barriers_field : ℕ → Data → Result (List Barrier) NetworkFault
barriers_field chain value = barriers_or (get (codes "barriers") value) chain value

-- the fields of a chain; format 2 has calls, locks and pools
abbrev pub chain_fields : Bool → List (List ℕ)
chain_fields true = codes "para" ∷ codes "unit_weight" ∷ codes "max_weight" ∷ codes "max_instructions" ∷ codes "max_holding" ∷ codes "fee_account"
    ∷ codes "barriers" ∷ codes "rates" ∷ codes "assets" ∷ codes "accounts" ∷ codes "pallets" ∷ codes "queries" ∷ codes "calls" ∷ codes "locks" ∷ codes "pools" ∷ []
chain_fields false = codes "para" ∷ codes "unit_weight" ∷ codes "max_weight" ∷ codes "max_instructions" ∷ codes "max_holding" ∷ codes "fee_account"
    ∷ codes "barriers" ∷ codes "rates" ∷ codes "assets" ∷ codes "accounts" ∷ codes "pallets" ∷ codes "queries" ∷ []

-- true or false
unfoldable pub truth : Form Bool
truth place value = or_fault (WrongKind place) (as_bool value)

-- false where it isn't there
abbrev pub flag_or_false : List ℕ → Form Bool
flag_or_false name = defaulted name false truth

-- a chain with its own fields, its lists and what it serves
abbrev pub with_head : ChainHead → List Barrier → List Rate → List AssetRow → List Balance → List PalletInfo → List (ℕ × ChainId) → List Pool
    → Served → ChainSpec
with_head chain_head barriers rates assets accounts pallets queries pools served = record {
  chain = chain_head.chain;
  rules = chain_head.rules;
  limit = chain_head.limit;
  max_holding = chain_head.max_holding;
  fee_account = chain_head.fee_account;
  barriers = barriers;
  rates = rates;
  assets = assets;
  accounts = accounts;
  pallets = pallets;
  queries = queries;
  calls = served.calls;
  locks = served.locks;
  pools = pools;
}

-- its own fields, and what it serves
unfoldable pub own_chain_fields : Bool → Form (ChainHead × Served)
own_chain_fields more place value = do
  fields (chain_fields more) place value
  chain_head ← chain_head place value
  checked_lists place value
  calls ← flag_or_false (codes "calls") place value
  locks ← flag_or_false (codes "locks") place value
  short_list (codes "pools") 16 place value
  Ok (chain_head, record { calls = calls; locks = locks })

-- the entry of a chain by its index; format 2 has more fields
unfoldable pub chain_entry : Bool → ℕ → Data → Result ChainSpec NetworkFault
chain_entry more chain value = do
  own ← own_chain_fields more (fields_of chain) value
  barriers ← barriers_field chain value
  rates ← entries_field (codes "rates") Rates rate chain value
  assets ← entries_field (codes "assets") Assets asset_row chain value
  accounts ← entries_field (codes "accounts") Accounts account chain value
  pallets ← entries_field (codes "pallets") Pallets pallet chain value
  queries ← entries_field (codes "queries") Queries query chain value
  pools ← entries_field (codes "pools") Pools pool chain value
  Ok (with_head own.0 barriers rates assets accounts pallets queries pools own.1)
