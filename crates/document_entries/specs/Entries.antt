-- The entries of the lists of a network document, a line a field: its name, its form, and what it is where it isn't there.
-- Source: this project's own rule.
use Rattle.std.specs.Prelude.{ℕ, ◌^◌, List, [], ◌∷◌, length, Bool, true, false, not, ◌&&◌, ◌||◌, ◌==◌, nat_le, bytes_eq, codes, Option, Some, None, option_and_then, Result, Ok, Err, if◌then◌else◌}
use Rattle.std.specs.Option.{option_map}
use Rattle.std.specs.Result.{result_ok}
use Rattle.std.specs.Str.{is_utf8}
use Rattle.hex.specs.Hex.{decode_of}
use Rattle.serde_json.specs.Data.{Data}
use Rattle.serde_json.specs.Find.{as_str, get}
use Rattle.chain_ids.specs.declared.chain.ChainId.{ChainId}
use Rattle.locations.specs.declared.relative.Location.{Location}
use Rattle.asset_lists.specs.declared.units.Asset.{Asset}
use Rattle.asset_lists.specs.declared.units.AssetId.TheVariants.{Concrete}
use Rattle.asset_lists.specs.declared.units.Fun.TheVariants.{Fungible, NonFungible}
use Rattle.asset_lists.specs.declared.units.Instance.{Instance}
use Rattle.asset_lists.specs.declared.units.Kind.{Kind}
use Rattle.asset_lists.specs.declared.units.Kind.TheVariants as kinds
use Rattle.asset_wire.specs.Reading.{instance_at}
use Rattle.operands.specs.declared.version.Version.{Version}
use Rattle.operands.specs.declared.version.Version.TheVariants.{V3, V4}
use Rattle.barriers.specs.declared.barrier.Barrier.{Barrier}
use Rattle.barriers.specs.declared.barrier.Barrier.TheVariants.{Credit, Paid, Explicit, Unpaid, Responses}
use Rattle.weight_trader.specs.declared.rate.Rate.{Rate}
use Rattle.asset_pools.specs.declared.pool.Pool.{Pool}
use Rattle.trust_tables.specs.declared.rows.AssetRole.{AssetRole}
use Rattle.trust_tables.specs.declared.rows.AssetRole.TheVariants.{Native, Derivative}
use Rattle.trust_tables.specs.declared.rows.AssetRow.{AssetRow}
use Rattle.operands.specs.declared.pallet.PalletInfo.{PalletInfo}
use Rattle.network_spec.specs.declared.chain.Balance.{Balance}
use Rattle.network_spec.specs.declared.network.ChannelSpec.{ChannelSpec}
use Rattle.document_entries.specs.declared.fault.NetworkFault.{NetworkFault}
use Rattle.document_entries.specs.declared.fault.NetworkFault.TheVariants.{NotJson, MissingField, WrongKind, UnknownField, BadValue, Repeated, LimitPassed, Memory}
use Rattle.document_entries.specs.declared.fault.Place.{Place}
use Rattle.document_entries.specs.Forms.{Form, ◌>>=◌, ◌>>◌, or_fault, where_true, fields, needed, defaulted, optional_field, number_within, whole_number, text, decimal_below, behind_0x, bytes32_form, chain, each, is_text, is_chain_kind}
use Rattle.document_entries.specs.LocationTexts.{parsed_location}

-- ---- two fields of which there has to be just one

abbrev pub is_wrong_kind : NetworkFault → Bool
is_wrong_kind (WrongKind place) = true
is_wrong_kind (NotJson place) = false
is_wrong_kind (MissingField place) = false
is_wrong_kind (UnknownField place) = false
is_wrong_kind (BadValue place) = false
is_wrong_kind (Repeated place) = false
is_wrong_kind (LimitPassed place) = false
is_wrong_kind Memory = false

abbrev pub is_limit_passed : NetworkFault → Bool
is_limit_passed (LimitPassed place) = true
is_limit_passed (NotJson place) = false
is_limit_passed (MissingField place) = false
is_limit_passed (UnknownField place) = false
is_limit_passed (BadValue place) = false
is_limit_passed (Repeated place) = false
is_limit_passed (WrongKind place) = false
is_limit_passed Memory = false

abbrev pub refused_for : {X : Type 0} → (NetworkFault → Bool) → Result X NetworkFault → Bool
refused_for test (Ok x) = false
refused_for test (Err fault) = test fault

-- the fault of two fields that are both there: the first of their causes in the order of kinds
abbrev pub both_fault : {X Y : Type 0} → Place → Result X NetworkFault → Result Y NetworkFault → NetworkFault
both_fault place x y =
    if refused_for is_wrong_kind x || refused_for is_wrong_kind y then WrongKind place
    else if refused_for is_limit_passed x || refused_for is_limit_passed y then LimitPassed place
    else BadValue place

abbrev pub one_of : {X : Type 0} → Place → Option (Result X NetworkFault) → Option (Result X NetworkFault) → Result X NetworkFault
one_of place None None = Err (MissingField place)
one_of place (Some x) None = x
one_of place None (Some y) = y
one_of place (Some x) (Some y) = Err (both_fault place x y)

-- just one of two fields, each of its form
abbrev pub either : {X : Type 0} → List ℕ → Form X → List ℕ → Form X → Form X
either name form other_name other_form place value = one_of place (option_map (form place) (get name value)) (option_map (other_form place) (get other_name value))

-- a form, and what is made of its value
abbrev pub made : {X Y : Type 0} → (X → Y) → Form X → Form Y
made f form place value = do
  x ← form place value
  Ok (f x)

-- ---- locations, instances and amounts

unfoldable pub location_form : Form Location
location_form place value = do
  s ← text place value
  or_fault (BadValue place) (parsed_location s)

unfoldable pub locations : Form (List Location)
locations place value = each is_text location_form place value

abbrev pub whole_instance : Option (Instance × List ℕ) → Option Instance
whole_instance None = None
whole_instance (Some read) = if length read.1 == 0 then Some read.0 else None

-- `0x` and the hex digits, of either case, of an instance's spelling
abbrev pub instance_of : List ℕ → Option Instance
instance_of s = option_and_then (λ bytes32_form. whole_instance (instance_at bytes32_form)) (option_and_then (λ digits. result_ok (decode_of digits)) (behind_0x s))

unfoldable pub instance_form : Form Instance
instance_form place value = do
  s ← text place value
  or_fault (BadValue place) (instance_of s)

-- the numbers of a rate are below it
unfoldable pub rate_limit : ℕ
rate_limit = 2 ^ 60

-- amounts and their sums are below it
unfoldable pub amount_limit : ℕ
amount_limit = 2 ^ 127

-- an amount above 0
unfoldable pub positive_amount_form : Form ℕ
positive_amount_form place value = do
  n ← decimal_below amount_limit place value
  where_true (BadValue place) (not (n == 0)) n

-- ---- barriers

abbrev pub named_barrier : Place → List ℕ → Result Barrier NetworkFault
named_barrier place name =
    if bytes_eq name (codes "credit") then Ok Credit
    else if bytes_eq name (codes "paid") then Ok Paid
    else if bytes_eq name (codes "responses") then Ok Responses
    else Err (BadValue place)

abbrev pub barrier_of_object : Form Barrier
barrier_of_object place value = do
  fields (codes "explicit" ∷ codes "unpaid" ∷ []) place value
  either (codes "explicit") (made Explicit locations) (codes "unpaid") (made Unpaid locations) place value

abbrev pub named_or : Option (List ℕ) → Form Barrier
named_or (Some name) place value = named_barrier place name
named_or None place value = barrier_of_object place value

-- a name, or an object
unfoldable pub barrier : Form Barrier
barrier place value = named_or (as_str value) place value

-- ---- rates

unfoldable pub rate : Form Rate
rate place value = do
  fields (codes "asset" ∷ codes "per_second" ∷ codes "per_mb" ∷ []) place value
  asset ← needed (codes "asset") location_form place value
  per_second ← needed (codes "per_second") (decimal_below rate_limit) place value
  per_mb ← needed (codes "per_mb") (decimal_below rate_limit) place value
  Ok (record { asset = asset; per_second = per_second; per_mb = per_mb })

-- ---- assets

-- `fungible` or `class`
unfoldable pub kind : Form Kind
kind place value = do
  s ← text place value
  if bytes_eq s (codes "fungible") then Ok kinds.Fungible else if bytes_eq s (codes "class") then Ok kinds.Class else Err (BadValue place)

abbrev pub native : List ChainId → AssetRole
native partners = Native partners None

-- a checking account belongs to a native asset that has amounts
abbrev pub with_checking : Place → Kind → Option ℕ → AssetRole → Result AssetRole NetworkFault
with_checking place kind None role = Ok role
with_checking place kinds.Fungible (Some checking) (Native partners before) = Ok (Native partners (Some checking))
with_checking place kinds.Fungible (Some checking) (Derivative reserve) = Err (BadValue place)
with_checking place kinds.Class (Some checking) role = Err (BadValue place)

unfoldable pub asset_row : Form AssetRow
asset_row place value = do
  fields (codes "id" ∷ codes "kind" ∷ codes "native" ∷ codes "reserve" ∷ codes "checking" ∷ []) place value
  id ← needed (codes "id") location_form place value
  kind ← defaulted (codes "kind") kinds.Fungible kind place value
  role ← either (codes "native") (made native (each is_chain_kind chain)) (codes "reserve") (made Derivative chain) place value
  checking ← optional_field (codes "checking") (decimal_below amount_limit) place value
  role ← with_checking place kind checking role
  Ok (record { id = id; kind = kind; role = role })

-- ---- accounts

unfoldable pub account : Form Balance
account place value = do
  fields (codes "who" ∷ codes "asset" ∷ codes "amount" ∷ codes "instance" ∷ []) place value
  who ← needed (codes "who") bytes32_form place value
  id ← needed (codes "asset") location_form place value
  fun ← either (codes "amount") (made Fungible positive_amount_form) (codes "instance") (made NonFungible instance_form) place value
  Ok (record { who = who; asset = record { id = Concrete id; fun = fun } })

-- ---- pallets

abbrev pub u32 : Form ℕ
u32 = number_within 0 4294967295

-- at most 48 bytes of UTF-8
unfoldable pub pallet_name : Form (List ℕ)
pallet_name place value = do
  s ← text place value
  where_true (BadValue place) (nat_le (length s) 48 && is_utf8 s) s

unfoldable pub pallet : Form PalletInfo
pallet place value = do
  fields (codes "index" ∷ codes "name" ∷ codes "module_name" ∷ codes "major" ∷ codes "minor" ∷ codes "patch" ∷ []) place value
  index ← needed (codes "index") u32 place value
  name ← needed (codes "name") pallet_name place value
  module_name ← needed (codes "module_name") pallet_name place value
  major ← needed (codes "major") u32 place value
  minor ← needed (codes "minor") u32 place value
  patch ← needed (codes "patch") u32 place value
  Ok (record { index = index; name = name; module_name = module_name; major = major; minor = minor; patch = patch })

-- ---- queries

unfoldable pub query : Form (ℕ × ChainId)
query place value = do
  fields (codes "id" ∷ codes "from" ∷ []) place value
  id ← needed (codes "id") whole_number place value
  from ← needed (codes "from") chain place value
  Ok (id, from)

-- ---- pools

-- its two assets, and how many thousandths of what is given don't count
unfoldable pub pool : Form Pool
pool place value = do
  fields (codes "first" ∷ codes "second" ∷ codes "fee" ∷ []) place value
  first ← needed (codes "first") location_form place value
  second ← needed (codes "second") location_form place value
  fee ← needed (codes "fee") (number_within 0 999) place value
  Ok (record { first = first; second = second; fee = fee })

-- ---- channels

-- 3 or 4
unfoldable pub version : Form Version
version place value = do
  n ← number_within 3 4 place value
  Ok (if n == 3 then V3 else V4)

-- the fields of a channel; format 2 has fees
abbrev pub channel_fields : Bool → List (List ℕ)
channel_fields true = codes "from" ∷ codes "to" ∷ codes "version" ∷ codes "capacity" ∷ codes "max_size" ∷ codes "fee_asset" ∷ codes "fee" ∷ []
channel_fields false = codes "from" ∷ codes "to" ∷ codes "version" ∷ codes "capacity" ∷ codes "max_size" ∷ []

-- both or neither
abbrev pub fee : Place → Option Data → Option Data → Result (Option Asset) NetworkFault
fee place None None = Ok None
fee place None (Some amount_value) = Err (MissingField place)
fee place (Some asset_value) amount_value = do
  id ← location_form place asset_value
  value ← or_fault (MissingField place) amount_value
  n ← positive_amount_form place value
  Ok (Some (record { id = Concrete id; fun = Fungible n }))

unfoldable pub channel_entry : Bool → Form ChannelSpec
channel_entry fees place value = do
  fields (channel_fields fees) place value
  from ← needed (codes "from") chain place value
  to ← needed (codes "to") chain place value
  version ← defaulted (codes "version") V4 version place value
  capacity ← defaulted (codes "capacity") 32 (number_within 1 32) place value
  max_size ← defaulted (codes "max_size") 65536 (number_within 1 65536) place value
  fee ← fee place (get (codes "fee_asset") value) (get (codes "fee") value)
  Ok (record { from = from; channel = record { to = to; version = version; capacity = capacity; max_size = max_size; fee = fee } })
