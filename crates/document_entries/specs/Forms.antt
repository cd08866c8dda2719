-- The forms of values in a network document. A form gives, of a value at a position, what the value means, or the first fault.
-- An object is read by a list of statements, one a field: its name, its form, and what it is where it isn't there.
-- Source: this project's own rule, over JSON as `serde_json` reads it.
use Rattle.std.specs.Prelude.{ℕ, ◌+◌, ◌^◌, min, List, [], ◌∷◌, take, drop, Bool, true, false, not, ◌&&◌, ◌||◌, ◌==◌, nat_le, nat_lt, bytes_eq, codes, Option, Some, None, option_and_then, is_some, Result, Ok, Err, if◌then◌else◌}
use Rattle.std.specs.List.{list_any}
use Rattle.std.specs.Result.{result_ok}
use Rattle.std.specs.Str.{all_ascii_digits}
use Rattle.std.specs.Str.Parse.{digits_value}
use Rattle.hex.specs.Hex.{decode_sized}
use Rattle.serde_json.specs.Data.{Data, null, boolean, number, string, array, object, Items, no_items, item, Members, no_members, member}
use Rattle.serde_json.specs.Find.{as_number, as_u64, as_str, as_array, as_object, get}
use Rattle.chain_ids.specs.declared.chain.ChainId.{ChainId}
use Rattle.chain_ids.specs.declared.chain.ChainId.TheVariants.{Relay, Para}
use Rattle.document_entries.specs.declared.fault.NetworkFault.{NetworkFault}
use Rattle.document_entries.specs.declared.fault.NetworkFault.TheVariants.{MissingField, WrongKind, UnknownField, BadValue, LimitPassed}
use Rattle.document_entries.specs.declared.fault.Place.{Place}

-- what a value means at a position, or the first fault
abbrev pub Form : Type 0 → Type 0
Form X = Place → Data → Result X NetworkFault

-- ---- one after another: the first fault is the answer

infixl 10 ◌>>=◌
abbrev pub ◌>>=◌ : {A B : Type 0} → Result A NetworkFault → (A → Result B NetworkFault) → Result B NetworkFault
Ok x >>= f = f x
Err fault >>= f = Err fault

infixl 10 ◌>>◌
abbrev pub ◌>>◌ : {A B : Type 0} → Result A NetworkFault → Result B NetworkFault → Result B NetworkFault
Ok x >> next = next
Err fault >> next = Err fault

-- the value, or this fault where there is none
abbrev pub or_fault : {X : Type 0} → NetworkFault → Option X → Result X NetworkFault
or_fault fault None = Err fault
or_fault fault (Some x) = Ok x

-- the value where the test holds, or this fault
abbrev pub where_true : {X : Type 0} → NetworkFault → Bool → X → Result X NetworkFault
where_true fault true x = Ok x
where_true fault false x = Err fault

-- ---- objects and their fields

abbrev pub all_known : List (List ℕ) → Members → Bool
all_known names no_members = true
all_known names (member name value members) = list_any (λ known. bytes_eq known name) names && all_known names members

-- an object that has no other fields than these
unfoldable pub fields : List (List ℕ) → Form (Unit {0})
fields names place value = do
  members ← or_fault (WrongKind place) (as_object value)
  where_true (UnknownField place) (all_known names members) tt

-- the value of a field that is needed
unfoldable pub required_field : List ℕ → Form Data
required_field name place value = or_fault (MissingField place) (get name value)

-- a field that is needed, of this form
abbrev pub needed : {X : Type 0} → List ℕ → Form X → Form X
needed name form place value = required_field name place value >>= form place

abbrev pub of_optional : {X : Type 0} → X → Form X → Place → Option Data → Result X NetworkFault
of_optional missing form place None = Ok missing
of_optional missing form place (Some value) = form place value

-- a field of this form, or what it is where it isn't there
abbrev pub defaulted : {X : Type 0} → List ℕ → X → Form X → Form X
defaulted name missing form place value = of_optional missing form place (get name value)

-- a field of this form that may be absent
abbrev pub some_of : {X : Type 0} → Form X → Form (Option X)
some_of form place value = do
  x ← form place value
  Ok (Some x)

abbrev pub optional_field : {X : Type 0} → List ℕ → Form X → Form (Option X)
optional_field name form = defaulted name None (some_of form)

-- ---- numbers

-- a whole number below 2^64
unfoldable pub whole_number : Form ℕ
whole_number place value = or_fault (WrongKind place) (option_and_then as_u64 (as_number value))

-- a whole number of this range
unfoldable pub number_within : ℕ → ℕ → Form ℕ
number_within low high place value = do
  n ← whole_number place value
  where_true (BadValue place) (nat_le low n && nat_le n high) n

-- ---- texts

unfoldable pub text : Form (List ℕ)
text place value = or_fault (WrongKind place) (as_str value)

-- a digit alone, or digits of which the first isn't 0
abbrev pub is_plain : List ℕ → Bool
is_plain [] = false
is_plain (digit ∷ []) = true
is_plain (first ∷ digit ∷ digits) = not (first == 48)

-- decimal digits, with no 0 before another
abbrev pub is_decimal : List ℕ → Bool
is_decimal digits = all_ascii_digits digits && is_plain digits

-- a number below a limit as a text of decimal digits without leading zeros
unfoldable pub decimal_below : ℕ → Form ℕ
decimal_below limit place value = do
  digits ← text place value
  n ← where_true (BadValue place) (is_decimal digits) (digits_value 10 digits)
  where_true (LimitPassed place) (nat_lt n limit) n

-- what is after `0x` at the front
abbrev pub behind_0x : List ℕ → Option (List ℕ)
behind_0x s = if bytes_eq (take 2 s) (codes "0x") then Some (drop 2 s) else None

-- the 32 bytes of `0x` and 64 hex digits of either case
abbrev pub bytes32 : List ℕ → Option (List ℕ)
bytes32 s = option_and_then (λ digits. result_ok (decode_sized digits 32)) (behind_0x s)

-- 32 bytes
unfoldable pub bytes32_form : Form (List ℕ)
bytes32_form place value = do
  s ← text place value
  or_fault (BadValue place) (bytes32 s)

-- ---- chains

abbrev pub checked_parachain : Place → Option ℕ → Result ChainId NetworkFault
checked_parachain place None = Err (WrongKind place)
checked_parachain place (Some id) = where_true (BadValue place) (nat_lt id (2 ^ 32)) (Para id)

-- the text `relay`, or a parachain's number
unfoldable pub chain : Form ChainId
chain place (string s) = where_true (BadValue place) (bytes_eq s (codes "relay")) Relay
chain place (number n) = checked_parachain place (as_u64 n)
chain place null = Err (WrongKind place)
chain place (boolean b) = Err (WrongKind place)
chain place (array items) = Err (WrongKind place)
chain place (object _) = Err (WrongKind place)

-- ---- lists

-- what follows a list in which each has been looked at
abbrev pub prepended_result : {X : Type 0} → X → Result (List X) NetworkFault → Result (List X) NetworkFault
prepended_result x (Ok xs) = Ok (x ∷ xs)
prepended_result x (Err fault) = Err fault

-- the number of the next entry
abbrev pub next_index : ℕ → ℕ
next_index i = min (i + 1) 4294967295

-- each entry by the form of its index, from this index on
unfoldable pub entries : {X : Type 0} → (ℕ → Data → Result X NetworkFault) → ℕ → Items → Result (List X) NetworkFault
entries form i no_items = Ok []
entries form i (item value items) = do
  x ← form i value
  prepended_result x (entries form (next_index i) items)

abbrev pub count : Items → ℕ
count no_items = 0
count (item value items) = count items + 1

-- a list
unfoldable pub list : Form Items
list place value = or_fault (WrongKind place) (as_array value)

-- a list that is empty where it isn't there
unfoldable pub list_field : List ℕ → Form Items
list_field name place value = defaulted name no_items list place value

abbrev pub all_items : (Data → Bool) → Items → Bool
all_items test no_items = true
all_items test (item value items) = test value && all_items test items

-- whether a value may be a chain: a text, or a whole number
abbrev pub is_chain_kind : Data → Bool
is_chain_kind value = is_some (as_str value) || is_some (option_and_then as_u64 (as_number value))

abbrev pub is_text : Data → Bool
is_text value = is_some (as_str value)

-- a list whose elements pass the test
unfoldable pub passing : (Data → Bool) → Form Items
passing test place value = do
  items ← list place value
  where_true (WrongKind place) (all_items test items) items

-- a list whose elements pass the test, each of this form; all are said to be at the list's position
abbrev pub each : {X : Type 0} → (Data → Bool) → Form X → Form (List X)
each test form place value = do
  passed ← passing test place value
  entries (λ i. form place) 0 passed

-- two whole numbers
abbrev pub two_of : Place → Items → Result (ℕ × ℕ) NetworkFault
two_of place (item a (item b no_items)) = do
  x ← whole_number place a
  y ← whole_number place b
  Ok (x, y)
two_of place (item a (item b (item c items))) = Err (BadValue place)
two_of place (item a no_items) = Err (BadValue place)
two_of place no_items = Err (BadValue place)

abbrev pub is_whole : Data → Bool
is_whole value = is_some (option_and_then as_u64 (as_number value))

unfoldable pub pair : Form (ℕ × ℕ)
pair place value = do
  passed ← passing is_whole place value
  two_of place passed
