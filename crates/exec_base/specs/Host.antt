-- What each call of a host refuses, in the written order of the rules, and the part that it leaves where it refuses nothing.
use Rattle.std.specs.Prelude.{◌≡◌, ◌⊎◌, ℕ, zero, ◌+◌, ◌-◌, ◌/◌, ◌%◌, ◌^◌, ◌==◌, min, nat_lt, nat_le, not, IsTrue, ◌&&◌, Bool, true, false, is_some, if◌then◌else◌, List, [], ◌∷◌, ◌++◌, map, position, remove, slice_get, Option, Some, None, option_and_then, Result, Ok, Err}
use Rattle.std.specs.Option.{option_map, option_map_or}
use Rattle.std.specs.List.{list_any}
use Rattle.std.specs.Ordering.{eq_by_cmp, nat_cmp, on, then_cmp}
use Rattle.std.specs.declared.cmp.Ordering.{Ordering}
use Rattle.std.specs.Cmp.Lexicographic.{slice_cmp}
use Rattle.amounts.specs.Amounts.{amount, empty, merge, difference, map_keys, rows}
use Rattle.locations.specs.declared.faults.LocationFault.{LocationFault}
use Rattle.locations.specs.declared.relative.Location.{Location}
use Rattle.locations.specs.Order.{location_cmp}
use Rattle.locations.specs.Chains.{path_of}
use Rattle.locations.specs.declared.grammar.Junction.{Junction}
use Rattle.locations.specs.declared.grammar.Junction.TheVariants.{AccountId32}
use Rattle.locations.specs.Reanchoring.{reanchored}
use Rattle.operands.specs.declared.error.XcmError.{XcmError}
use Rattle.operands.specs.declared.error.XcmError.TheVariants as error
use Rattle.operands.specs.declared.weight.Weight.{Weight}
use Rattle.operands.specs.declared.query.QueryInfo.{QueryInfo}
use Rattle.operands.specs.declared.query.Response.{Response}
use Rattle.operands.specs.declared.query.OpenQuery.{OpenQuery}
use Rattle.asset_lists.specs.declared.units.Asset.{Asset}
use Rattle.asset_lists.specs.declared.units.AssetId.{AssetId}
use Rattle.asset_lists.specs.declared.units.Fun.{Fun}
use Rattle.asset_lists.specs.Units.{Unit, unit_of, unit_cmp, amount_of, instance_in}
use Rattle.asset_lists.specs.Moves.{moved, reanchored_list}
use Rattle.asset_bundles.specs.declared.shipment.Way.{Way}
use Rattle.asset_bundles.specs.declared.book.Cause.{Cause}
use Rattle.asset_bundles.specs.declared.totals.Total.{Total}
use Rattle.asset_bundles.specs.Bundles.{Bundle, bundle_of, held_assets}
use Rattle.asset_bundles.specs.Books.{Booked, Burns, burned_for, given_up, excess_cause, most_burned}
use Rattle.asset_lists.specs.Listed.{Listed, kind_of, listed_of}
use Rattle.asset_bundles.specs.Changed.{with_amounts}
use Rattle.asset_bundles.specs.Joins.{Excess}
use Rattle.trust_tables.specs.declared.rows.AssetRow.{AssetRow}
use Rattle.trust_tables.specs.Trust.{row_of, is_row_of, is_reserve, is_partner}
use Rattle.trust_tables.specs.Accounts.{account_of}
use Rattle.trust_tables.specs.Chains.{path_of_site}
use Rattle.ledgers.specs.Ledgers.{Held, Withdrawn, Deposited, is_barred}
use Rattle.asset_bundles.specs.Traps.{with_trapped, pieces_of}
use Rattle.asset_bundles.specs.declared.trap.Trap.{Trap}
use Rattle.channel_parts.specs.declared.cargo.Cargo.{Cargo}
use Rattle.channel_parts.specs.declared.cargo.Cargo.TheVariants.{Nothing, Deposit, Away}
use Rattle.channel_parts.specs.Channels.{Outgoing, away}
use Rattle.weight_trader.specs.Purchases.{Line, coin_of, paying, unspent_at, excess, Bought, paid_goods}
use Rattle.weight_trader.specs.Refunds.{refund_of, goods_of, Refunded, Closed}
use Rattle.xcm_program.specs.declared.instruction.Instruction.{Instruction, roll-Instruction}
use Rattle.xcm_program.specs.declared.instruction.Instruction.TheOpen.{Instruction-F}
use Rattle.asset_pools.specs.Exchanges.{is_pool_account}
use Rattle.exec_base.specs.declared.event.Event.{Event}
use Rattle.exec_base.specs.Part.{DeliveredCargo, ChainPart, accounts_of, book_of}
use Rattle.exec_base.specs.Arrivals.{arrived_list, is_this_list}
use Rattle.exec_base.specs.Sending.{unless, or_else, channel_to_location, send_refusal, sent, deposit_program, away_program, listed_refusal, listed_program, named_refusal, named_sent}
use Rattle.asset_locks.specs.UnitFloors.{floor_at}
use Rattle.asset_locks.specs.LockMaps.{LockKey, NoteKey, lock_at, noted, Locked, Unlocked, Noted, Reduced}

-- the first asset in order that is refused decides
abbrev pub first_fault : (Asset → Option XcmError) → List Asset → Option XcmError
first_fault fault [] = None
first_fault fault (a ∷ rest) = or_else (fault a) (first_fault fault rest)

-- what the location's account may do; without an account the asset isn't moved
abbrev pub with_account : Option (List ℕ) → (List ℕ → Option XcmError) → Option XcmError
with_account None rule = Some error.FailedToTransactAsset
with_account (Some who) rule = rule who

-- where there is no account, nothing was moved
abbrev pub at_account : Option (List ℕ) → (List ℕ → Held) → Held → Held
at_account None change held = held
at_account (Some who) change held = change who

-- ---- burns and their lines
abbrev pub asset_path_in : ChainPart → AssetId → List Junction
asset_path_in p (AssetId.Concrete l) = path_of (path_of_site p.site) l
asset_path_in p (AssetId.Abstract bytes) = []

abbrev pub total_of : ℕ → Total
total_of n = record { low = n % 2 ^ 128; high = min (n / 2 ^ 128) (2 ^ 32 - 1) }

abbrev pub burned_line : ChainPart → (Unit → Cause) → Asset → Event
burned_line p cause a = Event.Burned (kind_of (instance_in a.fun)) (asset_path_in p a.id) (total_of (amount_of a)) (cause (unit_of a))

-- a line for each asset that is burned, an instance as 1, in the order in which a bundle holds them
unfoldable pub burned_lines : ChainPart → (Unit → Cause) → Bundle → List Event
burned_lines p cause goods = map (burned_line p cause) (held_assets goods)

-- the burns are booked, and the lines are kept back
unfoldable pub booked : ChainPart → Burns → List Event → ChainPart
booked p burns lines = record p { burns = (Booked (book_of p) burns).burns; pending_events = p.pending_events ++ lines }

-- ---- the cargo that is being delivered
pub data Arrival : Type 0 where
  ByWithdrawal : Arrival
  ByDeposit : Arrival
  ByTeleport : Arrival

abbrev pub arrives_by : Way → Arrival → Bool
arrives_by Way.Withdrawal ByWithdrawal = true
arrives_by Way.Teleport ByTeleport = true
arrives_by _ _ = false

abbrev pub arrives_by_deposit : Arrival → Bool
arrives_by_deposit ByDeposit = true
arrives_by_deposit _ = false

abbrev pub fits_call : Arrival → Cargo → Bool
fits_call arrival Nothing = false
fits_call arrival (Deposit list) = arrives_by_deposit arrival
fits_call arrival (Away shipment) = arrives_by shipment.way arrival

abbrev pub cargo_list : Cargo → List Asset
cargo_list Nothing = []
cargo_list (Deposit list) = list
cargo_list (Away shipment) = held_assets shipment.units

-- the kind fits the call, and the list, as this chain names it, is the call's
unfoldable pub is_cargo : ChainPart → Arrival → List Asset → Bool
is_cargo p arrival list = fits_call arrival p.cargo.cargo && is_this_list list (arrived_list p.site p.cargo.sender (cargo_list p.cargo.cargo))

-- a call that the cargo matches ends it
unfoldable pub cargo_after : ChainPart → Arrival → List Asset → DeliveredCargo
cargo_after p arrival list = if is_cargo p arrival list then (record { sender = p.cargo.sender; cargo = Nothing }) else p.cargo

-- ---- moves
-- how much of a unit an account must keep for its locks
abbrev pub floor_of : ChainPart → List ℕ → Unit → ℕ
floor_of p who unit = floor_at p.locked who unit.0 unit.1

abbrev pub debit_fault : ChainPart → Option (List ℕ) → Asset → Option XcmError
debit_fault p account a =
    unless (is_some (row_of p.rows a)) error.AssetNotFound
    (with_account account (λ who. unless (nat_le (amount_of a + floor_of p who (unit_of a)) (amount p.held (who, unit_of a))) error.FailedToTransactAsset None))

abbrev pub credit_fault : ChainPart → Option (List ℕ) → Asset → Option XcmError
credit_fault p account a =
    unless (is_some (row_of p.rows a)) error.AssetNotFound
    (with_account account (λ who. unless (not (is_barred p.held who a)) error.FailedToTransactAsset None))

abbrev pub given : ChainPart → List Asset → Location → ChainPart
given p list who = record p { held = at_account (account_of who p.site) (λ account. (Withdrawn account list (accounts_of p)).held) p.held }

abbrev pub got : ChainPart → Bundle → Location → ChainPart
got p goods who = record p { held = at_account (account_of who p.site) (λ account. (Deposited account goods (accounts_of p)).held) p.held }

unfoldable pub withdraw_refusal : ChainPart → List Asset → Location → Option XcmError
withdraw_refusal p list who = first_fault (debit_fault p (account_of who p.site)) list

unfoldable pub withdrawn : ChainPart → List Asset → Location → ChainPart
withdrawn p list who = record (given p list who) { cargo = cargo_after p ByWithdrawal list }

unfoldable pub deposit_refusal : ChainPart → Bundle → Location → Option XcmError
deposit_refusal p goods who = first_fault (credit_fault p (account_of who p.site)) (held_assets goods)

unfoldable pub deposited : ChainPart → Bundle → Location → ChainPart
deposited p goods who = got p goods who

unfoldable pub transfer_refusal : ChainPart → List Asset → Location → Location → Option XcmError
transfer_refusal p list from to =
    or_else (first_fault (debit_fault p (account_of from p.site)) list) (first_fault (credit_fault (given p list from) (account_of to p.site)) list)

unfoldable pub transferred : ChainPart → List Asset → Location → Location → ChainPart
transferred p list from to = got (given p list from) (bundle_of list) to

-- ---- what comes from other chains
abbrev pub arrival_of : Bool → Arrival
arrival_of teleport = if teleport then ByTeleport else ByDeposit

abbrev pub trust_fault : ChainPart → Location → Bool → Asset → Option XcmError
trust_fault p from teleport a =
    if teleport
    then unless (is_partner p.rows p.site a from) error.UntrustedTeleportLocation None
    else unless (is_reserve p.rows p.site a from) error.UntrustedReserveLocation None

-- the checking account of the asset's row
abbrev pub checking_of : ChainPart → Asset → Option ℕ
checking_of p a = option_and_then (λ (place : ℕ). option_and_then (λ (c : Option ℕ). c) (slice_get p.checking place)) (position (is_row_of a) p.rows)

abbrev pub lower_fault : ChainPart → Asset → Option XcmError
lower_fault p a = unless (option_map_or (λ (n : ℕ). nat_le (amount_of a) n) (checking_of p a) true) error.NotWithdrawable None

abbrev pub raise_fault : ChainPart → Asset → Option XcmError
raise_fault p a = unless (option_map_or (λ (n : ℕ). nat_le (n + amount_of a) (2 ^ 128 - 1)) (checking_of p a) true) error.NotDepositable None

-- the checking accounts of the listed assets' rows, changed
abbrev pub changed_rows : (ℕ → ℕ → ℕ) → Asset → List AssetRow → List (Option ℕ) → List (Option ℕ)
changed_rows f a [] cs = cs
changed_rows f a (row ∷ rows) [] = []
changed_rows f a (row ∷ rows) (c ∷ cs) = if is_row_of a row then option_map (λ (n : ℕ). f n (amount_of a)) c ∷ cs else c ∷ changed_rows f a rows cs

abbrev pub changed_all : (ℕ → ℕ → ℕ) → List Asset → List AssetRow → List (Option ℕ) → List (Option ℕ)
changed_all f [] rows cs = cs
changed_all f (a ∷ list) rows cs = changed_all f list rows (changed_rows f a rows cs)

unfoldable pub receive_refusal : ChainPart → List Asset → Location → Bool → Option XcmError
receive_refusal p list from teleport = or_else (first_fault (trust_fault p from teleport) list) (if teleport then first_fault (lower_fault p) list else None)

unfoldable pub received : ChainPart → List Asset → Bool → ChainPart
received p list teleport = record p {
  checking = if teleport then changed_all (λ n a. n - a) list p.rows p.checking else p.checking;
  cargo = cargo_after p (arrival_of teleport) list;
}

-- ---- what goes to other chains
abbrev pub seen_from : ChainPart → Location → List Asset → Option (List Asset)
seen_from p dest list = reanchored_list dest (path_of_site p.site) list

unfoldable pub transfer_out_refusal : ChainPart → List Asset → Location → Location → List Instruction → Option XcmError
transfer_out_refusal p list from dest xcm = or_else (transfer_refusal p list from dest) (listed_refusal p dest (λ a. deposit_program a xcm) (seen_from p dest list))

unfoldable pub transferred_out : ChainPart → List Asset → Location → Location → List Instruction → ChainPart
transferred_out p list from dest xcm = sent (transferred p list from dest) dest (listed_program (λ a. deposit_program a xcm) (seen_from p dest list)) (Deposit list)

unfoldable pub deposit_out_refusal : ChainPart → Bundle → Location → List Instruction → Option XcmError
deposit_out_refusal p goods dest xcm = or_else (deposit_refusal p goods dest) (listed_refusal p dest (λ a. deposit_program a xcm) (seen_from p dest (held_assets goods)))

unfoldable pub deposited_out : ChainPart → Bundle → Location → List Instruction → ChainPart
deposited_out p goods dest xcm = sent (deposited p goods dest) dest (listed_program (λ a. deposit_program a xcm) (seen_from p dest (held_assets goods))) (Deposit (held_assets goods))

abbrev pub is_teleport : Way → Bool
is_teleport Way.Withdrawal = false
is_teleport Way.Teleport = true

unfoldable pub ship_refusal : ChainPart → Bundle → Way → Location → List Instruction → Option XcmError
ship_refusal p goods way dest xcm =
    or_else (first_fault (trust_fault p dest (is_teleport way)) (held_assets goods))
    (or_else (if is_teleport way then first_fault (raise_fault p) (held_assets goods) else None)
    (listed_refusal p dest (λ a. away_program way a xcm) (seen_from p dest (held_assets goods))))

abbrev pub raised_for : ChainPart → Way → Bundle → ChainPart
raised_for p way goods = record p { checking = if is_teleport way then changed_all (λ n a. n + a) (held_assets goods) p.rows p.checking else p.checking }

unfoldable pub shipped : ChainPart → Bundle → Way → Location → List Instruction → ChainPart
shipped p goods way dest xcm = sent (raised_for p way goods) dest (listed_program (λ a. away_program way a xcm) (seen_from p dest (held_assets goods))) (away way goods)

-- ---- reports
abbrev pub querier_from : Result Location LocationFault → Option Location
querier_from (Ok l) = Some l
querier_from (Err fault) = None

-- the querier as the destination names it: refused where it can't
abbrev pub querier_seen : ChainPart → Location → Option Location → Option (Option Location)
querier_seen p dest None = Some None
querier_seen p dest (Some l) = option_map (λ (seen : Location). Some seen) (querier_from (reanchored l dest (path_of_site p.site)))

abbrev pub report_program : QueryInfo → Response → Option Location → List Instruction
report_program info response querier = roll-Instruction (Instruction-F.QueryResponse info.query_id response info.max_weight querier) ∷ []

abbrev pub report_refusal : ChainPart → QueryInfo → Response → Option (Option Location) → Option XcmError
report_refusal p info response None = Some error.ReanchorFailed
report_refusal p info response (Some querier) = send_refusal p info.destination true (report_program info response querier)

unfoldable pub respond_refusal : ChainPart → QueryInfo → Response → Option Location → Option XcmError
respond_refusal p info response querier = report_refusal p info response (querier_seen p info.destination querier)

unfoldable pub responded : ChainPart → QueryInfo → Response → Option Location → ChainPart
responded p info response querier =
    option_map_or (λ (seen : Option Location). sent p info.destination (report_program info response seen) Nothing) (querier_seen p info.destination querier) p

-- ---- queries
abbrev pub is_query : ℕ → Location → OpenQuery → Bool
is_query id from q = (q.id == id) && eq_by_cmp location_cmp q.from from

unfoldable pub has_open_query : ChainPart → Location → ℕ → Bool
has_open_query p from query = list_any (is_query query from) p.queries

unfoldable pub answered : ChainPart → Location → ℕ → ChainPart
answered p from query =
    option_map_or (λ (place : ℕ). record p { queries = remove p.queries place; pending_events = p.pending_events ++ Event.Answered query ∷ [] })
    (position (is_query query from) p.queries) (record p { pending_events = p.pending_events ++ Event.Ignored query ∷ [] })

-- ---- weight
abbrev pub no_line_refusal : Option Line → Option XcmError
no_line_refusal None = Some error.TooExpensive
no_line_refusal (Some line) = None

unfoldable pub buy_refusal : ChainPart → Weight → Bundle → Option XcmError
buy_refusal p w payment = no_line_refusal (paying w payment p.lines)

unfoldable pub unspent : ChainPart → Weight → Bundle → Bundle
unspent p w payment = option_map_or (λ (line : Line). unspent_at w payment line) (paying w payment p.lines) payment

-- so much of a fungible asset that would have passed 2^128-1
abbrev pub above : Listed → ℕ → Bundle
above asset n = bundle_of (record { id = asset.0; fun = Fun.Fungible n } ∷ [])

unfoldable pub bought : ChainPart → Weight → Bundle → ChainPart
bought p w payment =
    option_map_or (λ (line : Line).
    let goods = above (listed_of (coin_of line.rate)) (excess w line) in
    booked (record p { lines = Bought w payment p.lines }) (burned_for Cause.Saturated goods) (burned_lines p (λ unit. Cause.Saturated) goods))
    (paying w payment p.lines) p

unfoldable pub refund_goods : ChainPart → Weight → Bundle
refund_goods p w = goods_of (refund_of w p.lines)

unfoldable pub refunded : ChainPart → Weight → ChainPart
refunded p w = record p { lines = Refunded w p.lines }

-- ---- bundles
unfoldable pub bundles_joined : ChainPart → Bundle → Bundle → ChainPart
bundles_joined p into goods = booked p (given_up into goods) (burned_lines p (λ (unit : Unit). excess_cause unit.1) (Excess into goods))

unfoldable pub burnt : ChainPart → Bundle → ChainPart
burnt p goods = booked p (burned_for Cause.BurnAsset goods) (burned_lines p (λ unit. Cause.BurnAsset) goods)

-- by their amounts, unit by unit
abbrev pub bundle_cmp : Bundle → Bundle → Ordering
bundle_cmp = on (λ (b : Bundle). rows b) (slice_cmp (then_cmp (on (λ (r : Unit × ℕ). r.0) unit_cmp) (on (λ (r : Unit × ℕ). r.1) nat_cmp)))

-- a trap with that origin and just those assets
abbrev pub is_trap : List Asset → Location → Trap → Bool
is_trap list origin t = eq_by_cmp location_cmp t.origin origin && eq_by_cmp bundle_cmp t.goods (bundle_of list)

unfoldable pub claim_refusal : ChainPart → List Asset → Location → Option XcmError
claim_refusal p list origin = unless (list_any (is_trap list origin) p.traps.traps) error.UnknownClaim None

unfoldable pub claimed : ChainPart → List Asset → Location → ChainPart
claimed p list origin = option_map_or (λ (place : ℕ). record p { traps = record p.traps { traps = remove p.traps.traps place } }) (position (is_trap list origin) p.traps.traps) p

abbrev pub trapped_lines : List Trap → List Event
trapped_lines [] = []
trapped_lines (t ∷ ts) = Event.Trapped t.number ∷ trapped_lines ts

-- in pieces of at most 20, whose lines are told at once
unfoldable pub trapped : ChainPart → Bundle → Location → ChainPart
trapped p goods origin = record p {
  traps = with_trapped p.traps origin goods;
  events = p.events ++ trapped_lines (pieces_of p.traps.next origin goods);
}

unfoldable pub parked : ChainPart → Bundle → ChainPart
parked p goods = record p { parked = p.parked ++ goods ∷ [] }

-- ---- fees
-- what was paid, to the trader and for deliveries
abbrev pub all_fees : ChainPart → Bundle
all_fees p = merge (paid_goods p.lines) p.fees

-- what would pass 2^128-1 in the fee account
abbrev pub fees_above : ChainPart → Bundle
fees_above p = with_amounts (λ (unit : Unit) n. (amount p.held (p.fee_account, unit) + n) - (2 ^ 128 - 1)) (all_fees p)

abbrev pub fees_within : ChainPart → Bundle
fees_within p = difference (all_fees p) (fees_above p)

abbrev pub settled_burns : ChainPart → Burns
settled_burns p = burned_for Cause.Saturated (fees_above p)

-- paid fees go to the fee account, and the lines of what is booked are told at once
unfoldable pub settled : ChainPart → ChainPart
settled p = record p {
  held = merge p.held (map_keys (λ (unit : Unit). (p.fee_account, unit)) (fees_within p));
  lines = Closed p.lines;
  fees = empty;
  burns = (Booked (book_of p) (settled_burns p)).burns;
  events = p.events ++ burned_lines p (λ unit. Cause.Saturated) (fees_above p);
}

abbrev pub fee_to : ChainPart → Location → Option Asset
fee_to p dest = option_and_then (λ (c : Outgoing). c.channel.fee) (channel_to_location p dest)

-- an amount above 0 of a fungible asset
abbrev pub is_price : Fun → Bool
is_price (Fun.Fungible n) = nat_lt 0 n
is_price (Fun.NonFungible instance) = false

abbrev pub IsPrice : Asset → Type 0
IsPrice a = IsTrue (is_price a.fun)

-- goods that are the fee of one of the chain's channels
abbrev pub IsFeeOf : ChainPart → Bundle → Type 0
IsFeeOf p goods = (dest : Location) × (fee : Asset) × (fee_to p dest ≡ Some fee) × (goods ≡ bundle_of (fee ∷ []))

-- or nothing, so that it can be said of a chain without fees too
abbrev pub IsFeeOrNothing : ChainPart → Bundle → Type 0
IsFeeOrNothing p goods = (goods ≡ empty) ⊎ IsFeeOf p goods

unfoldable pub fee_held : ChainPart → Bundle → ChainPart
fee_held p goods = record p { fee_slot = goods }

unfoldable pub fee_taken : ChainPart → ChainPart
fee_taken p = record p { fee_slot = empty }

-- fees with more of them, asset by asset; each sum saturates at 2^160-1
unfoldable pub fees_with : Bundle → Bundle → Bundle
fees_with fees more = merge fees (with_amounts (λ (unit : Unit) n. min n (most_burned - amount fees unit)) more)

unfoldable pub fee_kept : ChainPart → ChainPart
fee_kept p = record p { fee_slot = empty; fees = fees_with p.fees p.fee_slot }

-- a fee from an account ends no cargo
unfoldable pub fee_drawn : ChainPart → List Asset → Location → ChainPart
fee_drawn p list who = given p list who

-- ---- locks
-- on a chain where assets may be locked; else there is nothing to lock
abbrev pub where_locks : ChainPart → Option XcmError → Option XcmError
where_locks p next = unless p.locks error.LockError next

-- the id of a fungible asset; there are no locks of others
abbrev pub fungible_id : AssetId → Fun → Option Location
fungible_id (AssetId.Concrete id) (Fun.Fungible n) = Some id
fungible_id _ _ = None

abbrev pub lock_id : Asset → Option Location
lock_id a = fungible_id a.id a.fun

-- the lock of an asset on the account of a location, that the unlocker may let fall
abbrev pub lock_key : ChainPart → Asset → Location → Location → Option LockKey
lock_key p a owner unlocker =
    option_and_then (λ (id : Location). option_map (λ (who : List ℕ). let key : LockKey = (who, id, unlocker) in key) (account_of owner p.site)) (lock_id a)

-- the account may be locked so far: it has as much, and is no pool's
abbrev pub is_lockable : ChainPart → Asset → LockKey → Bool
is_lockable p a key =
    is_some (row_of p.rows a)
    && (not (is_pool_account p.pools key.0) && nat_le (amount_of a) (amount p.held (key.0, unit_of a)))

-- a location, and an asset, as the destination names them
abbrev pub place_seen : ChainPart → Location → Location → Option Location
place_seen p dest place = querier_from (reanchored place dest (path_of_site p.site))

abbrev pub asset_seen : ChainPart → Location → Asset → Option Asset
asset_seen p dest a = moved dest (path_of_site p.site) a

-- the unlocker is told of the lock
abbrev pub note_program : ChainPart → Asset → Location → Location → Option (List Instruction)
note_program p a owner unlocker =
    option_and_then (λ (asset : Asset). option_map (λ (place : Location). roll-Instruction (Instruction-F.NoteUnlockable asset place) ∷ []) (place_seen p unlocker owner)) (asset_seen p unlocker a)

unfoldable pub lock_refusal : ChainPart → Asset → Location → Location → Option XcmError
lock_refusal p a owner unlocker =
    where_locks p (unless (option_map_or (is_lockable p a) (lock_key p a owner unlocker) false) error.LockError (named_refusal p unlocker (note_program p a owner unlocker)))

abbrev pub with_lock : ChainPart → Asset → Option LockKey → ChainPart
with_lock p a key = record p { locked = option_map_or (λ (k : LockKey). Locked k (amount_of a) p.locked) key p.locked }

unfoldable pub asset_locked : ChainPart → Asset → Location → Location → ChainPart
asset_locked p a owner unlocker = named_sent (with_lock p a (lock_key p a owner unlocker)) unlocker (note_program p a owner unlocker)

unfoldable pub unlock_refusal : ChainPart → Asset → Location → Location → Option XcmError
unlock_refusal p a target from = where_locks p (unless (option_map_or (λ (k : LockKey). nat_le (amount_of a) (lock_at k p.locked)) (lock_key p a target from) false) error.LockError None)

unfoldable pub asset_unlocked : ChainPart → Asset → Location → Location → ChainPart
asset_unlocked p a target from = record p { locked = option_map_or (λ (k : LockKey). Unlocked k (amount_of a) p.locked) (lock_key p a target from) p.locked }

-- the account that a location's last junction names
abbrev pub last_account : List Junction → Option (List ℕ)
last_account [] = None
last_account (AccountId32 network id ∷ []) = Some id
last_account (j ∷ rest) = last_account rest

unfoldable pub note_key : Asset → Location → Location → Option NoteKey
note_key a owner from = option_and_then (λ (id : Location). option_map (λ (who : List ℕ). let key : NoteKey = (from, id, who) in key) (last_account owner.interior)) (lock_id a)

unfoldable pub note_refusal : ChainPart → Asset → Location → Location → Option XcmError
note_refusal p a owner from = where_locks p (unless (is_some (note_key a owner from)) error.LockError None)

unfoldable pub asset_noted : ChainPart → Asset → Location → Location → ChainPart
asset_noted p a owner from = record p { locked = option_map_or (λ (k : NoteKey). Noted k (amount_of a) p.locked) (note_key a owner from) p.locked }

-- the account of a location on the chain itself that is just an account
abbrev pub own_account : Location → Option (List ℕ)
own_account l = at l.parents l.interior
  where
    at : ℕ → List Junction → Option (List ℕ)
    at zero (AccountId32 network id ∷ []) = Some id
    at _ _ = None

unfoldable pub request_key : Asset → Location → Location → Option NoteKey
request_key a owner locker = option_and_then (λ (id : Location). option_map (λ (who : List ℕ). let key : NoteKey = (locker, id, who) in key) (own_account owner)) (lock_id a)

abbrev pub account_place : List ℕ → Location
account_place who = record { parents = 0; interior = AccountId32 None who ∷ [] }

-- the locker is asked to unlock
abbrev pub unlock_program : ChainPart → Asset → Option NoteKey → Location → Option (List Instruction)
unlock_program p a key locker =
    option_and_then (λ (k : NoteKey). option_map (λ (asset : Asset). roll-Instruction (Instruction-F.UnlockAsset asset (account_place k.2)) ∷ []) (asset_seen p locker a)) key

unfoldable pub request_refusal : ChainPart → Asset → Location → Location → Option XcmError
request_refusal p a owner locker =
    where_locks p
    (unless (option_map_or (λ (k : NoteKey). nat_le (amount_of a) (noted k p.locked)) (request_key a owner locker) false) error.LockError
    (named_refusal p locker (unlock_program p a (request_key a owner locker) locker)))

abbrev pub with_less_noted : ChainPart → Asset → Option NoteKey → ChainPart
with_less_noted p a key = record p { locked = option_map_or (λ (k : NoteKey). Reduced k (amount_of a) p.locked) key p.locked }

unfoldable pub asset_requested : ChainPart → Asset → Location → Location → ChainPart
asset_requested p a owner locker = named_sent (with_less_noted p a (request_key a owner locker)) locker (unlock_program p a (request_key a owner locker) locker)

-- ---- events
unfoldable pub told : ChainPart → Event → ChainPart
told p e = record p { events = p.events ++ (e ∷ []) ++ p.pending_events; pending_events = [] }
