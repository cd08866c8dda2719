-- Lemmas that proofs cite, in this crate and above it: a call leaves the part that the host's rule says; none changes settings, and of the
-- channels one at most, by a message put last. A reader of the contracts may skip this file.
use Rattle.std.proofs.Common.{◌≡◌, ℕ, List, [], ◌∷◌, ◌++◌, Option, Some, None, refl}
use Rattle.std.specs.Prelude.{position, remove}
use Rattle.std.specs.Option.{option_map_or}
use Rattle.locations.specs.declared.relative.Location.{Location}
use Rattle.operands.specs.declared.query.QueryInfo.{QueryInfo}
use Rattle.operands.specs.declared.query.Response.{Response}
use Rattle.plain_lists.specs.Firsts.{change_first}
use Rattle.xcm_program.specs.declared.instruction.Instruction.{Instruction}
use Rattle.channel_parts.specs.declared.cargo.Cargo.{Cargo}
use Rattle.channel_parts.specs.declared.cargo.Cargo.TheVariants.{Nothing}
use Rattle.channel_parts.specs.Channels.{Outgoing, with_waiting}
use Rattle.asset_locks.specs.LockMaps.{LocksAndNotes}
use Rattle.weight_trader.specs.Purchases.{paying}
use Rattle.exec_base.specs.declared.event.Event.{Event}
use Rattle.exec_base.specs.Part.{ChainPart}
use Rattle.exec_base.specs.Sending.{leads_to_location, sent, named_sent}
use Rattle.exec_base.specs.Host.{withdrawn, deposited, transferred, received, transferred_out, deposited_out, shipped, querier_seen, report_program, responded, is_query, answered, booked, bought, refunded, bundles_joined, burnt, is_trap, claimed, trapped, parked, settled, note_program, lock_key, with_lock, asset_locked, asset_unlocked, asset_noted, request_key, unlock_program, with_less_noted, asset_requested, fee_held, fee_taken, fee_kept, fee_drawn, told}
use Rattle.exec_base.specs.Pools.{exchange_at, exchanged}
use Rattle.exec_rules.specs.HostCalls.{MachineWithGoods, MachineCall, after}
use Rattle.exec_rules.proofs.Lemmas.HostCalls.{effect}

option_is : {A : Type 0} (shape : ChainPart → ChainPart) (o : Option A) (f : A → ChainPart) (p : ChainPart) → shape p ≡ p → ((x : A) → shape (f x) ≡ f x) → shape (option_map_or f o p) ≡ option_map_or f o p
option_is shape None f p none some = none
option_is shape (Some x) f p none some = some x

answer_is : (p : ChainPart) (query : ℕ) (o : Option ℕ)
    → (let q = option_map_or (λ (place : ℕ). let n : ChainPart = record p { queries = remove p.queries place; pending_events = p.pending_events ++ Event.Answered query ∷ [] } in n) o (record p { pending_events = p.pending_events ++ Event.Ignored query ∷ [] }) in
    let r : ChainPart = record p { queries = q.queries; pending_events = q.pending_events } in r)
    ≡ option_map_or (λ (place : ℕ). record p { queries = remove p.queries place; pending_events = p.pending_events ++ Event.Answered query ∷ [] }) o (record p { pending_events = p.pending_events ++ Event.Ignored query ∷ [] })
answer_is p query None = refl
answer_is p query (Some place) = refl

named_is : (p : ChainPart) (locked : LocksAndNotes) (dest : Location) (o : Option (List Instruction))
    → (let n : ChainPart = record p { locked = locked } in let q = named_sent n dest o in let r : ChainPart = record p { locked = q.locked; channels = q.channels; pending_events = q.pending_events } in r) ≡ named_sent (record p { locked = locked }) dest o
unfolding sent
named_is p locked dest None = refl
named_is p locked dest (Some program) = refl

pub part_is : (c : MachineCall) (t : MachineWithGoods) → (after c t).part ≡ effect c t
unfolding withdrawn deposited transferred received transferred_out deposited_out shipped responded answered bought exchanged refunded bundles_joined burnt claimed trapped parked settled asset_locked asset_unlocked asset_noted asset_requested fee_held fee_taken fee_kept fee_drawn told booked sent
part_is (MachineCall.Respond info answer querier) t =
    option_is (λ (q : ChainPart). record t.part { channels = q.channels; pending_events = q.pending_events }) (querier_seen t.part info.destination querier) (λ (seen : Option Location). sent t.part info.destination (report_program info answer seen) Nothing) t.part refl (λ seen. refl)
part_is (MachineCall.Answer from query) t = answer_is t.part query (position (is_query query from) t.part.queries)
part_is (MachineCall.Buy w) t = option_is (λ (q : ChainPart). record t.part { lines = q.lines; burns = q.burns; pending_events = q.pending_events }) (paying w t.goods t.part.lines) _ t.part refl (λ line. refl)
part_is (MachineCall.Exchange want maximal) t =
    option_is (λ (q : ChainPart). record t.part { held = q.held }) (exchange_at t.part t.goods want maximal) _ t.part refl (λ e. refl)
part_is (MachineCall.Claim list who) t = option_is (λ (q : ChainPart). record t.part { traps = q.traps }) (position (is_trap list who) t.part.traps.traps) _ t.part refl (λ place. refl)
part_is (MachineCall.Lock a owner unlocker) t = named_is t.part (with_lock t.part a (lock_key t.part a owner unlocker)).locked unlocker (note_program t.part a owner unlocker)
part_is (MachineCall.Request a owner locker) t =
    named_is t.part (with_less_noted t.part a (request_key a owner locker)).locked locker (unlock_program t.part a (request_key a owner locker) locker)
part_is _ t = refl

-- ---- what calls change of settings and channels
pub settings_after : (c : MachineCall) (t : MachineWithGoods) → (after c t).part.settings ≡ t.part.settings
settings_after (MachineCall.Take filter) t = refl
settings_after _ t = refl

-- what holds of the channels, and of each with a message put last in the one that leads somewhere, holds after each call
module _ (K : List Outgoing → Type 0) (t : MachineWithGoods) (sends : (dest : Location) (program : List Instruction) (cargo : Cargo) → K t.part.channels → K (change_first (leads_to_location t.part dest) (with_waiting program cargo) t.part.channels)) where
  reported : (info : QueryInfo) (answer : Response) (o : Option (Option Location)) → K t.part.channels
      → K (option_map_or (λ (seen : Option Location). sent t.part info.destination (report_program info answer seen) Nothing) o t.part).channels
  unfolding sent
  reported info answer None h = h
  reported info answer (Some seen) h = sends info.destination _ _ h

  named : (locked : LocksAndNotes) (dest : Location) (o : Option (List Instruction)) → K t.part.channels
      → K (let p : ChainPart = record t.part { locked = locked } in named_sent p dest o).channels
  unfolding sent
  named locked dest None h = h
  named locked dest (Some program) h = sends dest program Nothing h

  pub channels_after : (c : MachineCall) → K t.part.channels → K (after c t).part.channels
  unfolding transferred transferred_out deposited deposited_out shipped responded asset_locked asset_requested sent
  channels_after (MachineCall.TransferOut list from dest xcm) h = sends dest _ _ h
  channels_after (MachineCall.DepositOut dest xcm) h = sends dest _ _ h
  channels_after (MachineCall.Ship way dest xcm) h = sends dest _ _ h
  channels_after (MachineCall.Respond info answer querier) h = reported info answer (querier_seen t.part info.destination querier) h
  channels_after (MachineCall.Lock a owner unlocker) h = named (with_lock t.part a (lock_key t.part a owner unlocker)).locked unlocker (note_program t.part a owner unlocker) h
  channels_after (MachineCall.Request a owner locker) h =
      let key = request_key a owner locker in named (with_less_noted t.part a key).locked locker (unlock_program t.part a key locker) h
  channels_after _ h = h
