-- Lemmas that proofs cite, in this crate and above it: what waits at a chain has its lists in order; all that is sent has, where the lists of
-- the program that sends are in order. A reader of the contracts may skip this file.
use Rattle.std.proofs.Common.{◌≡◌, Bool, true, false, List, [], ◌∷◌, ◌++◌, drop, Option, Some, None, refl, sym, ap, ◌∙◌, subst}
use Rattle.std.specs.Prelude.{if◌then◌else◌, ◌&&◌, find, nat_le, length}
use Rattle.std.specs.List.{AllByRecursion}
use Rattle.std.specs.Option.{option_map, option_map_or, option_and_then}
use Rattle.std.proofs.lemmas.Bool.{and_parts}
use Rattle.locations.specs.declared.relative.Location.{Location}
use Rattle.operands.specs.declared.error.XcmError.TheVariants as error
use Rattle.operands.specs.declared.query.QueryInfo.{QueryInfo}
use Rattle.operands.specs.declared.query.Response.{Response}
use Rattle.asset_lists.specs.declared.units.Asset.{Asset}
use Rattle.asset_lists.specs.declared.filters.Filter.{Filter}
use Rattle.asset_lists.specs.Lists.{IsAssetList}
use Rattle.asset_bundles.specs.Bundles.{Bundle, held_assets}
use Rattle.asset_bundles.specs.declared.shipment.Way.{Way}
use Rattle.plain_lists.specs.Firsts.{change_first}
use Rattle.trust_tables.specs.Chains.{path_of_site}
use Rattle.xcm_program.specs.declared.instruction.Instruction.{Instruction, roll-Instruction}
use Rattle.xcm_program.specs.declared.instruction.Instruction.TheOpen.{Instruction-F}
use Rattle.xcm_program.specs.Measure.{inner}
use Rattle.xcm_program.specs.Everywhere.{AllInside}
use Rattle.xcm_program.proofs.Lemmas.{everywhere_made}
use Rattle.asset_locks.specs.LockMaps.{NoteKey}
use Rattle.channel_parts.specs.declared.cargo.Cargo.{Cargo}
use Rattle.channel_parts.specs.declared.cargo.Cargo.TheVariants.{Nothing, Deposit}
use Rattle.channel_parts.specs.Channels.{Waiting, Outgoing, with_waiting, away}
use Rattle.chain_queues.specs.Queues.{first_of, oldest, without_oldest}
use Rattle.exec_base.specs.Part.{ChainPart}
use Rattle.exec_base.specs.Sending.{leads_to_location, is_sendable, channel_to_location, channel_refusal, send_refusal, sent, led_by, deposit_program, away_program, listed_refusal, listed_program, named_sent}
use Rattle.exec_base.specs.Host.{transferred, transferred_out, deposited, deposited_out, raised_for, ship_refusal, shipped, seen_from, querier_seen, report_program, responded, lock_key, place_seen, asset_seen, note_program, with_lock, asset_locked, account_place, request_key, unlock_program, with_less_noted, asset_requested}
use Rattle.exec_rules.specs.Machine.{Machine}
use Rattle.exec_rules.proofs.Lemmas.AnswerLaws.{unless_held, none_next}
use Rattle.exec_rules.specs.HostCalls.{MachineWithGoods, MachineCall, why_not, after}
use Rattle.exec_rules.proofs.Lemmas.Footprints.{part_is}
use Rattle.exec_rules.specs.Reasons.{shipping, Moment, HasReason}
use Rattle.law_runs.specs.Safety.{HasList, AreLists}
use Rattle.law_runs.proofs.Lemmas.Shipping.{HasList-IsOfLayer, named_in_order}
use Rattle.network_steps.specs.Worlds.{World}
use Rattle.law_steps.specs.Shapes.{NothingWaits}
use Rattle.law_authority.specs.Floors.{HasLists, WaitInOrder, AllInOrder}
use Rattle.plain_lists.proofs.Lemmas.Facts.{told_at_most as at_most}

-- ---- one channel changes
push_lists : (xs : List Waiting) (x : Waiting) → AllByRecursion HasLists xs → HasLists x → AllByRecursion HasLists (xs ++ x ∷ [])
push_lists [] x all here = (here, tt)
push_lists (y ∷ xs) x all here = (all.0, push_lists xs x all.1 here)

drop_lists : (xs : List Waiting) → AllByRecursion HasLists xs → AllByRecursion HasLists (drop 1 xs)
drop_lists [] all = tt
drop_lists (x ∷ xs) all = all.1

abbrev In : Outgoing → Type 0
In c = AllByRecursion HasLists c.queue

changed_lists : (test : Outgoing → Bool) (change : Outgoing → Outgoing) → ((c : Outgoing) → In c → In (change c)) → (cs : List Outgoing) → AllByRecursion In cs → AllByRecursion In (change_first test change cs)
changed_lists test change keeps [] all = tt
changed_lists test change keeps (c ∷ cs) all = by_test (test c) (changed_lists test change keeps cs all.1)
  where
    by_test : (b : Bool) → AllByRecursion In (change_first test change cs) → AllByRecursion In (if b then change c ∷ cs else c ∷ change_first test change cs)
    by_test true rest = (keeps c all.0, all.1)
    by_test false rest = (all.0, rest)

pub popped_lists : (test : Outgoing → Bool) (p : ChainPart) → WaitInOrder p → AllByRecursion In (change_first test without_oldest p.channels)
popped_lists test p all = changed_lists test without_oldest (λ c h. drop_lists c.queue h) p.channels all

pub queued_lists : (test : Outgoing → Bool) (program : List Instruction) (cargo : Cargo) (p : ChainPart) → AllByRecursion AreLists program → WaitInOrder p → AllByRecursion In (change_first test (with_waiting program cargo) p.channels)
queued_lists test program cargo p fits all = changed_lists test (with_waiting program cargo) (λ c h. push_lists c.queue _ h fits) p.channels all

-- the oldest message of a channel
first_lists : (q : List Waiting) (x : Waiting) → first_of q ≡ Some x → AllByRecursion HasLists q → HasLists x
first_lists [] x e all = absurd (cc e)
first_lists (y ∷ q) x e all = let same : y ≡ x = cc in subst HasLists same all.0

pub oldest_lists : (test : Outgoing → Bool) (cs : List Outgoing) (x : Waiting) → option_and_then oldest (find test cs) ≡ Some x → AllByRecursion (λ (c : Outgoing). AllByRecursion HasLists c.queue) cs → HasLists x
oldest_lists test [] x e all = absurd (cc e)
oldest_lists test (c ∷ cs) x e all = by_test (test c) (λ h. oldest_lists test cs x h all.1) e
  where
    by_test : (b : Bool) → (option_and_then oldest (find test cs) ≡ Some x → HasLists x) → option_and_then oldest (if b then Some c else find test cs) ≡ Some x → HasLists x
    by_test true later h = first_lists c.queue x h all.0
    by_test false later h = later h

-- where nothing waits
empty_lists : (cs : List Outgoing) → AllByRecursion (λ (c : Outgoing). c.queue ≡ []) cs → AllByRecursion (λ (c : Outgoing). AllByRecursion HasLists c.queue) cs
empty_lists [] none = tt
empty_lists (c ∷ cs) none = (subst (λ (q : List Waiting). AllByRecursion HasLists q) (sym none.0) tt, empty_lists cs none.1)

pub nothing_waits : (w : World) → NothingWaits w → AllInOrder w
nothing_waits [] none = tt
nothing_waits (m ∷ w) none = (empty_lists m.part.channels none.0, nothing_waits w none.1)

sent_lists : (p : ChainPart) (dest : Location) (program : List Instruction) (cargo : Cargo) → AllByRecursion AreLists program → WaitInOrder p → WaitInOrder (sent p dest program cargo)
unfolding sent
sent_lists p dest program cargo fits all = queued_lists (leads_to_location p dest) program cargo p fits all

-- ---- programs that are sent
one_list : (first : Instruction-F Instruction) → HasList Instruction first → inner first ≡ None → AreLists (roll-Instruction first)
one_list first fits flat = everywhere_made HasList HasList-IsOfLayer first fits (subst (AllInside AreLists) (sym flat) tt)

led : (first : Instruction-F Instruction) → HasList Instruction first → inner first ≡ None → (xcm : List Instruction) → AllByRecursion AreLists xcm → AllByRecursion AreLists (led_by first xcm)
led first fits flat xcm nested = (one_list first fits flat, (one_list Instruction-F.ClearOrigin tt refl, nested))

deposit_lists : (xcm : List Instruction) → AllByRecursion AreLists xcm → (o : Option (List Asset)) → AllByRecursion AreLists (listed_program (λ a. deposit_program a xcm) o)
deposit_lists xcm nested None = tt
deposit_lists xcm nested (Some list) = led (Instruction-F.ReserveAssetDeposited list) tt refl xcm nested

few_by : (o : Option Outgoing) (few : Bool) (program : List Instruction) → channel_refusal o few program ≡ None → few ≡ true
few_by None few program h = absurd (cc h)
few_by (Some c) few program h = (and_parts few (is_sendable c program) (unless_held (few && is_sendable c program) error.ExceedsMaxMessageSize _ h)).0

few_sent : (p : ChainPart) (dest : Location) (few : Bool) (program : List Instruction) → send_refusal p dest few program ≡ None → few ≡ true
unfolding send_refusal
few_sent p dest few program h = few_by (channel_to_location p dest) few program h

away_lists : (way : Way) (list : List Asset) → IsAssetList list → (xcm : List Instruction) → AllByRecursion AreLists xcm → AllByRecursion AreLists (away_program way list xcm)
away_lists Way.Withdrawal list fits xcm nested = led (Instruction-F.WithdrawAsset list) fits refl xcm nested
away_lists Way.Teleport list fits xcm nested = led (Instruction-F.ReceiveTeleportedAsset list) fits refl xcm nested

shipped_by : (p : ChainPart) (goods : Bundle) (way : Way) (dest : Location) (xcm : List Instruction) → AllByRecursion AreLists xcm → (o : Option (List Asset)) → seen_from p dest (held_assets goods) ≡ o
    → listed_refusal p dest (λ a. away_program way a xcm) o ≡ None → AllByRecursion AreLists (listed_program (λ a. away_program way a xcm) o)
shipped_by p goods way dest xcm nested None e ok = tt
shipped_by p goods way dest xcm nested (Some list) e ok =
    let few = few_sent p dest (nat_le (length list) 20) (away_program way list xcm) ok in
    away_lists way list (named_in_order dest (path_of_site p.site) goods list e (at_most (length list) 20 few)) xcm nested

-- ---- each call that sends
transferred_lists : (p : ChainPart) (list : List Asset) (from dest : Location) (xcm : List Instruction) → AllByRecursion AreLists xcm → WaitInOrder p → WaitInOrder (transferred_out p list from dest xcm)
unfolding transferred_out transferred
transferred_lists p list from dest xcm nested all =
    sent_lists (transferred p list from dest) dest (listed_program (λ l. deposit_program l xcm) (seen_from p dest list)) (Deposit list) (deposit_lists xcm nested (seen_from p dest list)) all

deposited_lists : (p : ChainPart) (goods : Bundle) (dest : Location) (xcm : List Instruction) → AllByRecursion AreLists xcm → WaitInOrder p → WaitInOrder (deposited_out p goods dest xcm)
unfolding deposited_out deposited
deposited_lists p goods dest xcm nested all =
    sent_lists (deposited p goods dest) dest (listed_program (λ l. deposit_program l xcm) (seen_from p dest (held_assets goods))) (Deposit (held_assets goods)) (deposit_lists xcm nested (seen_from p dest (held_assets goods))) all

shipped_lists : (p : ChainPart) (goods : Bundle) (way : Way) (dest : Location) (xcm : List Instruction) → ship_refusal p goods way dest xcm ≡ None → AllByRecursion AreLists xcm → WaitInOrder p → WaitInOrder (shipped p goods way dest xcm)
unfolding shipped ship_refusal
shipped_lists p goods way dest xcm ok nested all =
    sent_lists (raised_for p way goods) dest (listed_program (λ l. away_program way l xcm) (seen_from p dest (held_assets goods))) (away way goods)
    (shipped_by p goods way dest xcm nested (seen_from p dest (held_assets goods)) refl (none_next _ _ (none_next _ _ ok))) all

option_lists : {A : Type 0} (o : Option A) (f : A → ChainPart) (p : ChainPart) → ((x : A) → WaitInOrder (f x)) → WaitInOrder p → WaitInOrder (option_map_or f o p)
option_lists None f p h all = all
option_lists (Some x) f p h all = h x

responded_lists : (p : ChainPart) (info : QueryInfo) (response : Response) (querier : Option Location) → WaitInOrder p → WaitInOrder (responded p info response querier)
unfolding responded
responded_lists p info response querier all =
    option_lists (querier_seen p info.destination querier) (λ (seen : Option Location). sent p info.destination (report_program info response seen) Nothing) p
    (λ seen. sent_lists p info.destination (report_program info response seen) Nothing (one_list (Instruction-F.QueryResponse info.query_id response info.max_weight seen) tt refl, tt) all) all

named_lists : (p : ChainPart) (dest : Location) (o : Option (List Instruction)) → ((program : List Instruction) → o ≡ Some program → AllByRecursion AreLists program) → WaitInOrder p → WaitInOrder (named_sent p dest o)
named_lists p dest None lists all = all
named_lists p dest (Some program) lists all = sent_lists p dest program Nothing (lists program refl) all

same_program : (a b : List Instruction) → Some a ≡ Some b → a ≡ b
same_program a b e = cc

one_told : (first : Instruction-F Instruction) (program : List Instruction) → HasList Instruction first → inner first ≡ None → Some (roll-Instruction first ∷ []) ≡ Some program → AllByRecursion AreLists program
one_told first program fits flat e = subst (AllByRecursion AreLists) (same_program _ program e) (one_list first fits flat, tt)

note_lists : (o : Option Asset) (place : Option Location) (program : List Instruction)
    → option_and_then (λ (asset : Asset). option_map (λ (place : Location). roll-Instruction (Instruction-F.NoteUnlockable asset place) ∷ []) place) o ≡ Some program → AllByRecursion AreLists program
note_lists None place program e = absurd (cc e)
note_lists (Some asset) None program e = absurd (cc e)
note_lists (Some asset) (Some place) program e = one_told (Instruction-F.NoteUnlockable asset place) program tt refl e

unlock_lists : (key : Option NoteKey) (o : Option Asset) (program : List Instruction)
    → option_and_then (λ (k : NoteKey). option_map (λ (asset : Asset). roll-Instruction (Instruction-F.UnlockAsset asset (account_place k.2)) ∷ []) o) key ≡ Some program → AllByRecursion AreLists program
unlock_lists None o program e = absurd (cc e)
unlock_lists (Some k) None program e = absurd (cc e)
unlock_lists (Some k) (Some asset) program e = one_told (Instruction-F.UnlockAsset asset (account_place k.2)) program tt refl e

locked_lists : (p : ChainPart) (a : Asset) (owner unlocker : Location) → WaitInOrder p → WaitInOrder (asset_locked p a owner unlocker)
unfolding asset_locked
locked_lists p a owner unlocker all =
    named_lists (with_lock p a (lock_key p a owner unlocker)) unlocker (note_program p a owner unlocker) (λ program e. note_lists (asset_seen p unlocker a) (place_seen p unlocker owner) program e) all

requested_lists : (p : ChainPart) (a : Asset) (owner locker : Location) → WaitInOrder p → WaitInOrder (asset_requested p a owner locker)
unfolding asset_requested
requested_lists p a owner locker all =
    named_lists (with_less_noted p a (request_key a owner locker)) locker (unlock_program p a (request_key a owner locker) locker) (λ program e. unlock_lists (request_key a owner locker) (asset_seen p locker a) program e) all

-- ---- calls
inside_of : (l k : Instruction-F Instruction) (xcm : List Instruction) → AllInside AreLists (inner l) → l ≡ k → inner k ≡ Some xcm → AllByRecursion AreLists xcm
inside_of l k xcm all is holds = subst (AllInside AreLists) (ap (λ (x : Instruction-F Instruction). inner x) is ∙ holds) all

inner_shipping : (way : Way) (filter : Filter) (dest : Location) (xcm : List Instruction) → inner (shipping way filter dest xcm) ≡ Some xcm
inner_shipping Way.Withdrawal filter dest xcm = refl
inner_shipping Way.Teleport filter dest xcm = refl

pub call_lists : (moment : Moment) (l : Instruction-F Instruction) (m : Machine) (c : MachineCall) (t : MachineWithGoods) → AllInside AreLists (inner l) → HasReason moment l m t c → why_not c t ≡ None → WaitInOrder t.part → WaitInOrder (after c t).part
call_lists moment l m (MachineCall.TransferOut list from dest xcm) t inside asks ok all =
    subst WaitInOrder (sym (part_is (MachineCall.TransferOut list from dest xcm) t)) (transferred_lists t.part list from dest xcm (inside_of l (Instruction-F.TransferReserveAsset list dest xcm) xcm inside asks.2 refl) all)
call_lists moment l m (MachineCall.DepositOut dest xcm) t inside asks ok all =
    subst WaitInOrder (sym (part_is (MachineCall.DepositOut dest xcm) t)) (deposited_lists t.part t.goods dest xcm (inside_of l (Instruction-F.DepositReserveAsset asks.2.0 dest xcm) xcm inside asks.2.1 refl) all)
call_lists moment l m (MachineCall.Ship way dest xcm) t inside asks ok all =
    subst WaitInOrder (sym (part_is (MachineCall.Ship way dest xcm) t)) (shipped_lists t.part t.goods way dest xcm ok (inside_of l (shipping way asks.2.0 dest xcm) xcm inside asks.2.1 (inner_shipping way asks.2.0 dest xcm)) all)
call_lists moment l m (MachineCall.Respond info answer querier) t inside asks ok all = subst WaitInOrder (sym (part_is (MachineCall.Respond info answer querier) t)) (responded_lists t.part info answer querier all)
call_lists moment l m (MachineCall.Lock a owner unlocker) t inside asks ok all = subst WaitInOrder (sym (part_is (MachineCall.Lock a owner unlocker) t)) (locked_lists t.part a owner unlocker all)
call_lists moment l m (MachineCall.Request a owner locker) t inside asks ok all = subst WaitInOrder (sym (part_is (MachineCall.Request a owner locker) t)) (requested_lists t.part a owner locker all)
call_lists moment l m _ t inside asks ok all = all
