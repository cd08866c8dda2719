-- A message that is put last, and one that is taken: the others are as they were.
use Rattle.std.proofs.Common.{◌≡◌, Bool, true, false, List, [], ◌∷◌, drop, Option, Some, None, inl, refl, sym, ap, ◌∙◌, true≢false}
use Rattle.std.specs.Prelude.{if◌then◌else◌}
use Rattle.std.specs.List.{AllByRecursion}
use Rattle.std.specs.Option.{option_map, option_map_or, option_and_then}
use Rattle.chain_ids.specs.declared.chain.ChainId.{ChainId}
use Rattle.locations.specs.declared.relative.Location.{Location}
use Rattle.locations.proofs.Lemmas.OrderLaws.{location_decides}
use Rattle.operands.specs.declared.query.QueryInfo.{QueryInfo}
use Rattle.operands.specs.declared.query.Response.{Response}
use Rattle.asset_lists.specs.declared.units.Asset.{Asset}
use Rattle.asset_lists.specs.Moves.{reanchored_list}
use Rattle.asset_bundles.specs.Bundles.{Bundle, held_assets}
use Rattle.asset_bundles.specs.declared.shipment.Way.{Way}
use Rattle.plain_lists.specs.Firsts.{change_first}
use Rattle.trust_tables.specs.declared.chains.Site.{Site}
use Rattle.trust_tables.specs.Chains.{path_of_site, location_of}
use Rattle.trust_tables.specs.Trust.{has_location}
use Rattle.xcm_program.specs.declared.instruction.Instruction.{Instruction, roll-Instruction}
use Rattle.xcm_program.specs.declared.instruction.Instruction.TheOpen.{Instruction-F}
use Rattle.asset_locks.specs.LockMaps.{NoteKey}
use Rattle.channel_parts.specs.declared.cargo.Cargo.{Cargo}
use Rattle.channel_parts.specs.declared.cargo.Cargo.TheVariants.{Nothing, Deposit}
use Rattle.channel_parts.specs.Channels.{Waiting, Outgoing, with_waiting, away}
use Rattle.chain_queues.specs.Queues.{without_oldest}
use Rattle.exec_base.specs.Arrivals.{arrived_list}
use Rattle.exec_base.specs.Part.{ChainPart}
use Rattle.exec_base.specs.Sending.{leads_to_location, sent, deposit_program, away_program, listed_refusal, listed_program, named_sent}
use Rattle.exec_base.specs.Host.{transfer_refusal, transferred, transfer_out_refusal, transferred_out, deposited, deposit_refusal, deposit_out_refusal, deposited_out, raised_for, ship_refusal, shipped, seen_from, querier_seen, report_program, responded, lock_key, place_seen, asset_seen, note_program, with_lock, asset_locked, request_key, account_place, unlock_program, with_less_noted, asset_requested}
use Rattle.exec_rules.proofs.Lemmas.AnswerLaws.{none_next}
use Rattle.law_steps.specs.Shapes.{named_there, IsLedBy, IsAlone, IsShape, IsShaped, AreShapedIn, AreShapedAt}
use Rattle.plain_lists.proofs.Lemmas.Facts.{all_with_last as all_push}

-- ---- lists
all_drop : {A : Type 0} (P : A → Type 0) (xs : List A) → AllByRecursion P xs → AllByRecursion P (drop 1 xs)
all_drop P [] all = tt
all_drop P (x ∷ xs) all = all.1

-- ---- one channel changes
pub changed_shaped : (here : Site) (test : Outgoing → Bool) (change : Outgoing → Outgoing) → ((c : Outgoing) → test c ≡ true → AreShapedIn here c → AreShapedIn here (change c)) → (cs : List Outgoing)
    → AllByRecursion (AreShapedIn here) cs → AllByRecursion (AreShapedIn here) (change_first test change cs)
changed_shaped here test change keeps [] all = tt
changed_shaped here test change keeps (c ∷ cs) all =
    elim (test c) as (λ b. test c ≡ b → AllByRecursion (AreShapedIn here) (if b then change c ∷ cs else c ∷ change_first test change cs)) [
      | true ↦ λ e. (keeps c e all.0, all.1)
      | false ↦ λ e. (all.0, changed_shaped here test change keeps cs all.1)
    ] refl

pub waiting_shaped : (here : Site) (program : List Instruction) (cargo : Cargo) (c : Outgoing) → IsShape here c.channel.to program cargo → AreShapedIn here c → AreShapedIn here (with_waiting program cargo c)
waiting_shaped here program cargo c fits all =
    let x : Waiting = record { number = c.next; program = program; cargo = cargo } in
    all_push (IsShaped here c.channel.to) c.queue x all fits

pub oldest_gone : (here : Site) (c : Outgoing) → AreShapedIn here c → AreShapedIn here (without_oldest c)
oldest_gone here c all = all_drop (IsShaped here c.channel.to) c.queue all

-- ---- a message that is sent
named_some : (o : Option Location) (l : Location) → has_location o l ≡ true → o ≡ Some l
named_some None l h = absurd (true≢false (sym h))
named_some (Some named) l h = ap Some ((location_decides named l).0 h)

pub sent_shaped : (p : ChainPart) (dest : Location) (program : List Instruction) (cargo : Cargo) → ((there : ChainId) → location_of p.site.chain there ≡ Some dest → IsShape p.site there program cargo) → AreShapedAt p
    → AreShapedAt (sent p dest program cargo)
unfolding sent
sent_shaped p dest program cargo fits all =
    changed_shaped p.site (leads_to_location p dest) (with_waiting program cargo)
    (λ c leads. waiting_shaped p.site program cargo c (fits c.channel.to (named_some (location_of p.site.chain c.channel.to) dest leads))) p.channels all

-- ---- around a list that the receiver can name
there_named : (here : Site) (there : ChainId) (dest : Location) (list : List Asset) → location_of here.chain there ≡ Some dest → named_there here there list ≡ reanchored_list dest (path_of_site here) list
unfolding arrived_list
there_named here there dest list leads = ap (λ (o : Option Location). option_and_then (λ (target : Location). reanchored_list target (path_of_site here) list) o) leads

around_led : (p : ChainPart) (dest : Location) (carried : List Asset) (around : List Asset → List Instruction → List Instruction) (xcm : List Instruction) (there : ChainId) (o : Option (List Asset)) → seen_from p dest carried ≡ o
    → listed_refusal p dest (λ l. around l xcm) o ≡ None → location_of p.site.chain there ≡ Some dest → IsLedBy p.site there carried around (listed_program (λ l. around l xcm) o)
around_led p dest carried around xcm there None is ok leads = absurd cc
around_led p dest carried around xcm there (Some list) is ok leads = record { list = list; behind = xcm; named = there_named p.site there dest carried leads ∙ is; is = refl }

pub transferred_shaped : (p : ChainPart) (list : List Asset) (from dest : Location) (xcm : List Instruction) → transfer_out_refusal p list from dest xcm ≡ None → AreShapedAt p → AreShapedAt (transferred_out p list from dest xcm)
unfolding transferred_out transferred transfer_out_refusal
transferred_shaped p list from dest xcm ok all =
    sent_shaped (transferred p list from dest) dest (listed_program (λ l. deposit_program l xcm) (seen_from p dest list)) (Deposit list)
    (λ there leads. around_led p dest list deposit_program xcm there (seen_from p dest list) refl (none_next (transfer_refusal p list from dest) _ ok) leads) all

pub deposited_shaped : (p : ChainPart) (goods : Bundle) (dest : Location) (xcm : List Instruction) → deposit_out_refusal p goods dest xcm ≡ None → AreShapedAt p → AreShapedAt (deposited_out p goods dest xcm)
unfolding deposited_out deposited deposit_out_refusal
deposited_shaped p goods dest xcm ok all =
    sent_shaped (deposited p goods dest) dest (listed_program (λ l. deposit_program l xcm) (seen_from p dest (held_assets goods))) (Deposit (held_assets goods))
    (λ there leads. around_led p dest (held_assets goods) deposit_program xcm there (seen_from p dest (held_assets goods)) refl (none_next (deposit_refusal p goods dest) _ ok) leads) all

pub shipped_shaped : (p : ChainPart) (goods : Bundle) (way : Way) (dest : Location) (xcm : List Instruction) → ship_refusal p goods way dest xcm ≡ None → AreShapedAt p → AreShapedAt (shipped p goods way dest xcm)
unfolding shipped ship_refusal
shipped_shaped p goods way dest xcm ok all =
    sent_shaped (raised_for p way goods) dest (listed_program (λ l. away_program way l xcm) (seen_from p dest (held_assets goods))) (away way goods)
    (λ there leads. around_led p dest (held_assets goods) (away_program way) xcm there (seen_from p dest (held_assets goods)) refl (none_next _ _ (none_next _ _ ok)) leads) all

-- ---- an answer
option_shaped : {A : Type 0} (o : Option A) (f : A → ChainPart) (p : ChainPart) → ((x : A) → AreShapedAt (f x)) → AreShapedAt p → AreShapedAt (option_map_or f o p)
option_shaped None f p h all = all
option_shaped (Some x) f p h all = h x

pub responded_shaped : (p : ChainPart) (info : QueryInfo) (response : Response) (querier : Option Location) → AreShapedAt p → AreShapedAt (responded p info response querier)
unfolding responded
responded_shaped p info response querier all =
    option_shaped (querier_seen p info.destination querier) (λ (seen : Option Location). sent p info.destination (report_program info response seen) Nothing) p
    (λ seen. sent_shaped p info.destination (report_program info response seen) Nothing
    (λ there leads. inl (record { what = Instruction-F.QueryResponse info.query_id response info.max_weight seen; kind = refl; is = refl })) all) all

-- ---- of locks
named_shaped : (p : ChainPart) (dest : Location) (o : Option (List Instruction)) → ((program : List Instruction) → o ≡ Some program → IsAlone program) → AreShapedAt p → AreShapedAt (named_sent p dest o)
named_shaped p dest None alone all = all
named_shaped p dest (Some program) alone all = sent_shaped p dest program Nothing (λ there leads. inl (alone program refl)) all

same_program : (a b : List Instruction) → Some a ≡ Some b → b ≡ a
same_program a b e = cc

note_alone : (o : Option Asset) (place : Option Location) (program : List Instruction)
    → option_and_then (λ (asset : Asset). option_map (λ (place : Location). roll-Instruction (Instruction-F.NoteUnlockable asset place) ∷ []) place) o ≡ Some program → IsAlone program
note_alone None place program e = absurd (cc e)
note_alone (Some asset) None program e = absurd (cc e)
note_alone (Some asset) (Some place) program e = record { what = Instruction-F.NoteUnlockable asset place; kind = refl; is = same_program _ program e }

unlock_alone : (key : Option NoteKey) (o : Option Asset) (program : List Instruction)
    → option_and_then (λ (k : NoteKey). option_map (λ (asset : Asset). roll-Instruction (Instruction-F.UnlockAsset asset (account_place k.2)) ∷ []) o) key ≡ Some program → IsAlone program
unlock_alone None o program e = absurd (cc e)
unlock_alone (Some k) None program e = absurd (cc e)
unlock_alone (Some k) (Some asset) program e = record { what = Instruction-F.UnlockAsset asset (account_place k.2); kind = refl; is = same_program _ program e }

pub locked_shaped : (p : ChainPart) (a : Asset) (owner unlocker : Location) → AreShapedAt p → AreShapedAt (asset_locked p a owner unlocker)
unfolding asset_locked
locked_shaped p a owner unlocker all =
    named_shaped (with_lock p a (lock_key p a owner unlocker)) unlocker (note_program p a owner unlocker) (λ program e. note_alone (asset_seen p unlocker a) (place_seen p unlocker owner) program e) all

pub requested_shaped : (p : ChainPart) (a : Asset) (owner locker : Location) → AreShapedAt p → AreShapedAt (asset_requested p a owner locker)
unfolding asset_requested
requested_shaped p a owner locker all =
    named_shaped (with_less_noted p a (request_key a owner locker)) locker (unlock_program p a (request_key a owner locker) locker) (λ program e. unlock_alone (request_key a owner locker) (asset_seen p locker a) program e) all
