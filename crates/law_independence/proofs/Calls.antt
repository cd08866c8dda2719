-- A frame of a chain is what a delivery does meanwhile at the chain that it takes from. The oldest message of a channel goes, and a teleport that
-- was lost is booked. No call of the chain's host depends on it.
use Rattle.std.proofs.Common.{◌≡◌, ℕ, Bool, List, [], ◌∷◌, ◌++◌, Option, Some, None, refl, sym, ap, ◌∙◌, map}
use Rattle.std.specs.Prelude.{position, remove, option_and_then}
use Rattle.std.specs.Option.{option_map_or}
use Rattle.amounts.proofs.Lemmas.{merge_comm}
use Rattle.chain_ids.specs.declared.chain.ChainId.{ChainId}
use Rattle.locations.specs.declared.relative.Location.{Location}
use Rattle.locations.specs.Chains.{path_of}
use Rattle.operands.specs.declared.weight.Weight.{Weight}
use Rattle.operands.specs.declared.query.QueryInfo.{QueryInfo}
use Rattle.operands.specs.declared.query.Response.{Response}
use Rattle.asset_lists.specs.declared.units.Asset.{Asset}
use Rattle.asset_lists.specs.declared.units.AssetId.{AssetId}
use Rattle.asset_lists.specs.Listed.{Listed, listed_of, kind_of}
use Rattle.asset_lists.specs.Units.{Unit, unit_of, amount_of, instance_in}
use Rattle.asset_bundles.specs.Bundles.{Bundle, held_assets}
use Rattle.asset_bundles.specs.declared.book.Cause.{Cause}
use Rattle.asset_bundles.specs.declared.shipment.Way.{Way}
use Rattle.asset_bundles.specs.Books.{Booked, Book, Burns, burned_for, given_up, excess_cause}
use Rattle.asset_bundles.specs.Joins.{Excess}
use Rattle.asset_bundles.proofs.Lemmas.{burn_keys, booked_again}
use Rattle.trust_tables.specs.Trust.{is_location_of, listing}
use Rattle.trust_tables.specs.declared.chains.Site.{Site}
use Rattle.trust_tables.specs.Chains.{path_of_site}
use Rattle.weight_trader.specs.Purchases.{Line, paying, Bought, coin_of, excess}
use Rattle.xcm_program.specs.declared.instruction.Instruction.{Instruction}
use Rattle.channel_parts.specs.declared.cargo.Cargo.{Cargo}
use Rattle.channel_parts.specs.declared.cargo.Cargo.TheVariants.{Nothing, Deposit}
use Rattle.channel_parts.specs.declared.channel.Channel.{Channel}
use Rattle.channel_parts.specs.Channels.{Outgoing, away}
use Rattle.chain_queues.specs.Queues.{popped}
use Rattle.exec_base.specs.declared.event.Event.{Event}
use Rattle.exec_base.specs.Part.{ChainPart}
use Rattle.exec_base.specs.Sending as sending_to
use Rattle.exec_base.specs.Sending.{sent, sent_event, deposit_program, away_program, listed_program, named_sent}
use Rattle.exec_base.specs.Host.{lock_key, note_program, with_lock, asset_locked, asset_unlocked, asset_noted, request_key, unlock_program, with_less_noted, asset_requested, asset_path_in, burned_line, burned_lines, total_of, booked, is_cargo, cargo_after, withdrawn, received, deposited, transferred, seen_from, transferred_out, deposited_out, raised_for, shipped, querier_seen, report_program, responded, is_query, answered, above, bought, refunded, bundles_joined, burnt, is_trap, claimed, trapped, fees_above, settled_burns, settled, fee_to, told}
use Rattle.exec_base.specs.Pools.{exchange_at, exchanged}
use Rattle.law_independence.specs.Beside.{beside}
use Rattle.law_independence.proofs.Channels.{IsThere, read_popped, sent_swap}

-- ---- lines of burns tell the location of a chain, and read no more of it
path_same : (p q : ChainPart) → p.site ≡ q.site → (id : AssetId) → asset_path_in p id ≡ asset_path_in q id
path_same p q same (AssetId.Concrete l) = ap (λ (s : Site). path_of (path_of_site s) l) same
path_same p q same (AssetId.Abstract bytes) = refl

mapped_same : {A B : Type 0} (f g : A → B) → ((a : A) → f a ≡ g a) → (xs : List A) → map f xs ≡ map g xs
mapped_same f g same [] = refl
mapped_same f g same (x ∷ xs) = ap (λ b. b ∷ map f xs) (same x) ∙ ap (λ bs. g x ∷ bs) (mapped_same f g same xs)

pub lines_same : (p q : ChainPart) → p.site ≡ q.site → (cause : Unit → Cause) (goods : Bundle) → burned_lines p cause goods ≡ burned_lines q cause goods
unfolding burned_lines
lines_same p q same cause goods =
    mapped_same (burned_line p cause) (burned_line q cause) (λ a. ap (λ path. Event.Burned (kind_of (instance_in a.fun)) path (total_of (amount_of a)) (cause (unit_of a))) (path_same p q same a.id)) (held_assets goods)

-- ---- burns are sums: two bookings may be swapped
same_book : (book : Book) (m : Burns) → (let b : Book = record { listed = book.listed; burns = (Booked book m).burns } in b) ≡ Booked book m
unfolding Booked
same_book book m = refl

pub booked_swap : (listed : List Listed) (burns a b : Burns)
    → (Booked (record { listed = listed; burns = (Booked (record { listed = listed; burns = burns }) a).burns }) b).burns ≡ (Booked (record { listed = listed; burns = (Booked (record { listed = listed; burns = burns }) b).burns }) a).burns
booked_swap listed burns a b =
    let book : Book = record { listed = listed; burns = burns } in
    ap (λ (k : Book). (Booked k b).burns) (same_book book a)
    ∙ ap (λ (k : Book). k.burns) (booked_again book a b)
    ∙ ap (λ (m : Burns). (Booked book m).burns) (merge_comm burn_keys a b)
    ∙ sym (ap (λ (k : Book). k.burns) (booked_again book b a))
    ∙ sym (ap (λ (k : Book). (Booked k a).burns) (same_book book b))

-- ---- the frame
module _ (to : ChainId) (lost : Bundle) where
  abbrev pub framed : ChainPart → ChainPart
  framed p = beside to lost p

  abbrev lost_burns : Burns
  lost_burns = burned_for Cause.LostTeleport lost

  booked_framed : (p : ChainPart) (burns : Burns) (lines : List Event) → booked (framed p) burns lines ≡ framed (booked p burns lines)
  unfolding booked
  booked_framed p burns lines =
      ap (λ (b : Burns). let q : ChainPart = record p { channels = popped to p.channels; burns = b; pending_events = p.pending_events ++ lines } in q) (booked_swap (listing p.rows) p.burns lost_burns burns)

  pub joined_framed : (p : ChainPart) (into goods : Bundle) → bundles_joined (framed p) into goods ≡ framed (bundles_joined p into goods)
  unfolding bundles_joined
  joined_framed p into goods =
      ap (booked (framed p) (given_up into goods)) (lines_same (framed p) p refl (λ (unit : Unit). excess_cause unit.1) (Excess into goods))
      ∙ booked_framed p (given_up into goods) (burned_lines p (λ (unit : Unit). excess_cause unit.1) (Excess into goods))

  pub burnt_framed : (p : ChainPart) (goods : Bundle) → burnt (framed p) goods ≡ framed (burnt p goods)
  unfolding burnt
  burnt_framed p goods =
      ap (booked (framed p) (burned_for Cause.BurnAsset goods)) (lines_same (framed p) p refl (λ unit. Cause.BurnAsset) goods)
      ∙ booked_framed p (burned_for Cause.BurnAsset goods) (burned_lines p (λ unit. Cause.BurnAsset) goods)

  option_framed : {A : Type 0} (o : Option A) (f g : A → ChainPart) (p : ChainPart) → ((x : A) → g x ≡ framed (f x)) → option_map_or g o (framed p) ≡ framed (option_map_or f o p)
  option_framed None f g p same = refl
  option_framed (Some x) f g p same = same x

  abbrev excess_of : Weight → Line → Bundle
  excess_of w line = above (listed_of (coin_of line.rate)) (excess w line)

  pub bought_framed : (p : ChainPart) (w : Weight) (payment : Bundle) → bought (framed p) w payment ≡ framed (bought p w payment)
  unfolding bought
  bought_framed p w payment =
      option_framed (paying w payment p.lines) _ _ p
      (λ line.
      ap (booked (record (framed p) { lines = Bought w payment p.lines }) (burned_for Cause.Saturated (excess_of w line))) (lines_same (framed p) p refl (λ unit. Cause.Saturated) (excess_of w line))
      ∙ booked_framed (record p { lines = Bought w payment p.lines }) (burned_for Cause.Saturated (excess_of w line)) (burned_lines p (λ unit. Cause.Saturated) (excess_of w line)))

  pub exchanged_framed : (p : ChainPart) (give : Bundle) (want : List Asset) (maximal : Bool) → exchanged (framed p) give want maximal ≡ framed (exchanged p give want maximal)
  unfolding exchanged
  exchanged_framed p give want maximal = option_framed (exchange_at p give want maximal) _ _ p (λ e. refl)

  pub refunded_framed : (p : ChainPart) (w : Weight) → refunded (framed p) w ≡ framed (refunded p w)
  unfolding refunded
  refunded_framed p w = refl

  pub claimed_framed : (p : ChainPart) (list : List Asset) (origin : Location) → claimed (framed p) list origin ≡ framed (claimed p list origin)
  unfolding claimed
  claimed_framed p list origin = option_framed (position (is_trap list origin) p.traps.traps) _ _ p (λ place. refl)

  pub answered_framed : (p : ChainPart) (from : Location) (query : ℕ) → answered (framed p) from query ≡ framed (answered p from query)
  unfolding answered
  answered_framed p from query =
      elim (position (is_query query from) p.queries) as (λ o.
      option_map_or (λ (place : ℕ). record (framed p) { queries = remove p.queries place; pending_events = p.pending_events ++ Event.Answered query ∷ [] }) o (record (framed p) { pending_events = p.pending_events ++ Event.Ignored query ∷ [] })
      ≡ framed (option_map_or (λ (place : ℕ). record p { queries = remove p.queries place; pending_events = p.pending_events ++ Event.Answered query ∷ [] }) o (record p { pending_events = p.pending_events ++ Event.Ignored query ∷ [] }))) [
        | None ↦ refl
        | Some place ↦ refl
      ]

  pub withdrawn_framed : (p : ChainPart) (list : List Asset) (who : Location) → withdrawn (framed p) list who ≡ framed (withdrawn p list who)
  unfolding withdrawn cargo_after is_cargo
  withdrawn_framed p list who = refl

  pub received_framed : (p : ChainPart) (list : List Asset) (teleport : Bool) → received (framed p) list teleport ≡ framed (received p list teleport)
  unfolding received cargo_after is_cargo
  received_framed p list teleport = refl

  pub deposited_framed : (p : ChainPart) (goods : Bundle) (who : Location) → deposited (framed p) goods who ≡ framed (deposited p goods who)
  unfolding deposited
  deposited_framed p goods who = refl

  pub transferred_framed : (p : ChainPart) (list : List Asset) (from who : Location) → transferred (framed p) list from who ≡ framed (transferred p list from who)
  unfolding transferred
  transferred_framed p list from who = refl

  -- ---- sends
  abbrev leads : ChainPart → Location → Channel → Bool
  leads p dest c = is_location_of p.site.chain c.to dest

  event_framed : (p : ChainPart) (o : Option Outgoing) → sent_event (framed p) o ≡ sent_event p o
  event_framed p None = refl
  event_framed p (Some c) = refl

  sent_framed : (p : ChainPart) (dest : Location) (program : List Instruction) (cargo : Cargo) → IsThere to p.channels → sent (framed p) dest program cargo ≡ framed (sent p dest program cargo)
  unfolding sent
  sent_framed p dest program cargo there =
      ap (λ (cs : List Outgoing). let q : ChainPart = record (framed p) { channels = cs; pending_events = p.pending_events ++ sent_event (framed p) (sending_to.channel_to_location (framed p) dest) } in q) (sent_swap (leads p dest) to program cargo p.channels there)
      ∙ ap (λ (es : List Event). let q : ChainPart = framed (record p { channels = (sent p dest program cargo).channels; pending_events = p.pending_events ++ es }) in q)
      (event_framed p (sending_to.channel_to_location (framed p) dest) ∙ read_popped (leads p dest) to (sent_event p) (λ c. refl) p.channels)

  pub transferred_out_framed : (p : ChainPart) (list : List Asset) (from dest : Location) (program : List Instruction) → IsThere to p.channels → transferred_out (framed p) list from dest program ≡ framed (transferred_out p list from dest program)
  unfolding transferred_out transferred
  transferred_out_framed p list from dest program there = sent_framed (transferred p list from dest) dest (listed_program (λ l. deposit_program l program) (seen_from p dest list)) (Deposit list) there

  pub deposited_out_framed : (p : ChainPart) (goods : Bundle) (dest : Location) (program : List Instruction) → IsThere to p.channels → deposited_out (framed p) goods dest program ≡ framed (deposited_out p goods dest program)
  unfolding deposited_out deposited
  deposited_out_framed p goods dest program there =
      sent_framed (deposited p goods dest) dest (listed_program (λ l. deposit_program l program) (seen_from p dest (held_assets goods))) (Deposit (held_assets goods)) there

  pub shipped_framed : (p : ChainPart) (goods : Bundle) (way : Way) (dest : Location) (program : List Instruction) → IsThere to p.channels → shipped (framed p) goods way dest program ≡ framed (shipped p goods way dest program)
  unfolding shipped
  shipped_framed p goods way dest program there =
      sent_framed (raised_for p way goods) dest (listed_program (λ l. away_program way l program) (seen_from p dest (held_assets goods))) (away way goods) there

  pub querier_framed : (p : ChainPart) (dest : Location) (o : Option Location) → querier_seen (framed p) dest o ≡ querier_seen p dest o
  querier_framed p dest None = refl
  querier_framed p dest (Some l) = refl

  pub responded_framed : (p : ChainPart) (info : QueryInfo) (response : Response) (querier : Option Location) → IsThere to p.channels → responded (framed p) info response querier ≡ framed (responded p info response querier)
  unfolding responded
  responded_framed p info response querier there =
      ap (λ o. option_map_or (λ (seen : Option Location). sent (framed p) info.destination (report_program info response seen) Nothing) o (framed p)) (querier_framed p info.destination querier)
      ∙ option_framed (querier_seen p info.destination querier) _ _ p (λ seen. sent_framed p info.destination (report_program info response seen) Nothing there)

  -- ---- locks
  named_framed : (p : ChainPart) (dest : Location) (o : Option (List Instruction)) → IsThere to p.channels → named_sent (framed p) dest o ≡ framed (named_sent p dest o)
  named_framed p dest None there = refl
  named_framed p dest (Some program) there = sent_framed p dest program Nothing there

  pub locked_framed : (p : ChainPart) (a : Asset) (owner unlocker : Location) → IsThere to p.channels → asset_locked (framed p) a owner unlocker ≡ framed (asset_locked p a owner unlocker)
  unfolding asset_locked
  locked_framed p a owner unlocker there = named_framed (with_lock p a (lock_key p a owner unlocker)) unlocker (note_program p a owner unlocker) there

  pub unlocked_framed : (p : ChainPart) (a : Asset) (target from : Location) → asset_unlocked (framed p) a target from ≡ framed (asset_unlocked p a target from)
  unfolding asset_unlocked
  unlocked_framed p a target from = refl

  pub noted_framed : (p : ChainPart) (a : Asset) (owner from : Location) → asset_noted (framed p) a owner from ≡ framed (asset_noted p a owner from)
  unfolding asset_noted
  noted_framed p a owner from = refl

  pub requested_framed : (p : ChainPart) (a : Asset) (owner locker : Location) → IsThere to p.channels → asset_requested (framed p) a owner locker ≡ framed (asset_requested p a owner locker)
  unfolding asset_requested
  requested_framed p a owner locker there = named_framed (with_less_noted p a (request_key a owner locker)) locker (unlock_program p a (request_key a owner locker) locker) there

  pub fee_to_framed : (p : ChainPart) (dest : Location) → fee_to (framed p) dest ≡ fee_to p dest
  fee_to_framed p dest = read_popped (leads p dest) to (λ (o : Option Outgoing). option_and_then (λ (c : Outgoing). c.channel.fee) o) (λ c. refl) p.channels

  -- ---- what is told, and the end of a run
  pub told_framed : (p : ChainPart) (e : Event) → told (framed p) e ≡ framed (told p e)
  unfolding told
  told_framed p e = refl

  pub trapped_framed : (p : ChainPart) (goods : Bundle) (origin : Location) → trapped (framed p) goods origin ≡ framed (trapped p goods origin)
  unfolding trapped
  trapped_framed p goods origin = refl

  pub settled_framed : (p : ChainPart) → settled (framed p) ≡ framed (settled p)
  unfolding settled
  settled_framed p =
      ap (λ (es : List Event). let q : ChainPart = record (settled (framed p)) { events = p.events ++ es } in q) (lines_same (framed p) p refl (λ unit. Cause.Saturated) (fees_above p))
      ∙ ap (λ (b : Burns). let q : ChainPart = record (framed (settled p)) { burns = b } in q) (booked_swap (listing p.rows) p.burns lost_burns (settled_burns p))
