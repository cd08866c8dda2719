-- Lemmas on the definitions of `specs/Stepping.antt`: what proofs cite.
use Rattle.std.proofs.Common.{◌≡◌, ◌⊎◌, ⊎_elim, inl, ℕ, zero, suc, ◌+◌, ◌≤◌, Bool, true, false, List, [], ◌∷◌, Option, Some, None, Result, Ok, Err, map, refl, sym, ap, ◌∙◌, subst, arith}
use Rattle.std.specs.Prelude.{◌||◌, if◌then◌else◌, find, slice_get, slice_set}
use Rattle.std.specs.Option.{option_map_or}
use Rattle.std.specs.List.{AllByRecursion}
use Rattle.std.proofs.lemmas.List.{map-append}
use Rattle.std.proofs.lemmas.List.Elements.{All-from_recursion}
use Rattle.std.proofs.lemmas.List.Kept.{AllPairs-cons}
use Rattle.amounts.specs.Amounts.{empty}
use Rattle.locations.specs.declared.relative.Location.{Location}
use Rattle.operands.specs.declared.error.XcmError.{XcmError}
use Rattle.asset_lists.specs.declared.units.Instance.{Instance}
use Rattle.chain_ids.specs.declared.chain.ChainId.{ChainId}
use Rattle.chain_ids.specs.Chains.{same_chain}
use Rattle.chain_ids.proofs.Lemmas.{same_chain_told}
use Rattle.trust_tables.specs.declared.chains.Site.{Site}
use Rattle.trust_tables.specs.declared.rows.AssetRow.{AssetRow}
use Rattle.trust_tables.specs.Chains.{location_of}
use Rattle.xcm_program.specs.declared.instruction.Instruction.{Instruction}
use Rattle.xcm_program.specs.declared.outcome.Outcome.{Outcome}
use Rattle.versioned_xcm.specs.declared.faults.MessageFault.{MessageFault}
use Rattle.versioned_xcm.specs.Reading.{message_of}
use Rattle.plain_lists.specs.Firsts.{change_first}
use Rattle.channel_parts.specs.declared.cargo.Cargo.TheVariants as cargos
use Rattle.channel_parts.specs.Channels.{Waiting, Outgoing, with_waiting}
use Rattle.chain_queues.specs.Queues.{leads_to, channel_to, first_of, oldest, pushed}
use Rattle.exec_base.specs.declared.event.Event.{Event}
use Rattle.exec_base.specs.Part.{ChainPart}
use Rattle.exec_base.specs.Sending.{channel_refusal}
use Rattle.exec_rules.specs.Run.{Stage, machine_of, GoesOnTo}
use Rattle.exec_rules.specs.Instructions.{xcm}
use Rattle.weight_trader.specs.Purchases.{no_weight}
use Rattle.exec_rules.specs.declared.admission.Admitted.{Admitted}
use Rattle.exec_rules.specs.Admission.{admitted}
use Rattle.exec_rules.specs.Execution.{first_stage, executed_by, executed, IsAbandoned}
use Rattle.network_steps.specs.declared.step_result.StepResult.{StepResult}
use Rattle.network_steps.specs.Worlds as networks
use Rattle.network_steps.specs.Worlds.{Member, chain_of, place_of, with_part, unchanged, Stepped}
use Rattle.network_steps.specs.Acting.{begun, ended, acted, caller}
use Rattle.network_steps.specs.Steps.{is_sovereign, exec_read, exec_by, exec_at, exec, nowhere, name_at, run_for, sender_after, receiver_after, delivered, delivery_of, deliver, is_claim, posted, posting, claim_by, claim_on, claim, Link, next_channel, deliveries, world_behind, Step, Exec, Deliver, Claim, Drain, Balances, Traps, Queues, Supply, next_world, worlds}
use Rattle.network_steps.proofs.Lemmas.CallerLaws.{by_caller}
use Rattle.asset_pools.specs.Exchanges.{is_pool_account}
use Rattle.network_steps.specs.Sends.{deliveries_left}
use Rattle.law_steps.specs.Shapes.{IsShaped, AreShapedIn, AreShapedAt, AllShaped}
use Rattle.network_steps.proofs.Lemmas.StepLaws.{between_says, set_read}
use Rattle.law_coherence.specs.UniversalAssets.{UniversalAsset, just}
use Rattle.law_coherence.specs.Networks.{asset_of_row, Agrees}
use Rattle.law_coherence.specs.Parts.{Cargo, Nothing, WorldView, stock, account_amount, burned}
use Rattle.law_coherence.specs.Parts as sums
use Rattle.law_coherence.specs.Channels as queues
use Rattle.law_coherence.specs.Steps.{tables_of, IsSafe}
use Rattle.law_coherence.proofs.Lemmas.Steps.{table_at}
use Rattle.law_coherence.specs.Moves.{IsSent}
use Rattle.law_coherence.proofs.Lemmas.Moves.{sent_safe}
use Rattle.law_coherence.proofs.Lemmas.Bounds.{instances_at_most}
use Rattle.law_coherence.specs.Histories.{History, Start, One}
use Rattle.law_coherence.proofs.Lemmas.Histories.{safe_history, never_passes}
use Rattle.law_coherence.specs.Checking.{checking_at}
use Rattle.law_coherence.proofs.Lemmas.Checking.{risen_by_none, first_within}
use Rattle.law_coherence.proofs.Lemmas.CheckingLaws.{still_bounded}
use Rattle.law_coherence.specs.Headline.{IsKept}
use Rattle.law_runs.specs.Views.{cargo_of, channel_of, seen}
use Rattle.law_runs.specs.Sums.{in_kept, none, HasRoom}
use Rattle.law_runs.specs.Safety.{AreTrustedAt, IsTrustedCargo, IsRunnable, links_of}
use Rattle.law_runs.proofs.Lemmas.Safety.{links_put}
use Rattle.law_steps.specs.Views.{views}
use Rattle.law_steps.proofs.Lemmas.Rooms.{small_room, none_rises}
use Rattle.law_steps.specs.Soundness.{IsLink, IsSoundPart, LawsBelow}
use Rattle.law_steps.proofs.Lemmas.Locals.{begun_sound, ended_sound, ActsSafely, admitted_safely}
use Rattle.law_steps.proofs.Lemmas.Senders.{front_map}
use Rattle.law_steps.specs.Bounds.{IsSoundGenesis}
use Rattle.law_steps.proofs.Lemmas.Bounds.{agrees_now, small_now, genesis_now}
use Rattle.law_steps.proofs.Lemmas.Receptions.{Passed, StillCarried, same_safe}
use Rattle.law_steps.proofs.Lemmas.Fates.{fate_of, comes_by, abandoned_fate, executed_fate}
use Rattle.law_steps.proofs.Lemmas.Deliveries.{trusted_front, views_set, has_name, stands, stands_inside, stands_stopped}
use Rattle.law_steps.specs.Reading.{Decodes}
use Rattle.law_steps.proofs.Lemmas.Reading.{decoded_runs, not_sovereign}
use Rattle.law_steps.specs.Worlds.{AreSoundParts, IsFirst, AllKept, KeepsOn, KeptBetween, arrives, while_delivered, StopsAt, where_delivery_stopped, AllSound}
use Rattle.law_steps.proofs.Lemmas.Worlds.{IsReached}
use Rattle.law_steps.specs.Stepping.{ShapeLaws}
use Rattle.plain_lists.proofs.Lemmas.Facts.{all_with_last}

-- ---- indices of a world
some_member : (x y : Member) → Some x ≡ Some y → x ≡ y
some_member x y e = cc

some_channel : (x y : Outgoing) → Some x ≡ Some y → x ≡ y
some_channel x y e = cc

pub seen_at : (w : networks.World) (k : ℕ) (m : Member) → slice_get w k ≡ Some m → slice_get (views w) k ≡ Some (seen empty m.part)
seen_at [] k m e = absurd cc
seen_at (x ∷ w) zero m e = ap (λ (y : Member). Some (seen empty y.part)) (some_member x m e)
seen_at (x ∷ w) (suc k) m e = seen_at w k m e

parts_set : (w : networks.World) (k : ℕ) (m : Member) → AreSoundParts w → IsSoundPart m.part → AreSoundParts (slice_set w k m)
parts_set w k m all sound d z at = ⊎_elim (λ (e : (d ≡ k) × (z ≡ m)). subst (λ (y : Member). IsSoundPart y.part) (sym e.1) sound) (λ (e : slice_get w d ≡ Some z). all d z e) (set_read w k d m z at)

-- what is told later changes nothing
told_later : (p : ChainPart) (events : List Event) → IsSoundPart p → IsSoundPart (record p { events = events })
unfolding in_kept
told_later p events s = record {
  rest = record { order = record { traps = s.rest.order.traps; rates = s.rest.order.rates; paid = s.rest.order.paid; pools = s.rest.order.pools; unparked = s.rest.order.unparked }; slot = s.rest.slot };
  cargo = s.cargo;
  listed = s.listed;
  trusted = s.trusted;
  links = s.links;
}

-- ---- the channel that is found
found_to : (to : ChainId) (cs : List Outgoing) (c : Outgoing) → channel_to to cs ≡ Some c → c.channel.to ≡ to
found_to to [] c e = absurd cc
found_to to (d ∷ cs) c e =
    elim (same_chain d.channel.to to) as (λ b. same_chain d.channel.to to ≡ b → (if b then Some d else find (leads_to to) cs) ≡ Some c → c.channel.to ≡ to) [
      | true ↦ λ t h. ap (λ (y : Outgoing). y.channel.to) (sym (some_channel d c h)) ∙ same_chain_told d.channel.to to t
      | false ↦ λ t h. found_to to cs c h
    ] refl e

found_link : (here to : ChainId) (cs : List Outgoing) (c : Outgoing) → channel_to to cs ≡ Some c → AllByRecursion (IsLink here) (links_of cs) → IsLink here c.channel
found_link here to [] c e all = absurd cc
found_link here to (d ∷ cs) c e all =
    elim (same_chain d.channel.to to) as (λ b. (if b then Some d else find (leads_to to) cs) ≡ Some c → IsLink here c.channel) [
      | true ↦ λ h. subst (λ (y : Outgoing). IsLink here y.channel) (some_channel d c h) all.0
      | false ↦ λ h. found_link here to cs c h all.1
    ] e

first_shaped : (site : Site) (to : ChainId) (ms : List Waiting) (x : Waiting) → first_of ms ≡ Some x → AllByRecursion (IsShaped site to) ms → IsShaped site to x
first_shaped site to [] x e all = absurd cc
first_shaped site to (m ∷ ms) x e all = let same : m ≡ x = cc in subst (IsShaped site to) same all.0

found_shape : (site : Site) (to : ChainId) (cs : List Outgoing) (c : Outgoing) (x : Waiting) → channel_to to cs ≡ Some c → oldest c ≡ Some x → AllByRecursion (AreShapedIn site) cs → IsShaped site c.channel.to x
found_shape site to [] c x e first all = absurd cc
found_shape site to (d ∷ cs) c x e first all =
    elim (same_chain d.channel.to to) as (λ b. (if b then Some d else find (leads_to to) cs) ≡ Some c → IsShaped site c.channel.to x) [
      | true ↦ λ h. let same : d ≡ c = some_channel d c h in first_shaped site c.channel.to c.queue x first (subst (AreShapedIn site) same all.0)
      | false ↦ λ h. found_shape site to cs c x h first all.1
    ] e

member_shaped : (w : networks.World) (k : ℕ) (m : Member) → slice_get w k ≡ Some m → AllShaped w → AreShapedAt m.part
member_shaped [] k m e all = absurd cc
member_shaped (x ∷ w) zero m e all = subst (λ (y : Member). AreShapedAt y.part) (some_member x m e) all.0
member_shaped (x ∷ w) (suc k) m e all = member_shaped w k m e all.1

-- ---- what is claimed
queue_put : (program : List Instruction) (c : Outgoing) → channel_of (with_waiting program cargos.Nothing c) ≡ queues.with_last Nothing (channel_of c)
queue_put program c =
    ap (λ (q : List Cargo). let r : sums.Channel = record { to = c.channel.to; queue = q } in r)
    (map-append (λ (m : Waiting). cargo_of m.cargo) c.queue (record { number = c.next; program = program; cargo = cargos.Nothing } ∷ []))

pushed_map : (to : ChainId) (program : List Instruction) (cs : List Outgoing) → map channel_of (pushed to program cargos.Nothing cs) ≡ queues.cargo_pushed to Nothing (map channel_of cs)
pushed_map to program [] = refl
pushed_map to program (c ∷ cs) =
    elim (same_chain c.channel.to to) as (λ b. map channel_of (if b then with_waiting program cargos.Nothing c ∷ cs else c ∷ change_first (leads_to to) (with_waiting program cargos.Nothing) cs)
    ≡ (if b then queues.with_last Nothing (channel_of c) ∷ map channel_of cs else channel_of c ∷ queues.cargo_pushed to Nothing (map channel_of cs))) [
      | true ↦ ap (λ (d : sums.Channel). d ∷ map channel_of cs) (queue_put program c)
      | false ↦ ap (λ (ds : List sums.Channel). channel_of c ∷ ds) (pushed_map to program cs)
    ]

linked : (to : ChainId) (cs : List Outgoing) (c : Outgoing) → channel_to to cs ≡ Some c → queues.has_channel to (map channel_of cs) ≡ true
linked to [] c e = absurd cc
linked to (d ∷ cs) c e =
    elim (same_chain d.channel.to to) as (λ b. (if b then Some d else find (leads_to to) cs) ≡ Some c → (b || queues.has_channel to (map channel_of cs)) ≡ true) [
      | true ↦ λ h. refl
      | false ↦ λ h. linked to cs c h
    ] e

trusted_pushed : (site : Site) (rows : List AssetRow) (to : ChainId) (program : List Instruction) → IsRunnable program → (cs : List Outgoing) → AreTrustedAt site rows cs → AreTrustedAt site rows (pushed to program cargos.Nothing cs)
trusted_pushed site rows to program runs [] all = tt
trusted_pushed site rows to program runs (c ∷ cs) all =
    elim (same_chain c.channel.to to) as (λ b. AreTrustedAt site rows (if b then with_waiting program cargos.Nothing c ∷ cs else c ∷ change_first (leads_to to) (with_waiting program cargos.Nothing) cs)) [
      | true ↦ ((λ name named. all_with_last (λ (x : Waiting). IsTrustedCargo site rows name x.cargo × IsRunnable x.program) c.queue (record { number = c.next; program = program; cargo = cargos.Nothing }) (all.0 name named) (tt, runs)), all.1)
      | false ↦ (all.0, trusted_pushed site rows to program runs cs all.1)
    ]

posted_sound : (to : ChainId) (program : List Instruction) (p : ChainPart) → IsRunnable program → IsSoundPart p → IsSoundPart (posted to program p)
unfolding in_kept
posted_sound to program p runs s = record {
  rest = record { order = record { traps = s.rest.order.traps; rates = s.rest.order.rates; paid = s.rest.order.paid; pools = s.rest.order.pools; unparked = s.rest.order.unparked }; slot = s.rest.slot };
  cargo = s.cargo;
  listed = s.listed;
  trusted = trusted_pushed p.site p.rows to program runs p.channels s.trusted;
  links = subst (AllByRecursion (IsLink p.site.chain)) (sym (links_put (leads_to to) program cargos.Nothing p.channels)) s.links;
}

posted_safe : (to : ChainId) (program : List Instruction) (p : ChainPart) (c : Outgoing) → channel_to to p.channels ≡ Some c → IsSent to Nothing (seen empty p) (seen empty (posted to program p))
unfolding stock burned account_amount
posted_safe to program p c found = record {
  table = refl;
  linked = linked to p.channels c found;
  outgoing = pushed_map to program p.channels;
  kept = λ a. omega arith;
  less = λ a choice. omega arith;
  covered = λ chain a count number foreign. nothing_for (same_chain to chain) _;
  raised = λ a. sym (risen_by_none (checking_at a (seen empty p)));
  foreign = λ a home. refl;
}
  where
    nothing_for : (b : Bool) (k : ℕ) → k + (if b then 0 else 0) ≤ k
    nothing_for true k = omega arith
    nothing_for false k = omega arith

-- what is known of the oldest message from a chain to another
pub record Front (i j : ℕ) (s r : Member) (x : Waiting) : Type 0 where
  pub apart : i ≡ j → ⊥
  pub name : Location
  pub there : location_of (chain_of s) (chain_of r) ≡ Some name
  pub back : location_of (chain_of r) (chain_of s) ≡ Some (name_at (chain_of r) (chain_of s))
  pub trusted : IsTrustedCargo s.part.site s.part.rows name x.cargo
  pub runs : IsRunnable x.program
  pub first : queues.front (chain_of r) (map channel_of s.part.channels) ≡ Some (cargo_of x.cargo)
  pub shape : IsShaped s.part.site (chain_of r) x

module _ (laws : LawsBelow) (shapes : ShapeLaws) (decodes : Decodes) (first : WorldView) (genesis : IsSoundGenesis first) where
  -- what a step leaves, but for shapes
  pub record IsCarried (w : networks.World) : Type 0 where
    pub history : History first (views w)
    pub parts : AreSoundParts w

  module _ (w : networks.World) (reached : IsReached first w) where
    abbrev still_so : IsCarried w
    still_so = record { history = reached.history; parts = reached.parts }

    -- one chain changes
    one_changes : (k : ℕ) (m : Member) (p : ChainPart) → slice_get w k ≡ Some m → IsSafe (seen empty m.part) (seen empty p) → IsSoundPart p → IsCarried (slice_set w k (with_part p m))
    one_changes k m p at safe sound = record {
      history = subst (History first) (sym (views_set w k (with_part p m))) (One (views w) k (seen empty m.part) (seen empty p) reached.history (seen_at w k m at) safe);
      parts = parts_set w k (with_part p m) reached.parts sound;
    }

    -- ---- local executions
    pub own_room : (k : ℕ) (m : Member) → slice_get w k ≡ Some m → HasRoom none m.part
    own_room k m at = small_room m.part none none_rises (reached.parts k m at).listed (small_now first genesis (views w) reached.history k m.part (seen_at w k m at))

    pub begun_room : (sender : ChainId) (p : ChainPart) → HasRoom none p → HasRoom none (begun sender cargos.Nothing p)
    unfolding in_kept
    begun_room sender p room = room

    executed_well : (k : ℕ) (m : Member) (account : List ℕ) (program : List Instruction) → slice_get w k ≡ Some m → is_sovereign account ≡ false → IsRunnable program
        → (r : Result Admitted Outcome) → admitted m.rules (caller account) m.rules.limit (begun (chain_of m) cargos.Nothing m.part).queries program ≡ r
        → ActsSafely m.part (ended (executed_by m.rules (caller account) r (begun (chain_of m) cargos.Nothing m.part)).1)
    executed_well k m account program at own runs (Err outcome) e = record {
      safe = same_safe (seen empty m.part);
      sound = ended_sound (begun (chain_of m) cargos.Nothing m.part) (begun_sound (chain_of m) m.part (reached.parts k m at));
    }
    executed_well k m account program at own runs (Ok a) e =
        let p = begun (chain_of m) cargos.Nothing m.part in
        let acts = admitted_safely laws (tables_of (views w)) (agrees_now first genesis (views w) reached.history) m.rules (caller account)
        (record { account = account; rest = []; is = refl; own = not_sovereign account own }) p (k, table_at (views w) k (seen empty m.part) (seen_at w k m at)) (begun_sound (chain_of m) m.part (reached.parts k m at))
        (begun_room (chain_of m) m.part (own_room k m at)) m.rules.limit program a runs e in
        record { safe = acts.safe; sound = ended_sound _ acts.sound }

    exec_read_carries : (k : ℕ) (m : Member) (account : List ℕ) (read : Result (List Instruction) MessageFault) → slice_get w k ≡ Some m → is_sovereign account ≡ false → ((program : List Instruction) → read ≡ Ok program → IsRunnable program)
        → IsCarried (exec_read w k m account read).world
    exec_read_carries k m account (Err fault) at own runs = still_so
    exec_read_carries k m account (Ok program) at own runs =
        let p = begun (chain_of m) cargos.Nothing m.part in
        let acts = executed_well k m account program at own (runs program refl) (admitted m.rules (caller account) m.rules.limit p.queries program) refl in
        one_changes k m (acted m.rules (caller account) m.rules.limit program p).part at acts.safe acts.sound

    exec_by_carries : (k : ℕ) (m : Member) (account : List ℕ) (read : Result (List Instruction) MessageFault) → slice_get w k ≡ Some m → is_sovereign account ≡ false → ((program : List Instruction) → read ≡ Ok program → IsRunnable program)
        → IsCarried (exec_by w k m account read).world
    exec_by_carries k m account read at own runs = by_caller (λ (s : Stepped). IsCarried s.world) w (is_pool_account m.part.pools account) (exec_read w k m account read) still_so (exec_read_carries k m account read at own runs)

    allowed_carries : (k : ℕ) (account bytes : List ℕ) (sovereign : Bool) → is_sovereign account ≡ sovereign
        → IsCarried (if sovereign then unchanged StepResult.SovereignCaller w else option_map_or (λ (m : Member). exec_by w k m account (message_of bytes)) (slice_get w k) (unchanged StepResult.NoSuchChain w)).world
    allowed_carries k account bytes true own = still_so
    allowed_carries k account bytes false own =
        elim (slice_get w k) as (λ o. slice_get w k ≡ o → IsCarried (option_map_or (λ (m : Member). exec_by w k m account (message_of bytes)) o (unchanged StepResult.NoSuchChain w)).world) [
          | None ↦ λ e. still_so
          | Some m ↦ λ e. exec_by_carries k m account (message_of bytes) e own (λ program is. decoded_runs decodes bytes program is)
        ] refl

    exec_at_carries : (o : Option ℕ) (account bytes : List ℕ) → IsCarried (exec_at w o account bytes).world
    exec_at_carries None account bytes = still_so
    exec_at_carries (Some k) account bytes = allowed_carries k account bytes (is_sovereign account) refl

    pub exec_carries : (chain : ChainId) (account bytes : List ℕ) → IsCarried (exec w chain account bytes).world
    unfolding exec
    exec_carries chain account bytes = exec_at_carries (place_of w chain) account bytes

    -- ---- deliveries
    named_so : (here other : ChainId) (l : Location) → location_of here other ≡ Some l → location_of here other ≡ Some (name_at here other)
    named_so here other l e = e ∙ ap Some (sym (ap (λ (o : Option Location). option_map_or (λ (l : Location). l) o nowhere) e))

    pub front_of : (i j : ℕ) (s r : Member) (c : Outgoing) (x : Waiting) → slice_get w i ≡ Some s → slice_get w j ≡ Some r → channel_to (chain_of r) s.part.channels ≡ Some c → oldest c ≡ Some x → Front i j s r x
    front_of i j s r c x is_s is_r found at_front =
        let sound_s = reached.parts i s is_s in
        let link = found_link (chain_of s) (chain_of r) s.part.channels c found sound_s.links in
        let to_there : c.channel.to ≡ chain_of r = found_to (chain_of r) s.part.channels c found in
        let differ : chain_of s ≡ chain_of r → ⊥ = λ same. link.away (to_there ∙ sym same) in
        let there = has_name (chain_of s) (chain_of r) differ in
        let back = has_name (chain_of r) (chain_of s) (λ same. differ (sym same)) in
        let trust = trusted_front s.part.site s.part.rows (chain_of r) there.0 there.1 s.part.channels c x found at_front sound_s.trusted in
        record {
          apart = λ same. differ (ap chain_of (some_member s r (sym is_s ∙ ap (slice_get w) same ∙ is_r)));
          name = there.0;
          there = there.1;
          back = named_so (chain_of r) (chain_of s) back.0 back.1;
          trusted = trust.0;
          runs = trust.1;
          first = front_map (chain_of r) s.part.channels c x found at_front;
          shape = subst (λ (to : ChainId). IsShaped s.part.site to x) to_there (found_shape s.part.site (chain_of r) s.part.channels c x found at_front (member_shaped w i s is_s reached.shaped));
        }

    delivered_carries : (i j : ℕ) (s r : Member) (c : Outgoing) (x : Waiting) → slice_get w i ≡ Some s → slice_get w j ≡ Some r → channel_to (chain_of r) s.part.channels ≡ Some c → oldest c ≡ Some x → IsCarried (delivered w i j s r x).world
    delivered_carries i j s r c x is_s is_r found at_front =
        let sound_s = reached.parts i s is_s in
        let sound_r = reached.parts j r is_r in
        let f = front_of i j s r c x is_s is_r found at_front in
        let origin = name_at (chain_of r) (chain_of s) in
        let v = views w in
        let a = run_for s r x in
        let e = Event.Message (chain_of s) (chain_of r) x.number in
        let fate = fate_of laws shapes.admits first genesis v reached.history i j s.part r.part (seen_at w i s is_s) (seen_at w j r is_r) f.apart sound_s sound_r r.rules x.cargo x.program e f.first f.name origin f.there f.back f.runs f.trusted f.shape in
        let both = stands laws shapes.admits first genesis v reached.history i j s.part r.part (seen_at w i s is_s) (seen_at w j r is_r) f.apart sound_s sound_r x.cargo f.first f.name origin f.there f.back f.trusted a.left a.part _ fate in
        let s' = with_part (sender_after (chain_of r) a s.part) s in
        let r' = with_part (receiver_after s.part a) r in
        record {
          history = subst (History first) (sym (views_set (slice_set w i s') j r' ∙ ap (λ (u : WorldView). slice_set u j (seen empty a.part)) (views_set w i s'))) both.history;
          parts = parts_set (slice_set w i s') j r' (parts_set w i s' reached.parts both.sender) (told_later a.part _ both.receiver);
        }

    -- inside a delivery, after its first instruction
    pub delivered_inside : (i j : ℕ) (s r : Member) (c : Outgoing) (x : Waiting) → slice_get w i ≡ Some s → slice_get w j ≡ Some r → channel_to (chain_of r) s.part.channels ≡ Some c → oldest c ≡ Some x → (a : Admitted) → admitted r.rules (name_at (chain_of r) (chain_of s)) no_weight (arrives s r x).queries x.program ≡ Ok a
        → (g : Stage) → GoesOnTo xcm (first_stage r.rules (name_at (chain_of r) (chain_of s)) a (arrives s r x)) g → History first (while_delivered w i s j r (machine_of g))
    delivered_inside i j s r c x is_s is_r found at_front a ok g on =
        let sound_s = reached.parts i s is_s in
        let sound_r = reached.parts j r is_r in
        let f = front_of i j s r c x is_s is_r found at_front in
        let origin = name_at (chain_of r) (chain_of s) in
        let v = views w in
        let e = Event.Message (chain_of s) (chain_of r) x.number in
        let fate = fate_of laws shapes.admits first genesis v reached.history i j s.part r.part (seen_at w i s is_s) (seen_at w j r is_r) f.apart sound_s sound_r r.rules x.cargo x.program e f.first f.name origin f.there f.back f.runs f.trusted f.shape in
        let came = comes_by laws shapes.admits first genesis v reached.history i j s.part r.part (seen_at w i s is_s) (seen_at w j r is_r) f.apart sound_s sound_r r.rules x.cargo x.program e f.first f.name origin f.there f.back f.runs f.trusted a ok (machine_of g) (inl (g, on, refl)) in
        stands_inside laws shapes.admits first genesis v reached.history i j s.part r.part (seen_at w i s is_s) (seen_at w j r is_r) f.apart sound_s sound_r x.cargo f.first f.name origin f.there f.back f.trusted
        (run_for s r x).left (run_for s r x).part _ fate (machine_of g) came

    -- where memory was refused to a delivery
    pub delivered_stopped : (i j : ℕ) (s r : Member) (c : Outgoing) (x : Waiting) → slice_get w i ≡ Some s → slice_get w j ≡ Some r → channel_to (chain_of r) s.part.channels ≡ Some c → oldest c ≡ Some x → (q : ChainPart) → StopsAt s r x q → History first (where_delivery_stopped w i s j r q)
    delivered_stopped i j s r c x is_s is_r found at_front q stops =
        let sound_s = reached.parts i s is_s in
        let sound_r = reached.parts j r is_r in
        let f = front_of i j s r c x is_s is_r found at_front in
        let origin = name_at (chain_of r) (chain_of s) in
        let v = views w in
        let e = Event.Message (chain_of s) (chain_of r) x.number in
        let passed : Passed s.part r.part x.cargo q = ⊎_elim
        (λ (none : q ≡ begun (chain_of s) x.cargo r.part). subst (Passed s.part r.part x.cargo) (sym none) (StillCarried refl (same_safe (seen empty r.part))))
        (λ (rest : IsAbandoned r.rules origin no_weight x.program (arrives s r x) q ⊎ (q ≡ (executed r.rules origin no_weight x.program (arrives s r x)).1)). ⊎_elim
        (λ (h : IsAbandoned r.rules origin no_weight x.program (arrives s r x) q).
        abandoned_fate laws shapes.admits first genesis v reached.history i j s.part r.part (seen_at w i s is_s) (seen_at w j r is_r) f.apart sound_s sound_r r.rules x.cargo x.program e f.first f.name origin f.there f.back f.runs f.trusted f.shape q h)
        (λ (h : q ≡ (executed r.rules origin no_weight x.program (arrives s r x)).1). subst (Passed s.part r.part x.cargo) (sym h)
        (executed_fate laws shapes.admits first genesis v reached.history i j s.part r.part (seen_at w i s is_s) (seen_at w j r is_r) f.apart sound_s sound_r r.rules x.cargo x.program e f.first f.name origin f.there f.back f.runs f.trusted f.shape))
        rest) stops in
        stands_stopped laws shapes.admits first genesis v reached.history i j s.part r.part (seen_at w i s is_s) (seen_at w j r is_r) f.apart sound_s sound_r x.cargo f.first f.name origin f.there f.back f.trusted q passed

    taken_carries : (i j : ℕ) (s r : Member) (c : Outgoing) (o : Option Waiting) → oldest c ≡ o → slice_get w i ≡ Some s → slice_get w j ≡ Some r → channel_to (chain_of r) s.part.channels ≡ Some c
        → IsCarried (option_map_or (λ (message : Waiting). delivered w i j s r message) o (unchanged StepResult.Empty w)).world
    taken_carries i j s r c None e is_s is_r found = still_so
    taken_carries i j s r c (Some x) e is_s is_r found = delivered_carries i j s r c x is_s is_r found e

    delivery_carries : (i j : ℕ) (s r : Member) (o : Option Outgoing) → channel_to (chain_of r) s.part.channels ≡ o → slice_get w i ≡ Some s → slice_get w j ≡ Some r → IsCarried (delivery_of w i j s r o).world
    delivery_carries i j s r None e is_s is_r = still_so
    delivery_carries i j s r (Some c) e is_s is_r = taken_carries i j s r c (oldest c) refl is_s is_r e

    pub deliver_carries : (from to : ChainId) → IsCarried (deliver w from to).world
    unfolding deliver
    deliver_carries from to =
        between_says w from to (unchanged StepResult.NoSuchChain w) (λ i j s r. delivery_of w i j s r (channel_to (chain_of r) s.part.channels)) (λ x. IsCarried x.world) still_so
        (λ i j s r at_i at_j is_s is_r. delivery_carries i j s r (channel_to (chain_of r) s.part.channels) refl is_s is_r)

    -- ---- claims
    posting_carries : (i : ℕ) (s : Member) (to : ChainId) (c : Outgoing) (program : List Instruction) (o : Option XcmError) → slice_get w i ≡ Some s → channel_to to s.part.channels ≡ Some c → IsRunnable program → IsCarried (posting w i s to c program o).world
    posting_carries i s to c program None is_s found runs =
        one_changes i s (posted to program s.part) is_s (sent_safe to Nothing (seen empty s.part) (seen empty (posted to program s.part)) (posted_safe to program s.part c found)) (posted_sound to program s.part runs (reached.parts i s is_s))
    posting_carries i s to c program (Some e) is_s found runs = still_so

    claiming_carries : (i : ℕ) (s : Member) (to : ChainId) (c : Outgoing) (program : List Instruction) (b : Bool) → slice_get w i ≡ Some s → channel_to to s.part.channels ≡ Some c → IsRunnable program
        → IsCarried (if b then posting w i s to c program (channel_refusal (Some c) true program) else unchanged StepResult.NotAClaim w).world
    claiming_carries i s to c program true is_s found runs = posting_carries i s to c program (channel_refusal (Some c) true program) is_s found runs
    claiming_carries i s to c program false is_s found runs = still_so

    claim_by_carries : (i : ℕ) (s : Member) (to : ChainId) (c : Outgoing) (read : Result (List Instruction) MessageFault) → slice_get w i ≡ Some s → channel_to to s.part.channels ≡ Some c → ((program : List Instruction) → read ≡ Ok program → IsRunnable program)
        → IsCarried (claim_by w i s to c read).world
    claim_by_carries i s to c (Err fault) is_s found runs = still_so
    claim_by_carries i s to c (Ok program) is_s found runs = claiming_carries i s to c program (is_claim program) is_s found (runs program refl)

    claim_on_carries : (i : ℕ) (s : Member) (to : ChainId) (o : Option Outgoing) (bytes : List ℕ) → slice_get w i ≡ Some s → channel_to to s.part.channels ≡ o → IsCarried (claim_on w i s to o bytes).world
    claim_on_carries i s to None bytes is_s found = still_so
    claim_on_carries i s to (Some c) bytes is_s found = claim_by_carries i s to c (message_of bytes) is_s found (λ program is. decoded_runs decodes bytes program is)

    pub claim_carries : (from to : ChainId) (bytes : List ℕ) → IsCarried (claim w from to bytes).world
    unfolding claim
    claim_carries from to bytes =
        between_says w from to (unchanged StepResult.NoSuchChain w) (λ i j s r. claim_on w i s (chain_of r) (channel_to (chain_of r) s.part.channels) bytes) (λ x. IsCarried x.world) still_so
        (λ i j s r at_i at_j is_s is_r. claim_on_carries i s (chain_of r) (channel_to (chain_of r) s.part.channels) bytes is_s refl)

  -- ---- all steps
  carried_reached : (w : networks.World) → IsCarried w → AllShaped w → IsReached first w
  carried_reached w c shaped = record { history = c.history; shaped = shaped; parts = c.parts }

  exec_reaches : (w : networks.World) (chain : ChainId) (account bytes : List ℕ) → IsReached first w → IsReached first (exec w chain account bytes).world
  exec_reaches w chain account bytes reached = carried_reached _ (exec_carries w reached chain account bytes) (shapes.exec w chain account bytes reached.shaped)

  pub deliver_reaches : (w : networks.World) (from to : ChainId) → IsReached first w → IsReached first (deliver w from to).world
  deliver_reaches w from to reached = carried_reached _ (deliver_carries w reached from to) (shapes.deliver w from to reached.shaped)

  claim_reaches : (w : networks.World) (from to : ChainId) (bytes : List ℕ) → IsReached first w → IsReached first (claim w from to bytes).world
  claim_reaches w from to bytes reached = carried_reached _ (claim_carries w reached from to bytes) (shapes.claim w from to bytes reached.shaped)

  next_reaches : (n : ℕ) (order : List Link) (w : networks.World) (o : Option Link) → IsReached first w → ((v : networks.World) → IsReached first v → IsReached first (world_behind v (deliveries n order v)))
      → IsReached first (world_behind w (option_map_or (λ (link : Link). (link, deliver w link.0 link.1) ∷ deliveries n order (deliver w link.0 link.1).world) o []))
  next_reaches n order w None reached rest = reached
  next_reaches n order w (Some link) reached rest = rest (deliver w link.0 link.1).world (deliver_reaches w link.0 link.1 reached)

  deliveries_reach : (n : ℕ) (order : List Link) (w : networks.World) → IsReached first w → IsReached first (world_behind w (deliveries n order w))
  unfolding deliveries
  deliveries_reach zero order w reached = reached
  deliveries_reach (suc n) order w reached = next_reaches n order w (next_channel order w) reached (λ v r. deliveries_reach n order v r)

  pub step_reaches : (order : List Link) (w : networks.World) (step : Step) → IsReached first w → IsReached first (next_world order w step)
  step_reaches order w (Exec chain account bytes) reached = exec_reaches w chain account bytes reached
  step_reaches order w (Deliver from to) reached = deliver_reaches w from to reached
  step_reaches order w (Claim from to bytes) reached = claim_reaches w from to bytes reached
  step_reaches order w Drain reached = deliveries_reach (deliveries_left w) order w reached
  step_reaches order w Balances reached = reached
  step_reaches order w Traps reached = reached
  step_reaches order w Queues reached = reached
  step_reaches order w Supply reached = reached

  pub worlds_reached : (order : List Link) (w : networks.World) (steps : List Step) → IsReached first w → AllByRecursion (IsReached first) (worlds order w steps)
  worlds_reached order w [] reached = (reached, tt)
  worlds_reached order w (step ∷ steps) reached = (reached, worlds_reached order (next_world order w step) steps (step_reaches order w step reached))

-- ---- what a world that was reached keeps
pub kept_by : (first : WorldView) (genesis : IsSoundGenesis first) → ((a : UniversalAsset) (instance : Instance) → sums.population a (just (Some instance)) first ≤ 1) → (v : WorldView) → History first v → IsKept first v
kept_by first genesis once v history =
    let safe = safe_history first v genesis.agrees history in
    let agrees : Agrees (tables_of v) = agrees_now first genesis v history in
    record {
      agrees = agrees;
      conserved = safe.supplied;
      below = λ a. let same = safe.supplied a in let few = genesis.small a in omega (arith, same, few);
      backed = safe.backed genesis.backed;
      cover = safe.cover;
      small = never_passes first v genesis.agrees genesis.backed genesis.small history;
      once = λ k p row instance at inside.
          let le = instances_at_most v agrees (safe.backed genesis.backed) k p row instance at inside in
          let less = safe.rare (asset_of_row p.table row) (just (Some instance)) in
          let few = once (asset_of_row p.table row) instance in
          omega (arith, le, less, few);
      rare = safe.rare;
      single = λ a instance. let less = safe.rare a (just (Some instance)) in let few = once a instance in omega (arith, less, few);
      checked = safe.checked genesis.checked;
      within = safe.within first (first_within first);
      bounded = still_bounded first v safe.tables genesis.bounded (safe.within first (first_within first));
    }

all_kept : (first : WorldView) (genesis : IsSoundGenesis first) → ((a : UniversalAsset) (instance : Instance) → sums.population a (just (Some instance)) first ≤ 1) → (ws : List networks.World)
    → AllByRecursion (IsReached first) ws → AllByRecursion (λ (w : networks.World). IsKept first (views w)) ws
all_kept first genesis once [] all = tt
all_kept first genesis once (w ∷ ws) all = (kept_by first genesis once (views w) all.0.history, all_kept first genesis once ws all.1)

pub first_reached : (w : networks.World) → IsFirst w → IsReached (views w) w
first_reached w f = record { history = Start; shaped = f.shaped; parts = f.parts }

pub worlds_kept : LawsBelow → ShapeLaws → Decodes → (order : List Link) (w : networks.World) (steps : List Step) → IsFirst w → AllKept order w steps
worlds_kept laws shapes decodes order w steps f = all_kept (views w) f.genesis f.once (worlds order w steps) (worlds_reached laws shapes decodes (views w) f.genesis order w steps (first_reached w f))

all_sound : (first : WorldView) (ws : List networks.World) → AllByRecursion (IsReached first) ws → AllByRecursion AreSoundParts ws
all_sound first [] all = tt
all_sound first (w ∷ ws) all = (all.0.parts, all_sound first ws all.1)

pub worlds_sound : LawsBelow → ShapeLaws → Decodes → (order : List Link) (w : networks.World) (steps : List Step) → IsFirst w → AllSound order w steps
worlds_sound laws shapes decodes order w steps f = all_sound (views w) (worlds order w steps) (worlds_reached laws shapes decodes (views w) f.genesis order w steps (first_reached w f))

-- ---- each world that was reached is a first one for those after it
reached_first : (first : WorldView) (genesis : IsSoundGenesis first) → ((a : UniversalAsset) (instance : Instance) → sums.population a (just (Some instance)) first ≤ 1) → (w : networks.World) → IsReached first w → IsFirst w
reached_first first genesis once w reached =
    let safe = safe_history first (views w) genesis.agrees reached.history in
    record {
      genesis = genesis_now first genesis (views w) reached.history;
      once = λ a instance. let less = safe.rare a (just (Some instance)) in let few = once a instance in omega (arith, less, few);
      shaped = reached.shaped;
      parts = reached.parts;
    }

module _ (laws : LawsBelow) (shapes : ShapeLaws) (decodes : Decodes) (order : List Link) where
  pub kept_between : (w : networks.World) (steps : List Step) → IsFirst w → KeptBetween order w steps
  kept_between w [] f = AllPairs-cons KeepsOn w [] (λ k d lt. absurd (omega (arith, lt))) (λ i j d less lt. absurd (omega (arith, lt)))
  kept_between w (step ∷ steps) f =
      AllPairs-cons KeepsOn w (worlds order (next_world order w step) steps)
      (All-from_recursion (KeepsOn w) (worlds order (next_world order w step) steps) (worlds_kept laws shapes decodes order w (step ∷ steps) f).1)
      (kept_between (next_world order w step) steps
      (reached_first (views w) f.genesis f.once (next_world order w step) (step_reaches laws shapes decodes (views w) f.genesis order w step (first_reached w f))))
