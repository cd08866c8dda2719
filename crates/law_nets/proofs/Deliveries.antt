-- Lemmas: a delivered message burns no excess on its receiver. A reader may skip this file.
use Rattle.std.proofs.Common.{◌≡◌, ⊎_elim, ℕ, zero, ◌+◌, ◌^◌, ◌≤◌, Bool, true, false, List, [], ◌∷◌, length, Some, None, Result, Ok, Err, refl, sym, ap, ◌∙◌, subst, arith}
use Rattle.std.specs.Prelude.{if◌then◌else◌, find, slice_get}
use Rattle.std.specs.List.{AllByRecursion}
use Rattle.amounts.specs.Amounts.{total, empty, merge}
use Rattle.amounts.proofs.Lemmas.AmountLaws.{total-empty}
use Rattle.amounts.proofs.Lemmas.{amount-merge, amount_at_most, same_key}
use Rattle.locations.specs.declared.relative.Location.{Location}
use Rattle.asset_lists.specs.declared.units.Asset.{Asset}
use Rattle.asset_lists.specs.declared.units.Instance.{Instance}
use Rattle.asset_lists.specs.Lists.{IsAssetList, is_rising}
use Rattle.asset_lists.specs.Units.{Unit}
use Rattle.asset_lists.specs.Listed.{listed_of, lists}
use Rattle.asset_bundles.specs.declared.shipment.Way.{Way}
use Rattle.asset_bundles.specs.Bundles.{Bundle, bundle_of, held_assets}
use Rattle.asset_bundles.proofs.Lemmas.Bundles.{unit_keys}
use Rattle.asset_bundles.specs.Books.{is_unit_where, is_unit_of, is_burn_where}
use Rattle.asset_bundles.specs.Joins.{IsWithinMost}
use Rattle.asset_bundles.proofs.Lemmas.{joined_total, booked_within}
use Rattle.chain_ids.specs.declared.chain.ChainId.{ChainId}
use Rattle.chain_ids.specs.Chains.{same_chain}
use Rattle.chain_ids.proofs.Lemmas.{same_chain_told}
use Rattle.trust_tables.specs.declared.rows.AssetRow.{AssetRow}
use Rattle.trust_tables.specs.Trust.{listing}
use Rattle.trust_tables.specs.Accounts.{account_of}
use Rattle.weight_trader.specs.Purchases.{no_weight}
use Rattle.xcm_program.specs.declared.instruction.Instruction.{Instruction, out-Instruction, roll-Instruction, out-roll-Instruction}
use Rattle.xcm_program.specs.declared.instruction.Instruction.TheOpen.{Instruction-F}
use Rattle.xcm_program.specs.declared.outcome.Outcome.{Outcome}
use Rattle.xcm_program.specs.Indices.{index}
use Rattle.xcm_program.proofs.Lemmas.{everywhere_open}
use Rattle.channel_parts.specs.declared.cargo.Cargo as carried
use Rattle.channel_parts.specs.declared.cargo.Cargo.TheVariants as cargos
use Rattle.channel_parts.specs.declared.channel.Channel.{Channel}
use Rattle.channel_parts.specs.Channels.{Waiting, Outgoing}
use Rattle.chain_queues.specs.Queues.{leads_to, channel_to, oldest, first_of}
use Rattle.exec_base.specs.declared.event.Event.{Event}
use Rattle.exec_base.specs.declared.event.Part.TheVariants as parts
use Rattle.exec_base.specs.declared.registers.Registers.{Registers}
use Rattle.exec_base.specs.Part.{ChainPart, book_of}
use Rattle.exec_base.specs.Sending.{led_by, away_program}
use Rattle.exec_base.specs.Host.{asset_unlocked, asset_noted, received, withdrawn, claimed, answered, bundles_joined, booked, receive_refusal, told}
use Rattle.exec_rules.specs.Machine.{Machine, machine}
use Rattle.exec_rules.specs.Run.{Stage, next, run, still_to_run, machine_of, without_appendix, handler_dropped}
use Rattle.exec_rules.specs.Accounts.{IsBalanced}
use Rattle.exec_rules.specs.Holdings.{has_room, is_ticket, holding_more}
use Rattle.exec_rules.proofs.Lemmas.AnswerLaws.{unless_next, received_is_listed}
use Rattle.exec_rules.specs.Instructions.{refused, done, refusal_of, xcm}
use Rattle.exec_rules.specs.Readiness.{IsAtRest, IsSteady}
use Rattle.exec_rules.specs.declared.admission.Admitted.{Admitted}
use Rattle.exec_rules.specs.Admission.{admitted}
use Rattle.exec_rules.specs.Execution.{first_machine, first_stage, last_machine, executed_by, executed, IsAbandoned}
use Rattle.network_steps.specs.Worlds as networks
use Rattle.network_steps.specs.Worlds.{Member, chain_of}
use Rattle.network_steps.specs.Acting.{begun}
use Rattle.network_steps.specs.Steps.{name_at}
use Rattle.law_steps.specs.Shapes.{stands_alone, IsLedBy, IsAlone, IsLedByClaim, IsShape, IsShaped, AreShapedIn, AreShapedAt}
use Rattle.law_coherence.specs.UniversalAssets.{UniversalAsset, just}
use Rattle.law_coherence.specs.Networks.{IsIn, Agrees}
use Rattle.law_coherence.specs.Parts.{WorldView, population}
use Rattle.law_coherence.specs.Steps.{tables_of}
use Rattle.law_coherence.proofs.Lemmas.Steps.{table_at}
use Rattle.law_coherence.specs.Headline.{IsKept}
use Rattle.law_runs.specs.Views.{table_of, seen, view}
use Rattle.law_runs.specs.Sums.{in_kept, in_places, burned_where, Sum, none, HasRoom}
use Rattle.law_runs.proofs.Lemmas.Sums.{nobody, only, Call}
use Rattle.law_runs.proofs.Lemmas.Calls.{call_with, withdrawing, claiming, answering, unlocking, noting}
use Rattle.law_runs.specs.Safety.{HasList, AreLists, HasFee, IsRunnable, links_of, hold}
use Rattle.law_runs.proofs.Lemmas.Safety.{same_table}
use Rattle.law_runs.proofs.Lemmas.Shipping.{HasList-IsOfLayer}
use Rattle.law_runs.proofs.Lemmas.Turns.{more_call}
use Rattle.law_steps.specs.Views.{views}
use Rattle.law_steps.specs.Rooms.{unlisted, AllListed}
use Rattle.law_steps.proofs.Lemmas.Rooms.{goods_listed, listed_goods}
use Rattle.law_steps.specs.Soundness.{IsLink, IsSoundPart, LawsBelow}
use Rattle.law_steps.proofs.Lemmas.Admitting.{admitted_lists}
use Rattle.law_steps.proofs.Lemmas.Locals.{fees_of_links, nothing_listed, none_listed, no_ahead}
use Rattle.law_steps.proofs.Lemmas.Firsts.{step_on, stays_here, second, IsSet, IsSetBehind, alone_next, led_once}
use Rattle.law_steps.specs.Bounds.{IsSoundGenesis}
use Rattle.law_steps.proofs.Lemmas.Bounds.{agrees_now}
use Rattle.law_steps.proofs.Lemmas.Deliveries.{trusted_front, has_name}
use Rattle.law_steps.specs.Reading.{Decodes}
use Rattle.law_steps.proofs.Lemmas.Insides.{all_at}
use Rattle.law_steps.specs.Worlds.{arrives, while_delivered, StopsAt}
use Rattle.law_steps.proofs.Lemmas.Worlds.{IsReached}
use Rattle.law_steps.specs.Stepping.{ShapeLaws}
use Rattle.law_steps.proofs.Lemmas.Stepping.{seen_at, own_room, kept_by, delivered_inside}
use Rattle.law_nets.proofs.Fitting.{just_unit, FitsBundle, kept_fits, kept_room, kept_held, fits_all}
use Rattle.law_nets.proofs.Standing.{view_delivered, arriving_fits}
use Rattle.law_nets.proofs.Calls.{unlocked_burns, noted_burns, BurnsNoExcess, FitTogether, same_burns, no_excess_then, joined_no_excess, withdrawn_burns, claimed_burns, received_burns, answered_burns}
use Rattle.law_nets.proofs.Instructions.{more_no_excess}
use Rattle.law_nets.proofs.Firsts.{refused_stands, alone_stands, led_stands}
use Rattle.law_nets.proofs.Stages.{StandsWell, StandsAll, end_no_excess, abandoned_in_no_excess}
use Rattle.law_nets.proofs.Arriving.{arrived_rises, list_fits}

-- ---- a line of the trace changes no view
told_view : (k : Machine) (e : Event) (r : Registers) → r.holding ≡ k.regs.holding → view (machine r (told k.part e)) ≡ view k
unfolding told
told_view k e r same = ap (λ (b : Bundle). seen b k.part) same

-- ---- a list that comes
received_site : (p : ChainPart) (new : List Asset) (teleport : Bool) (goods : Bundle) → (bundles_joined (received p new teleport) empty goods).site ≡ p.site
unfolding bundles_joined booked received
received_site p new teleport goods = refl

received_rows : (p : ChainPart) (new : List Asset) (teleport : Bool) (goods : Bundle) → (bundles_joined (received p new teleport) empty goods).rows ≡ p.rows
unfolding bundles_joined booked received
received_rows p new teleport goods = refl

received_channels : (p : ChainPart) (new : List Asset) (teleport : Bool) (goods : Bundle) → (bundles_joined (received p new teleport) empty goods).channels ≡ p.channels
unfolding bundles_joined booked received
received_channels p new teleport goods = refl

received_places : (t : Unit → Bool) (p : ChainPart) (new : List Asset) (teleport : Bool) (goods : Bundle) → in_places t (bundles_joined (received p new teleport) empty goods) ≡ in_places t p
unfolding bundles_joined booked received in_kept
received_places t p new teleport goods = refl

received_book : (p : ChainPart) (new : List Asset) (teleport : Bool) (goods : Bundle) → IsWithinMost (merge empty goods) → (bundles_joined (received p new teleport) empty goods).burns ≡ p.burns
unfolding bundles_joined booked received
received_book p new teleport goods within = ap (λ b. b.burns) (booked_within (book_of p) empty goods within)

-- ---- the channel that is found
find_kept : (P : Outgoing → Type 0) (to : ChainId) (cs : List Outgoing) (c : Outgoing) → channel_to to cs ≡ Some c → AllByRecursion P cs → P c
find_kept P to [] c e all = absurd cc
find_kept P to (d ∷ cs) c e all =
    elim (same_chain d.channel.to to) as (λ b. (if b then Some d else find (leads_to to) cs) ≡ Some c → P c) [
      | true ↦ λ h. let same : d ≡ c = cc in subst P same all.0
      | false ↦ λ h. find_kept P to cs c h all.1
    ] e

find_leads : (to : ChainId) (cs : List Outgoing) (c : Outgoing) → channel_to to cs ≡ Some c → c.channel.to ≡ to
find_leads to [] c e = absurd cc
find_leads to (d ∷ cs) c e =
    elim (same_chain d.channel.to to) as (λ b. same_chain d.channel.to to ≡ b → (if b then Some d else find (leads_to to) cs) ≡ Some c → c.channel.to ≡ to) [
      | true ↦ λ t h. let same : d ≡ c = cc in ap (λ (y : Outgoing). y.channel.to) (sym same) ∙ same_chain_told d.channel.to to t
      | false ↦ λ t h. find_leads to cs c h
    ] refl e

links_kept : (P : Channel → Type 0) (cs : List Outgoing) → AllByRecursion P (links_of cs) → AllByRecursion (λ (c : Outgoing). P c.channel) cs
links_kept P [] all = tt
links_kept P (c ∷ cs) all = (all.0, links_kept P cs all.1)

first_kept : (P : Waiting → Type 0) (ms : List Waiting) (x : Waiting) → first_of ms ≡ Some x → AllByRecursion P ms → P x
first_kept P [] x e all = absurd cc
first_kept P (m ∷ ms) x e all = let same : m ≡ x = cc in subst P same all.0

-- ---- a delivery
module _ (laws : LawsBelow) (shapes : ShapeLaws) (decodes : Decodes) (first : WorldView) (genesis : IsSoundGenesis first) (once : (a : UniversalAsset) (instance : Instance) → population a (just (Some instance)) first ≤ 1)
    (w : networks.World) (reached : IsReached first w) (i j : ℕ) (s r : Member) (c : Outgoing) (x : Waiting) (is_s : slice_get w i ≡ Some s) (is_r : slice_get w j ≡ Some r) (found : channel_to (chain_of r) s.part.channels ≡ Some c) (at_front : oldest c ≡ Some x) where
  abbrev p0 : ChainPart
  p0 = arrives s r x

  abbrev origin : Location
  origin = name_at (chain_of r) (chain_of s)

  abbrev m0 : Machine
  m0 = first_machine r.rules (name_at (chain_of r) (chain_of s)) (arrives s r x)

  agrees : Agrees (tables_of (views w))
  agrees = agrees_now first genesis (views w) reached.history

  kept0 : IsKept first (views w)
  kept0 = kept_by first genesis once (views w) reached.history

  sound_s : IsSoundPart s.part
  sound_s = reached.parts i s is_s

  sound_r : IsSoundPart r.part
  sound_r = reached.parts j r is_r

  -- ---- the message
  to_there : c.channel.to ≡ chain_of r
  to_there = find_leads (chain_of r) s.part.channels c found

  differ : chain_of s ≡ chain_of r → ⊥
  differ same = (find_kept (λ (d : Outgoing). IsLink (chain_of s) d.channel) (chain_of r) s.part.channels c found (links_kept (IsLink (chain_of s)) s.part.channels sound_s.links)).away (to_there ∙ sym same)

  runs : IsRunnable x.program
  runs =
      let there = has_name (chain_of s) (chain_of r) differ in
      (trusted_front s.part.site s.part.rows (chain_of r) there.0 there.1 s.part.channels c x found at_front sound_s.trusted).1

  shape : IsShape s.part.site (chain_of r) x.program x.cargo
  shape =
      let all = find_kept (AreShapedIn s.part.site) (chain_of r) s.part.channels c found (all_at (λ (m : Member). AreShapedAt m.part) w i s reached.shaped is_s) in
      subst (λ (to : ChainId). IsShape s.part.site to x.program x.cargo) to_there (first_kept (IsShaped s.part.site c.channel.to) c.queue x at_front all)

  -- ---- the receiver as it begins
  rest0 : IsAtRest (arrives s r x)
  unfolding told
  rest0 = let s = sound_r.rest in record { order = record { traps = s.order.traps; rates = s.order.rates; paid = s.order.paid; pools = s.order.pools; unparked = s.order.unparked }; slot = s.slot }

  listed0 : AllListed none (arrives s r x)
  unfolding told in_kept
  listed0 = sound_r.listed

  links0 : AllByRecursion (IsLink p0.site.chain) (links_of p0.channels)
  unfolding told
  links0 = sound_r.links

  there0 : IsIn (tables_of (views w)) (table_of p0)
  unfolding told
  there0 = (j, table_at (views w) j (seen empty r.part) (seen_at w j r is_r))

  room_none : HasRoom none (arrives s r x)
  unfolding told in_kept
  room_none = own_room laws shapes decodes first genesis w reached j r is_r

  room0 : HasRoom (hold m0) p0
  room0 k = let le = room_none k in let z = total-empty unit_keys (is_unit_of k) in omega (arith, le, z)

  steady0 : IsSteady m0
  steady0 = record { rest = rest0; holding = none_listed (listing p0.rows) }

  fits0 : FitsBundle m0
  fits0 = fits_all m0 (arriving_fits first w j s r x r.rules origin is_r kept0) (nothing_listed p0 listed0 empty refl)

  stands0 : StandsWell p0 m0
  stands0 = record { fits = fits0; steady = steady0; room = room0; no_excess = same_burns p0 p0 refl }

  begins_burns : (arrives s r x).burns ≡ r.part.burns
  unfolding told
  begins_burns = refl

  -- ---- the program
  abbrev Admits : Admitted → Type 0
  Admits a = admitted r.rules origin no_weight p0.queries x.program ≡ Ok a

  -- it burns no excess, wherever its run comes
  abbrev StandsThroughout : Admitted → Type 0
  StandsThroughout a = StandsAll p0 (first_stage r.rules origin a p0)

  balanced : (a : Admitted) → Admits a → IsBalanced a.weight (first_stage r.rules origin a p0)
  balanced a ok = laws.balances r.rules origin a p0 (laws.weighs r.rules origin no_weight p0.queries x.program a runs.few ok)

  lists_in : (a : Admitted) → Admits a → AllByRecursion AreLists a.program
  lists_in a ok = admitted_lists r.rules origin no_weight p0.queries x.program runs.lists a ok

  accepted_way : (l : Instruction-F Instruction) → refused l m0 ≡ None → refusal_of (roll-Instruction l) m0 ≡ None
  accepted_way l way = ap (λ (k : Instruction-F Instruction). refused k m0) (out-roll-Instruction l) ∙ way

  done_same : (l : Instruction-F Instruction) → xcm.done (roll-Instruction l) m0 ≡ done l m0
  done_same l = ap (λ (f : Instruction-F Instruction). done f m0) (out-roll-Instruction l)

  -- ---- after its first instruction
  abbrev stage1 : Admitted → Stage
  stage1 a = next xcm (first_stage r.rules (name_at (chain_of r) (chain_of s)) a (arrives s r x))

  kept1 : (a : Admitted) → Admits a → IsKept first (while_delivered w i s j r (machine_of (stage1 a)))
  kept1 a ok =
      let g = first_stage r.rules origin a p0 in
      kept_by first genesis once (while_delivered w i s j r (machine_of (stage1 a))) (delivered_inside laws shapes decodes first genesis w reached i j s r c x is_s is_r found at_front a ok (stage1 a) (zero, step_on zero g ∙ stays_here (next xcm g)))

  seen1 : (a : Admitted) (k : Machine) → view (machine_of (stage1 a)) ≡ view k → slice_get (while_delivered w i s j r (machine_of (stage1 a))) j ≡ Some (view k)
  seen1 a k same = view_delivered w i s j r is_r (machine_of (stage1 a)) ∙ ap Some same

  fits1 : (a : Admitted) → Admits a → (k : Machine) → view (machine_of (stage1 a)) ≡ view k → AllListed (hold k) k.part → FitsBundle k
  fits1 a ok k same listed = fits_all k (kept_fits first (while_delivered w i s j r (machine_of (stage1 a))) (kept1 a ok) j k (seen1 a k same)) listed

  room1 : (a : Admitted) → Admits a → (k : Machine) → view (machine_of (stage1 a)) ≡ view k → AllListed (hold k) k.part → HasRoom (hold k) k.part
  room1 a ok k same listed = kept_room first (while_delivered w i s j r (machine_of (stage1 a))) (kept1 a ok) j k (seen1 a k same) listed

  held1 : (a : Admitted) → Admits a → (k : Machine) → view (machine_of (stage1 a)) ≡ view k → (u : Unit) → lists (listing k.part.rows) (listed_of u) ≡ true → hold k (just_unit u) ≤ 2 ^ 127
  held1 a ok k same u listed = kept_held first (while_delivered w i s j r (machine_of (stage1 a))) (kept1 a ok) j k (seen1 a k same) u listed

  all_listed : (may : List ℕ → Type 0) (ins : Sum) (k : Machine) → Call may ins (hold k) p0 k.part → AllListed ins p0 → AllListed (hold k) k.part
  all_listed may ins k x listed =
      subst (λ (r : List AssetRow). burned_where (unlisted r) k.part + (in_places (is_unit_where (unlisted r)) k.part + hold k (is_unit_where (unlisted r))) ≡ 0) (sym x.rows)
      (let one = x.amounts (is_unit_where (unlisted p0.rows)) in let two = x.books (unlisted p0.rows) in omega (arith, one, two, listed))

  -- ---- ClearOrigin and more come after it
  led_view : (a : Admitted) → Admits a → (l : Instruction-F Instruction) (behind : List Instruction) → a.program ≡ led_by l behind → refused l m0 ≡ None → view (machine_of (stage1 a)) ≡ view (done l m0)
  led_view a ok l behind is way =
      let d = xcm.done (roll-Instruction l) m0 in
      ap (λ (g : Stage). view (machine_of g)) (led_once laws (tables_of (views w)) agrees r.rules origin p0 a (balanced a ok) (roll-Instruction l) behind is (accepted_way l way))
      ∙ told_view d (Event.Ran parts.Program 0 (index (out-Instruction (roll-Instruction l))) None) d.regs refl ∙ ap view (done_same l)

  led_end : (a : Admitted) → Admits a → (l : Instruction-F Instruction) (behind : List Instruction) → a.program ≡ led_by l behind → refused l m0 ≡ None
      → (done l m0).part.site ≡ p0.site → (done l m0).part.rows ≡ p0.rows → (done l m0).part.channels ≡ p0.channels → AllListed (hold (done l m0)) (done l m0).part → BurnsNoExcess p0 (done l m0).part → StandsThroughout a
  led_end a ok l behind is way site rows channels listed no_excess =
      let k = done l m0 in
      let n = tables_of (views w) in
      let same = done_same l in
      let looks = led_view a ok l behind is way in
      let fits : FitsBundle k = fits1 a ok k looks listed in
      let set : IsSet n k = record {
        room = room1 a ok k looks listed;
        listed = listed_goods k.part.rows k.regs.holding (omega (arith, listed));
        within = λ u. let fit = fits u in let own = amount_at_most unit_keys (just_unit u) k.regs.holding u (same_key unit_keys u) in omega (arith, fit, own);
        there = subst (IsIn n) (sym (same_table p0 k.part site rows)) there0;
        steady = subst IsSteady same (laws.stays (roll-Instruction l) m0 steady0 (accepted_way l way));
        fees = subst (AllByRecursion HasFee) (sym (ap links_of channels)) (fees_of_links p0.site.chain (links_of p0.channels) links0);
      } in
      let begins : IsSetBehind laws n agrees r.rules origin p0 a (balanced a ok) (roll-Instruction l) behind = record {
        is = is;
        way = accepted_way l way;
        ahead = no_ahead a.program m0 refl refl (lists_in a ok);
        set = subst (IsSet n) (sym same) set;
      } in
      led_stands laws n agrees r.rules origin p0 a (balanced a ok) (roll-Instruction l) behind begins stands0
      (subst (StandsWell p0) (sym same) (record { fits = fits; steady = set.steady; room = set.room; no_excess = no_excess }))

  -- what it takes was there
  called_end : (a : Admitted) → Admits a → (l : Instruction-F Instruction) (behind : List Instruction) → a.program ≡ led_by l behind → refused l m0 ≡ None
      → (may : List ℕ → Type 0) → Call may (hold m0) (hold (done l m0)) p0 (done l m0).part → BurnsNoExcess p0 (done l m0).part → StandsThroughout a
  called_end a ok l behind is way may call no_excess = led_end a ok l behind is way call.site call.rows call.channels (all_listed may (hold m0) (done l m0) call (nothing_listed p0 listed0 empty refl)) no_excess

  list_fits_in : (a : Admitted) → Admits a → (new : List Asset) (behind : List Instruction) → a.program ≡ led_by (Instruction-F.WithdrawAsset new) behind → IsAssetList new
  list_fits_in a ok new behind is =
      subst (HasList Instruction) (out-roll-Instruction (Instruction-F.WithdrawAsset new)) (everywhere_open HasList HasList-IsOfLayer (roll-Instruction (Instruction-F.WithdrawAsset new)) (subst (AllByRecursion AreLists) is (lists_in a ok)).0).0

  withdrawal_end : (a : Admitted) → Admits a → (new : List Asset) (behind : List Instruction) → a.program ≡ led_by (Instruction-F.WithdrawAsset new) behind → refused (Instruction-F.WithdrawAsset new) m0 ≡ None → StandsThroughout a
  withdrawal_end a ok new behind is way =
      let may = only (account_of origin p0.site) in
      let gave = withdrawing laws.withdraws p0 new origin (list_fits_in a ok new behind is) (unless_next (has_room m0 (length new)) _ _ way) in
      called_end a ok (Instruction-F.WithdrawAsset new) behind is way may (more_call may m0 (withdrawn p0 new origin) (bundle_of new) gave room0)
      (more_no_excess may m0 (withdrawn p0 new origin) (bundle_of new) gave fits0 (withdrawn_burns p0 new origin))

  claim_end : (a : Admitted) → Admits a → (list : List Asset) (ticket : Location) (behind : List Instruction) → a.program ≡ led_by (Instruction-F.ClaimAsset list ticket) behind → refused (Instruction-F.ClaimAsset list ticket) m0 ≡ None → StandsThroughout a
  claim_end a ok list ticket behind is way =
      let came = claiming p0 list origin (unless_next (is_ticket ticket) _ _ (unless_next (has_room m0 (length list)) _ _ way)) in
      called_end a ok (Instruction-F.ClaimAsset list ticket) behind is way nobody (more_call nobody m0 (claimed p0 list origin) (bundle_of list) came room0)
      (more_no_excess nobody m0 (claimed p0 list origin) (bundle_of list) came fits0 (claimed_burns p0 list origin))

  -- ---- a list comes: a teleport, or a deposit
  list_end : (a : Admitted) → Admits a → (l : Instruction-F Instruction) (behind : List Instruction) → a.program ≡ led_by l behind → refused l m0 ≡ None → (teleport : Bool) (new : List Asset) → done l m0 ≡ holding_more m0 (received p0 new teleport) (bundle_of new)
      → receive_refusal p0 new origin teleport ≡ None → is_rising new ≡ true → StandsThroughout a
  list_end a ok l behind is way teleport new does accepted rising =
      let q = received p0 new teleport in
      let goods = bundle_of new in
      let k = holding_more m0 q goods in
      let inside = received_is_listed p0 new origin teleport accepted in
      let rows = received_rows p0 new teleport goods in
      let looks : view (machine_of (stage1 a)) ≡ view k = led_view a ok l behind is way ∙ ap view does in
      let fit : FitTogether empty goods = list_fits (listing p0.rows) new rising inside (λ u t. held1 a ok k looks u (subst (λ (rs : List AssetRow). lists (listing rs) (listed_of u) ≡ true) (sym rows) t)) in
      let within : IsWithinMost (merge empty goods) = λ u.
      let sum = amount-merge unit_keys empty goods u in
      let none_held = amount_at_most unit_keys (just_unit u) empty u (same_key unit_keys u) in
      let own = amount_at_most unit_keys (just_unit u) goods u (same_key unit_keys u) in
      let le = fit u in
      omega (arith, sum, none_held, own, le) in
      let test = unlisted p0.rows in
      let t = is_unit_where test in
      let listed : AllListed (hold k) k.part = subst (λ (rs : List AssetRow). burned_where (unlisted rs) k.part + (in_places (is_unit_where (unlisted rs)) k.part + hold k (is_unit_where (unlisted rs))) ≡ 0) (sym rows)
      (let books = ap (total (is_burn_where test)) (received_book p0 new teleport goods within) in
      let places = received_places t p0 new teleport goods in
      let both = joined_total t empty goods in
      let z = total-empty unit_keys t in
      let y = goods_listed p0.rows goods inside in
      omega (arith, books, places, both, z, y, listed0)) in
      let no_excess : BurnsNoExcess p0 k.part = no_excess_then p0 q (bundles_joined q empty goods) (same_burns p0 q (received_burns p0 new teleport)) (joined_no_excess q empty goods fit) in
      led_end a ok l behind is way (ap (λ (z : Machine). z.part.site) does ∙ received_site p0 new teleport goods) (ap (λ (z : Machine). z.part.rows) does ∙ rows) (ap (λ (z : Machine). z.part.channels) does ∙ received_channels p0 new teleport goods)
      (subst (λ (z : Machine). AllListed (hold z) z.part) (sym does) listed) (subst (λ (z : Machine). BurnsNoExcess p0 z.part) (sym does) no_excess)

  -- ---- an answer, or of a lock
  alone_call : (l : Instruction-F Instruction) → stands_alone l ≡ true → Call nobody (hold m0) (hold (done l m0)) p0 (done l m0).part
  alone_call (Instruction-F.QueryResponse query answer weight querier) kind = call_with nobody none none (hold m0) (hold m0) p0 (answered p0 origin query) (answering p0 origin query) (λ t. omega arith)
  alone_call (Instruction-F.NoteUnlockable asset owner) kind = call_with nobody none none (hold m0) (hold m0) p0 (asset_noted p0 asset owner origin) (noting p0 asset owner origin) (λ t. omega arith)
  alone_call (Instruction-F.UnlockAsset asset target) kind = call_with nobody none none (hold m0) (hold m0) p0 (asset_unlocked p0 asset target origin) (unlocking p0 asset target origin) (λ t. omega arith)
  alone_call _ kind = absurd cc

  alone_burns : (l : Instruction-F Instruction) → stands_alone l ≡ true → (done l m0).part.burns ≡ p0.burns
  alone_burns (Instruction-F.QueryResponse query answer weight querier) kind = answered_burns p0 origin query
  alone_burns (Instruction-F.NoteUnlockable asset owner) kind = noted_burns p0 asset owner origin
  alone_burns (Instruction-F.UnlockAsset asset target) kind = unlocked_burns p0 asset target origin
  alone_burns _ kind = absurd cc

  alone_appendix : (l : Instruction-F Instruction) → stands_alone l ≡ true → (done l m0).regs.appendix ≡ []
  alone_appendix (Instruction-F.QueryResponse query answer weight querier) kind = refl
  alone_appendix (Instruction-F.NoteUnlockable asset owner) kind = refl
  alone_appendix (Instruction-F.UnlockAsset asset target) kind = refl
  alone_appendix _ kind = absurd cc

  alone_end : (a : Admitted) → Admits a → (l : Instruction-F Instruction) → stands_alone l ≡ true → a.program ≡ roll-Instruction l ∷ [] → refused l m0 ≡ None → StandsThroughout a
  alone_end a ok l kind is free =
      let n = tables_of (views w) in
      let x1 = roll-Instruction l in
      let k = done l m0 in
      let d = xcm.done x1 m0 in
      let same = done_same l in
      let way = accepted_way l free in
      let no_appendix : d.regs.appendix ≡ [] = ap (λ (z : Machine). z.regs.appendix) same ∙ alone_appendix l kind in
      let listed = all_listed nobody (hold m0) k (alone_call l kind) (nothing_listed p0 listed0 empty refl) in
      let looks : view (machine_of (stage1 a)) ≡ view k =
      ap (λ (g : Stage). view (machine_of g)) (alone_next laws n agrees r.rules origin p0 a (balanced a ok) x1 is way no_appendix)
      ∙ told_view d (Event.Ran parts.Program 0 (index (out-Instruction x1)) None) (without_appendix (handler_dropped d.regs)) refl ∙ ap view same in
      alone_stands laws n agrees r.rules origin p0 a (balanced a ok) x1 is way no_appendix stands0
      (subst (StandsWell p0) (sym same) (record {
        fits = fits1 a ok k looks listed;
        steady = subst IsSteady same (laws.stays x1 m0 steady0 way);
        room = room1 a ok k looks listed;
        no_excess = same_burns p0 k.part (alone_burns l kind);
      }))

  -- ---- by its shape
  by_first : (a : Admitted) → Admits a → (l : Instruction-F Instruction) (behind : List Instruction) → a.program ≡ roll-Instruction l ∷ behind → (refused l m0 ≡ None → StandsThroughout a) → StandsThroughout a
  by_first a ok l behind is h =
      elim (refused l m0) as (λ o. refused l m0 ≡ o → StandsThroughout a) [
        | None ↦ λ way. h way
        | Some error ↦ λ no_way.
            refused_stands laws (tables_of (views w)) agrees r.rules origin p0 a (balanced a ok) (roll-Instruction l) behind error is (ap (λ (k : Instruction-F Instruction). refused k m0) (out-roll-Instruction l) ∙ no_way) stands0
      ] refl

  by_way : (a : Admitted) → Admits a → (units : List Asset) (way : Way) → IsLedBy s.part.site (chain_of r) units (away_program way) a.program → StandsThroughout a
  by_way a ok units Way.Withdrawal l = by_first a ok (Instruction-F.WithdrawAsset l.list) (second ∷ l.behind) l.is (λ way. withdrawal_end a ok l.list l.behind l.is way)
  by_way a ok units Way.Teleport l = by_first a ok (Instruction-F.ReceiveTeleportedAsset l.list) (second ∷ l.behind) l.is
      (λ way. list_end a ok (Instruction-F.ReceiveTeleportedAsset l.list) l.behind l.is way true l.list refl (unless_next (has_room m0 (length l.list)) _ _ way) (arrived_rises _ _ units l.list l.named))

  by_cargo : (a : Admitted) → Admits a → (cargo : carried.Cargo) → IsShape s.part.site (chain_of r) a.program cargo → StandsThroughout a
  by_cargo a ok (cargos.Deposit list) l = by_first a ok (Instruction-F.ReserveAssetDeposited l.list) (second ∷ l.behind) l.is
      (λ way. list_end a ok (Instruction-F.ReserveAssetDeposited l.list) l.behind l.is way false l.list refl (unless_next (has_room m0 (length l.list)) _ _ way) (arrived_rises _ _ list l.list l.named))
  by_cargo a ok (cargos.Away shipment) l = by_way a ok (held_assets shipment.units) shipment.way l
  by_cargo a ok cargos.Nothing l = ⊎_elim
      (λ (alone : IsAlone a.program). by_first a ok alone.what [] alone.is (λ way. alone_end a ok alone.what alone.kind alone.is way))
      (λ (claim : IsLedByClaim a.program). by_first a ok (Instruction-F.ClaimAsset claim.list claim.ticket) (second ∷ claim.behind) claim.is (λ way. claim_end a ok claim.list claim.ticket claim.behind claim.is way)) l

  -- wherever its run is
  pub delivery_stands : (a : Admitted) → admitted r.rules (name_at (chain_of r) (chain_of s)) no_weight (arrives s r x).queries x.program ≡ Ok a → StandsAll (arrives s r x) (first_stage r.rules (name_at (chain_of r) (chain_of s)) a (arrives s r x))
  delivery_stands a ok = by_cargo a ok x.cargo (shapes.admits s.part.site (chain_of r) x.program x.cargo r.rules origin no_weight p0.queries a shape ok)

  by_admission : (answer : Result Admitted Outcome) → admitted r.rules origin no_weight p0.queries x.program ≡ answer → BurnsNoExcess p0 (executed_by r.rules origin answer p0).1
  by_admission (Err outcome) ok = same_burns p0 p0 refl
  by_admission (Ok a) ok =
      let g = first_stage r.rules origin a p0 in
      end_no_excess laws (tables_of (views w)) agrees p0 (last_machine r.rules origin a p0) (delivery_stands a ok (run xcm g) (still_to_run g, refl)).0

  -- the receiver's part after it
  pub delivery_no_excess : BurnsNoExcess (arrives s r x) (executed r.rules (name_at (chain_of r) (chain_of s)) no_weight x.program (arrives s r x)).1
  delivery_no_excess = by_admission (admitted r.rules origin no_weight p0.queries x.program) refl

  -- and where memory was refused
  pub stopped_delivery_no_excess : (q : ChainPart) → StopsAt s r x q → BurnsNoExcess r.part q
  stopped_delivery_no_excess q stops =
      let begins = same_burns r.part p0 begins_burns in ⊎_elim
      (λ (e : q ≡ begun (chain_of s) x.cargo r.part). same_burns r.part q (ap (λ (y : ChainPart). y.burns) e))
      (λ rest. ⊎_elim
      (λ (h : IsAbandoned r.rules origin no_weight x.program p0 q). no_excess_then r.part p0 q begins (abandoned_in_no_excess laws (tables_of (views w)) agrees r.rules origin h.0 p0 (delivery_stands h.0 h.1) q h.2))
      (λ (e : q ≡ (executed r.rules origin no_weight x.program p0).1). no_excess_then r.part p0 q begins (subst (BurnsNoExcess p0) (sym e) delivery_no_excess)) rest) stops
