-- Lemmas: what a delivery does to its receiver. A reader may skip this file.
use Rattle.std.proofs.Common.{◌≡◌, ◌⊎◌, ⊎_elim, ℕ, zero, suc, ◌+◌, ◌-◌, ◌<◌, ◌≤◌, Bool, true, false, List, [], ◌∷◌, length, Option, Some, None, Ok, map, refl, sym, ap, ◌∙◌, subst, arith}
use Rattle.std.specs.Prelude.{IsTrue, ◌≢◌, ◌&&◌, if◌then◌else◌, slice_get, slice_set}
use Rattle.std.specs.List.{AllByRecursion}
use Rattle.std.specs.Ordering.{eq_by_cmp}
use Rattle.amounts.specs.Amounts.{amount, total, empty, merge, IsWithin}
use Rattle.amounts.proofs.Lemmas.AmountLaws.{total-empty, amount-total}
use Rattle.locations.specs.declared.relative.Location.{Location}
use Rattle.operands.specs.declared.error.XcmError.{XcmError}
use Rattle.asset_lists.specs.declared.units.Asset.{Asset}
use Rattle.asset_lists.specs.Lists.{IsAssetList}
use Rattle.asset_lists.specs.Listed.{Listed, listed_cmp}
use Rattle.asset_lists.specs.Units.{Unit, unit_of}
use Rattle.asset_bundles.specs.Bundles.{Bundle, bundle_of, held_assets, IsGoods}
use Rattle.asset_bundles.proofs.Lemmas.Bundles.{unit_keys}
use Rattle.asset_bundles.specs.Books.{is_unit_where, is_unit_of, given_up, AreListed, AreTotals}
use Rattle.asset_bundles.proofs.Lemmas.Books.{is_burn_of}
use Rattle.asset_bundles.specs.Joins.{Joined}
use Rattle.asset_bundles.proofs.Lemmas.{booked_below, given_up_total, joined_total}
use Rattle.chain_ids.specs.declared.chain.ChainId.{ChainId}
use Rattle.ledgers.specs.Ledgers.{holder_cmp, Withdrawn, held_by}
use Rattle.ledgers.proofs.Lemmas.{holder_keys, held_by_total}
use Rattle.trust_tables.specs.declared.rows.AssetRow.{AssetRow}
use Rattle.trust_tables.specs.Chains.{location_of}
use Rattle.trust_tables.proofs.Lemmas.ChainLaws.{account_of-location_of}
use Rattle.trust_tables.specs.Accounts.{IsChain, account_of, sovereign_account}
use Rattle.trust_tables.specs.Trust.{listing, is_reserve, is_partner}
use Rattle.weight_trader.specs.Purchases.{no_weight}
use Rattle.xcm_program.specs.declared.instruction.Instruction.{Instruction, out-Instruction, roll-Instruction, out-roll-Instruction}
use Rattle.xcm_program.specs.declared.instruction.Instruction.TheOpen.{Instruction-F}
use Rattle.xcm_program.proofs.Lemmas.{everywhere_open}
use Rattle.channel_parts.specs.declared.cargo.Cargo as carried
use Rattle.channel_parts.specs.declared.cargo.Cargo.TheVariants as cargos
use Rattle.exec_base.specs.declared.event.Event.{Event}
use Rattle.exec_base.specs.Arrivals.{arrived_list, is_this_list}
use Rattle.exec_base.specs.Part.{DeliveredCargo, ChainPart, accounts_of, book_of}
use Rattle.exec_base.specs.Sending.{led_by}
use Rattle.exec_base.specs.Host.{Arrival, ByWithdrawal, ByDeposit, ByTeleport, arrival_of, fits_call, cargo_list, is_cargo, cargo_after, changed_all, first_fault, receive_refusal, withdraw_refusal, debit_fault, at_account, withdrawn, received, bundles_joined, booked, claimed, answered, asset_unlocked, asset_noted, told, parked}
use Rattle.exec_rules.specs.Machine.{Machine}
use Rattle.exec_rules.specs.Run.{machine_of}
use Rattle.exec_rules.specs.Accounts.{IsBalanced}
use Rattle.exec_rules.specs.Keeping.{IsAheadOf}
use Rattle.exec_rules.specs.Outcome.{finished, abandoned}
use Rattle.exec_rules.specs.Holdings.{has_room, is_ticket, holding_more}
use Rattle.exec_rules.proofs.Lemmas.AnswerLaws.{unless_next, none_first, received_is_listed}
use Rattle.exec_rules.specs.Instructions.{refused, done, refusal_of, xcm}
use Rattle.exec_rules.specs.Readiness.{IsAtRest, IsSteady}
use Rattle.exec_rules.specs.Stopping.{PartwayOnOom, parking}
use Rattle.exec_rules.specs.declared.rules.ChainRules.{ChainRules}
use Rattle.exec_rules.specs.declared.admission.Admitted.{Admitted}
use Rattle.exec_rules.specs.Admission.{admitted, IsWeighed}
use Rattle.exec_rules.specs.Execution.{first_machine, first_stage, last_machine}
use Rattle.network_steps.specs.Acting.{begun, ended}
use Rattle.law_steps.specs.Shapes.{stands_alone}
use Rattle.law_coherence.specs.UniversalAssets.{UniversalAsset, Choice, every, is_unit_at, IsPlaced}
use Rattle.law_coherence.specs.Networks.{Table, context_of, IsIn, Agrees, is_home}
use Rattle.law_coherence.proofs.Lemmas.Twins.{unit_placed}
use Rattle.law_coherence.specs.Trusting.{IsShared}
use Rattle.law_coherence.specs.Parts.{Cargo, Deposit, Withdrawal, Teleport, Part, WorldView, chain_of_part, in_bundle, stock, flight}
use Rattle.law_coherence.specs.Channels as queues
use Rattle.law_coherence.specs.Steps.{tables_of, IsSafe, IsExchange}
use Rattle.law_coherence.proofs.Lemmas.Steps.{table_at, get_set_same, get_set_other}
use Rattle.law_coherence.specs.Moves.{IsTrusted}
use Rattle.law_coherence.proofs.Lemmas.Moves.{received_safe}
use Rattle.law_coherence.specs.Cargoes.{IsDepositFor}
use Rattle.law_coherence.proofs.Lemmas.Cargoes.{teleport_trusted, deposit_trusted, withdrawal_trusted}
use Rattle.law_coherence.proofs.Lemmas.Receiving.{shared_there, owed_there, deposit_for}
use Rattle.law_coherence.proofs.Lemmas.Landings.{WithoutFront, WithList, IsListFor, AreLowered, list_received}
use Rattle.law_coherence.specs.Checking.{account_in, checking_at, risen}
use Rattle.law_coherence.proofs.Lemmas.Checking.{risen_by_none, account_stays}
use Rattle.law_coherence.proofs.Lemmas.CheckingLaws.{covers_teleport}
use Rattle.law_coherence.proofs.Lemmas.Accounts.{Paid, paid_received}
use Rattle.law_coherence.specs.Histories.{History, Two}
use Rattle.law_runs.specs.Views.{table_of, cargo_of, channel_of, seen, view}
use Rattle.law_runs.specs.Sums.{kept_of, in_kept, in_places, burned_where, Sum, none, HasRoom}
use Rattle.law_runs.proofs.Lemmas.Sums.{sum_of, with, nobody, only, Call}
use Rattle.law_runs.proofs.Lemmas.Calls.{call_then, call_with, room_kept, below, receiving, joining, withdrawing, claiming, answering, unlocking, noting, no_shortage, parking_goods}
use Rattle.law_runs.specs.Safety.{AreLists, HasFee, AreTrustedAt, links_of, hold, Safely}
use Rattle.law_runs.proofs.Lemmas.Safety.{moved_safely, safely_then, same_table}
use Rattle.law_runs.specs.Safety as runs
use Rattle.law_runs.proofs.Lemmas.Safety as runs_lemmas
use Rattle.law_runs.proofs.Lemmas.Turns.{more_call}
use Rattle.law_runs.proofs.Lemmas.Shipping.{HasList-IsOfLayer, each_unit, reserves_hold, partners_hold}
use Rattle.law_runs.proofs.Lemmas.Checks.{list_lowers}
use Rattle.law_runs.proofs.Lemmas.Runs.{emptied, held_done}
use Rattle.law_steps.specs.Rooms.{unlisted, AllListed}
use Rattle.law_steps.proofs.Lemmas.Rooms.{IsSmall, small_room, sum_rises, none_rises, with_rises, goods_listed, listed_goods}
use Rattle.law_steps.proofs.Lemmas.Admitting.{admitted_lists}
use Rattle.law_steps.specs.Soundness.{IsLink, IsSoundPart, LawsBelow}
use Rattle.law_steps.proofs.Lemmas.Locals.{sound_ended, nothing_listed, none_listed, none_above, no_ahead, fees_of_links}
use Rattle.law_steps.proofs.Lemmas.Landing.{names, lands, found_there, same_amounts_there, listed_placed}
use Rattle.law_steps.proofs.Lemmas.Firsts.{IsSet, IsSetBehind, joined_cargo, stopped_steady, refused_safely, refused_inside, alone_safely, alone_inside, led_safely, led_inside}
use Rattle.law_steps.proofs.Lemmas.Stops.{ComesTo, AbandonedBehind, DoneFirst, StopsFirst, StandsAs, over, parked_cargo, same_front, parks, refused_stops, alone_stops, led_stops, done_stops}
use Rattle.law_steps.proofs.Lemmas.Asides.{Aside, Drawn, list_aside, paid_aside}
use Rattle.law_steps.specs.Bounds.{IsSoundGenesis}
use Rattle.law_steps.proofs.Lemmas.Bounds.{agrees_now, checked_now, small_now, small_more}

-- the receiver as the message begins
abbrev pub taken : ChainId → carried.Cargo → Event → ChainPart → ChainPart
taken sender cargo e p = told (begun sender cargo p) e

-- what a message did to its receiver: its cargo is left, or it landed; so it is wherever its run comes
pub data Fate (ps pr : ChainPart) (cargo left : carried.Cargo) (q : ChainPart) (comes : Machine → Type 0) : Type 0 where
  Left : left ≡ cargo → IsSafe (seen empty pr) (seen empty q) → IsSoundPart q → ((m : Machine) → comes m → (m.part.cargo.cargo ≡ cargo) × IsSafe (seen empty pr) (view m)) → Fate ps pr cargo left q comes
  Landed : (mid : Part) → left ≡ cargos.Nothing → IsExchange (seen empty ps) (WithoutFront (seen empty pr) (seen empty ps)) (seen empty pr) mid → IsSafe mid (seen empty q) → IsSoundPart q
      → ((m : Machine) → comes m → (m.part.cargo.cargo ≡ cargos.Nothing) × IsSafe mid (view m)) → Fate ps pr cargo left q comes

-- what a message did to its receiver before memory was refused: its cargo is left, or it landed
pub data Passed (ps pr : ChainPart) (cargo : carried.Cargo) (q : ChainPart) : Type 0 where
  StillCarried : q.cargo.cargo ≡ cargo → IsSafe (seen empty pr) (seen empty q) → Passed ps pr cargo q
  HasLanded : (mid : Part) → q.cargo.cargo ≡ cargos.Nothing → IsExchange (seen empty ps) (WithoutFront (seen empty pr) (seen empty ps)) (seen empty pr) mid → IsSafe mid (seen empty q) → Passed ps pr cargo q

taken_all : (sender : ChainId) (cargo : carried.Cargo) (e : Event) (p : ChainPart) → record (kept_of (taken sender cargo e p)) { cargo = cargos.Nothing } ≡ record (kept_of p) { cargo = cargos.Nothing }
unfolding told
taken_all sender cargo e p = refl

all_at : {A : Type 0} (P : A → Type 0) (xs : List A) (x : A) → AllByRecursion P xs → IsIn xs x → P x
all_at P [] x all inside = absurd (let h = inside.1 in cc)
all_at P (y ∷ xs) x all (zero, at) = let same : y ≡ x = cc in subst P same all.0
all_at P (y ∷ xs) x all (suc i, at) = all_at P xs x all.1 (i, at)

pub same_safe : (p : Part) → IsSafe p p
same_safe p = record {
  keeps = record { table = refl; owing = λ row chain count inside role other. omega arith; covering = λ chain a count number foreign other. omega arith };
  owned = λ a. refl;
  rare = λ a choice. omega arith;
  accounted = λ a. account_stays (checking_at a p) (checking_at a p) (flight a every p) (flight a every p) (stock a every p) (stock a every p) refl (omega arith) (omega arith);
}

-- one instruction alone has no point inside where memory may be refused
pub never_stops : (l : Instruction-F Instruction) (m left : Machine) → stands_alone l ≡ true → PartwayOnOom l m left → ⊥
never_stops (Instruction-F.QueryResponse query answer weight querier) m left kind stops = stops
never_stops (Instruction-F.NoteUnlockable asset owner) m left kind stops = stops
never_stops (Instruction-F.UnlockAsset asset target) m left kind stops = stops
never_stops _ m left kind stops = absurd cc

module _ (laws : LawsBelow) (first : WorldView) (genesis : IsSoundGenesis first) (v : WorldView) (history : History first v) (i j : ℕ) (ps pr : ChainPart) (at_i : slice_get v i ≡ Some (seen empty ps)) (at_j : slice_get v j ≡ Some (seen empty pr))
    (apart : i ≡ j → ⊥) (sound_s : IsSoundPart ps) (sound_r : IsSoundPart pr) (rules : ChainRules) (cargo : carried.Cargo) (program : List Instruction) (e : Event)
    (front : queues.front pr.site.chain (map channel_of ps.channels) ≡ Some (cargo_of cargo)) (name origin : Location) (leads : location_of ps.site.chain pr.site.chain ≡ Some name) (back : location_of pr.site.chain ps.site.chain ≡ Some origin)
    (runnable : runs.IsRunnable program) (trusts : runs.IsTrustedCargo ps.site ps.rows name cargo) where
  n : List Table
  n = tables_of v

  abbrev tables : List Table
  tables = tables_of v

  agrees : Agrees (tables_of v)
  agrees = agrees_now first genesis v history

  s_in : IsIn (tables_of v) (table_of ps)
  s_in = (i, table_at v i (seen empty ps) at_i)

  t_in : IsIn (tables_of v) (table_of pr)
  t_in = (j, table_at v j (seen empty pr) at_j)

  chains_apart : ps.site.chain ≢ pr.site.chain
  chains_apart same = apart (agrees.network.apart i j (table_of ps) (table_of pr) (table_at v i (seen empty ps) at_i) (table_at v j (seen empty pr) at_j) same)

  sender_number : IsChain ps.site.chain
  sender_number = agrees.network.chains (table_of ps) s_in

  abbrev p0 : ChainPart
  p0 = taken ps.site.chain cargo e pr

  abbrev m0 : Machine
  m0 = first_machine rules origin (taken ps.site.chain cargo e pr)

  -- ---- the receiver as it begins
  rest0 : IsAtRest (taken ps.site.chain cargo e pr)
  unfolding told
  rest0 = let s = sound_r.rest in record { order = record { traps = s.order.traps; rates = s.order.rates; paid = s.order.paid; pools = s.order.pools; unparked = s.order.unparked }; slot = s.slot }

  listed0 : AllListed none (taken ps.site.chain cargo e pr)
  unfolding told in_kept
  listed0 = sound_r.listed

  trusted0 : AreTrustedAt p0.site p0.rows p0.channels
  unfolding told
  trusted0 = sound_r.trusted

  links0 : AllByRecursion (IsLink p0.site.chain) (links_of p0.channels)
  unfolding told
  links0 = sound_r.links

  there0 : IsIn (tables_of v) (table_of p0)
  unfolding told
  there0 = t_in

  cargo0 : p0.cargo.cargo ≡ cargo
  unfolding told
  cargo0 = refl

  seen0 : view (first_machine rules origin (taken ps.site.chain cargo e pr)) ≡ seen empty pr
  unfolding told
  seen0 = refl

  small0 : IsSmall none (taken ps.site.chain cargo e pr)
  unfolding told in_kept
  small0 = small_now first genesis v history j pr at_j

  room_none : HasRoom none p0
  room_none = small_room p0 none none_rises listed0 small0

  room0 : HasRoom (hold m0) p0
  room0 k = let le = room_none k in let z = total-empty unit_keys (is_unit_of k) in omega (arith, le, z)

  steady0 : IsSteady m0
  steady0 = record { rest = rest0; holding = none_listed (listing p0.rows) }

  -- ---- a run after an accepted first instruction, whatever the checking accounts are then
  places_checks : (p : ChainPart) (checks : List (Option ℕ)) (t : Unit → Bool) → in_places t (record p { checking = checks }) ≡ in_places t p
  unfolding in_kept
  places_checks p checks t = refl

  room_checks : (ins : Sum) (p : ChainPart) (checks : List (Option ℕ)) → HasRoom ins p → HasRoom ins (record p { checking = checks })
  room_checks ins p checks room k = let le = room k in let same = places_checks p checks (is_unit_of k) in omega (arith, le, same)

  all_listed : (checks : List (Option ℕ)) (may : List ℕ → Type 0) (ins : Sum) (k : Machine) → Call may ins (hold k) (record p0 { checking = checks }) k.part → AllListed ins p0 → AllListed (hold k) k.part
  all_listed checks may ins k x listed =
      subst (λ (r : List AssetRow). burned_where (unlisted r) k.part + (in_places (is_unit_where (unlisted r)) k.part + hold k (is_unit_where (unlisted r))) ≡ 0) (sym x.rows)
      (let one = x.amounts (is_unit_where (unlisted p0.rows)) in let two = x.books (unlisted p0.rows) in let same = places_checks p0 checks (is_unit_where (unlisted p0.rows)) in omega (arith, one, two, same, listed))

  abbrev end_of : Admitted → ChainPart
  end_of a = finished xcm (last_machine rules origin a (taken ps.site.chain cargo e pr))

  -- what becomes of a message, whether memory is refused to its first instruction or not
  abbrev pub Ways : Admitted → Type 0
  Ways a = Fate ps pr cargo (end_of a).cargo.cargo (ended (end_of a)) (StandsAs rules origin a (taken ps.site.chain cargo e pr)) × ((q : ChainPart) → StopsFirst rules origin a (taken ps.site.chain cargo e pr) q → Passed ps pr cargo q)

  weighed : (a : Admitted) → admitted rules origin no_weight p0.queries program ≡ Ok a → IsWeighed rules.weight a
  weighed a ok = laws.weighs rules origin no_weight p0.queries program a runnable.few ok

  balanced : (a : Admitted) → admitted rules origin no_weight p0.queries program ≡ Ok a → IsBalanced a.weight (first_stage rules origin a p0)
  balanced a ok = laws.balances rules origin a p0 (weighed a ok)

  ahead : (a : Admitted) → admitted rules origin no_weight p0.queries program ≡ Ok a → IsAheadOf AreLists (first_stage rules origin a p0)
  ahead a ok = no_ahead a.program m0 refl refl (admitted_lists rules origin no_weight p0.queries program runnable.lists a ok)

  ends_at_rest : (a : Admitted) → admitted rules origin no_weight p0.queries program ≡ Ok a → IsAtRest (end_of a)
  ends_at_rest a ok = laws.rests rules origin a p0 (weighed a ok) rest0

  accepted_way : (l : Instruction-F Instruction) → refused l m0 ≡ None → refusal_of (roll-Instruction l) m0 ≡ None
  accepted_way l way = ap (λ (k : Instruction-F Instruction). refused k m0) (out-roll-Instruction l) ∙ way

  stop_of : (a : Admitted) (l : Instruction-F Instruction) (behind : List Instruction) → a.program ≡ roll-Instruction l ∷ behind → (q : ChainPart) (s : StopsFirst rules origin a (taken ps.site.chain cargo e pr) q) → PartwayOnOom l (first_machine rules origin p0) s.left
  stop_of a l behind is q s =
      let same : s.which ≡ roll-Instruction l = same_front s.which (roll-Instruction l) s.behind behind (sym s.is ∙ is) in
      subst (λ (k : Instruction-F Instruction). PartwayOnOom k (first_machine rules origin p0) s.left) (ap out-Instruction same ∙ out-roll-Instruction l) s.changed

  -- what had come is parked
  aside_passed : (q : ChainPart) (r : ChainPart) (goods : Bundle) (left : Machine) → left ≡ parking m0 r goods → q ≡ abandoned left.regs left.part → r.cargo.cargo ≡ cargos.Nothing → (mid : Part) → view (parking m0 r goods) ≡ mid
      → IsExchange (seen empty ps) (WithoutFront (seen empty pr) (seen empty ps)) (seen empty pr) mid → Passed ps pr cargo q
  aside_passed q r goods left is parks_so gone mid looks exchange =
      let m = parking m0 r goods in
      let whole : q ≡ abandoned m.regs m.part = parks_so ∙ ap (λ (z : Machine). abandoned z.regs z.part) is in
      let safely : Safely m (over rules origin q) = subst (λ (y : ChainPart). Safely m (over rules origin y)) (sym whole) (parks laws (tables_of v) agrees rules origin m) in
      HasLanded mid (ap (λ (y : ChainPart). y.cargo.cargo) whole ∙ ap (λ (t : DeliveredCargo). t.cargo) (parked_cargo m.part m.regs.holding ∙ parked_cargo r goods) ∙ gone) exchange
      (subst (λ (z : Part). IsSafe z (seen empty q)) looks safely.safe)

  -- wherever its run is
  stands_safely : (a : Admitted) (k m : Machine) → ((c : ComesTo (first_stage rules origin a p0) m) → Safely k (machine_of c.0)) → ((q : ChainPart) → AbandonedBehind rules origin a p0 q → Safely k (over rules origin q))
      → ((q : ChainPart) → DoneFirst rules origin a p0 q → Safely k (over rules origin q)) → StandsAs rules origin a (taken ps.site.chain cargo e pr) m → Safely k m
  stands_safely a k m comes behind first c = ⊎_elim
      (λ (c : ComesTo (first_stage rules origin a p0) m). subst (Safely k) c.2 (comes c))
      (λ (s : (q : ChainPart) × (AbandonedBehind rules origin a p0 q ⊎ DoneFirst rules origin a p0 q) × (m ≡ over rules origin q)).
      subst (Safely k) (sym s.2) (⊎_elim (λ (b : AbandonedBehind rules origin a p0 s.0). behind s.0 b) (λ (d : DoneFirst rules origin a p0 s.0). first s.0 d) s.1)) c

  led_through : (a : Admitted) → admitted rules origin no_weight p0.queries program ≡ Ok a → (l : Instruction-F Instruction) (behind : List Instruction) → a.program ≡ led_by l behind → refused l m0 ≡ None
      → (checks : List (Option ℕ)) (may : List ℕ → Type 0) (ins : Sum) → Call may ins (hold (done l m0)) (record p0 { checking = checks }) (done l m0).part → HasRoom ins p0 → AllListed ins p0
      → Safely (done l m0) (emptied laws.withdraws laws.moves laws.stays (tables_of v) agrees (last_machine rules origin a p0)) × IsSoundPart (ended (end_of a)) × ((m : Machine) → StandsAs rules origin a (taken ps.site.chain cargo e pr) m → Safely (done l m0) m)
  led_through a ok l behind is way checks may ins x room listed =
      let k = done l m0 in
      let same : xcm.done (roll-Instruction l) m0 ≡ k = ap (λ (f : Instruction-F Instruction). done f m0) (out-roll-Instruction l) in
      let all = all_listed checks may ins k x listed in
      let set : IsSet (tables_of v) k = record {
        room = room_kept may ins (hold k) (record p0 { checking = checks }) k.part x (room_checks ins p0 checks room);
        listed = listed_goods k.part.rows k.regs.holding (omega (arith, all));
        within = held_done l m0 none_above;
        there = subst (IsIn (tables_of v)) (sym (same_table p0 k.part x.site x.rows)) there0;
        steady = subst IsSteady same (laws.stays (roll-Instruction l) m0 steady0 (accepted_way l way));
        fees = subst (AllByRecursion HasFee) (sym (ap links_of x.channels)) (fees_of_links p0.site.chain (links_of p0.channels) links0);
      } in
      let x1 = roll-Instruction l in
      let begins : IsSetBehind laws (tables_of v) agrees rules origin p0 a (balanced a ok) x1 behind = record { is = is; way = accepted_way l way; ahead = ahead a ok; set = subst (IsSet (tables_of v)) (sym same) set } in
      let final = emptied laws.withdraws laws.moves laws.stays (tables_of v) agrees (last_machine rules origin a p0) in
      let safely : Safely k final = subst (λ (z : Machine). Safely z final) same (led_safely laws (tables_of v) agrees rules origin p0 a (balanced a ok) x1 behind begins) in (
        safely,
        sound_ended k final safely refl all (runs_lemmas.same_trust p0.site k.part.site p0.rows k.part.rows p0.channels k.part.channels x.site x.rows x.channels trusted0)
            (subst (λ (c : ChainId). AllByRecursion (IsLink c) (links_of k.part.channels)) (sym (ap (λ s. s.chain) x.site)) (subst (AllByRecursion (IsLink p0.site.chain)) (sym (ap links_of x.channels)) links0))
            (ends_at_rest a ok),
        λ m c. stands_safely a k m
            (λ c. subst (λ (z : Machine). Safely z (machine_of c.0)) same (led_inside laws (tables_of v) agrees rules origin p0 a (balanced a ok) x1 behind begins c.0 c.1))
            (λ q b. subst (λ (z : Machine). Safely z (over rules origin q)) same (led_stops laws (tables_of v) agrees rules origin p0 a (balanced a ok) x1 behind begins q b))
            (λ q d. subst (λ (z : Machine). Safely z (over rules origin q)) same (done_stops laws (tables_of v) agrees rules origin p0 a (balanced a ok) x1 (roll-Instruction Instruction-F.ClearOrigin ∷ behind) is q d)) c,
      )

  -- ---- its cargo is left
  -- an instruction that may leave something where memory is refused wasn't refused itself
  pub refused_fate : (a : Admitted) → admitted rules origin no_weight p0.queries program ≡ Ok a → (l : Instruction-F Instruction) (behind : List Instruction) (error : XcmError) → a.program ≡ roll-Instruction l ∷ behind → refused l m0 ≡ Some error
      → ((m : Machine) → PartwayOnOom l (first_machine rules origin (taken ps.site.chain cargo e pr)) m → refused l (first_machine rules origin (taken ps.site.chain cargo e pr)) ≡ None) → Ways a
  refused_fate a ok l behind error is refuses accepts =
      let x = roll-Instruction l in
      let no_way : refusal_of x m0 ≡ Some error = ap (λ (k : Instruction-F Instruction). refused k m0) (out-roll-Instruction l) ∙ refuses in
      let both = refused_safely laws (tables_of v) agrees rules origin p0 a (balanced a ok) x behind error is no_way rest0 room_none in
      let final = emptied laws.withdraws laws.moves laws.stays (tables_of v) agrees (last_machine rules origin a p0) in
      let inside : (m : Machine) → StandsAs rules origin a p0 m → Safely m0 m × (m.part.cargo ≡ p0.cargo) = λ m c. ⊎_elim
      (λ (c : ComesTo (first_stage rules origin a p0) m).
      let there = refused_inside laws (tables_of v) agrees rules origin p0 a (balanced a ok) x behind error is no_way c.0 c.1 in
      (subst (Safely m0) c.2 there.0, ap (λ (z : Machine). z.part.cargo) (sym c.2) ∙ there.1))
      (λ (s : (q : ChainPart) × (AbandonedBehind rules origin a p0 q ⊎ DoneFirst rules origin a p0 q) × (m ≡ over rules origin q)). ⊎_elim
      (λ (b : AbandonedBehind rules origin a p0 s.0).
      let there = refused_stops laws (tables_of v) agrees rules origin p0 a (balanced a ok) x behind error is no_way (stopped_steady laws (tables_of v) agrees rules origin p0 a (balanced a ok) x behind error rest0) room0 s.0 b in
      (subst (Safely m0) (sym s.2) there.0, ap (λ (z : Machine). z.part.cargo) s.2 ∙ there.1))
      (λ (d : DoneFirst rules origin a p0 s.0).
      let same : d.which ≡ x = same_front d.which x d.behind behind (sym d.is ∙ is) in
      let none_refused : None ≡ Some error = sym d.way ∙ ap (λ (z : Instruction). refusal_of z m0) same ∙ no_way in
      absurd cc) s.1) c in (
        Left (ap (λ (t : DeliveredCargo). t.cargo) both.1 ∙ cargo0) (subst (λ (q : Part). IsSafe q (seen empty (end_of a))) seen0 both.0.safe)
            (sound_ended m0 final both.0 refl (nothing_listed p0 listed0 empty refl) trusted0 links0 (ends_at_rest a ok))
            (λ m c. let there = inside m c in (ap (λ (t : DeliveredCargo). t.cargo) there.1 ∙ cargo0, subst (λ (q : Part). IsSafe q (view m)) seen0 there.0.safe)),
        λ q s.
            let none_refused : None ≡ Some error = sym (accepts s.left (stop_of a l behind is q s)) ∙ refuses in
            absurd cc,
      )

  -- ---- nothing comes with it
  nothing_fate : (a : Admitted) → admitted rules origin no_weight p0.queries program ≡ Ok a → cargo ≡ cargos.Nothing → (k : Machine) → Safely m0 k → Safely k (emptied laws.withdraws laws.moves laws.stays (tables_of v) agrees (last_machine rules origin a p0))
      → ((m : Machine) → StandsAs rules origin a (taken ps.site.chain cargo e pr) m → Safely k m) → ((q : ChainPart) → StopsFirst rules origin a (taken ps.site.chain cargo e pr) q → Safely m0 (over rules origin q)) → Ways a
  nothing_fate a ok empty_handed k one two inside stops =
      let final = emptied laws.withdraws laws.moves laws.stays (tables_of v) agrees (last_machine rules origin a p0) in
      let all = safely_then m0 k final one two in
      let none_left : (m : Machine) → Safely m0 m → m.part.cargo.cargo ≡ cargo = λ m so_far. so_far.cargo (cargo0 ∙ empty_handed) ∙ sym empty_handed in (
        Left (all.cargo (cargo0 ∙ empty_handed) ∙ sym empty_handed) (subst (λ (q : Part). IsSafe q (seen empty (end_of a))) seen0 all.safe)
            (sound_ended m0 final all refl (nothing_listed p0 listed0 empty refl) trusted0 links0 (ends_at_rest a ok))
            (λ m c. let so_far = safely_then m0 k m one (inside m c) in (none_left m so_far, subst (λ (q : Part). IsSafe q (view m)) seen0 so_far.safe)),
        λ q s. let so_far = stops q s in StillCarried (none_left (over rules origin q) so_far) (subst (λ (z : Part). IsSafe z (seen empty q)) seen0 so_far.safe),
      )

  claim_call : (list : List Asset) (ticket : Location) → refused (Instruction-F.ClaimAsset list ticket) m0 ≡ None → Call nobody none (sum_of (bundle_of list)) p0 (claimed p0 list origin)
  claim_call list ticket way = claiming p0 list origin (unless_next (is_ticket ticket) _ _ (unless_next (has_room m0 (length list)) _ _ way))

  pub claim_fate : (a : Admitted) → admitted rules origin no_weight p0.queries program ≡ Ok a → cargo ≡ cargos.Nothing → (list : List Asset) (ticket : Location) (behind : List Instruction) → a.program ≡ led_by (Instruction-F.ClaimAsset list ticket) behind
      → refused (Instruction-F.ClaimAsset list ticket) m0 ≡ None → Ways a
  claim_fate a ok empty_handed list ticket behind is way =
      let l = Instruction-F.ClaimAsset list ticket in
      let goods = bundle_of list in
      let r = claimed p0 list origin in
      let came = claim_call list ticket way in
      let x : Call nobody (hold m0) (hold (done l m0)) p0 (done l m0).part = more_call nobody m0 r goods came room0 in
      let through = led_through a ok l behind is way p0.checking nobody (hold m0) x room0 (nothing_listed p0 listed0 empty refl) in
      nothing_fate a ok empty_handed (done l m0) (moved_safely nobody m0 (done l m0) (λ chain number foreign h. h) x) through.0 through.2
      (λ q s.
      let m = parking m0 r goods in
      let put : Call nobody none none p0 m.part = call_then nobody none (sum_of goods) none p0 r m.part came (parking_goods r goods) in
      let safely : Safely m0 m = moved_safely nobody m0 m (λ chain number foreign h. h) (call_with nobody none none (hold m0) (hold m) p0 m.part put (λ t. omega arith)) in
      let whole : q ≡ abandoned m.regs m.part = s.parks ∙ ap (λ (z : Machine). abandoned z.regs z.part) (stop_of a l (roll-Instruction Instruction-F.ClearOrigin ∷ behind) is q s).1 in
      subst (λ (y : ChainPart). Safely m0 (over rules origin y)) (sym whole) (safely_then m0 m (over rules origin (abandoned m.regs m.part)) safely (parks laws (tables_of v) agrees rules origin m)))

  -- one instruction alone moves nothing
  alone_call : (l : Instruction-F Instruction) → stands_alone l ≡ true → Call nobody (hold m0) (hold (done l m0)) p0 (done l m0).part
  alone_call (Instruction-F.QueryResponse query answer weight querier) kind = call_with nobody none none (hold m0) (hold m0) p0 (answered p0 origin query) (answering p0 origin query) (λ t. omega arith)
  alone_call (Instruction-F.NoteUnlockable asset owner) kind = call_with nobody none none (hold m0) (hold m0) p0 (asset_noted p0 asset owner origin) (noting p0 asset owner origin) (λ t. omega arith)
  alone_call (Instruction-F.UnlockAsset asset target) kind = call_with nobody none none (hold m0) (hold m0) p0 (asset_unlocked p0 asset target origin) (unlocking p0 asset target origin) (λ t. omega arith)
  alone_call _ kind = absurd cc

  alone_keeps : (l : Instruction-F Instruction) → stands_alone l ≡ true → (done l m0).regs.appendix ≡ []
  alone_keeps (Instruction-F.QueryResponse query answer weight querier) kind = refl
  alone_keeps (Instruction-F.NoteUnlockable asset owner) kind = refl
  alone_keeps (Instruction-F.UnlockAsset asset target) kind = refl
  alone_keeps _ kind = absurd cc

  pub alone_fate : (a : Admitted) → admitted rules origin no_weight p0.queries program ≡ Ok a → cargo ≡ cargos.Nothing → (l : Instruction-F Instruction) → stands_alone l ≡ true
      → a.program ≡ roll-Instruction l ∷ [] → refused l m0 ≡ None → Ways a
  alone_fate a ok empty_handed l kind is taken_in =
      let x1 = roll-Instruction l in
      let k = done l m0 in
      let same : xcm.done x1 m0 ≡ k = ap (λ (f : Instruction-F Instruction). done f m0) (out-roll-Instruction l) in
      let x = alone_call l kind in
      let way = accepted_way l taken_in in
      let final = emptied laws.withdraws laws.moves laws.stays (tables_of v) agrees (last_machine rules origin a p0) in
      let room : HasRoom (hold k) k.part = room_kept nobody (hold m0) (hold k) p0 k.part x room0 in
      let room_done = subst (λ (z : Machine). HasRoom (hold z) z.part) (sym same) room in
      let no_appendix : (xcm.done x1 m0).regs.appendix ≡ [] = ap (λ (z : Machine). z.regs.appendix) same ∙ alone_keeps l kind in
      let steady = laws.stays x1 m0 steady0 way in
      let rest = alone_safely laws (tables_of v) agrees rules origin p0 a (balanced a ok) x1 is way no_appendix steady room_done in
      nothing_fate a ok empty_handed k (moved_safely nobody m0 k (λ chain number foreign h. h) x) (subst (λ (z : Machine). Safely z final) same rest)
      (λ m c. stands_safely a k m
      (λ c. subst (λ (z : Machine). Safely z (machine_of c.0)) same (alone_inside laws (tables_of v) agrees rules origin p0 a (balanced a ok) x1 is way no_appendix c.0 c.1))
      (λ q b. subst (λ (z : Machine). Safely z (over rules origin q)) same (alone_stops laws (tables_of v) agrees rules origin p0 a (balanced a ok) x1 is way no_appendix steady room_done q b))
      (λ q d. subst (λ (z : Machine). Safely z (over rules origin q)) same (done_stops laws (tables_of v) agrees rules origin p0 a (balanced a ok) x1 [] is q d)) c)
      (λ q s. absurd (never_stops l m0 s.left kind (stop_of a l [] is q s)))

  -- ---- a cargo that a call ends
  ends_here : (arrival : Arrival) (new : List Asset) → fits_call arrival cargo ≡ true → is_this_list new (arrived_list pr.site ps.site.chain (cargo_list cargo)) ≡ true → is_cargo p0 arrival new ≡ true
  unfolding told is_cargo
  ends_here arrival new fits found = ap (λ (b : Bool). b && is_this_list new (arrived_list pr.site ps.site.chain (cargo_list cargo))) fits ∙ found

  gone_by : (p : ChainPart) (arrival : Arrival) (new : List Asset) → is_cargo p arrival new ≡ true → (cargo_after p arrival new).cargo ≡ cargos.Nothing
  unfolding cargo_after
  gone_by p arrival new found = ap (λ (b : Bool). (if b then (let r : DeliveredCargo = record { sender = p.cargo.sender; cargo = cargos.Nothing } in r) else p.cargo).cargo) found

  received_gone : (new : List Asset) (teleport : Bool) → is_cargo p0 (arrival_of teleport) new ≡ true → (received p0 new teleport).cargo.cargo ≡ cargos.Nothing
  unfolding received
  received_gone new teleport found = gone_by p0 (arrival_of teleport) new found

  withdrawn_gone : (new : List Asset) → is_cargo p0 ByWithdrawal new ≡ true → (withdrawn p0 new origin).cargo.cargo ≡ cargos.Nothing
  unfolding withdrawn
  withdrawn_gone new found = gone_by p0 ByWithdrawal new found

  more_gone : (p : ChainPart) (goods : Bundle) → p.cargo.cargo ≡ cargos.Nothing → (holding_more m0 p goods).part.cargo.cargo ≡ cargos.Nothing
  more_gone p goods h = ap (λ (t : DeliveredCargo). t.cargo) (joined_cargo p empty goods) ∙ h

  -- ---- a list comes: a teleport, or a deposit
  list_call : (teleport : Bool) (new : List Asset) → HasRoom (with (sum_of empty) (sum_of (bundle_of new))) p0
      → Call nobody (with (sum_of empty) (sum_of (bundle_of new))) (hold (holding_more m0 (received p0 new teleport) (bundle_of new))) (record p0 { checking = (received p0 new teleport).checking }) (holding_more m0 (received p0 new teleport) (bundle_of new)).part
  list_call teleport new room =
      let r = received p0 new teleport in
      let both = with (sum_of empty) (sum_of (bundle_of new)) in
      let b : ChainPart = record p0 { checking = r.checking } in
      let one : Call nobody both both b r = call_with nobody none none both both b r (receiving p0 new teleport) (λ t. omega arith) in
      call_then nobody both both (sum_of (Joined empty (bundle_of new))) b r (bundles_joined r empty (bundle_of new)) one (joining r empty (bundle_of new) (room_kept nobody both both b r one (room_checks both p0 r.checking room)))

  given_part : (new : List Asset) (k : Listed) → total (is_burn_of k) (given_up empty (bundle_of new)) ≤ with (sum_of empty) (sum_of (bundle_of new)) (is_unit_of k)
  given_part new k =
      let a = given_up_total (eq_by_cmp listed_cmp k) empty (bundle_of new) in
      let b = joined_total (is_unit_of k) empty (bundle_of new) in
      omega (arith, a, b)

  list_ends : (new : List Asset) → HasRoom (with (sum_of empty) (sum_of (bundle_of new))) p0 → AreTotals (merge pr.burns (given_up empty (bundle_of new)))
  unfolding told
  list_ends new room = below p0 (with (sum_of empty) (sum_of (bundle_of new))) (given_up empty (bundle_of new)) room (given_part new)

  list_view : (teleport : Bool) (new : List Asset) → AreTotals (merge pr.burns (given_up empty (bundle_of new))) → view (holding_more m0 (received p0 new teleport) (bundle_of new)) ≡ WithList new (received p0 new teleport).checking (seen empty pr)
  unfolding bundles_joined booked received told
  list_view teleport new ends = λ i. record (WithList new (received p0 new teleport).checking (seen empty pr)) { burns = booked_below (book_of pr) (given_up empty (bundle_of new)) ends i }

  aside_view : (teleport : Bool) (new : List Asset) → view (parking m0 (received p0 new teleport) (bundle_of new)) ≡ Aside (bundle_of new) (record (seen empty pr) { checking = (received p0 new teleport).checking })
  unfolding parked received told
  aside_view teleport new = refl

  list_small : (new : List Asset) → IsSmall (with (sum_of empty) (sum_of (bundle_of new))) pr → IsSmall (with (sum_of empty) (sum_of (bundle_of new))) p0
  unfolding told in_kept
  list_small new small = small

  list_fate : (a : Admitted) → admitted rules origin no_weight p0.queries program ≡ Ok a → (l : Instruction-F Instruction) (behind : List Instruction) → a.program ≡ led_by l behind → refused l m0 ≡ None
      → (teleport : Bool) (new : List Asset) → ((m : Machine) → PartwayOnOom l m0 m → m ≡ parking m0 (received p0 new teleport) (bundle_of new)) → done l m0 ≡ holding_more m0 (received p0 new teleport) (bundle_of new) → AreListed (listing p0.rows) (bundle_of new) → is_cargo p0 (arrival_of teleport) new ≡ true
      → IsListFor (cargo_of cargo) new (seen empty ps) (seen empty pr) → AreLowered (cargo_of cargo) (received p0 new teleport).checking (seen empty ps) (seen empty pr)
      → IsTrusted (cargo_of cargo) (seen empty ps) (seen empty pr) → Ways a
  list_fate a ok l behind is way teleport new parks_so does listed found same lowered trusted =
      let p = seen empty ps in
      let q = seen empty pr in
      let checks = (received p0 new teleport).checking in
      let mid = WithList new checks q in
      let exchange : IsExchange p (WithoutFront q p) q mid = received_safe (cargo_of cargo) p (WithoutFront q p) q mid chains_apart sender_number (list_received (cargo_of cargo) new checks p q front same lowered) trusted in
      let w = slice_set (slice_set v i (WithoutFront q p)) j mid in
      let after : History first w = Two v i j p (WithoutFront q p) q mid history at_i at_j apart exchange in
      let at : slice_get w j ≡ Some mid = get_set_same (slice_set v i (WithoutFront q p)) j q mid (get_set_other v i j (WithoutFront q p) (λ h. apart (sym h)) ∙ at_j) in
      let both = with (sum_of empty) (sum_of (bundle_of new)) in
      let small : IsSmall both p0 = list_small new (small_more first genesis w after j (bundle_of new) checks pr at) in
      let none_out : AllListed both p0 =
      (let z = total-empty unit_keys (is_unit_where (unlisted p0.rows)) in
      let y = goods_listed p0.rows (bundle_of new) listed in
      let x = listed0 in
      omega (arith, x, y, z)) in
      let room = small_room p0 both (with_rises (sum_of empty) (sum_of (bundle_of new)) (sum_rises empty) (sum_rises (bundle_of new))) none_out small in
      let k = holding_more m0 (received p0 new teleport) (bundle_of new) in
      let x = list_call teleport new room in
      let through = led_through a ok l behind is way (received p0 new teleport).checking nobody both
      (subst (λ (z : Machine). Call nobody both (hold z) (record p0 { checking = (received p0 new teleport).checking }) z.part) (sym does) x) room none_out in
      let final = emptied laws.withdraws laws.moves laws.stays (tables_of v) agrees (last_machine rules origin a p0) in
      let safely : Safely k final = subst (λ (z : Machine). Safely z final) does through.0 in
      let put : Part = Aside (bundle_of new) (record q { checking = checks }) in
      let aside : IsExchange p (WithoutFront q p) q put = received_safe (cargo_of cargo) p (WithoutFront q p) q put chains_apart sender_number (list_aside (cargo_of cargo) new checks p q front same lowered) trusted in (
        Landed mid (safely.cargo (more_gone (received p0 new teleport) (bundle_of new) (received_gone new teleport found))) exchange
            (subst (λ (z : Part). IsSafe z (seen empty (end_of a))) (list_view teleport new (list_ends new room)) safely.safe) through.1
            (λ m c.
            let so_far : Safely k m = subst (λ (z : Machine). Safely z m) does (through.2 m c) in (
              so_far.cargo (more_gone (received p0 new teleport) (bundle_of new) (received_gone new teleport found)),
              subst (λ (z : Part). IsSafe z (view m)) (list_view teleport new (list_ends new room)) so_far.safe,
            )),
        λ z s. aside_passed z (received p0 new teleport) (bundle_of new) s.left (parks_so s.left (stop_of a l (roll-Instruction Instruction-F.ClearOrigin ∷ behind) is z s)) s.parks (received_gone new teleport found)
            put (aside_view teleport new) aside,
      )

  -- ---- the list of the cargo
  module _ (xs new : List Asset) (named : arrived_list (record { network = ps.site.network; chain = pr.site.chain }) ps.site.chain xs ≡ Some new) where
    same_list_there : ((u : Unit) → 0 < amount (bundle_of xs) u → IsPlaced (context_of (table_of ps)) u.0) → (a : UniversalAsset) (choice : Choice)
        → total (is_unit_at (context_of (table_of pr)) a choice) (bundle_of new) ≡ total (is_unit_at (context_of (table_of ps)) a choice) (bundle_of xs)
    same_list_there placed a choice = same_amounts_there (tables_of v) agrees (table_of ps) (table_of pr) s_in t_in name origin leads back xs new named placed a choice

    this_list : is_this_list new (arrived_list pr.site ps.site.chain xs) ≡ true
    this_list = found_there (tables_of v) agrees (table_of ps) (table_of pr) s_in t_in name origin leads back xs new named

  -- ---- a teleport
  -- the receiver's accounts, where it takes the list
  partners_there : (new : List Asset) → receive_refusal p0 new origin true ≡ None → AllByRecursion (λ (a : Asset). IsTrue (is_partner pr.rows pr.site a origin)) new
  unfolding receive_refusal told
  partners_there new h = partners_hold (tables_of v) agrees p0 origin new (none_first _ _ h)

  teleport_checks : (new : List Asset) → (received p0 new true).checking ≡ changed_all (λ n a. n - a) new pr.rows pr.checking
  unfolding received told
  teleport_checks new = refl

  deposit_checks : (new : List Asset) → (received p0 new false).checking ≡ pr.checking
  unfolding received told
  deposit_checks new = refl

  -- each has as much as is teleported
  accounts_cover : (units : Bundle) → cargo_of cargo ≡ Teleport units → IsTrusted (Teleport units) (seen empty ps) (seen empty pr) → (b : UniversalAsset) (amount : ℕ) → checking_at b (seen empty pr) ≡ Some amount → in_bundle (table_of ps) b every units ≤ amount
  accounts_cover units carries trusted b amount stands =
      elim (is_home b (table_of ps)) as (λ h. is_home b (table_of ps) ≡ h → in_bundle (table_of ps) b every units ≤ amount) [
        | true ↦ λ home. covers_teleport v i j (seen empty ps) (seen empty pr) b amount (Teleport units) at_i at_j apart home (front ∙ ap Some carries) (checked_now first genesis v history) stands
        | false ↦ λ away. let z = trusted.home_here b every away in omega (arith, z)
      ] refl

  teleport_lowers : (units : Bundle) (new : List Asset) → cargo_of cargo ≡ Teleport units → receive_refusal p0 new origin true ≡ None → IsListFor (Teleport units) new (seen empty ps) (seen empty pr) → IsTrusted (Teleport units) (seen empty ps) (seen empty pr)
      → AreLowered (Teleport units) (received p0 new true).checking (seen empty ps) (seen empty pr)
  teleport_lowers units new carries accepted same trusted b =
      let comes : total (is_unit_at (context_of (table_of pr)) b every) (bundle_of new) ≡ in_bundle (table_of ps) b every units = (let e = same b every in omega (arith, e)) in
      let falls = list_lowers (table_of pr) origin b (λ x y x_in y_in path. agrees.paths_apart (table_of pr) x y t_in x_in y_in path) new pr.checking (partners_there new accepted)
      (λ amount stands. let enough = accounts_cover units carries trusted b amount stands in omega (arith, comes, enough)) in
      falls
      ∙ ap (λ n. risen n (account_in (table_of pr) b pr.rows (changed_all (λ n a. n - a) new pr.rows pr.checking))) comes
      ∙ ap (λ (checking : List (Option ℕ)). risen (in_bundle (table_of ps) b every units) (account_in (table_of pr) b pr.rows checking)) (sym (teleport_checks new))

  shared_units : (units : Bundle) → IsGoods units → AllByRecursion (λ (a : Asset). IsTrue (is_partner ps.rows ps.site a name)) (held_assets units) → (u : Unit) → 0 < amount units u → IsShared (table_of ps) (table_of pr) u
  shared_units units whole all u held =
      let found = each_unit (λ (a : Asset). IsTrue (is_partner ps.rows ps.site a name)) units whole all u held in
      subst (IsShared (table_of ps) (table_of pr)) (sym found.2) (shared_there (tables_of v) agrees (table_of ps) (table_of pr) s_in t_in name origin leads back found.0 found.1)

  received_listed : (new : List Asset) (teleport : Bool) → receive_refusal p0 new origin teleport ≡ None → AreListed (listing p0.rows) (bundle_of new)
  received_listed new teleport h = received_is_listed p0 new origin teleport h

  pub teleport_fate : (a : Admitted) → admitted rules origin no_weight p0.queries program ≡ Ok a → (units : Bundle) (new : List Asset) (behind : List Instruction) → cargo_of cargo ≡ Teleport units → cargo_list cargo ≡ held_assets units → fits_call ByTeleport cargo ≡ true
      → IsGoods units → AllByRecursion (λ (a : Asset). IsTrue (is_partner ps.rows ps.site a name)) (held_assets units)
      → arrived_list (record { network = ps.site.network; chain = pr.site.chain }) ps.site.chain (held_assets units) ≡ Some new → a.program ≡ led_by (Instruction-F.ReceiveTeleportedAsset new) behind
      → refused (Instruction-F.ReceiveTeleportedAsset new) m0 ≡ None → Ways a
  teleport_fate a ok units new behind carries list fits whole partners named is way =
      let shared = shared_units units whole partners in
      let placed : (u : Unit) → 0 < amount (bundle_of (held_assets units)) u → IsPlaced (context_of (table_of ps)) u.0 =
      λ u held. unit_placed (tables_of v) agrees (table_of ps) (table_of pr) s_in t_in name leads u (shared u (subst (λ (b : Bundle). 0 < amount b u) whole held)).twin in
      let same : IsListFor (Teleport units) new (seen empty ps) (seen empty pr) = λ b choice.
      let x = same_list_there (held_assets units) new named placed b choice in
      let y = ap (total (is_unit_at (context_of (table_of ps)) b choice)) whole in
      omega (arith, x, y) in
      let accepted = unless_next (has_room m0 (length new)) _ _ way in
      let trusted = teleport_trusted (tables_of v) agrees (seen empty ps) (seen empty pr) units t_in shared in
      list_fate a ok (Instruction-F.ReceiveTeleportedAsset new) behind is way true new (λ m h. h.1) refl (received_listed new true accepted)
      (ends_here ByTeleport new fits (subst (λ (xs : List Asset). is_this_list new (arrived_list pr.site ps.site.chain xs) ≡ true) (sym list) (this_list (held_assets units) new named)))
      (subst (λ (c : Cargo). IsListFor c new (seen empty ps) (seen empty pr)) (sym carries) same)
      (subst (λ (c : Cargo). AreLowered c (received p0 new true).checking (seen empty ps) (seen empty pr)) (sym carries) (teleport_lowers units new carries accepted same trusted))
      (subst (λ (c : Cargo). IsTrusted c (seen empty ps) (seen empty pr)) (sym carries) trusted)

  -- ---- a deposit
  reserves_there : (new : List Asset) → receive_refusal p0 new origin false ≡ None → AllByRecursion (λ (a : Asset). IsTrue (is_reserve pr.rows pr.site a origin)) new
  unfolding receive_refusal told
  reserves_there new h = reserves_hold (tables_of v) agrees p0 origin new (none_first _ _ h)

  pub deposit_fate : (a : Admitted) → admitted rules origin no_weight p0.queries program ≡ Ok a → (list new : List Asset) (behind : List Instruction) → cargo ≡ cargos.Deposit list → AreListed (listing ps.rows) (bundle_of list)
      → arrived_list (record { network = ps.site.network; chain = pr.site.chain }) ps.site.chain list ≡ Some new → a.program ≡ led_by (Instruction-F.ReserveAssetDeposited new) behind
      → refused (Instruction-F.ReserveAssetDeposited new) m0 ≡ None → Ways a
  deposit_fate a ok list new behind carries listed named is way =
      let placed = listed_placed (tables_of v) agrees (table_of ps) s_in (bundle_of list) listed in
      let same : IsListFor (Deposit (bundle_of list)) new (seen empty ps) (seen empty pr) = λ b choice. let x = same_list_there list new named placed b choice in omega (arith, x) in
      let accepted = unless_next (has_room m0 (length new)) _ _ way in
      let reserves = reserves_there new accepted in
      let found = names (tables_of v) agrees (table_of ps) (table_of pr) s_in t_in name origin leads back list new named in
      let owed : (u : Unit) → 0 < amount (bundle_of list) u → IsDepositFor (table_of ps) (table_of pr) u = λ u held.
      deposit_for (tables_of v) agrees (table_of ps) (table_of pr) s_in t_in name origin leads back list new found.all found.moved (lands name (context_of (table_of ps)) list new found)
      (λ b inside. all_at (λ (a : Asset). IsTrue (is_reserve pr.rows pr.site a origin)) new b reserves inside) u held (placed u held) in
      let carried_list : cargo_of cargo ≡ Deposit (bundle_of list) = ap cargo_of carries in
      list_fate a ok (Instruction-F.ReserveAssetDeposited new) behind is way false new (λ m h. h.1) refl (received_listed new false accepted)
      (ends_here ByDeposit new (ap (fits_call ByDeposit) carries) (subst (λ (c : carried.Cargo). is_this_list new (arrived_list pr.site ps.site.chain (cargo_list c)) ≡ true) (sym carries) (this_list list new named)))
      (subst (λ (c : Cargo). IsListFor c new (seen empty ps) (seen empty pr)) (sym carried_list) same)
      (subst (λ (c : Cargo). AreLowered c (received p0 new false).checking (seen empty ps) (seen empty pr)) (sym carried_list)
      (λ b. sym (risen_by_none (checking_at b (seen empty pr))) ∙ ap (λ (checking : List (Option ℕ)). risen 0 (account_in (table_of pr) b pr.rows checking)) (sym (deposit_checks new))))
      (subst (λ (c : Cargo). IsTrusted c (seen empty ps) (seen empty pr)) (sym carried_list) (deposit_trusted (tables_of v) agrees (seen empty ps) (seen empty pr) (bundle_of list) t_in owed))

  -- ---- a withdrawal
  owed_placed : (units : Bundle) → IsGoods units → AllByRecursion (λ (a : Asset). IsTrue (is_reserve ps.rows ps.site a name)) (held_assets units) → (u : Unit) → 0 < amount (bundle_of (held_assets units)) u → IsPlaced (context_of (table_of ps)) u.0
  owed_placed units whole all u held =
      let found = each_unit (λ (a : Asset). IsTrue (is_reserve ps.rows ps.site a name)) units whole all u (subst (λ (b : Bundle). 0 < amount b u) whole held) in
      let owed = owed_there (tables_of v) agrees (table_of ps) (table_of pr) s_in t_in name origin leads back found.0 found.1 in
      subst (λ (w : Unit). IsPlaced (context_of (table_of ps)) w.0) (sym found.2) (unit_placed (tables_of v) agrees (table_of ps) (table_of pr) s_in t_in name leads (unit_of found.0) owed.twin)

  payer : List ℕ
  payer = sovereign_account pr.site.chain ps.site.chain

  payer_found : account_of origin pr.site ≡ Some (sovereign_account pr.site.chain ps.site.chain)
  payer_found = account_of-location_of pr.site ps.site.chain origin back

  holds_list : (new : List Asset) → IsAssetList new → withdraw_refusal p0 new origin ≡ None → IsWithin (held_by (sovereign_account pr.site.chain ps.site.chain) (bundle_of new)) pr.held
  unfolding withdraw_refusal told
  holds_list new fits ok h =
      let who = sovereign_account pr.site.chain ps.site.chain in
      let gives : first_fault (debit_fault p0 (Some who)) new ≡ None = subst (λ (o : Option (List ℕ)). first_fault (debit_fault p0 o) new ≡ None) payer_found ok in
      let kept = laws.withdraws (accounts_of p0) who new (eq_by_cmp holder_cmp h) fits (no_shortage p0 who new gives) in
      let share = held_by_total (eq_by_cmp holder_cmp h) who (bundle_of new) in
      let a = amount-total holder_keys (held_by who (bundle_of new)) h in
      let b = amount-total holder_keys p0.held h in
      omega (arith, kept, share, a, b)

  paid_ends : (new : List Asset) → HasRoom (with (sum_of empty) (sum_of (bundle_of new))) (withdrawn p0 new origin) → AreTotals (merge pr.burns (given_up empty (bundle_of new)))
  unfolding told withdrawn
  paid_ends new room = below (withdrawn p0 new origin) (with (sum_of empty) (sum_of (bundle_of new))) (given_up empty (bundle_of new)) room (given_part new)

  paid_view : (new : List Asset) → AreTotals (merge pr.burns (given_up empty (bundle_of new))) → view (holding_more m0 (withdrawn p0 new origin) (bundle_of new)) ≡ Paid (seen empty ps) new (seen empty pr)
  unfolding bundles_joined booked withdrawn told
  paid_view new ends = λ i. record (Paid (seen empty ps) new (seen empty pr)) {
    held = at_account (payer_found i) (λ account. (Withdrawn account new (accounts_of pr)).held) pr.held;
    burns = booked_below (book_of pr) (given_up empty (bundle_of new)) ends i;
  }

  drawn_view : (new : List Asset) → view (parking m0 (withdrawn p0 new origin) (bundle_of new)) ≡ Aside (bundle_of new) (Drawn (seen empty ps) new (seen empty pr))
  unfolding parked withdrawn told
  drawn_view new = λ i. record (Aside (bundle_of new) (Drawn (seen empty ps) new (seen empty pr))) { held = at_account (payer_found i) (λ account. (Withdrawn account new (accounts_of pr)).held) pr.held }

  list_fits : (a : Admitted) → admitted rules origin no_weight p0.queries program ≡ Ok a → (new : List Asset) (behind : List Instruction) → a.program ≡ led_by (Instruction-F.WithdrawAsset new) behind → IsAssetList new
  list_fits a ok new behind is =
      let all = subst (AllByRecursion AreLists) is (admitted_lists rules origin no_weight p0.queries program runnable.lists a ok) in
      subst (runs.HasList Instruction) (out-roll-Instruction (Instruction-F.WithdrawAsset new)) (everywhere_open runs.HasList HasList-IsOfLayer (roll-Instruction (Instruction-F.WithdrawAsset new)) all.0).0

  pub withdrawal_fate : (a : Admitted) → admitted rules origin no_weight p0.queries program ≡ Ok a → (units : Bundle) (new : List Asset) (behind : List Instruction) → cargo_of cargo ≡ Withdrawal units → cargo_list cargo ≡ held_assets units → fits_call ByWithdrawal cargo ≡ true
      → IsGoods units → AllByRecursion (λ (a : Asset). IsTrue (is_reserve ps.rows ps.site a name)) (held_assets units)
      → arrived_list (record { network = ps.site.network; chain = pr.site.chain }) ps.site.chain (held_assets units) ≡ Some new → a.program ≡ led_by (Instruction-F.WithdrawAsset new) behind
      → refused (Instruction-F.WithdrawAsset new) m0 ≡ None → Ways a
  withdrawal_fate a ok units new behind carries list fits whole reserves named is way =
      let p = seen empty ps in
      let q = seen empty pr in
      let in_order = list_fits a ok new behind is in
      let accepted = unless_next (has_room m0 (length new)) _ _ way in
      let r = withdrawn p0 new origin in
      let k = holding_more m0 r (bundle_of new) in
      let may = only (account_of origin p0.site) in
      let goods = sum_of (bundle_of new) in
      let gave = withdrawing laws.withdraws p0 new origin in_order accepted in
      let came : Call may (sum_of empty) (with (sum_of empty) goods) p0 r = call_with may none goods (sum_of empty) (with (sum_of empty) goods) p0 r gave (λ t. omega arith) in
      let room = room_kept may (sum_of empty) (with (sum_of empty) goods) p0 r came room0 in
      let x = more_call may m0 r (bundle_of new) gave room0 in
      let through = led_through a ok (Instruction-F.WithdrawAsset new) behind is way p0.checking may (hold m0) x room0 (nothing_listed p0 listed0 empty refl) in
      let same : (b : UniversalAsset) (choice : Choice) → total (is_unit_at (context_of q.table) b choice) (bundle_of new) ≡ total (is_unit_at (context_of p.table) b choice) units = λ b choice.
      same_list_there (held_assets units) new named (owed_placed units whole reserves) b choice ∙ ap (total (is_unit_at (context_of (table_of ps)) b choice)) whole in
      let front_is : queues.front (chain_of_part q) p.outgoing ≡ Some (Withdrawal units) = front ∙ ap Some carries in
      let exchange : IsExchange p (WithoutFront q p) q (Paid p new q) = received_safe (Withdrawal units) p (WithoutFront q p) q (Paid p new q) chains_apart sender_number
      (paid_received units new p q front_is sender_number chains_apart (holds_list new in_order accepted) same) (withdrawal_trusted (tables_of v) agrees p q units) in
      let found : is_cargo p0 ByWithdrawal new ≡ true =
      ends_here ByWithdrawal new fits (subst (λ (xs : List Asset). is_this_list new (arrived_list pr.site ps.site.chain xs) ≡ true) (sym list) (this_list (held_assets units) new named)) in
      let aside : IsExchange p (WithoutFront q p) q (Aside (bundle_of new) (Drawn p new q)) = received_safe (Withdrawal units) p (WithoutFront q p) q (Aside (bundle_of new) (Drawn p new q)) chains_apart sender_number
      (paid_aside units new p q front_is sender_number chains_apart (holds_list new in_order accepted) same) (withdrawal_trusted (tables_of v) agrees p q units) in (
        Landed (Paid p new q) (through.0.cargo (more_gone r (bundle_of new) (withdrawn_gone new found))) exchange
            (subst (λ (z : Part). IsSafe z (seen empty (end_of a))) (paid_view new (paid_ends new room)) through.0.safe) through.1
            (λ m c.
            let so_far = through.2 m c in (
              so_far.cargo (more_gone r (bundle_of new) (withdrawn_gone new found)),
              subst (λ (z : Part). IsSafe z (view m)) (paid_view new (paid_ends new room)) so_far.safe,
            )),
        λ z s. aside_passed z r (bundle_of new) s.left (stop_of a (Instruction-F.WithdrawAsset new) (roll-Instruction Instruction-F.ClearOrigin ∷ behind) is z s).1 s.parks (withdrawn_gone new found)
            (Aside (bundle_of new) (Drawn p new q)) (drawn_view new) aside,
      )
