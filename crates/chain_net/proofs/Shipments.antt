-- What a run ships is listed.
use Rattle.std.proofs.Common.{◌≡◌, Bool, true, false, List, [], ◌∷◌, ◌++◌, Option, Some, None, Result, Ok, Err, refl, sym, ap, subst}
use Rattle.std.specs.Prelude.{if◌then◌else◌, nat_eq, length}
use Rattle.std.specs.List.{AllByRecursion}
use Rattle.std.specs.Option.{option_map_or}
use Rattle.amounts.specs.Amounts.{rows}
use Rattle.locations.specs.declared.relative.Location.{Location}
use Rattle.operands.specs.declared.weight.Weight.{Weight}
use Rattle.operands.specs.declared.query.QueryInfo.{QueryInfo}
use Rattle.operands.specs.declared.query.Response.{Response}
use Rattle.asset_lists.specs.declared.units.Asset.{Asset}
use Rattle.asset_lists.specs.Listed.{Listed}
use Rattle.asset_bundles.specs.Bundles.{Bundle, held_assets}
use Rattle.asset_bundles.specs.Books.{AreListed}
use Rattle.asset_bundles.specs.declared.shipment.Way.{Way}
use Rattle.trust_tables.specs.Trust.{listing}
use Rattle.xcm_program.specs.declared.instruction.Instruction.{Instruction}
use Rattle.xcm_program.specs.declared.outcome.Outcome.{Outcome}
use Rattle.plain_lists.specs.Firsts.{change_first}
use Rattle.channel_parts.specs.declared.cargo.Cargo.{Cargo}
use Rattle.channel_parts.specs.declared.cargo.Cargo.TheVariants.{Nothing, Deposit}
use Rattle.channel_parts.specs.Channels.{Waiting, Outgoing, with_waiting, away}
use Rattle.exec_base.specs.declared.event.Event.{Event}
use Rattle.exec_base.specs.declared.registers.Registers.{Registers}
use Rattle.exec_base.specs.Part.{ChainPart, DeliveredCargo}
use Rattle.exec_base.specs.Sending as sending_to
use Rattle.exec_base.specs.Sending.{sent, named_sent}
use Rattle.exec_base.specs.Host.{withdrawn, received, deposited, transferred, transferred_out, deposited_out, raised_for, shipped, querier_seen, report_program, responded, trapped, settled, told, Arrival, ByWithdrawal, arrival_of, cargo_after, is_cargo, lock_key, with_lock, note_program, asset_locked, request_key, with_less_noted, unlock_program, asset_requested}
use Rattle.exec_rules.specs.Outcome.{owner_of, end_event, end_told, refunded_last}
use Rattle.exec_rules.specs.Instructions.{xcm}
use Rattle.exec_rules.specs.Readiness.{IsAtRest}
use Rattle.exec_rules.specs.declared.rules.ChainRules.{ChainRules}
use Rattle.exec_rules.specs.declared.admission.Admitted.{Admitted}
use Rattle.exec_rules.specs.Admission.{admitted}
use Rattle.exec_rules.specs.Execution.{first_machine, last_machine, executed_by, executed, IsAbandoned}
use Rattle.exec_rules.specs.HostCalls.{MachineWithGoods, between, MachineCall, why_not, after}
use Rattle.exec_rules.proofs.Lemmas.ListingLaws.{nothing_listed, HasListed, listed_after}
use Rattle.exec_rules.specs.Kept.{IsKeptByCalls}
use Rattle.exec_rules.proofs.Lemmas.KeptLaws.{any_kind, keeps_executed, keeps_abandoned}
use Rattle.network_steps.specs.Fixed.{Fixed, fixed_of}
use Rattle.network_steps.proofs.Lemmas.FixedLaws.{fixed_is_kept, executed_fixed}
use Rattle.chain_net.specs.Sound.{IsListedCargo, AreListedIn}

-- ---- queues
module _ (listed : List Listed) where
  abbrev is_listed : Waiting → Type 0
  is_listed x = IsListedCargo listed x.cargo

  pushed_listed : (xs : List Waiting) (x : Waiting) → AllByRecursion is_listed xs → is_listed x → AllByRecursion is_listed (xs ++ x ∷ [])
  pushed_listed [] x all h = (h, tt)
  pushed_listed (y ∷ ys) x all h = (all.0, pushed_listed ys x all.1 h)

  -- one channel is changed
  pub changed_listed : (test : Outgoing → Bool) (change : Outgoing → Outgoing) → ((c : Outgoing) → AllByRecursion is_listed c.queue → AllByRecursion is_listed (change c).queue)
      → (cs : List Outgoing) → AreListedIn listed cs → AreListedIn listed (change_first test change cs)
  changed_listed test change h [] all = tt
  changed_listed test change h (c ∷ cs) all =
      elim (test c) as (λ b. AreListedIn listed (if b then change c ∷ cs else c ∷ change_first test change cs)) [
        | true ↦ (h c all.0, all.1)
        | false ↦ (all.0, changed_listed test change h cs all.1)
      ]

  pub waiting_listed : (program : List Instruction) (cargo : Cargo) → IsListedCargo listed cargo → (c : Outgoing) → AllByRecursion is_listed c.queue → AllByRecursion is_listed (with_waiting program cargo c).queue
  waiting_listed program cargo h c all = pushed_listed c.queue (record { number = c.next; program = program; cargo = cargo }) all h

  sent_listed : (p : ChainPart) (dest : Location) (program : List Instruction) (cargo : Cargo) → IsListedCargo listed cargo → AreListedIn listed p.channels → AreListedIn listed (sent p dest program cargo).channels
  unfolding sent
  sent_listed p dest program cargo h all = changed_listed (sending_to.leads_to_location p dest) (with_waiting program cargo) (waiting_listed program cargo h) p.channels all

-- ---- what a call keeps of the cargo that is being delivered: it may have ended it
ended_or_not : (listed : List Listed) (b : Bool) (old : DeliveredCargo) → IsListedCargo listed old.cargo → IsListedCargo listed (if b then (record { sender = old.sender; cargo = Nothing }) else old).cargo
ended_or_not listed true old h = tt
ended_or_not listed false old h = h

after_lands : (listed : List Listed) (p : ChainPart) (arrival : Arrival) (list : List Asset) → IsListedCargo listed p.cargo.cargo → IsListedCargo listed (cargo_after p arrival list).cargo
unfolding cargo_after
after_lands listed p arrival list h = ended_or_not listed (is_cargo p arrival list) p.cargo h

call_lands : (far : List Listed) (c : MachineCall) (t : MachineWithGoods) → IsListedCargo far t.part.cargo.cargo → IsListedCargo far (after c t).part.cargo.cargo
unfolding withdrawn received
call_lands far (MachineCall.Withdraw list who) t h = after_lands far t.part ByWithdrawal list h
call_lands far (MachineCall.Receive list from teleport) t h = after_lands far t.part (arrival_of teleport) list h
call_lands far _ t h = h

cargo_is_kept : (far : List Listed) → IsKeptByCalls any_kind (λ (t : MachineWithGoods). IsListedCargo far t.part.cargo.cargo)
cargo_is_kept far = record { refunds = tt; called = λ x l is q moment m t c k asks from ok h. call_lands far c t h; turned = λ t r turns h. h }

-- ---- what a call ships is listed, where what is in hand is
transferred_listed : (listed : List Listed) (p : ChainPart) (list : List Asset) (from dest : Location) (program : List Instruction) → AreListedIn listed p.channels → AreListedIn listed (transferred_out p list from dest program).channels
unfolding transferred_out transferred
transferred_listed listed p list from dest program all = sent_listed listed (transferred p list from dest) dest _ (Deposit list) tt all

deposited_listed : (listed : List Listed) (p : ChainPart) (goods : Bundle) (dest : Location) (program : List Instruction) → AreListedIn listed p.channels → AreListedIn listed (deposited_out p goods dest program).channels
unfolding deposited_out deposited
deposited_listed listed p goods dest program all = sent_listed listed (deposited p goods dest) dest _ (Deposit (held_assets goods)) tt all

shipped_listed : (listed : List Listed) (p : ChainPart) (goods : Bundle) (way : Way) (dest : Location) (program : List Instruction) → AreListed listed goods → AreListedIn listed p.channels → AreListedIn listed (shipped p goods way dest program).channels
unfolding shipped
shipped_listed listed p goods way dest program held all = sent_listed listed (raised_for p way goods) dest _ (away way goods) held all

named_listed : (listed : List Listed) (p : ChainPart) (dest : Location) (o : Option (List Instruction)) → AreListedIn listed p.channels → AreListedIn listed (named_sent p dest o).channels
named_listed listed p dest None all = all
named_listed listed p dest (Some program) all = sent_listed listed p dest program Nothing tt all

locked_listed : (listed : List Listed) (p : ChainPart) (a : Asset) (owner unlocker : Location) → AreListedIn listed p.channels → AreListedIn listed (asset_locked p a owner unlocker).channels
unfolding asset_locked
locked_listed listed p a owner unlocker all = named_listed listed (with_lock p a (lock_key p a owner unlocker)) unlocker (note_program p a owner unlocker) all

requested_listed : (listed : List Listed) (p : ChainPart) (a : Asset) (owner locker : Location) → AreListedIn listed p.channels → AreListedIn listed (asset_requested p a owner locker).channels
unfolding asset_requested
requested_listed listed p a owner locker all =
    let key = request_key a owner locker in named_listed listed (with_less_noted p a key) locker (unlock_program p a key locker) all

reported_listed : (listed : List Listed) (p : ChainPart) (info : QueryInfo) (answer : Response) (o : Option (Option Location)) → AreListedIn listed p.channels
    → AreListedIn listed (option_map_or (λ (seen : Option Location). sent p info.destination (report_program info answer seen) Nothing) o p).channels
reported_listed listed p info answer None all = all
reported_listed listed p info answer (Some seen) all = sent_listed listed p info.destination (report_program info answer seen) Nothing tt all

responded_listed : (listed : List Listed) (p : ChainPart) (info : QueryInfo) (answer : Response) (querier : Option Location) → AreListedIn listed p.channels → AreListedIn listed (responded p info answer querier).channels
unfolding responded
responded_listed listed p info answer querier all = reported_listed listed p info answer (querier_seen p info.destination querier) all

-- all that a machine has is listed, and what its chain shipped
abbrev ListsShipped : MachineWithGoods → Type 0
ListsShipped t = HasListed t × AreListedIn (listing t.part.rows) t.part.channels

call_ships : (c : MachineCall) (t : MachineWithGoods) → why_not c t ≡ None → ListsShipped t → ListsShipped (after c t)
call_ships (MachineCall.TransferOut list from dest xcm) t ok h = (h.0, transferred_listed (listing t.part.rows) t.part list from dest xcm h.1)
call_ships (MachineCall.DepositOut dest xcm) t ok h =
    (listed_after (MachineCall.DepositOut dest xcm) t ok h.0, deposited_listed (listing t.part.rows) t.part t.goods dest xcm h.1)
call_ships (MachineCall.Ship way dest xcm) t ok h =
    (listed_after (MachineCall.Ship way dest xcm) t ok h.0, shipped_listed (listing t.part.rows) t.part t.goods way dest xcm h.0.1 h.1)
call_ships (MachineCall.Respond info answer querier) t ok h = (h.0, responded_listed (listing t.part.rows) t.part info answer querier h.1)
call_ships (MachineCall.Lock a owner unlocker) t ok h = (h.0, locked_listed (listing t.part.rows) t.part a owner unlocker h.1)
call_ships (MachineCall.Request a owner locker) t ok h = (h.0, requested_listed (listing t.part.rows) t.part a owner locker h.1)
call_ships c t ok h = (listed_after c t ok h.0, h.1)

shipped_is_kept : IsKeptByCalls any_kind ListsShipped
shipped_is_kept = record {
  refunds = tt;
  called = λ x l is q moment m t c k asks from ok h. call_ships c t ok h;
  turned = λ t r turns h. ((subst (AreListed (listing t.part.rows)) (sym turns.holding) h.0.0, h.0.1, h.0.2, h.0.3), h.1);
}

-- a chain at rest that lists what it shipped, and to which what is listed far from here is delivered
pub record IsCarrying (far : List Listed) (p : ChainPart) : Type 0 where
  pub rest : IsAtRest p
  pub shipped_is : AreListedIn (listing p.rows) p.channels
  pub landing : IsListedCargo far p.cargo.cargo

-- what the document says stays, also where memory was refused
pub abandoned_said : (rules : ChainRules) (origin : Location) (credit : Weight) (program : List Instruction) (p q : ChainPart) → IsAbandoned rules origin credit program p q → fixed_of q ≡ fixed_of p
abandoned_said rules origin credit program p q e = (keeps_abandoned (λ (t : MachineWithGoods). fixed_of t.part ≡ fixed_of p) (fixed_is_kept (fixed_of p)) rules origin credit program p q e refl).kept

module _ (far : List Listed) (rules : ChainRules) (origin : Location) where
  first_ships : (p : ChainPart) → IsCarrying far p → ListsShipped (between (first_machine rules origin p))
  first_ships p h =
      let none = nothing_listed (listing p.rows) in
      let order = h.rest.order in
      ((none, none, subst (AreListed (listing p.rows)) (sym h.rest.slot) none, (order.traps, order.rates, order.paid, order.pools)), h.shipped_is)

  -- what an execution ships is listed
  pub executed_ships : (credit : Weight) (program : List Instruction) (p : ChainPart) → IsCarrying far p → AreListedIn (listing (executed rules origin credit program p).1.rows) (executed rules origin credit program p).1.channels
  executed_ships credit program p h = (keeps_executed ListsShipped shipped_is_kept rules origin credit program p (first_ships p h)).kept.1

  -- and so is the cargo that it leaves
  pub executed_lands : (credit : Weight) (program : List Instruction) (p : ChainPart) → IsCarrying far p → IsListedCargo far (executed rules origin credit program p).1.cargo.cargo
  executed_lands credit program p h = (keeps_executed (λ (t : MachineWithGoods). IsListedCargo far t.part.cargo.cargo) (cargo_is_kept far) rules origin credit program p h.landing).kept

  -- what the document says stays
  pub executed_said : (credit : Weight) (program : List Instruction) (p : ChainPart) → IsCarrying far p → fixed_of (executed rules origin credit program p).1 ≡ fixed_of p
  executed_said credit program p h = executed_fixed rules origin credit program p

  -- the cargo that is left where memory was refused is listed too
  pub abandoned_lands : (credit : Weight) (program : List Instruction) (p q : ChainPart) → IsCarrying far p → IsAbandoned rules origin credit program p q → IsListedCargo far q.cargo.cargo
  abandoned_lands credit program p q h e = (keeps_abandoned (λ (t : MachineWithGoods). IsListedCargo far t.part.cargo.cargo) (cargo_is_kept far) rules origin credit program p q e h.landing).kept

  pub abandoned_site : (credit : Weight) (program : List Instruction) (p q : ChainPart) → IsCarrying far p → IsAbandoned rules origin credit program p q → q.site ≡ p.site
  abandoned_site credit program p q h e = ap (λ (x : Fixed). x.site) (abandoned_said rules origin credit program p q e)

-- ---- what is kept back is told at the end
rest_quiet : (r : Registers) (p : ChainPart) (b : Bool) → p.pending_events ≡ [] → (if b then p else trapped p r.holding (owner_of r)).pending_events ≡ []
unfolding trapped
rest_quiet r p true h = h
rest_quiet r p false h = h

settled_quiet : (p : ChainPart) → p.pending_events ≡ [] → (settled p).pending_events ≡ []
unfolding settled
settled_quiet p h = h

told_quiet : (p : ChainPart) (e : Event) → (told p e).pending_events ≡ []
unfolding told
told_quiet p e = refl

executed_by_quiet : (rules : ChainRules) (origin : Location) (r : Result Admitted Outcome) (p : ChainPart) → p.pending_events ≡ [] → (executed_by rules origin r p).1.pending_events ≡ []
executed_by_quiet rules origin (Err outcome) p h = h
executed_by_quiet rules origin (Ok a) p h =
    let last = refunded_last xcm (last_machine rules origin a p) in
    rest_quiet last.regs (settled (end_told last)) (nat_eq (length (rows last.regs.holding)) 0) (settled_quiet (end_told last) (told_quiet last.part (end_event last.regs)))

pub executed_quiet : (rules : ChainRules) (origin : Location) (credit : Weight) (program : List Instruction) (p : ChainPart) → p.pending_events ≡ [] → (executed rules origin credit program p).1.pending_events ≡ []
executed_quiet rules origin credit program p h = executed_by_quiet rules origin (admitted rules origin credit p.queries program) p h
