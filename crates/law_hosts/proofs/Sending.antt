-- What is sent.
use Rattle.std.proofs.Common.{◌≡◌, ℕ, ◌+◌, Bool, true, false, ◌&&◌, List, [], ◌∷◌, Option, Some, None, refl, ap, ◌∙◌, arith}
use Rattle.std.specs.Prelude.{find, if◌then◌else◌, nat_le, length}
use Rattle.std.specs.List.{sum_by}
use Rattle.std.specs.Option.{option_map_or}
use Rattle.std.specs.Ordering.{eq_by_cmp}
use Rattle.std.proofs.lemmas.List.Sums.{sum_by_push, sum_by-cons}
use Rattle.amounts.specs.Amounts.{total, empty}
use Rattle.amounts.proofs.Lemmas.AmountLaws.{total-empty, total_alike}
use Rattle.amounts.proofs.Lemmas.{same_key, total_none}
use Rattle.locations.specs.declared.relative.Location.{Location}
use Rattle.operands.specs.declared.query.QueryInfo.{QueryInfo}
use Rattle.operands.specs.declared.query.Response.{Response}
use Rattle.asset_lists.specs.declared.units.Asset.{Asset}
use Rattle.asset_lists.specs.Lists.{IsAssetList}
use Rattle.asset_lists.specs.Units.{Unit}
use Rattle.asset_lists.specs.Listed.{Listed}
use Rattle.asset_bundles.specs.Bundles.{Bundle, bundle_of, held_assets}
use Rattle.asset_bundles.proofs.Lemmas.Bundles.{unit_keys}
use Rattle.asset_bundles.specs.Books.{is_unit_where, is_burn_where}
use Rattle.asset_bundles.specs.declared.shipment.Way.{Way}
use Rattle.xcm_program.specs.declared.instruction.Instruction.{Instruction}
use Rattle.plain_lists.specs.Firsts.{change_first}
use Rattle.channel_parts.specs.declared.cargo.Cargo.{Cargo}
use Rattle.channel_parts.specs.declared.cargo.Cargo.TheVariants.{Nothing, Deposit}
use Rattle.channel_parts.specs.Channels.{Waiting, Outgoing, with_waiting, away}
use Rattle.trust_tables.specs.Accounts.{account_of}
use Rattle.ledgers.proofs.Lemmas.{account_keys}
use Rattle.ledgers.specs.Ledgers.{Held, account_cmp, Withdrawn, Deposited}
use Rattle.exec_base.specs.Part.{ChainPart, accounts_of}
use Rattle.exec_base.specs.Sending.{named_sent, channel_to_location, leads_to_location, channel_refusal, send_refusal, sent, listed_refusal, listed_program, deposit_program, away_program}
use Rattle.asset_locks.specs.LockMaps.{LocksAndNotes}
use Rattle.exec_base.specs.Host.{note_program, asset_locked, asset_unlocked, asset_noted, request_key, unlock_program, asset_requested, first_fault, debit_fault, transfer_refusal, at_account, given, got, seen_from, deposited, transferred, deposit_out_refusal, deposited_out, transfer_out_refusal, transferred_out, raised_for, ship_refusal, shipped, querier_seen, report_program, responded}
use Rattle.exec_rules.proofs.Lemmas.AnswerLaws.{none_first, none_next}
use Rattle.law_hosts.specs.Wholes.{in_queue, carried, on_chain, whole, Conserves, account_total, IsOtherAccount}
use Rattle.law_hosts.proofs.Booking.{keeps_whole}
use Rattle.law_hosts.proofs.Moving.{Withdraws, conserves_deposit, conserves_transfer, total_more, of_account, no_shortage}

-- ---- a message put last
changed_head : (f : Outgoing → ℕ) (x y : Outgoing) (xs : List Outgoing) (n : ℕ) → f y ≡ f x + n → sum_by f (y ∷ xs) ≡ sum_by f (x ∷ xs) + n
changed_head f x y xs n h = let a = sum_by-cons f y xs in let b = sum_by-cons f x xs in omega (arith, a, b, h)

changed_tail : (f : Outgoing → ℕ) (x : Outgoing) (xs ys : List Outgoing) (n : ℕ) → sum_by f ys ≡ sum_by f xs + n → sum_by f (x ∷ ys) ≡ sum_by f (x ∷ xs) + n
changed_tail f x xs ys n h = let a = sum_by-cons f x ys in let b = sum_by-cons f x xs in omega (arith, a, b, h)

module _ (f : Outgoing → ℕ) (test : Outgoing → Bool) (change : Outgoing → Outgoing) (n : ℕ) (grows : (x : Outgoing) → f (change x) ≡ f x + n) where
  changed_more : (cs : List Outgoing) (c : Outgoing) → find test cs ≡ Some c → sum_by f (change_first test change cs) ≡ sum_by f cs + n
  changed_more [] c found = absurd cc
  changed_more (x ∷ xs) c found =
      elim (test x) as (λ b. (if b then Some x else find test xs) ≡ Some c → sum_by f (if b then change x ∷ xs else x ∷ change_first test change xs) ≡ sum_by f (x ∷ xs) + n) [
        | true ↦ λ h. changed_head f x (change x) xs n (grows x)
        | false ↦ λ h. changed_tail f x xs (change_first test change xs) n (changed_more xs c h)
      ] found

  -- where nothing is added it doesn't matter whether one passes
  changed_same : (cs : List Outgoing) → n ≡ 0 → sum_by f (change_first test change cs) ≡ sum_by f cs + n
  changed_same [] none = omega (arith, none)
  changed_same (x ∷ xs) none =
      elim (test x) as (λ b. sum_by f (if b then change x ∷ xs else x ∷ change_first test change xs) ≡ sum_by f (x ∷ xs) + n) [
        | true ↦ changed_head f x (change x) xs n (grows x)
        | false ↦ changed_tail f x xs (change_first test change xs) n (changed_same xs none)
      ]

queued : (t : Unit → Bool) (program : List Instruction) (cargo : Cargo) (c : Outgoing) → in_queue t (with_waiting program cargo c) ≡ in_queue t c + carried t cargo
queued t program cargo c = sum_by_push (λ (m : Waiting). carried t m.cargo) c.queue (record { number = c.next; program = program; cargo = cargo })

-- a message that carries something, in a channel that is there
sent_more : (t : Unit → Bool) (p : ChainPart) (dest : Location) (program : List Instruction) (cargo : Cargo) (c : Outgoing) → channel_to_location p dest ≡ Some c
    → on_chain t (sent p dest program cargo) ≡ on_chain t p + carried t cargo
unfolding sent on_chain
sent_more t p dest program cargo c found =
    let more = changed_more (in_queue t) (leads_to_location p dest) (with_waiting program cargo) (carried t cargo) (queued t program cargo) p.channels c found in
    omega (arith, more)

-- a message that carries nothing
sent_none : (t : Unit → Bool) (p : ChainPart) (dest : Location) (program : List Instruction) (cargo : Cargo) → carried t cargo ≡ 0 → on_chain t (sent p dest program cargo) ≡ on_chain t p
unfolding sent on_chain
sent_none t p dest program cargo none =
    let more = changed_same (in_queue t) (leads_to_location p dest) (with_waiting program cargo) (carried t cargo) (queued t program cargo) p.channels none in
    omega (arith, more, none)

sent_burns : (p : ChainPart) (dest : Location) (program : List Instruction) (cargo : Cargo) → (sent p dest program cargo).burns ≡ p.burns
unfolding sent
sent_burns p dest program cargo = refl

sent_held : (p : ChainPart) (dest : Location) (program : List Instruction) (cargo : Cargo) → (sent p dest program cargo).held ≡ p.held
unfolding sent
sent_held p dest program cargo = refl

whole_sent_none : (test : Listed → Bool) (p : ChainPart) (dest : Location) (program : List Instruction) (cargo : Cargo) → carried (is_unit_where test) cargo ≡ 0 → whole test (sent p dest program cargo) ≡ whole test p
whole_sent_none test p dest program cargo none =
    let stays = sent_none (is_unit_where test) p dest program cargo none in
    let burns = ap (total (is_burn_where test)) (sent_burns p dest program cargo) in
    omega (arith, stays, burns)

-- ---- a channel is there where nothing is refused
routed : (o : Option Outgoing) (few : Bool) (program : List Instruction) → channel_refusal o few program ≡ None → (c : Outgoing) × (o ≡ Some c)
routed None few program h = absurd cc
routed (Some c) few program h = (c, refl)

routed_list : (p : ChainPart) (dest : Location) (program : List Asset → List Instruction) (o : Option (List Asset)) → listed_refusal p dest program o ≡ None → (c : Outgoing) × (channel_to_location p dest ≡ Some c)
unfolding send_refusal
routed_list p dest program None h = absurd cc
routed_list p dest program (Some list) h = routed (channel_to_location p dest) (nat_le (length list) 20) (program list) h

-- ---- the calls
raised_on_chain : (t : Unit → Bool) (p : ChainPart) (way : Way) (goods : Bundle) → on_chain t (raised_for p way goods) ≡ on_chain t p
unfolding on_chain
raised_on_chain t p way goods = refl

pub conserves_shipping : (p : ChainPart) (goods : Bundle) (way : Way) (dest : Location) (xcm : List Instruction) → ship_refusal p goods way dest xcm ≡ None → Conserves goods empty p (shipped p goods way dest xcm)
unfolding ship_refusal shipped
conserves_shipping p goods way dest xcm ok test =
    let t = is_unit_where test in
    let program = listed_program (λ a. away_program way a xcm) (seen_from p dest (held_assets goods)) in
    let c : (c : Outgoing) × (channel_to_location p dest ≡ Some c) = routed_list p dest (λ a. away_program way a xcm) (seen_from p dest (held_assets goods)) (none_next _ _ (none_next _ _ ok)) in
    let more = sent_more t (raised_for p way goods) dest program (away way goods) c.0 c.1 in
    let same = raised_on_chain t p way goods in
    let burns = ap (total (is_burn_where test)) (sent_burns (raised_for p way goods) dest program (away way goods)) in
    let none = total-empty unit_keys t in
    omega (arith, more, same, burns, none)

pub conserves_deposit_out : (p : ChainPart) (goods : Bundle) (dest : Location) (xcm : List Instruction) → deposit_out_refusal p goods dest xcm ≡ None → Conserves goods empty p (deposited_out p goods dest xcm)
unfolding deposit_out_refusal deposited_out
conserves_deposit_out p goods dest xcm ok test =
    let moved = conserves_deposit p goods dest (none_first _ _ ok) test in
    let told = whole_sent_none test (deposited p goods dest) dest (listed_program (λ a. deposit_program a xcm) (seen_from p dest (held_assets goods))) (Deposit (held_assets goods)) refl in
    omega (arith, moved, told)

pub conserves_transfer_out : Withdraws → (p : ChainPart) (list : List Asset) (from dest : Location) (xcm : List Instruction) → IsAssetList list → transfer_out_refusal p list from dest xcm ≡ None
    → Conserves empty empty p (transferred_out p list from dest xcm)
unfolding transfer_out_refusal transferred_out
conserves_transfer_out law p list from dest xcm in_order ok test =
    let moved = conserves_transfer law p list from dest in_order (none_first _ _ ok) test in
    let told = whole_sent_none test (transferred p list from dest) dest (listed_program (λ a. deposit_program a xcm) (seen_from p dest list)) (Deposit list) refl in
    omega (arith, moved, told)

responded_whole : (p : ChainPart) (info : QueryInfo) (response : Response) (o : Option (Option Location)) (test : Listed → Bool)
    → whole test (option_map_or (λ (seen : Option Location). sent p info.destination (report_program info response seen) Nothing) o p) ≡ whole test p
responded_whole p info response None test = refl
responded_whole p info response (Some seen) test = whole_sent_none test p info.destination (report_program info response seen) Nothing refl

pub conserves_response : (p : ChainPart) (info : QueryInfo) (response : Response) (querier : Option Location) → Conserves empty empty p (responded p info response querier)
unfolding responded
conserves_response p info response querier = keeps_whole p (responded p info response querier) (responded_whole p info response (querier_seen p info.destination querier))

-- ---- a deposit is in the receiver's account
itself_passes : (who : List ℕ) (t : Unit → Bool) (unit : Unit) → of_account who t (who, unit) ≡ t unit
itself_passes who t unit = ap (λ (b : Bool). b && t unit) (same_key account_keys who)

account_more : (held : Held) (who : List ℕ) (goods : Bundle) (t : Unit → Bool) (p : ChainPart) → total (of_account who t) (Deposited who goods (record { listed = (accounts_of p).listed; held = held })).held ≡ total (of_account who t) held + total t goods
account_more held who goods t p =
    let more = total_more (of_account who t) held who goods in
    let same = total_alike (λ unit. of_account who t (who, unit)) t goods (itself_passes who t) in
    omega (arith, more, same)

got_more : (p : ChainPart) (o : Option (List ℕ)) (who : List ℕ) (goods : Bundle) (t : Unit → Bool) → o ≡ Some who
    → total (of_account who t) (at_account o (λ account. (Deposited account goods (accounts_of p)).held) p.held) ≡ total (of_account who t) p.held + total t goods
got_more p o who goods t e =
    ap (λ (o : Option (List ℕ)). total (of_account who t) (at_account o (λ account. (Deposited account goods (accounts_of p)).held) p.held)) e ∙ account_more p.held who goods t p

pub raises_by_goods : (p : ChainPart) (goods : Bundle) (dest : Location) (xcm : List Instruction) (who : List ℕ) (t : Unit → Bool) → account_of dest p.site ≡ Some who
    → account_total who t (deposited_out p goods dest xcm) ≡ account_total who t p + total t goods
unfolding deposited_out deposited
raises_by_goods p goods dest xcm who t e =
    ap (total (of_account who t)) (sent_held (got p goods dest) dest (listed_program (λ a. deposit_program a xcm) (seen_from p dest (held_assets goods))) (Deposit (held_assets goods)))
    ∙ got_more p (account_of dest p.site) who goods t e

passes_none_of : (who other : List ℕ) (t : Unit → Bool) (unit : Unit) → eq_by_cmp account_cmp who other ≡ false → of_account who t (other, unit) ≡ false
passes_none_of who other t unit e = ap (λ (b : Bool). b && t unit) e

given_others : Withdraws → (p : ChainPart) (o : Option (List ℕ)) (list : List Asset) (who : List ℕ) (t : Unit → Bool) → IsAssetList list → first_fault (debit_fault p o) list ≡ None → IsOtherAccount who o
    → total (of_account who t) (at_account o (λ account. (Withdrawn account list (accounts_of p)).held) p.held) ≡ total (of_account who t) p.held
given_others law p None list who t in_order ok other = refl
given_others law p (Some from) list who t in_order ok other =
    let less = law (accounts_of p) from list (of_account who t) in_order (no_shortage p from list ok) in
    let none = total_none unit_keys (λ unit. of_account who t (from, unit)) (bundle_of list) (λ unit held. passes_none_of who from t unit other) in
    omega (arith, less, none)

pub raises_by_list : Withdraws → (p : ChainPart) (list : List Asset) (from dest : Location) (xcm : List Instruction) (who : List ℕ) (t : Unit → Bool) → IsAssetList list → transfer_out_refusal p list from dest xcm ≡ None
    → account_of dest p.site ≡ Some who → IsOtherAccount who (account_of from p.site) → account_total who t (transferred_out p list from dest xcm) ≡ account_total who t p + total t (bundle_of list)
unfolding transferred_out transferred transfer_out_refusal transfer_refusal
raises_by_list law p list from dest xcm who t in_order ok e other =
    ap (total (of_account who t)) (sent_held (got (given p list from) (bundle_of list) dest) dest (listed_program (λ a. deposit_program a xcm) (seen_from p dest list)) (Deposit list))
    ∙ got_more (given p list from) (account_of dest p.site) who (bundle_of list) t e
    ∙ ap (λ (n : ℕ). n + total t (bundle_of list)) (given_others law p (account_of from p.site) list who t in_order (none_first _ _ (none_first _ _ ok)) other)

-- ---- of locks, which are beside all amounts
beside_whole : (p : ChainPart) (locked : LocksAndNotes) (test : Listed → Bool) → whole test (record p { locked = locked }) ≡ whole test p
unfolding on_chain
beside_whole p locked test = refl

named_whole : (p : ChainPart) (locked : LocksAndNotes) (dest : Location) (o : Option (List Instruction)) (test : Listed → Bool) → whole test (named_sent (record p { locked = locked }) dest o) ≡ whole test p
named_whole p locked dest None test = beside_whole p locked test
named_whole p locked dest (Some program) test = whole_sent_none test (record p { locked = locked }) dest program Nothing refl ∙ beside_whole p locked test

pub conserves_locking : (p : ChainPart) (a : Asset) (owner unlocker : Location) → Conserves empty empty p (asset_locked p a owner unlocker)
unfolding asset_locked
conserves_locking p a owner unlocker = keeps_whole p (asset_locked p a owner unlocker) (named_whole p _ unlocker (note_program p a owner unlocker))

pub conserves_unlocking : (p : ChainPart) (a : Asset) (target from : Location) → Conserves empty empty p (asset_unlocked p a target from)
unfolding asset_unlocked
conserves_unlocking p a target from = keeps_whole p (asset_unlocked p a target from) (beside_whole p (asset_unlocked p a target from).locked)

pub conserves_noting : (p : ChainPart) (a : Asset) (owner from : Location) → Conserves empty empty p (asset_noted p a owner from)
unfolding asset_noted
conserves_noting p a owner from = keeps_whole p (asset_noted p a owner from) (beside_whole p (asset_noted p a owner from).locked)

pub conserves_requesting : (p : ChainPart) (a : Asset) (owner locker : Location) → Conserves empty empty p (asset_requested p a owner locker)
unfolding asset_requested
conserves_requesting p a owner locker = keeps_whole p (asset_requested p a owner locker) (named_whole p _ locker (unlock_program p a (request_key a owner locker) locker))
