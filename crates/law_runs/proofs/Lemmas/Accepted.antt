-- Lemmas on the definitions of `specs/Accepted.antt`: what proofs cite.
use Rattle.std.proofs.Common.{◌≡◌, ◌⊎◌, ⊎_elim, inl, inr, ◌+◌, ℕ, Bool, true, false, List, [], ◌∷◌, Option, Some, None, refl, sym, ap, ◌∙◌, subst, arith}
use Rattle.std.specs.Prelude.{◌&&◌, ◌==◌, if◌then◌else◌, IsSomeAnd}
use Rattle.amounts.specs.Amounts.{total, empty, merge, IsWithin}
use Rattle.amounts.proofs.Lemmas.AmountLaws.{total-empty}
use Rattle.locations.specs.declared.grammar.Junction.{Junction}
use Rattle.locations.specs.declared.relative.Location.{Location}
use Rattle.operands.specs.declared.error.XcmError.{XcmError}
use Rattle.asset_lists.specs.declared.units.Asset.{Asset}
use Rattle.asset_bundles.specs.declared.shipment.Way.{Way}
use Rattle.asset_bundles.specs.Bundles.{bundle_of, Bundle}
use Rattle.asset_bundles.proofs.Lemmas.Bundles.{unit_keys}
use Rattle.chain_ids.specs.declared.chain.ChainId.{ChainId}
use Rattle.chain_ids.specs.declared.chain.ChainId.TheVariants.{Relay, Para}
use Rattle.exec_base.specs.Sending.{unless}
use Rattle.trust_tables.specs.declared.chains.Site.{Site}
use Rattle.trust_tables.specs.declared.rows.AssetRow.{AssetRow}
use Rattle.trust_tables.specs.declared.rows.AssetRole.{AssetRole}
use Rattle.trust_tables.specs.Chains.{location_of}
use Rattle.trust_tables.specs.Accounts.{IsSovereign, account_of, sovereign_account}
use Rattle.trust_tables.specs.Trust.{listing, row_of, IsReserveRole, IsPartnerRole}
use Rattle.trust_tables.proofs.Lemmas.TrustLaws.{is_reserve_says, is_partner_says}
use Rattle.trust_tables.proofs.Lemmas.ChainLaws.{IsSovereign-sovereign_account}
use Rattle.weight_trader.specs.Laws.{MovesAreKept}
use Rattle.xcm_program.specs.declared.instruction.Instruction.{Instruction}
use Rattle.xcm_program.specs.declared.instruction.Instruction.TheOpen.{Instruction-F}
use Rattle.xcm_program.specs.Everywhere.{AllInside}
use Rattle.xcm_program.specs.Measure.{inner}
use Rattle.asset_pools.proofs.Lemmas.Keeping.{not_sovereign}
use Rattle.exec_base.specs.Part.{ChainPart}
use Rattle.exec_base.specs.Host.{trust_fault, receive_refusal, unspent, refund_goods, fee_taken}
use Rattle.exec_base.specs.Pools.{exchange_goods}
use Rattle.exec_rules.specs.Machine.{Machine, machine}
use Rattle.exec_rules.specs.Holdings.{with_origin, with_holding, payment_of}
use Rattle.exec_rules.proofs.Lemmas.AnswerLaws.{unless_held, unless_next, none_first}
use Rattle.exec_rules.specs.Instructions.{refused, done}
use Rattle.exec_rules.specs.Readiness.{IsSteady}
use Rattle.law_coherence.specs.Networks.{Table, Agrees, IsIn}
use Rattle.law_runs.specs.Sums.{none, HasRoom, Sum, Kept, kept_of, in_kept, in_places, burned_where}
use Rattle.law_runs.proofs.Lemmas.Sums.{sum_of, nobody, only, account_total, with, Call}
use Rattle.law_runs.specs.Calls.{Withdraws}
use Rattle.law_runs.proofs.Lemmas.Calls.{of_a_pool, exchanging, total_nothing, call_with, call_by, receiving_none, answering, unlocking, noting, withdrawing, depositing, transferring, claiming, burn, still, joining, dispatching, drawing, refunding, buying, parking_goods, holding_fee, keeping, room_with}
use Rattle.law_runs.specs.Safety.{origins, Spares, IsSpared, hold, Safely, MeetsPremises, AreFees, HasList, AreLists}
use Rattle.law_runs.proofs.Lemmas.Safety.{moved_safely, turn_safely, sends_safely, fee_in_order, Sends, safely_then, keeps_room, same_table}
use Rattle.law_runs.proofs.Lemmas.Turns.{same_turn, paid_parts}
use Rattle.law_runs.proofs.Lemmas.Shipping.{withdrawal_sends, teleport_sends, deposit_sends, transfer_sends, report_sends, lock_sends, request_sends, Leaves}
use Rattle.amounts.proofs.Lemmas.{total-merge, merge-empty}
use Rattle.asset_lists.specs.Lists.{IsAssetList}
use Rattle.asset_lists.specs.Units.{Unit}
use Rattle.asset_bundles.specs.Books.{is_unit_where, is_burn_where, AreListed}
use Rattle.asset_bundles.specs.Joins.{Joined}
use Rattle.asset_bundles.proofs.Lemmas.{taken_conserves, listed_within}
use Rattle.ledgers.specs.Ledgers.{Holder, is_account}
use Rattle.exec_base.specs.declared.registers.Registers.{Registers}
use Rattle.exec_rules.specs.Stopping.{LeftOnOom}
use Rattle.exec_rules.specs.HostCalls.{MachineWithGoods, between, here, MachineCall, why_not, after, turned, turned_at}
use Rattle.exec_rules.proofs.Lemmas.HostCalls.{effect}
use Rattle.exec_rules.proofs.Lemmas.Footprints.{part_is}
use Rattle.exec_rules.specs.Reasons.{IsFrom, IsFee, Moment, HasReason, ComesBeforeStop}
use Rattle.exec_rules.proofs.Lemmas.ReasonLaws.{done_keeps, lead_keeps, turns}
use Rattle.exec_rules.proofs.Lemmas.StopLaws.{spilled_lead}
use Rattle.weight_trader.specs.Purchases.{AreWithinEnd}
use Rattle.law_runs.specs.Views.{table_of}
use Rattle.law_runs.specs.Accepted.{IsCaller, IsOwnOrigin}
use Rattle.plain_lists.proofs.Lemmas.Facts.{same_some as some_same}

caller_account : (site : Site) (account : List ℕ) (rest : List Junction) (who : List ℕ) → account_of (record { parents = 0; interior = Junction.AccountId32 None account ∷ rest }) site ≡ Some who → account ≡ who
caller_account site account [] who e = some_same account who e
caller_account site account (j ∷ rest) who e = absurd cc

pub caller_spared : (m : Machine) → IsOwnOrigin m.regs.origin → IsSpared m
caller_spared m own_origin chain number foreign h =
    let c = own_origin h.0 h.1 in
    let same : c.account ≡ sovereign_account m.part.site.chain chain = caller_account m.part.site c.account c.rest (sovereign_account m.part.site.chain chain) (ap (λ (l : Location). account_of l m.part.site) (sym c.is) ∙ h.2) in
    c.own (subst IsSovereign (sym same) (IsSovereign-sovereign_account m.part.site.chain chain number))

no_chain : (here chain : ChainId) (account : List ℕ) (rest : List Junction) → location_of here chain ≡ Some (record { parents = 0; interior = Junction.AccountId32 None account ∷ rest }) → ⊥
no_chain Relay Relay account rest e = absurd cc
no_chain Relay (Para number) account rest e =
    let inside : Junction.Parachain number ∷ [] ≡ Junction.AccountId32 None account ∷ rest = ap (λ (l : Location). l.interior) (some_same _ _ e) in
    absurd cc
no_chain (Para own) Relay account rest e = absurd (let up : 1 ≡ 0 = ap (λ (l : Location). l.parents) (some_same _ _ e) in omega (arith, up))
no_chain (Para own) (Para number) account rest e = either (own == number) e
  where
    either : (b : Bool) → if◌then◌else◌ {A = Option Location} b None (Some (record { parents = 1; interior = Junction.Parachain number ∷ [] })) ≡ Some (record { parents = 0; interior = Junction.AccountId32 None account ∷ rest }) → ⊥
    either true e = absurd cc
    either false e = absurd (let up : 1 ≡ 0 = ap (λ (l : Location). l.parents) (some_same _ _ e) in omega (arith, up))

no_role : (here : ChainId) (l : Location) (role : AssetRole) → IsCaller l → IsReserveRole here l role → ⊥
no_role here l (AssetRole.Native partners checking) c h = absurd h
no_role here l (AssetRole.Derivative reserve) c h = no_chain here reserve c.account c.rest (h ∙ ap Some c.is)

no_partner : (here : ChainId) (l : Location) (role : AssetRole) → IsCaller l → IsPartnerRole here l role → ⊥
no_partner here l (AssetRole.Native partners checking) c h = no_chain here h.1 c.account c.rest (h.4 ∙ ap Some c.is)
no_partner here l (AssetRole.Derivative reserve) c h = absurd h

no_row : (P : AssetRole → Type 0) (o : Option AssetRow) → ((role : AssetRole) → P role → ⊥) → IsSomeAnd o (λ (r : AssetRow). P r.role) → ⊥
no_row P None n h = absurd h
no_row P (Some row) n h = n row.role h

trusts_none : (p : ChainPart) (l : Location) (teleport : Bool) (a : Asset) → IsCaller l → trust_fault p l teleport a ≡ None → ⊥
trusts_none p l true a c h = no_row (IsPartnerRole p.site.chain l) (row_of p.rows a) (λ role. no_partner p.site.chain l role c) ((is_partner_says p.rows p.site a l).0 (unless_held _ _ _ h))
trusts_none p l false a c h = no_row (IsReserveRole p.site.chain l) (row_of p.rows a) (λ role. no_role p.site.chain l role c) ((is_reserve_says p.rows p.site a l).0 (unless_held _ _ _ h))

first_of : (p : ChainPart) (l : Location) (teleport : Bool) (a : Asset) (list : List Asset) → receive_refusal p (a ∷ list) l teleport ≡ None → trust_fault p l teleport a ≡ None
unfolding receive_refusal
first_of p l teleport a list h = none_first _ _ (none_first _ _ h)

-- such an origin sends nothing from another chain
receives_none : (p : ChainPart) (l : Location) (teleport : Bool) (list : List Asset) → IsCaller l → receive_refusal p list l teleport ≡ None → list ≡ []
receives_none p l teleport [] c h = refl
receives_none p l teleport (a ∷ list) c h = absurd (trusts_none p l teleport a c (first_of p l teleport a list h))

-- ---- what such an origin receives
pub receive_by : (p : ChainPart) (o : Option Location) (list : List Asset) (teleport : Bool) (first : XcmError) (room : Bool) → IsOwnOrigin o → with_origin o (λ who. unless room first (receive_refusal p list who teleport)) ≡ None → list ≡ []
receive_by p None list teleport first room own_origin ok = absurd cc
receive_by p (Some who) list teleport first room own_origin ok = receives_none p who teleport list (own_origin who refl) (unless_next room first _ ok)

-- ---- a fee that is aside
slot_left : (t : Unit → Bool) (p : ChainPart) → in_places t (fee_taken p) + total t p.fee_slot ≡ in_places t p
unfolding fee_taken in_kept
slot_left t p = let z = total-empty unit_keys t in omega (arith, z)

slot_same : (p : ChainPart) → record (kept_of (fee_taken p)) { slot = p.fee_slot } ≡ kept_of p
unfolding fee_taken
slot_same p = refl

pub taking_fee : (p : ChainPart) → Call nobody none (sum_of p.fee_slot) p (fee_taken p)
taking_fee p =
    let same = slot_same p in
    record {
      site = ap (λ (k : Kept). k.site) same;
      rows = ap (λ (k : Kept). k.rows) same;
      channels = ap (λ (k : Kept). k.channels) same;
      checking = ap (λ (k : Kept). k.checking) same;
      cargo = λ h. ap (λ (k : Kept). k.cargo) same ∙ h;
      gone = empty;
      amounts = λ t. let e = slot_left t p in let z = total-empty unit_keys t in omega (arith, e, z);
      books = λ test. let e : burned_where test (fee_taken p) ≡ burned_where test p = ap (λ (k : Kept). total (is_burn_where test) k.burns) same in let z = total-empty unit_keys (is_unit_where test) in omega (arith, e, z);
      accounts = λ who t others. let e : account_total who t (fee_taken p) ≡ account_total who t p = ap (λ (k : Kept). total (λ (h : Holder). is_account who h && t h.1) k.held) same in omega (arith, e);
    }

-- ---- what is in hand counts as held
abbrev pub pooled : MachineWithGoods → Machine
pooled t = machine (with_holding t.regs (merge t.regs.holding t.goods)) t.part

pub pooled_between : (m : Machine) → pooled (between m) ≡ m
pooled_between m = ap (λ (b : Bundle). machine (with_holding m.regs b) m.part) (merge-empty unit_keys m.regs.holding)

pub hold_pooled : (t : MachineWithGoods) (q : Unit → Bool) → hold (pooled t) q ≡ total q t.regs.holding + total q t.goods
hold_pooled t q = total-merge unit_keys q t.regs.holding t.goods

pub goods_room : (t : MachineWithGoods) → HasRoom (hold (pooled t)) t.part → HasRoom (sum_of t.goods) t.part
goods_room t room = room_with (hold (pooled t)) (sum_of t.goods) t.part room (λ q. let e = hold_pooled t q in omega (arith, e))

-- the first call of an instruction finds nothing in hand
pub nothing_in_hand : (t : MachineWithGoods) → t.goods ≡ empty → (q : Unit → Bool) → total q t.goods ≡ 0
nothing_in_hand t none q = ap (total q) none ∙ total-empty unit_keys q

-- ---- each call
module _ (withdraws : Withdraws) (moves : MovesAreKept) (n : List Table) (l : Instruction-F Instruction) (m : Machine)
    (fine : MeetsPremises n m) (own_origin : IsOwnOrigin m.regs.origin) (steady : IsSteady m) (fees : AreFees m.part.channels) (in_order : HasList Instruction l) (nested : AllInside AreLists (inner l)) where
  abbrev pub IsSafely : MachineWithGoods → Type 0
  IsSafely t = Safely m (pooled t)

  same_origin : (t : MachineWithGoods) → IsFrom m t → t.regs.origin ≡ m.regs.origin
  same_origin t from = ap (λ (r : Registers). r.origin) from.regs

  speaks_at : (t : MachineWithGoods) (who : Location) → IsFrom m t → m.regs.origin ≡ Some who → t.regs.origin ≡ Some who
  speaks_at t who from is = same_origin t from ∙ is

  spared_at : (t : MachineWithGoods) → IsFrom m t → IsSpared (pooled t)
  spared_at t from = caller_spared (pooled t) (subst IsOwnOrigin (sym (same_origin t from)) own_origin)

  room_at : (t : MachineWithGoods) → IsSafely t → HasRoom (hold (pooled t)) t.part
  room_at t k = keeps_room m (pooled t) k fine.room

  list_of : (k : Instruction-F Instruction) → l ≡ k → HasList Instruction k
  list_of k is = subst (HasList Instruction) is in_order

  inside_of : (k : Instruction-F Instruction) → l ≡ k → AllInside AreLists (inner k)
  inside_of k is = subst (λ (k : Instruction-F Instruction). AllInside AreLists (inner k)) is nested

  fee_list : (fee : Asset) → IsFee l m fee → IsAssetList (fee ∷ [])
  fee_list fee is = fee_in_order m.part is.0 fee fees is.2

  -- goods move inside the chain, and no account of another chain falls
  spends_on : (may : List ℕ → Type 0) (ins outs : Sum) (c : MachineCall) (t : MachineWithGoods) → Spares may t.part.site → Call may ins outs t.part (effect c t)
      → ((q : Unit → Bool) → total q t.regs.holding + total q t.goods + outs q ≡ total q (after c t).regs.holding + total q (after c t).goods + ins q) → IsSafely t → IsSafely (after c t)
  spends_on may ins outs c t spared x sums k =
      let u = after c t in
      safely_then m (pooled t) (pooled u) k
      (moved_safely may (pooled t) (pooled u) spared
      (subst (λ (p : ChainPart). Call may (hold (pooled t)) (hold (pooled u)) t.part p) (sym (part_is c t))
      (call_with may ins outs (hold (pooled t)) (hold (pooled u)) t.part (effect c t) x
      (λ q. let a = hold_pooled t q in let b = hold_pooled u q in let e = sums q in omega (arith, a, b, e)))))

  -- the origin's account may fall
  moves_on : (may : List ℕ → Type 0) (ins outs : Sum) (c : MachineCall) (t : MachineWithGoods) → Call may ins outs t.part (effect c t) → ((who : List ℕ) → may who → origins (pooled t) who)
      → ((q : Unit → Bool) → total q t.regs.holding + total q t.goods + outs q ≡ total q (after c t).regs.holding + total q (after c t).goods + ins q) → IsFrom m t → IsSafely t → IsSafely (after c t)
  moves_on may ins outs c t x by sums from k =
      spends_on (origins (pooled t)) ins outs c t (spared_at t from) (call_by may (origins (pooled t)) ins outs t.part (effect c t) x by) sums k

  -- and no account falls
  gives : (ins outs : Sum) (c : MachineCall) (t : MachineWithGoods) → Call nobody ins outs t.part (effect c t)
      → ((q : Unit → Bool) → total q t.regs.holding + total q t.goods + outs q ≡ total q (after c t).regs.holding + total q (after c t).goods + ins q) → IsFrom m t → IsSafely t → IsSafely (after c t)
  gives ins outs c t x sums from k = moves_on nobody ins outs c t x (λ who h. absurd h) sums from k

  -- a message is sent
  sends_on : (c : MachineCall) (t : MachineWithGoods) → Sends (pooled t) (machine (pooled (after c t)).regs (effect c t)) → IsFrom m t → IsSafely t → IsSafely (after c t)
  sends_on c t s from k =
      let u = after c t in
      safely_then m (pooled t) (pooled u) k
      (sends_safely (pooled t) (pooled u) (spared_at t from) (subst (λ (p : ChainPart). Sends (pooled t) (machine (pooled u).regs p)) (sym (part_is c t)) s))

  leaves_hand : (t : MachineWithGoods) → IsWithin t.goods m.regs.holding → Leaves (pooled t) (merge t.regs.holding empty) t.goods
  leaves_hand t taken = record {
    sums = λ q. let a = hold_pooled t q in let b = total-merge unit_keys q t.regs.holding empty in let z = total-empty unit_keys q in omega (arith, a, b, z);
    within = λ u. let le = taken u in let end = fine.within u in omega (arith, le, end);
  }

  there_at : (t : MachineWithGoods) → IsSafely t → IsIn n (table_of t.part)
  there_at t k = subst (IsIn n) (sym (same_table m.part t.part k.site k.rows)) fine.there

  listed_at : (t : MachineWithGoods) → IsWithin t.goods m.regs.holding → IsSafely t → AreListed (listing t.part.rows) t.goods
  listed_at t taken k = subst (λ (rows : List AssetRow). AreListed (listing rows) t.goods) (sym k.rows) (listed_within (listing m.part.rows) m.regs.holding t.goods taken fine.listed)

  none_at_first : (t : MachineWithGoods) → t ≡ between m → t.goods ≡ empty
  none_at_first t first = ap (λ (t : MachineWithGoods). t.goods) first

  nothing_received : (t : MachineWithGoods) (o : Option Location) (list : List Asset) (teleport : Bool) → IsOwnOrigin o → with_origin o (λ who. receive_refusal t.part list who teleport) ≡ None → list ≡ []
  nothing_received t None list teleport own_origin ok = absurd cc
  nothing_received t (Some who) list teleport own_origin ok = receives_none t.part who teleport list (own_origin who refl) ok

  pools_spared : (site : Site) → Spares of_a_pool site
  pools_spared site chain number foreign h = not_sovereign h.0 (subst IsSovereign h.1 (IsSovereign-sovereign_account site.chain chain number))

  -- what sends needs that the chains agree; where memory stops an instruction, nothing was sent
  pub called_safely : (c : MachineCall) (t : MachineWithGoods) → ComesBeforeStop c ⊎ Agrees n → HasReason Moment.Inside l m t c → IsFrom m t → why_not c t ≡ None → IsSafely t → IsSafely (after c t)
  called_safely (MachineCall.Check ok e) t which asks from free k = k
  called_safely (MachineCall.Take filter) t which asks from free k = gives none none (MachineCall.Take filter) t (still t.part t.part refl)
      (λ q. let z = nothing_in_hand t asks q in let e = taken_conserves q filter t.regs.holding in omega (arith, z, e)) from k
  called_safely (MachineCall.Pay a) t which asks from free k = gives none none (MachineCall.Pay a) t (still t.part t.part refl)
      (λ q. let z = nothing_in_hand t (none_at_first t asks.0) q in let e = paid_parts (here t) a (unless_held _ _ _ free) q in omega (arith, z, e)) from k
  called_safely MachineCall.Join t which asks from free k =
      let both = with (sum_of t.regs.holding) (sum_of t.goods) in
      gives both (sum_of (Joined t.regs.holding t.goods)) MachineCall.Join t
      (joining t.part t.regs.holding t.goods (room_with (hold (pooled t)) both t.part (room_at t k) (λ q. let e = hold_pooled t q in omega (arith, e))))
      (λ q. let z = total-empty unit_keys q in omega (arith, z)) from k
  called_safely (MachineCall.Withdraw list who) t which asks from free k =
      moves_on (only (account_of who t.part.site)) none (sum_of (bundle_of list)) (MachineCall.Withdraw list who) t
      (withdrawing withdraws t.part list who (list_of (Instruction-F.WithdrawAsset list) asks.2) free) (λ account e. (who, speaks_at t who from asks.1, e))
      (λ q. let z = nothing_in_hand t (none_at_first t asks.0) q in omega (arith, z)) from k
  called_safely (MachineCall.Draw fee who) t which asks from free k =
      moves_on (only (account_of who t.part.site)) none (sum_of (payment_of fee)) (MachineCall.Draw fee who) t
      (drawing withdraws t.part (fee ∷ []) who (fee_list fee asks.2) free) (λ account e. (who, speaks_at t who from asks.1, e))
      (λ q. let z = nothing_in_hand t (none_at_first t asks.0) q in omega (arith, z)) from k
  called_safely (MachineCall.Receive list o teleport) t which asks from free k =
      let none_of = nothing_received t o list teleport (subst IsOwnOrigin (sym asks.1) own_origin) free in
      gives none none (MachineCall.Receive list o teleport) t (receiving_none t.part list teleport none_of)
      (λ q. let z = nothing_in_hand t (none_at_first t asks.0) q in let e = ap (λ (xs : List Asset). total q (bundle_of xs)) none_of in let none_there = total_nothing q in omega (arith, z, e, none_there)) from k
  called_safely (MachineCall.Claim list who) t which asks from free k = gives none (sum_of (bundle_of list)) (MachineCall.Claim list who) t (claiming t.part list who free)
      (λ q. let z = nothing_in_hand t (none_at_first t asks.0) q in omega (arith, z)) from k
  called_safely (MachineCall.Refund w) t which asks from free k = gives none (sum_of (refund_goods t.part w)) (MachineCall.Refund w) t
      (refunding moves t.part w (subst (λ (t : MachineWithGoods). AreWithinEnd t.part.lines) (sym asks.0) steady.rest.order.paid)) (λ q. let z = nothing_in_hand t (none_at_first t asks.0) q in omega (arith, z)) from k
  called_safely (MachineCall.Deposit who) t which asks from free k = gives (sum_of t.goods) none (MachineCall.Deposit who) t (depositing t.part t.goods who free) (λ q. let z = total-empty unit_keys q in omega (arith, z)) from k
  called_safely MachineCall.Burn t which asks from free k = gives (sum_of t.goods) none MachineCall.Burn t (burn t.part t.goods (goods_room t (room_at t k))) (λ q. let z = total-empty unit_keys q in omega (arith, z)) from k
  called_safely (MachineCall.Buy w) t which asks from free k = gives (sum_of t.goods) (sum_of (unspent t.part w t.goods)) (MachineCall.Buy w) t
      (buying moves t.part w t.goods (subst (λ (t : MachineWithGoods). AreWithinEnd t.part.lines) (sym asks.2) steady.rest.order.paid) (goods_room t (room_at t k))) (λ q. omega arith) from k
  called_safely (MachineCall.Exchange want maximal) t which asks from free k = spends_on of_a_pool (sum_of t.goods) (sum_of (exchange_goods t.part t.goods want maximal)) (MachineCall.Exchange want maximal) t
      (pools_spared t.part.site) (exchanging t.part t.goods want maximal) (λ q. omega arith) k
  called_safely (MachineCall.DepositOut dest xcm) t which asks from free k = ⊎_elim (λ (early : ⊥). absurd early) (λ (agrees : Agrees n). sends_on (MachineCall.DepositOut dest xcm) t
      (deposit_sends n agrees (pooled t) (merge t.regs.holding empty) t.goods dest xcm (leaves_hand t asks.1) (listed_at t asks.1 k) (inside_of (Instruction-F.DepositReserveAsset asks.2.0 dest xcm) asks.2.1) free) from k) which
  called_safely (MachineCall.Ship Way.Withdrawal dest xcm) t which asks from free k = ⊎_elim (λ (early : ⊥). absurd early) (λ (agrees : Agrees n). sends_on (MachineCall.Ship Way.Withdrawal dest xcm) t
      (withdrawal_sends n agrees (pooled t) (merge t.regs.holding empty) t.goods dest xcm (leaves_hand t asks.1) (there_at t k) (inside_of (Instruction-F.InitiateReserveWithdraw asks.2.0 dest xcm) asks.2.1) free) from k) which
  called_safely (MachineCall.Ship Way.Teleport dest xcm) t which asks from free k = ⊎_elim (λ (early : ⊥). absurd early) (λ (agrees : Agrees n). sends_on (MachineCall.Ship Way.Teleport dest xcm) t
      (teleport_sends n agrees (pooled t) (merge t.regs.holding empty) t.goods dest xcm (leaves_hand t asks.1) (there_at t k) (inside_of (Instruction-F.InitiateTeleport asks.2.0 dest xcm) asks.2.1) free) from k) which
  called_safely (MachineCall.Transfer list who to) t which asks from free k =
      moves_on (only (account_of who t.part.site)) none none (MachineCall.Transfer list who to) t
      (transferring withdraws t.part list who to (list_of (Instruction-F.TransferAsset list to) asks.2) free) (λ account e. (who, speaks_at t who from asks.1, e)) (λ q. omega arith) from k
  called_safely (MachineCall.TransferOut list who dest xcm) t which asks from free k = ⊎_elim (λ (early : ⊥). absurd early) (λ (agrees : Agrees n). sends_on (MachineCall.TransferOut list who dest xcm) t
      (transfer_sends n agrees withdraws (pooled t) list who dest xcm (speaks_at t who from asks.1) (list_of (Instruction-F.TransferReserveAsset list dest xcm) asks.2) (inside_of (Instruction-F.TransferReserveAsset list dest xcm) asks.2) free) from k) which
  called_safely (MachineCall.Respond info answer querier) t which asks from free k = ⊎_elim (λ (early : ⊥). absurd early) (λ (agrees : Agrees n). sends_on (MachineCall.Respond info answer querier) t (report_sends n agrees (pooled t) info answer querier free) from k) which
  called_safely (MachineCall.Answer who query) t which asks from free k = gives none none (MachineCall.Answer who query) t (answering t.part who query) (λ q. omega arith) from k
  called_safely (MachineCall.Dispatch account call) t which asks from free k =
      moves_on (λ w. w ≡ account) none none (MachineCall.Dispatch account call) t (dispatching t.part account call)
      (λ w same. let spoken = asks.1 in (spoken.0, speaks_at t spoken.0 from spoken.1, ap (λ (t : MachineWithGoods). account_of spoken.0 t.part.site) asks.0 ∙ spoken.2 ∙ ap Some (sym same))) (λ q. omega arith) from k
  called_safely (MachineCall.KeepBack e) t which asks from free k = gives none none (MachineCall.KeepBack e) t (still t.part (effect (MachineCall.KeepBack e) t) refl) (λ q. omega arith) from k
  called_safely (MachineCall.Lock asset who unlocker) t which asks from free k = ⊎_elim (λ (early : ⊥). absurd early) (λ (agrees : Agrees n). sends_on (MachineCall.Lock asset who unlocker) t (lock_sends n agrees (pooled t) asset who unlocker free) from k) which
  called_safely (MachineCall.Unlock asset target who) t which asks from free k = gives none none (MachineCall.Unlock asset target who) t (unlocking t.part asset target who) (λ q. omega arith) from k
  called_safely (MachineCall.Note asset owner who) t which asks from free k = gives none none (MachineCall.Note asset owner who) t (noting t.part asset owner who) (λ q. omega arith) from k
  called_safely (MachineCall.Request asset who locker) t which asks from free k = ⊎_elim (λ (early : ⊥). absurd early) (λ (agrees : Agrees n). sends_on (MachineCall.Request asset who locker) t (request_sends n agrees (pooled t) asset who locker free) from k) which
  called_safely MachineCall.HoldFee t which asks from free k = gives (sum_of t.goods) none MachineCall.HoldFee t (holding_fee t.part t.goods (asks.3 ∙ steady.rest.slot)) (λ q. let z = total-empty unit_keys q in omega (arith, z)) from k
  called_safely MachineCall.TakeFee t which asks from free k = gives none (sum_of t.part.fee_slot) MachineCall.TakeFee t (taking_fee t.part) (λ q. let z = nothing_in_hand t asks q in omega (arith, z)) from k
  called_safely MachineCall.KeepFee t which asks from free k = gives none none MachineCall.KeepFee t (keeping t.part (room_with (hold (pooled t)) none t.part (room_at t k) (λ q. omega arith))) (λ q. omega arith) from k
  called_safely MachineCall.Park t which asks from free k = gives (sum_of t.goods) none MachineCall.Park t (parking_goods t.part t.goods) (λ q. let z = total-empty unit_keys q in omega (arith, z)) from k
  called_safely MachineCall.Empty t which asks from free k = absurd (cc asks.0)
  called_safely (MachineCall.Tell e) t which asks from free k = absurd (cc asks.0)
  called_safely MachineCall.Settle t which asks from free k = absurd (cc asks.0)
  called_safely (MachineCall.Trap who) t which asks from free k = absurd (cc asks)

  -- other registers than the holding
  other_registers : (r : Registers) (k : Machine) → Safely m k → Safely m (machine (with_holding r k.regs.holding) k.part)
  other_registers r k s = record { site = s.site; rows = s.rows; safe = s.safe; units = s.units; burns = s.burns; trusted = s.trusted; links = s.links; cargo = s.cargo }

  pub turned_safely : (t : MachineWithGoods) → IsFrom m t → IsSafely t → IsSafely (turned_at l m t)
  turned_safely t from k = subst (λ (b : Bundle). Safely m (machine (with_holding (turned l m t.regs) (merge b t.goods)) t.part)) (sym (turns l m t from).holding) (other_registers (turned l m t.regs) (pooled t) k)

  pub at_first : IsSafely (between m)
  at_first = subst (Safely m) (sym (pooled_between m)) (turn_safely m m fine.spared (same_turn m m refl refl))

  -- ---- where memory stops one
  pub spilled_safely : (now : Machine) → LeftOnOom l m now → Safely m now
  spilled_safely now s = subst (Safely m) (pooled_between now) (lead_keeps l m IsSafely (λ c t early. called_safely c t (inl early)) now (spilled_lead l m now s) at_first)

  -- ---- an accepted instruction
  pub safely_done : Agrees n → refused l m ≡ None → Safely m (done l m)
  safely_done agrees ok = subst (Safely m) (pooled_between (done l m)) (done_keeps l m IsSafely (λ c t. called_safely c t (inr agrees)) turned_safely ok at_first)
