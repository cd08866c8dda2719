-- Lemmas that proofs cite, in this crate and above it: each call of an instruction has its reason. A reader of the contracts may skip this
-- file.
use Rattle.std.proofs.Common.{◌≡◌, ℕ, Bool, true, false, List, [], ◌∷◌, ◌++◌, Option, Some, None, inl, inr, refl, sym, ap, ◌∙◌, subst, arith}
use Rattle.amounts.specs.Amounts.{IsWithin}
use Rattle.amounts.proofs.Lemmas.{amount-difference}
use Rattle.std.specs.List.{AllByRecursion}
use Rattle.std.specs.Prelude.{if◌then◌else◌, nat_le, length}
use Rattle.locations.specs.declared.grammar.Junction.{Junction}
use Rattle.locations.specs.declared.relative.Location.{Location}
use Rattle.operands.specs.declared.error.XcmError.{XcmError}
use Rattle.operands.specs.declared.pallet.PalletInfo.{PalletInfo}
use Rattle.operands.specs.declared.origin.OriginKind.{OriginKind}
use Rattle.operands.specs.declared.query.QueryInfo.{QueryInfo}
use Rattle.operands.specs.declared.query.Response.TheVariants as response
use Rattle.operands.specs.declared.weight.Weight.{Weight}
use Rattle.operands.specs.declared.weight.WeightLimit.{WeightLimit}
use Rattle.operands.specs.declared.weight.WeightLimit.TheVariants.{Unlimited, Limited}
use Rattle.asset_lists.specs.declared.units.Asset.{Asset}
use Rattle.asset_lists.specs.declared.filters.Filter.{Filter}
use Rattle.asset_bundles.specs.Bundles.{Bundle}
use Rattle.asset_bundles.proofs.Lemmas.Bundles.{unit_keys}
use Rattle.asset_bundles.specs.Filters.{Taken}
use Rattle.asset_bundles.proofs.Lemmas.{Taken-within}
use Rattle.xcm_program.specs.declared.instruction.Instruction.{Instruction}
use Rattle.xcm_program.specs.declared.instruction.Instruction.TheOpen.{Instruction-F}
use Rattle.trust_tables.specs.Accounts.{account_of}
use Rattle.call_dispatch.specs.Spelling.{AnyCall}
use Rattle.exec_base.specs.declared.registers.Registers.{Registers}
use Rattle.exec_base.specs.Sending.{or_else}
use Rattle.exec_base.specs.Host.{fee_to, fee_held, fee_drawn}
use Rattle.exec_rules.specs.Machine.{Machine, machine}
use Rattle.exec_rules.proofs.Lemmas.AnswerLaws.{none_first, none_next}
use Rattle.exec_rules.specs.Holdings.{at_origin, with_holding, holding_paid, payment_of, refund_now}
use Rattle.exec_rules.specs.Fees.{after_fee}
use Rattle.exec_rules.specs.Reports.{reported_list}
use Rattle.exec_rules.specs.Calls.{account_by, call_in, caller_in}
use Rattle.exec_rules.specs.Expectations.{pallet_at}
use Rattle.exec_rules.specs.Instructions.{refused, done}
use Rattle.exec_rules.specs.HostCalls.{MachineWithGoods, between, MachineCall, why_not, after, after_all, refusal_along, size_tests, for_origin, charge, around, buying, refunding, report_calls, holding_report, pallet_tests, calls, dispatching, call_noted, call_noted_for, refund_noted, below_origin, turned, turned_at}
use Rattle.exec_rules.proofs.Lemmas.CallLaws.{charge_after, refused_is, done_is}
use Rattle.exec_rules.specs.Reasons.{IsFrom, Turns, destination, IsFee, IsReport, Moment, HasReason, HaveReasons, ComesBeforeStop, IsLedTo, SpeaksBy}

-- ---- no call changes other registers, or what the document says
pub from_itself : (m : Machine) → IsFrom m (between m)
from_itself m = record { regs = refl; settings = refl }

other_holding : (m : Machine) (r : Registers) (b : Bundle) → r ≡ with_holding m.regs r.holding → with_holding r b ≡ with_holding m.regs b
other_holding m r b e = ap (λ (r : Registers). with_holding r b) e

pub from_after : (c : MachineCall) (m : Machine) (t : MachineWithGoods) → IsFrom m t → IsFrom m (after c t)
from_after (MachineCall.Take filter) m t f = record { regs = other_holding m t.regs _ f.regs; settings = f.settings }
from_after (MachineCall.Pay a) m t f = record { regs = other_holding m t.regs _ f.regs; settings = f.settings }
from_after MachineCall.Join m t f = record { regs = other_holding m t.regs _ f.regs; settings = f.settings }
from_after MachineCall.Empty m t f = record { regs = other_holding m t.regs _ f.regs; settings = f.settings }
from_after _ m t f = record { regs = f.regs; settings = f.settings }

-- ---- an instruction's registers
pub stays_origin : (old new : Registers) → new.holding ≡ old.holding → new.origin ≡ old.origin → Turns old new
stays_origin old new holding origin = record { holding = holding; origin = inl origin }

refund_turns : (m : Machine) (o : Option (Location × ℕ)) (r : Registers) → Turns r (refund_noted m o r)
refund_turns m None r = stays_origin r r refl refl
refund_turns m (Some given) r = stays_origin r _ refl refl

below_turns : (o : Option Location) (path : List Junction) (r : Registers) → r.origin ≡ o → Turns r (below_origin o path r)
below_turns None path r is = stays_origin r r refl refl
below_turns (Some who) path r is = record { holding = refl; origin = inr (inr (who, path, is, refl)) }

call_turns : (m : Machine) (most : Weight) (c : Option AnyCall) (o : Option (List ℕ)) (r : Registers) → Turns r (call_noted m most c o r)
call_turns m most None o r = stays_origin r r refl refl
call_turns m most (Some c) None r = stays_origin r r refl refl
call_turns m most (Some c) (Some account) r = stays_origin r _ refl refl

call_turns_for : (o : Option Location) (m : Machine) (kind : OriginKind) (most : Weight) (bytes : List ℕ) (r : Registers) → Turns r (call_noted_for o m kind most bytes r)
call_turns_for None m kind most bytes r = stays_origin r r refl refl
call_turns_for (Some who) m kind most bytes r = call_turns m most (call_in m.part.calls bytes) (caller_in m kind who) r

pub turns : (l : Instruction-F Instruction) (m : Machine) (t : MachineWithGoods) → IsFrom m t → Turns t.regs (turned l m t.regs)
turns Instruction-F.RefundSurplus m t f = refund_turns m (refund_now m) t.regs
turns Instruction-F.ClearOrigin m t f = record { holding = refl; origin = inr (inl refl) }
turns (Instruction-F.DescendOrigin path) m t f = below_turns m.regs.origin path t.regs (ap (λ (r : Registers). r.origin) f.regs)
turns (Instruction-F.Transact kind most bytes) m t f = call_turns_for m.regs.origin m kind most bytes t.regs
turns l m t f = stays_origin t.regs _ refl refl

-- ---- some calls and then others
pub asked_both : (l : Instruction-F Instruction) (m : Machine) (xs ys : List MachineCall) (t : MachineWithGoods) → HaveReasons l m xs t → HaveReasons l m ys (after_all xs t) → HaveReasons l m (xs ++ ys) t
asked_both l m [] ys t a b = b
asked_both l m (c ∷ xs) ys t a b = (a.0, asked_both l m xs ys (after c t) a.1 b)

pub early_both : (xs ys : List MachineCall) → AllByRecursion ComesBeforeStop xs → AllByRecursion ComesBeforeStop ys → AllByRecursion ComesBeforeStop (xs ++ ys)
early_both [] ys a b = b
early_both (c ∷ xs) ys a b = (a.0, early_both xs ys a.1 b)

module _ (l : Instruction-F Instruction) (m : Machine) where
  for_origin_asked : (o : Option Location) (made : Location → List MachineCall) (t : MachineWithGoods) → m.regs.origin ≡ o → ((who : Location) → m.regs.origin ≡ Some who → HaveReasons l m (made who) t) → HaveReasons l m (for_origin o made) t
  for_origin_asked None made t is asked = (refl, tt)
  for_origin_asked (Some who) made t is asked = asked who is

  -- ---- the fee
  pub charge_asked : (fee : Asset) → IsFee l m fee → HaveReasons l m (charge m fee) (between m)
  charge_asked fee is = by_mode m.regs.fees_mode
    where
      by_mode : (b : Bool) → HaveReasons l m (if b then for_origin m.regs.origin (λ who. MachineCall.Draw fee who ∷ MachineCall.HoldFee ∷ []) else MachineCall.Pay fee ∷ MachineCall.HoldFee ∷ []) (between m)
      by_mode true = for_origin_asked m.regs.origin _ (between m) refl (λ who speaks. ((refl, speaks, is), ((fee, is, refl, refl), tt)))
      by_mode false = ((refl, inl is), ((fee, is, refl, refl), tt))

  pub charge_early : (fee : Asset) → AllByRecursion ComesBeforeStop (charge m fee)
  charge_early fee = by_mode m.regs.fees_mode
    where
      by_account : (o : Option Location) → AllByRecursion ComesBeforeStop (for_origin o (λ who. MachineCall.Draw fee who ∷ MachineCall.HoldFee ∷ []))
      by_account None = (tt, tt)
      by_account (Some who) = (tt, (tt, tt))

      by_mode : (b : Bool) → AllByRecursion ComesBeforeStop (if b then for_origin m.regs.origin (λ who. MachineCall.Draw fee who ∷ MachineCall.HoldFee ∷ []) else MachineCall.Pay fee ∷ MachineCall.HoldFee ∷ [])
      by_mode true = by_account m.regs.origin
      by_mode false = (tt, (tt, tt))

  charge_channels : (fee : Asset) → (after_fee m fee).part.channels ≡ m.part.channels
  unfolding fee_held fee_drawn
  charge_channels fee = by_mode m.regs.fees_mode
    where
      by_account : (o : Option Location) → (at_origin o (λ who. machine m.regs (fee_held (fee_drawn m.part (fee ∷ []) who) (payment_of fee))) m).part.channels ≡ m.part.channels
      by_account None = refl
      by_account (Some who) = refl

      by_mode : (b : Bool) → (if b then at_origin m.regs.origin (λ who. machine m.regs (fee_held (fee_drawn m.part (fee ∷ []) who) (payment_of fee))) m else machine (holding_paid m fee).regs (fee_held m.part (payment_of fee))).part.channels ≡ m.part.channels
      by_mode true = by_account m.regs.origin
      by_mode false = refl

  charge_origin : (fee : Asset) → (after_fee m fee).regs.origin ≡ m.regs.origin
  charge_origin fee = by_mode m.regs.fees_mode
    where
      by_account : (o : Option Location) → (at_origin o (λ who. machine m.regs (fee_held (fee_drawn m.part (fee ∷ []) who) (payment_of fee))) m).regs.origin ≡ m.regs.origin
      by_account None = refl
      by_account (Some who) = refl

      by_mode : (b : Bool) → (if b then at_origin m.regs.origin (λ who. machine m.regs (fee_held (fee_drawn m.part (fee ∷ []) who) (payment_of fee))) m else machine (holding_paid m fee).regs (fee_held m.part (payment_of fee))).regs.origin ≡ m.regs.origin
      by_mode true = by_account m.regs.origin
      by_mode false = refl

  -- a fee leaves no more in the holding
  charge_within : (fee : Asset) → IsWithin (after_fee m fee).regs.holding m.regs.holding
  charge_within fee = by_mode m.regs.fees_mode
    where
      by_account : (o : Option Location) → IsWithin (at_origin o (λ who. machine m.regs (fee_held (fee_drawn m.part (fee ∷ []) who) (payment_of fee))) m).regs.holding m.regs.holding
      by_account None u = omega arith
      by_account (Some who) u = omega arith

      by_mode : (b : Bool) → IsWithin (if b then at_origin m.regs.origin (λ who. machine m.regs (fee_held (fee_drawn m.part (fee ∷ []) who) (payment_of fee))) m else machine (holding_paid m fee).regs (fee_held m.part (payment_of fee))).regs.holding m.regs.holding
      by_mode true u = by_account m.regs.origin u
      by_mode false u = let e = amount-difference unit_keys m.regs.holding (payment_of fee) u in omega (arith, e)

  taken_first : (n : Machine) (filter : Filter) → IsWithin n.regs.holding m.regs.holding → IsWithin (Taken filter n.regs.holding) m.regs.holding
  taken_first n filter less u = let taken = Taken-within filter n.regs.holding u in let held = less u in omega (arith, taken, held)

  around_asked : (dest : Location) (o : Option Asset) (inside : Machine → List MachineCall) → destination l ≡ Some dest → fee_to m.part dest ≡ o
      → ((n : Machine) → n.part.channels ≡ m.part.channels → n.regs.origin ≡ m.regs.origin → IsWithin n.regs.holding m.regs.holding → HaveReasons l m (inside n) (between n)) → HaveReasons l m (around o m inside) (between m)
  around_asked dest None inside goes is asked = asked m refl refl (λ u. omega arith)
  around_asked dest (Some fee) inside goes is asked =
      let n = after_fee m fee in
      asked_both l m (charge m fee) (inside n ++ MachineCall.KeepFee ∷ []) (between m) (charge_asked fee (dest, goes, is))
      (subst (HaveReasons l m (inside n ++ MachineCall.KeepFee ∷ [])) (sym (charge_after m fee))
      (asked_both l m (inside n) (MachineCall.KeepFee ∷ []) (between n) (asked n (charge_channels fee) (charge_origin fee) (charge_within fee)) (tt, tt)))

  holding_asked : (n : Machine) (info : QueryInfo) (o : Option (List Asset)) → IsReport l info → n.part.channels ≡ m.part.channels → n.regs.origin ≡ m.regs.origin → HaveReasons l m (holding_report n info o) (between n)
  holding_asked n info None reports unsent same = (refl, tt)
  holding_asked n info (Some list) reports unsent same = by_length (nat_le (length list) 20)
    where
      by_length : (b : Bool) → HaveReasons l m (size_tests n info b ++ report_calls n info (response.Assets list)) (between n)
      by_length true = ((unsent, same, reports), tt)
      by_length false = (refl, (refl, (refl, ((unsent, same, reports), tt))))

-- ---- each instruction
pallet_asked : (l : Instruction-F Instruction) (m : Machine) (o : Option PalletInfo) (name module_name : List ℕ) (major least_minor : ℕ) → HaveReasons l m (pallet_tests o name module_name major least_minor) (between m)
pallet_asked l m None name module_name major least_minor = (refl, tt)
pallet_asked l m (Some info) name module_name major least_minor = (refl, (refl, tt))

buying_asked : (m : Machine) (fees : Asset) (limit : WeightLimit) → HaveReasons (Instruction-F.BuyExecution fees limit) m (buying fees limit) (between m)
buying_asked m fees Unlimited = tt
buying_asked m fees (Limited w) = ((refl, inr (w, refl)), ((fees, refl, refl), (tt, tt)))

refunding_asked : (m : Machine) (o : Option (Location × ℕ)) → HaveReasons Instruction-F.RefundSurplus m (refunding m o) (between m)
refunding_asked m None = tt
refunding_asked m (Some given) = (refl, ((refl, refl), (tt, tt)))

account_is : (kind : OriginKind) (o : Option (List ℕ)) (account : List ℕ) → account_by kind o ≡ Some account → o ≡ Some account
account_is OriginKind.SovereignAccount o account e = e
account_is OriginKind.Native o account e = absurd cc
account_is OriginKind.Superuser o account e = absurd cc
account_is OriginKind.Xcm o account e = absurd cc

pub speaks_by : (m : Machine) (kind : OriginKind) (who : Location) (account : List ℕ) → m.regs.origin ≡ Some who → caller_in m kind who ≡ Some account → SpeaksBy m account
speaks_by m kind who account is e = (who, is, account_is kind (account_of who m.part.site) account e)

dispatching_asked : (m : Machine) (kind : OriginKind) (most : Weight) (bytes : List ℕ) (who : Location) (c : Option AnyCall) (o : Option (List ℕ)) → m.regs.origin ≡ Some who → caller_in m kind who ≡ o
    → HaveReasons (Instruction-F.Transact kind most bytes) m (dispatching m most c o) (between m)
dispatching_asked m kind most bytes who None o is e = (refl, tt)
dispatching_asked m kind most bytes who (Some c) None is e = (refl, tt)
dispatching_asked m kind most bytes who (Some c) (Some account) is e = (refl, ((refl, speaks_by m kind who account is e, tt), (tt, tt)))

pub asked : (l : Instruction-F Instruction) (m : Machine) → HaveReasons l m (calls l m) (between m)
asked (Instruction-F.WithdrawAsset list) m = for_origin_asked (Instruction-F.WithdrawAsset list) m m.regs.origin _ (between m) refl (λ who is. (refl, ((refl, is, refl), (tt, tt))))
asked (Instruction-F.ReserveAssetDeposited list) m = (refl, (refl, ((refl, refl, refl), (tt, tt))))
asked (Instruction-F.ReceiveTeleportedAsset list) m = (refl, (refl, ((refl, refl, refl), (tt, tt))))
asked (Instruction-F.ClaimAsset list ticket) m = for_origin_asked (Instruction-F.ClaimAsset list ticket) m m.regs.origin _ (between m) refl (λ who is. (refl, (refl, ((refl, is, (ticket, refl)), (tt, tt)))))
asked (Instruction-F.DepositAsset filter who) m = (refl, ((filter, refl), tt))
asked (Instruction-F.BurnAsset list) m = (refl, ((list, refl), tt))
asked (Instruction-F.BuyExecution fees limit) m = buying_asked m fees limit
asked Instruction-F.RefundSurplus m = refunding_asked m (refund_now m)
asked (Instruction-F.TransferAsset list who) m = for_origin_asked (Instruction-F.TransferAsset list who) m m.regs.origin _ (between m) refl (λ from is. ((refl, is, refl), tt))
asked (Instruction-F.TransferReserveAsset list dest xcm) m = for_origin_asked (Instruction-F.TransferReserveAsset list dest xcm) m m.regs.origin _ (between m) refl (λ who is. around_asked (Instruction-F.TransferReserveAsset list dest xcm) m dest (fee_to m.part dest) _ refl refl (λ n unsent same less. ((unsent, is, refl), tt)))
asked (Instruction-F.DepositReserveAsset filter dest xcm) m = around_asked (Instruction-F.DepositReserveAsset filter dest xcm) m dest (fee_to m.part dest) _ refl refl (λ n unsent same less. (refl, ((unsent, taken_first (Instruction-F.DepositReserveAsset filter dest xcm) m n filter less, (filter, refl)), tt)))
asked (Instruction-F.InitiateReserveWithdraw filter dest xcm) m = around_asked (Instruction-F.InitiateReserveWithdraw filter dest xcm) m dest (fee_to m.part dest) _ refl refl (λ n unsent same less. (refl, ((unsent, taken_first (Instruction-F.InitiateReserveWithdraw filter dest xcm) m n filter less, (filter, refl)), tt)))
asked (Instruction-F.InitiateTeleport filter dest xcm) m = around_asked (Instruction-F.InitiateTeleport filter dest xcm) m dest (fee_to m.part dest) _ refl refl (λ n unsent same less. (refl, ((unsent, taken_first (Instruction-F.InitiateTeleport filter dest xcm) m n filter less, (filter, refl)), tt)))
asked (Instruction-F.ReportError info) m = around_asked (Instruction-F.ReportError info) m info.destination (fee_to m.part info.destination) _ refl refl (λ n unsent same less. ((unsent, same, refl), tt))
asked (Instruction-F.ReportHolding info filter) m = around_asked (Instruction-F.ReportHolding info filter) m info.destination (fee_to m.part info.destination) _ refl refl (λ n unsent same less. holding_asked (Instruction-F.ReportHolding info filter) m n info (reported_list n info filter) refl unsent same)
asked (Instruction-F.QueryPallet name info) m = around_asked (Instruction-F.QueryPallet name info) m info.destination (fee_to m.part info.destination) _ refl refl (λ n unsent same less. ((unsent, same, refl), tt))
asked (Instruction-F.ReportTransactStatus info) m = around_asked (Instruction-F.ReportTransactStatus info) m info.destination (fee_to m.part info.destination) _ refl refl (λ n unsent same less. ((unsent, same, refl), tt))
asked (Instruction-F.QueryResponse query answer weight querier) m = for_origin_asked (Instruction-F.QueryResponse query answer weight querier) m m.regs.origin _ (between m) refl (λ who is. ((refl, is), tt))
asked (Instruction-F.DescendOrigin path) m = for_origin_asked (Instruction-F.DescendOrigin path) m m.regs.origin _ (between m) refl (λ who is. (refl, tt))
asked (Instruction-F.Trap code) m = (refl, tt)
asked (Instruction-F.ExpectAsset list) m = (refl, tt)
asked (Instruction-F.ExpectOrigin origin) m = (refl, tt)
asked (Instruction-F.ExpectError failure) m = (refl, tt)
asked (Instruction-F.ExpectTransactStatus status) m = (refl, tt)
asked (Instruction-F.ExpectPallet place name module_name major least_minor) m = pallet_asked (Instruction-F.ExpectPallet place name module_name major least_minor) m (pallet_at m place) name module_name major least_minor
asked (Instruction-F.UnpaidExecution limit origin) m = (refl, tt)
asked (Instruction-F.Transact kind most bytes) m = for_origin_asked (Instruction-F.Transact kind most bytes) m m.regs.origin _ (between m) refl
    (λ who is. dispatching_asked m kind most bytes who (call_in m.part.calls bytes) (caller_in m kind who) is refl)
asked (Instruction-F.HrmpNewChannelOpenRequest sender size capacity) m = (refl, tt)
asked (Instruction-F.HrmpChannelAccepted recipient) m = (refl, tt)
asked (Instruction-F.HrmpChannelClosing initiator sender recipient) m = (refl, tt)
asked (Instruction-F.ExchangeAsset filter list maximal) m = (refl, (refl, ((filter, refl, refl), (tt, tt))))
asked (Instruction-F.SubscribeVersion query weight) m = (refl, (refl, tt))
asked Instruction-F.UnsubscribeVersion m = (refl, (refl, tt))
asked (Instruction-F.UniversalOrigin junction) m = (refl, for_origin_asked (Instruction-F.UniversalOrigin junction) m m.regs.origin _ (between m) refl (λ who is. (refl, tt)))
asked (Instruction-F.ExportMessage network path xcm) m = for_origin_asked (Instruction-F.ExportMessage network path xcm) m m.regs.origin _ (between m) refl (λ who is. (refl, tt))
asked (Instruction-F.LockAsset asset unlocker) m = for_origin_asked (Instruction-F.LockAsset asset unlocker) m m.regs.origin _ (between m) refl (λ who is. (refl, around_asked (Instruction-F.LockAsset asset unlocker) m unlocker (fee_to m.part unlocker) _ refl refl (λ n unsent same less. ((unsent, is, refl), tt))))
asked (Instruction-F.UnlockAsset asset target) m = for_origin_asked (Instruction-F.UnlockAsset asset target) m m.regs.origin _ (between m) refl (λ who is. ((is, refl), tt))
asked (Instruction-F.NoteUnlockable asset owner) m = for_origin_asked (Instruction-F.NoteUnlockable asset owner) m m.regs.origin _ (between m) refl (λ who is. ((is, refl), tt))
asked (Instruction-F.RequestUnlock asset locker) m = for_origin_asked (Instruction-F.RequestUnlock asset locker) m m.regs.origin _ (between m) refl (λ who is. (refl, around_asked (Instruction-F.RequestUnlock asset locker) m locker (fee_to m.part locker) _ refl refl (λ n unsent same less. ((unsent, is, refl), tt))))
asked (Instruction-F.AliasOrigin target) m = for_origin_asked (Instruction-F.AliasOrigin target) m m.regs.origin _ (between m) refl (λ who is. (refl, tt))
asked _ m = tt

-- ---- what each call keeps, all calls keep
pub from_all : (m : Machine) (cs : List MachineCall) (t : MachineWithGoods) → IsFrom m t → IsFrom m (after_all cs t)
from_all m [] t f = f
from_all m (c ∷ cs) t f = from_all m cs (after c t) (from_after c m t f)

module _ (l : Instruction-F Instruction) (m : Machine) (K : MachineWithGoods → Type 0) where
  -- where each call is accepted
  module _ (step : (c : MachineCall) (t : MachineWithGoods) → HasReason Moment.Inside l m t c → IsFrom m t → why_not c t ≡ None → K t → K (after c t)) where
    pub kept_along : (cs : List MachineCall) (t : MachineWithGoods) → HaveReasons l m cs t → IsFrom m t → refusal_along cs t ≡ None → K t → K (after_all cs t)
    kept_along [] t a from free k = k
    kept_along (c ∷ cs) t a from free k =
        kept_along cs (after c t) a.1 (from_after c m t from) (none_next (why_not c t) (refusal_along cs (after c t)) free) (step c t a.0 from (none_first (why_not c t) (refusal_along cs (after c t)) free) k)

    -- an accepted instruction, up to its registers
    pub calls_keep : refused l m ≡ None → K (between m) → K (after_all (calls l m) (between m))
    calls_keep free k = kept_along (calls l m) (between m) (asked l m) (from_itself m) (sym (refused_is l m) ∙ free) k

    -- and with them
    pub done_keeps : ((t : MachineWithGoods) → IsFrom m t → K t → K (turned_at l m t)) → refused l m ≡ None → K (between m) → K (between (done l m))
    done_keeps turn free k = subst K (sym (done_is l m)) (turn (after_all (calls l m) (between m)) (from_all m (calls l m) (between m) (from_itself m)) (calls_keep free k))

  -- wherever accepted calls lead, where memory stops an instruction
  module _ (step : (c : MachineCall) (t : MachineWithGoods) → ComesBeforeStop c → HasReason Moment.Inside l m t c → IsFrom m t → why_not c t ≡ None → K t → K (after c t)) where
    led_along : (cs : List MachineCall) (t : MachineWithGoods) → AllByRecursion ComesBeforeStop cs → HaveReasons l m cs t → IsFrom m t → refusal_along cs t ≡ None → K t → K (after_all cs t)
    led_along [] t early a from free k = k
    led_along (c ∷ cs) t early a from free k =
        led_along cs (after c t) early.1 a.1 (from_after c m t from) (none_next (why_not c t) (refusal_along cs (after c t)) free)
        (step c t early.0 a.0 from (none_first (why_not c t) (refusal_along cs (after c t)) free) k)

    pub lead_keeps : (now : Machine) → IsLedTo l m now → K (between m) → K (between now)
    lead_keeps now led k = subst K (sym led.there) (led_along led.made (between m) led.early led.asked (from_itself m) led.free k)

  -- whether or not calls are accepted
  module _ (step : (c : MachineCall) (t : MachineWithGoods) → HasReason Moment.Inside l m t c → IsFrom m t → K t → K (after c t)) where
    each_along : (cs : List MachineCall) (t : MachineWithGoods) → HaveReasons l m cs t → IsFrom m t → K t → K (after_all cs t)
    each_along [] t a from k = k
    each_along (c ∷ cs) t a from k = each_along cs (after c t) a.1 (from_after c m t from) (step c t a.0 from k)

    pub each_keeps : ((t : MachineWithGoods) → IsFrom m t → K t → K (turned_at l m t)) → K (between m) → K (between (done l m))
    each_keeps turn k = subst K (sym (done_is l m)) (turn (after_all (calls l m) (between m)) (from_all m (calls l m) (between m) (from_itself m)) (each_along (calls l m) (between m) (asked l m) (from_itself m) k))

  -- what is said of each refusal is said of the instruction's
  module _ (N : Option XcmError → Type 0) (none : N None) (step : (c : MachineCall) (t : MachineWithGoods) → HasReason Moment.Inside l m t c → IsFrom m t → why_not c t ≡ None → K t → K (after c t))
      (why : (c : MachineCall) (t : MachineWithGoods) → HasReason Moment.Inside l m t c → IsFrom m t → K t → N (why_not c t)) where
    refusal_by : (o rest : Option XcmError) → N o → (o ≡ None → N rest) → N (or_else o rest)
    refusal_by None rest n h = h refl
    refusal_by (Some e) rest n h = n

    refusals_along : (cs : List MachineCall) (t : MachineWithGoods) → HaveReasons l m cs t → IsFrom m t → K t → N (refusal_along cs t)
    refusals_along [] t a from k = none
    refusals_along (c ∷ cs) t a from k =
        refusal_by (why_not c t) (refusal_along cs (after c t)) (why c t a.0 from k) (λ free. refusals_along cs (after c t) a.1 (from_after c m t from) (step c t a.0 from free k))

    pub refusal_shows : K (between m) → N (refused l m)
    refusal_shows k = subst N (sym (refused_is l m)) (refusals_along (calls l m) (between m) (asked l m) (from_itself m) k)
