-- A delivery fee that is charged before an instruction that sends: it is kept where that is done, and goes back where that is refused. This
-- project's own rule.
use Rattle.std.specs.Prelude.{◌≡◌, ◌<◌, Bool, true, false, is_some, length, [], ◌∷◌, Option, Some, None, Result, Ok, Err, ⊤}
use Rattle.std.specs.declared.alloc.AllocError.{AllocError}
use Rattle.amounts.specs.Amounts.{merge}
use Rattle.locations.specs.declared.relative.Location.{Location}
use Rattle.operands.specs.declared.error.XcmError.{XcmError}
use Rattle.asset_lists.specs.declared.units.Asset.{Asset}
use Rattle.asset_bundles.specs.Joins.{IsWithinMost}
use Rattle.exec_base.specs.Host.{deposit_refusal, deposited, fee_taken, fee_drawn}
use Rattle.exec_rules.specs.Machine.{Machine, machine}
use Rattle.exec_rules.specs.Holdings.{with_holding, payment_of}
use Rattle.exec_rules.specs.Fees.{fee_refusal, after_fee, keeping_fee}
use Rattle.exec_rules.specs.Stopping.{fee_parked}

-- the account out of which fees come in fees mode; none where they come out of the holding
abbrev pub paying_account : Bool → Option Location → Option Location
paying_account true origin = origin
paying_account false origin = None

abbrev pub payer : Machine → Option Location
payer m = paying_account m.regs.fees_mode m.regs.origin

-- ---- a fee is charged

-- where it came from can take it back
abbrev pub FitsBack : Option Location → Machine → Asset → Type 0
FitsBack (Some who) m fee = deposit_refusal (fee_drawn m.part (fee ∷ []) who) (payment_of fee) who ≡ None
FitsBack None m fee = IsWithinMost m.regs.holding

abbrev pub Charged : Asset → Machine → Result (Unit {0}) XcmError → Machine → Type 0
Charged fee before (Ok _) now = (fee_refusal before fee ≡ None) × (now ≡ after_fee before fee) × FitsBack (payer before) before fee
Charged fee before (Err e) now = (fee_refusal before fee ≡ Some e) × (now ≡ before)

-- ---- it goes back

-- where the slot goes can take it
abbrev pub SlotFitsBack : Option Location → Machine → Type 0
SlotFitsBack (Some who) m = deposit_refusal (fee_taken m.part) m.part.fee_slot who ≡ None
SlotFitsBack None m = IsWithinMost (merge m.regs.holding m.part.fee_slot)

pub record IsRefundable (m : Machine) : Type 0 where
  pub fits : SlotFitsBack (payer m) m
  pub few : length m.part.parked < 4

-- the slot is put back to where it came from
abbrev pub slot_returned : Option Location → Machine → Machine
slot_returned (Some who) m = machine m.regs (deposited (fee_taken m.part) m.part.fee_slot who)
slot_returned None m = machine (with_holding m.regs (merge m.regs.holding m.part.fee_slot)) (fee_taken m.part)

abbrev pub fee_returned : Machine → Machine
fee_returned m = slot_returned (payer m) m

-- ---- around an instruction that sends

abbrev pub charge_refusal : Option Asset → Machine → Option XcmError
charge_refusal None m = None
charge_refusal (Some fee) m = fee_refusal m fee

-- what the instruction works on: the fee, if there is one, is in the slot
abbrev pub charged_for : Option Asset → Machine → Machine
charged_for None m = m
charged_for (Some fee) m = after_fee m fee

abbrev pub CanGoBack : Option Asset → Machine → Type 0
CanGoBack None m = ⊤
CanGoBack (Some fee) m = FitsBack (payer m) m fee

-- it says whether there is a fee in the slot
abbrev pub Begins : Option Asset → Machine → Result Bool XcmError → Machine → Type 0
Begins fee before (Ok charged) now = (charge_refusal fee before ≡ None) × (charged ≡ is_some fee) × (now ≡ charged_for fee before) × CanGoBack fee before
Begins fee before (Err e) now = (charge_refusal fee before ≡ Some e) × (now ≡ before)

-- how the instruction inside ended decides on the fee
abbrev pub CanEnd : Bool → Result (Unit {0}) XcmError → Machine → Type 0
CanEnd true (Err e) m = IsRefundable m
CanEnd _ _ m = ⊤

abbrev pub Ends : Bool → Result (Unit {0}) XcmError → Machine → Result (Result (Unit {0}) XcmError) AllocError → Machine → Type 0
Ends false inside before answer now = (answer ≡ Ok inside) × (now ≡ before)
Ends true (Ok _) before answer now = (answer ≡ Ok (Ok tt)) × (now ≡ keeping_fee before)
Ends true (Err e) before (Ok answer) now = (answer ≡ Err e) × (now ≡ fee_returned before)
Ends true (Err e) before (Err _) now = now ≡ fee_parked before
