-- Dispatching a call: what Transact refuses, what it leaves, and where out of memory may stop it. Source: the XCM format's instruction set,
-- xcm-executor's documentation of surplus. The set of calls, what they weigh and the order of refusals are this project's own rule.
use Rattle.std.specs.Prelude.{◌≡◌, ℕ, ◌*◌, Bool, true, false, List, [], ◌∷◌, Option, Some, None, Result, Ok, Err}
use Rattle.locations.specs.declared.relative.Location.{Location}
use Rattle.operands.specs.declared.error.XcmError.{XcmError}
use Rattle.operands.specs.declared.error.XcmError.TheVariants as error
use Rattle.operands.specs.declared.origin.OriginKind.{OriginKind}
use Rattle.operands.specs.declared.origin.OriginKind.TheVariants.{SovereignAccount}
use Rattle.operands.specs.declared.status.MaybeError.{MaybeError}
use Rattle.operands.specs.declared.status.MaybeError.TheVariants as status
use Rattle.operands.specs.declared.weight.Weight.{Weight}
use Rattle.operands.specs.Weights.{is_within}
use Rattle.trust_tables.specs.Accounts.{account_of}
use Rattle.weight_trader.specs.Refunds.{weight_minus}
use Rattle.xcm_program.specs.declared.rule.WeightRule.{WeightRule}
use Rattle.call_dispatch.specs.declared.end.CallEnd.{CallEnd}
use Rattle.call_dispatch.specs.declared.end.CallEnd.TheVariants.{Success, Error}
use Rattle.call_dispatch.specs.declared.faults.CallFault.{CallFault}
use Rattle.call_dispatch.specs.Spelling.{AnyCall}
use Rattle.call_dispatch.specs.Reading.{call_of}
use Rattle.call_dispatch.specs.Units.{units_of}
use Rattle.exec_base.specs.Part.{ChainPart}
use Rattle.exec_base.specs.Sending.{unless}
use Rattle.exec_base.specs.Calls.{dispatch_end, dispatched, IsDispatchedInPart}
use Rattle.exec_rules.specs.Machine.{Machine, machine, weight_added}

-- the call that was read, if one was
abbrev pub read_of : Result AnyCall CallFault → Option AnyCall
read_of (Ok c) = Some c
read_of (Err fault) = None

-- the call that the bytes are, on a chain that serves calls
abbrev pub call_in : Bool → List ℕ → Option AnyCall
call_in true bytes = read_of (call_of bytes)
call_in false bytes = None

-- with which account a call is dispatched: only a sovereign one
abbrev pub account_by : OriginKind → Option (List ℕ) → Option (List ℕ)
account_by SovereignAccount account = account
account_by _ account = None

abbrev pub caller_in : Machine → OriginKind → Location → Option (List ℕ)
caller_in m kind who = account_by kind (account_of who m.part.site)

-- so many unit weights
abbrev pub call_weight : WeightRule → AnyCall → Weight
call_weight rule c = record { ref_time = units_of c * rule.unit.ref_time; proof_size = units_of c * rule.unit.proof_size }

-- what isn't used of the weight that was required
abbrev pub spare_weight : WeightRule → Weight → AnyCall → Weight
spare_weight rule most c = weight_minus most (call_weight rule c)

abbrev pub status_of : CallEnd → MaybeError
status_of Success = status.Success
status_of (Error code) = status.Error (code ∷ [])

-- FailedToDecode where there is no call, BadOrigin where there is no account, MaxWeightInvalid where the call weighs more than was required
abbrev pub call_refusal : WeightRule → Weight → Option AnyCall → Option (List ℕ) → Option XcmError
call_refusal rule most None account = Some error.FailedToDecode
call_refusal rule most (Some c) None = Some error.BadOrigin
call_refusal rule most (Some c) (Some account) = unless (is_within (call_weight rule c) most) error.MaxWeightInvalid None

-- the call is dispatched, and the registers say how it ended and what weight was spared
abbrev pub with_call : Machine → Weight → AnyCall → List ℕ → Machine
with_call m most c account =
    machine (record m.regs { status = status_of (dispatch_end m.part account c); surplus = weight_added m.regs.surplus (spare_weight m.regs.rule most c) })
    (dispatched m.part account c)

abbrev pub call_done : Machine → Weight → Option AnyCall → Option (List ℕ) → Machine
call_done m most None account = m
call_done m most (Some c) None = m
call_done m most (Some c) (Some account) = with_call m most c account

-- a prefix of a batch was done, and the registers are as they were
pub record CallStopped (m : Machine) (c : AnyCall) (account : List ℕ) (now : Machine) : Type 0 where
  pub part : ChainPart
  pub in_part : IsDispatchedInPart m.part account c part
  pub is : now ≡ machine m.regs part

abbrev pub CallStops : Machine → Option AnyCall → Option (List ℕ) → Machine → Type 0
CallStops m None account now = ⊥
CallStops m (Some c) None now = ⊥
CallStops m (Some c) (Some account) now = CallStopped m c account now

abbrev pub CallStopsAt : Machine → OriginKind → List ℕ → Option Location → Machine → Type 0
CallStopsAt m kind bytes None now = ⊥
CallStopsAt m kind bytes (Some who) now = CallStops m (call_in m.part.calls bytes) (caller_in m kind who) now
