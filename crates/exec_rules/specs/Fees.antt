-- The delivery fee of the ten instructions that send: one rule around each of them. This project's own rule; the fee in the holding
-- register and the fees mode are the XCM format's.
use Rattle.std.specs.Prelude.{if◌then◌else◌, [], ◌∷◌, Option, Some, None}
use Rattle.locations.specs.declared.relative.Location.{Location}
use Rattle.operands.specs.declared.error.XcmError.{XcmError}
use Rattle.operands.specs.declared.error.XcmError.TheVariants as error
use Rattle.asset_lists.specs.declared.units.Asset.{Asset}
use Rattle.exec_base.specs.Sending.{unless, or_else}
use Rattle.exec_base.specs.Host.{withdraw_refusal, fee_to, fee_held, fee_kept, fee_drawn}
use Rattle.exec_rules.specs.Machine.{Machine, machine}
use Rattle.exec_rules.specs.Holdings.{with_origin, at_origin, holds_asset, holding_paid, payment_of}

-- in fees mode the fee comes from the origin's account, else from the holding
abbrev pub fee_refusal : Machine → Asset → Option XcmError
fee_refusal m fee =
    if m.regs.fees_mode
    then with_origin m.regs.origin (λ who. withdraw_refusal m.part (fee ∷ []) who)
    else unless (holds_asset m fee) error.NotHoldingFees None

-- the fee is in the slot
abbrev pub after_fee : Machine → Asset → Machine
after_fee m fee =
    if m.regs.fees_mode
    then at_origin m.regs.origin (λ who. machine m.regs (fee_held (fee_drawn m.part (fee ∷ []) who) (payment_of fee))) m
    else machine (holding_paid m fee).regs (fee_held m.part (payment_of fee))

abbrev pub refused_around : Option Asset → Machine → (Machine → Option XcmError) → Option XcmError
refused_around None m rule = rule m
refused_around (Some fee) m rule = or_else (fee_refusal m fee) (rule (after_fee m fee))

-- the slot is added to the chain's fees
abbrev pub keeping_fee : Machine → Machine
keeping_fee m = machine m.regs (fee_kept m.part)

abbrev pub done_around : Option Asset → Machine → (Machine → Machine) → Machine
done_around None m change = change m
done_around (Some fee) m change = keeping_fee (change (after_fee m fee))

-- the fee's refusal comes first, and the rule sees holding and accounts without the fee
abbrev pub refused_sending : Machine → Location → (Machine → Option XcmError) → Option XcmError
refused_sending m dest rule = refused_around (fee_to m.part dest) m rule

-- the fee is kept where the rest isn't refused
abbrev pub done_sending : Machine → Location → (Machine → Machine) → Machine
done_sending m dest change = done_around (fee_to m.part dest) m change
