-- Instructions that put assets into the holding register and take them out. Source: the XCM format's instruction set, xcm-executor's
-- documentation of the holding register. That a holding may have twice the kinds of a limit, and the tickets of a claim, are this project's
-- own rule.
use Rattle.std.specs.Prelude.{ℕ, ◌+◌, ◌*◌, ◌==◌, ◌&&◌, ◌||◌, nat_le, nat_lt, Bool, true, false, length, List, [], ◌∷◌, Option, Some, None}
use Rattle.std.specs.List.{list_all}
use Rattle.amounts.specs.Amounts.{amount, rows, difference}
use Rattle.locations.specs.declared.grammar.Junction.{Junction}
use Rattle.locations.specs.declared.grammar.Junction.TheVariants.{GeneralIndex}
use Rattle.locations.specs.declared.relative.Location.{Location}
use Rattle.operands.specs.declared.error.XcmError.{XcmError}
use Rattle.operands.specs.declared.error.XcmError.TheVariants as error
use Rattle.operands.specs.declared.weight.Weight.{Weight}
use Rattle.operands.specs.declared.weight.WeightLimit.{WeightLimit}
use Rattle.operands.specs.declared.weight.WeightLimit.TheVariants.{Unlimited, Limited}
use Rattle.asset_lists.specs.declared.units.Asset.{Asset}
use Rattle.asset_lists.specs.declared.units.AssetId.TheVariants.{Concrete}
use Rattle.asset_lists.specs.declared.filters.Filter.{Filter}
use Rattle.asset_lists.specs.Units.{unit_of, amount_of}
use Rattle.asset_bundles.specs.Bundles.{Bundle, bundle_of}
use Rattle.asset_bundles.specs.Filters.{Taken, Left}
use Rattle.asset_bundles.specs.Joins.{Joined}
use Rattle.weight_trader.specs.Refunds.{weight_minus, refund_of}
use Rattle.exec_base.specs.declared.registers.Registers.{Registers}
use Rattle.exec_base.specs.Part.{ChainPart}
use Rattle.exec_base.specs.Sending.{unless}
use Rattle.exec_base.specs.Host.{bundles_joined, buy_refusal, unspent, bought, refund_goods, refunded}
use Rattle.exec_rules.specs.Machine.{Machine, machine}

-- ---- the origin register

-- BadOrigin where it is empty; else the rule is asked with the origin
abbrev pub with_origin : Option Location → (Location → Option XcmError) → Option XcmError
with_origin None rule = Some error.BadOrigin
with_origin (Some who) rule = rule who

-- what is left by a change that goes by the origin
abbrev pub at_origin : Option Location → (Location → Machine) → Machine → Machine
at_origin None change m = m
at_origin (Some who) change m = change who

-- ---- the holding register

abbrev pub with_holding : Registers → Bundle → Registers
with_holding r b = record r { holding = b }

-- so many kinds more don't pass twice the limit
abbrev pub has_room : Machine → ℕ → Bool
has_room m n = nat_le (length (rows m.regs.holding) + n) (2 * m.regs.max_holding)

abbrev pub with_room : Machine → ℕ → Option XcmError → Option XcmError
with_room m n next = unless (has_room m n) error.HoldingWouldOverflow next

-- the holding has the asset in full
abbrev pub holds_asset : Machine → Asset → Bool
holds_asset m a = nat_le (amount_of a) (amount m.regs.holding (unit_of a))

-- it has all of a list in full
abbrev pub holds_list : Machine → List Asset → Bool
holds_list m list = list_all (holds_asset m) list

-- goods from outside are joined to what is held
abbrev pub holding_more : Machine → ChainPart → Bundle → Machine
holding_more m p goods = machine (with_holding m.regs (Joined m.regs.holding goods)) (bundles_joined p m.regs.holding goods)

-- what a filter takes of the holding
abbrev pub taken_of : Machine → Filter → Bundle
taken_of m filter = Taken filter m.regs.holding

-- it was taken out
abbrev pub holding_left : Machine → Filter → ChainPart → Machine
holding_left m filter p = machine (with_holding m.regs (Left filter m.regs.holding)) p

-- one asset, and the holding without it
abbrev pub payment_of : Asset → Bundle
payment_of a = bundle_of (a ∷ [])

abbrev pub holding_paid : Machine → Asset → Machine
holding_paid m a = machine (with_holding m.regs (difference m.regs.holding (payment_of a))) m.part

-- ---- claims

-- no ticket, or that of version 3 or 4
abbrev pub is_ticket : Location → Bool
is_ticket ticket = (ticket.parents == 0) && is_version ticket.interior
  where
    is_version : List Junction → Bool
    is_version [] = true
    is_version (GeneralIndex n ∷ []) = (n == 3) || (n == 4)
    is_version _ = false

-- ---- buying weight

abbrev pub buying_refusal : Machine → Asset → WeightLimit → Option XcmError
buying_refusal m fees Unlimited = None
buying_refusal m fees (Limited w) = unless (holds_asset m fees) error.NotHoldingFees (buy_refusal m.part w (payment_of fees))

-- the payment is taken out, and what is unspent is joined to what is held
abbrev pub buying_done : Machine → Asset → WeightLimit → Machine
buying_done m fees Unlimited = m
buying_done m fees (Limited w) = holding_more (holding_paid m fees) (bought m.part w (payment_of fees)) (unspent m.part w (payment_of fees))

-- ---- refunds

-- the surplus that wasn't refunded yet
abbrev pub not_refunded : Machine → Weight
not_refunded m = weight_minus m.regs.surplus m.regs.refunded

-- what the trader gives back for it, if anything
abbrev pub refund_now : Machine → Option (Location × ℕ)
refund_now m = refund_of (not_refunded m) m.part.lines

abbrev pub holds_some : Machine → Location → Bool
holds_some m coin = nat_lt 0 (amount m.regs.holding (Concrete coin, None))

-- there must be room where the asset isn't held yet
abbrev pub refund_refusal : Machine → Option (Location × ℕ) → Option XcmError
refund_refusal m None = None
refund_refusal m (Some given) = unless (holds_some m given.0 || has_room m 1) error.HoldingWouldOverflow None

abbrev pub refund_joined : Machine → Machine
refund_joined m = holding_more m (refunded m.part (not_refunded m)) (refund_goods m.part (not_refunded m))

-- where nothing is given back, nothing changes
abbrev pub refund_done : Machine → Option (Location × ℕ) → Machine
refund_done m None = m
refund_done m (Some given) = machine (record (refund_joined m).regs { refunded = m.regs.surplus }) (refund_joined m).part
