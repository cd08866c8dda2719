-- Lemmas on the definitions of `specs/HostCalls.antt`: what proofs cite.
use Rattle.std.specs.Prelude.{[], ◌∷◌, ◌++◌}
use Rattle.exec_base.specs.Part.{ChainPart}
use Rattle.exec_base.specs.Host.{withdrawn, deposited, transferred, received, transferred_out, deposited_out, shipped, responded, answered, bought, refunded, bundles_joined, burnt, claimed, trapped, parked, settled, asset_locked, asset_unlocked, asset_noted, asset_requested, fee_held, fee_taken, fee_kept, fee_drawn, told}
use Rattle.exec_base.specs.Calls.{held_dispatched}
use Rattle.exec_base.specs.Pools.{exchanged}
use Rattle.exec_rules.specs.HostCalls.{MachineWithGoods, Join, Withdraw, Draw, Receive, Claim, Refund, Deposit, Burn, Buy, Exchange, DepositOut, Ship, Transfer, TransferOut, Respond, Answer, Dispatch, KeepBack, Lock, Unlock, Note, Request, HoldFee, TakeFee, KeepFee, Park, Tell, Settle, Trap, MachineCall}

-- the part that it leaves, in the words of the host; that it changes no more than these fields is a law
abbrev pub effect : MachineCall → MachineWithGoods → ChainPart
effect MachineCall.Join t = bundles_joined t.part t.regs.holding t.goods
effect (MachineCall.Withdraw list who) t = withdrawn t.part list who
effect (MachineCall.Draw fee who) t = fee_drawn t.part (fee ∷ []) who
effect (MachineCall.Receive list from teleport) t = received t.part list teleport
effect (MachineCall.Claim list who) t = claimed t.part list who
effect (MachineCall.Refund w) t = refunded t.part w
effect (MachineCall.Deposit who) t = deposited t.part t.goods who
effect MachineCall.Burn t = burnt t.part t.goods
effect (MachineCall.Buy w) t = bought t.part w t.goods
effect (MachineCall.Exchange want maximal) t = exchanged t.part t.goods want maximal
effect (MachineCall.DepositOut dest xcm) t = deposited_out t.part t.goods dest xcm
effect (MachineCall.Ship way dest xcm) t = shipped t.part t.goods way dest xcm
effect (MachineCall.Transfer list from to) t = transferred t.part list from to
effect (MachineCall.TransferOut list from dest xcm) t = transferred_out t.part list from dest xcm
effect (MachineCall.Respond info answer querier) t = responded t.part info answer querier
effect (MachineCall.Answer from query) t = answered t.part from query
effect (MachineCall.Dispatch who c) t = record t.part { held = held_dispatched t.part who c }
effect (MachineCall.KeepBack e) t = record t.part { pending_events = t.part.pending_events ++ e ∷ [] }
effect (MachineCall.Lock a owner unlocker) t = asset_locked t.part a owner unlocker
effect (MachineCall.Unlock a target from) t = asset_unlocked t.part a target from
effect (MachineCall.Note a owner from) t = asset_noted t.part a owner from
effect (MachineCall.Request a owner locker) t = asset_requested t.part a owner locker
effect MachineCall.HoldFee t = fee_held t.part t.goods
effect MachineCall.TakeFee t = fee_taken t.part
effect MachineCall.KeepFee t = fee_kept t.part
effect MachineCall.Park t = parked t.part t.goods
effect (MachineCall.Tell e) t = told t.part e
effect MachineCall.Settle t = settled t.part
effect (MachineCall.Trap who) t = trapped t.part t.goods who
effect _ t = t.part
