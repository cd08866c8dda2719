-- Lemmas: an accepted instruction for an origin of the chain's own burns no excess, where of each unit no more is there than one bundle may hold. A reader
-- may skip this file.
use Rattle.std.proofs.Common.{◌≡◌, ℕ, inr, sym, subst, ◌+◌, ◌≤◌, List, None, refl, arith}
use Rattle.amounts.specs.Amounts.{total}
use Rattle.asset_bundles.specs.Bundles.{Bundle}
use Rattle.weight_trader.specs.Laws.{MovesAreKept}
use Rattle.xcm_program.specs.declared.instruction.Instruction.{Instruction}
use Rattle.xcm_program.specs.declared.instruction.Instruction.TheOpen.{Instruction-F}
use Rattle.exec_base.specs.Part.{ChainPart}
use Rattle.exec_base.specs.Host.{bundles_joined}
use Rattle.exec_rules.specs.Machine.{Machine}
use Rattle.exec_rules.specs.Holdings.{holding_more}
use Rattle.exec_rules.specs.Instructions.{refused, done, xcm}
use Rattle.exec_rules.specs.Readiness.{IsSteady}
use Rattle.law_runs.specs.Sums.{none, in_places, HasRoom}
use Rattle.law_runs.proofs.Lemmas.Sums.{sum_of, Call}
use Rattle.law_runs.specs.Calls.{Withdraws, Trapping}
use Rattle.law_runs.specs.Safety.{HasList, hold, AreLists, AreFees, MeetsPremises, Safely}
use Rattle.law_runs.specs.Accepted.{IsOwnOrigin}
use Rattle.law_runs.proofs.Lemmas.Accepted.{pooled, hold_pooled, called_safely, turned_safely, at_first}
use Rattle.law_nets.proofs.Fitting.{just_unit, FitsBundle}
use Rattle.law_nets.proofs.Calls.{BurnsNoExcess, same_burns, no_excess_then, settled_no_excess, burnt_no_excess, joined_no_excess, bought_no_excess}
use Rattle.asset_lists.specs.Units.{Unit}
use Rattle.asset_bundles.specs.Joins.{most_of}
use Rattle.xcm_program.specs.Everywhere.{AllInside}
use Rattle.xcm_program.specs.Measure.{inner}
use Rattle.law_coherence.specs.Networks.{Table, Agrees}
use Rattle.exec_rules.specs.HostCalls.{MachineWithGoods, between, MachineCall, after}
use Rattle.exec_rules.proofs.Lemmas.HostCalls.{effect}
use Rattle.exec_rules.proofs.Lemmas.Footprints.{part_is}
use Rattle.exec_rules.proofs.Lemmas.ReasonLaws.{done_keeps}
use Rattle.exec_rules.proofs.Lemmas.Kept.{IsKeptAtEnd}
use Rattle.exec_rules.proofs.Lemmas.KeptLaws.{finished_kept, at_end_kept}
use Rattle.exec_rules.specs.Outcome.{finished, HaltedAtEnd}
use Rattle.exec_rules.specs.Stopping.{leaves_on_oom}
use Rattle.law_runs.proofs.Lemmas.Ending.{IsEnding, begins_ending, ending_is_kept}

-- ---- goods that come are joined to what is held
pub more_no_excess : (may : List ℕ → Type 0) (m : Machine) (p : ChainPart) (goods : Bundle) → Call may none (sum_of goods) m.part p → FitsBundle m → p.burns ≡ m.part.burns → BurnsNoExcess m.part (holding_more m p goods).part
more_no_excess may m p goods x fits same =
    no_excess_then m.part p (bundles_joined p m.regs.holding goods) (same_burns m.part p same)
    (joined_no_excess p m.regs.holding goods (λ u. let moved = x.amounts (just_unit u) in let fit = fits u in omega (arith, moved, fit)))

-- ---- each call

-- of each unit the chain, the holding and the hand have no more than one bundle may hold
abbrev pub FitsInHand : MachineWithGoods → Type 0
FitsInHand t = (u : Unit) → in_places (just_unit u) t.part + (total (just_unit u) t.regs.holding + total (just_unit u) t.goods) ≤ most_of u.1

pub then_called : (p : ChainPart) (c : MachineCall) (t : MachineWithGoods) → BurnsNoExcess p t.part → BurnsNoExcess t.part (effect c t) → BurnsNoExcess p (after c t).part
then_called p c t x y = no_excess_then p t.part (after c t).part x (subst (BurnsNoExcess t.part) (sym (part_is c t)) y)

pub call_no_excess : (p : ChainPart) (c : MachineCall) (t : MachineWithGoods) → FitsInHand t → BurnsNoExcess p t.part → BurnsNoExcess p (after c t).part
call_no_excess p MachineCall.Join t fits x = then_called p MachineCall.Join t x (joined_no_excess t.part t.regs.holding t.goods (λ u. let fit = fits u in omega (arith, fit)))
call_no_excess p MachineCall.Burn t fits x = then_called p MachineCall.Burn t x (burnt_no_excess t.part t.goods)
call_no_excess p (MachineCall.Buy w) t fits x = then_called p (MachineCall.Buy w) t x (bought_no_excess t.part w t.goods (λ u. let fit = fits u in omega (arith, fit)))
call_no_excess p MachineCall.Settle t fits x = then_called p MachineCall.Settle t x (settled_no_excess t.part (λ u. let fit = fits u in omega (arith, fit)))
call_no_excess p _ t fits x = x

-- ---- an instruction
module _ (withdraws : Withdraws) (moves : MovesAreKept) (n : List Table) (l : Instruction-F Instruction) (m : Machine)
    (fine : MeetsPremises n m) (own_origin : IsOwnOrigin m.regs.origin) (steady : IsSteady m) (fees : AreFees m.part.channels) (in_order : HasList Instruction l) (nested : AllInside AreLists (inner l)) where
  abbrev KeepsInHand : MachineWithGoods → Type 0
  KeepsInHand t = Safely m (pooled t) × BurnsNoExcess m.part t.part

  fits_in_hand : (t : MachineWithGoods) → FitsBundle m → Safely m (pooled t) → FitsInHand t
  fits_in_hand t fits x u = let le = x.units (just_unit u) in let e = hold_pooled t (just_unit u) in let fit = fits u in omega (arith, le, e, fit)

  pub done_no_excess : Agrees n → FitsBundle m → refused l m ≡ None → BurnsNoExcess m.part (done l m).part
  done_no_excess agrees fits ok =
      (done_keeps l m KeepsInHand
      (λ c t asks from free k. (called_safely withdraws moves n l m fine own_origin steady fees in_order nested c t (inr agrees) asks from free k.0, call_no_excess m.part c t (fits_in_hand t fits k.0) k.1))
      (λ t from k. (turned_safely withdraws moves n l m fine own_origin steady fees in_order nested t from k.0, k.1)) ok
      (at_first withdraws moves n l m fine own_origin steady fees in_order nested, same_burns m.part m.part refl)).1

-- ---- the end of a run
module _ (moves : MovesAreKept) (trapping : Trapping) (m : Machine) (steady : IsSteady m) (room : HasRoom (hold m) m.part) (fits : FitsBundle m) where
  abbrev EndsInHand : MachineWithGoods → Type 0
  EndsInHand t = IsEnding m t × BurnsNoExcess m.part t.part

  fits_at_end : (t : MachineWithGoods) → IsEnding m t → FitsInHand t
  fits_at_end t e u = let moved = e.call.amounts (just_unit u) in let sum = hold_pooled t (just_unit u) in let fit = fits u in omega (arith, moved, sum, fit)

  no_excess_at_end : IsKeptAtEnd EndsInHand
  no_excess_at_end =
      let ending = ending_is_kept moves trapping m room in
      record {
        closing = λ k t c before asks comes from ok e. (ending.closing k t c before.0 asks comes from ok e.0, call_no_excess m.part c t (fits_at_end t e.0) e.1);
        closed = λ t r holding origin e. (ending.closed t r holding origin e.0, e.1);
      }

  starts_ending : EndsInHand (between m)
  starts_ending = (begins_ending m steady.rest.order.paid, same_burns m.part m.part refl)

  pub finished_no_excess : BurnsNoExcess m.part (finished xcm m)
  finished_no_excess = (finished_kept EndsInHand no_excess_at_end m starts_ending).kept.1

  -- also where memory stops it
  pub halted_no_excess : (now : ChainPart) → HaltedAtEnd xcm leaves_on_oom m now → BurnsNoExcess m.part now
  halted_no_excess now h = (at_end_kept EndsInHand no_excess_at_end m now h starts_ending).kept.1
