-- Lemmas on the definitions of `specs/Runs.antt`: what proofs cite.
use Rattle.std.proofs.Common.{◌≡◌, ◌⊎◌, ⊎_elim, ℕ, List, ◌++◌, Option, Some, None, refl, sym, ap, subst, arith}
use Rattle.std.specs.List.{AllByRecursion}
use Rattle.amounts.specs.Amounts.{empty, rows, difference}
use Rattle.amounts.proofs.Lemmas.AmountLaws.{total-empty}
use Rattle.amounts.proofs.Lemmas.{amount-difference}
use Rattle.locations.specs.declared.grammar.Junction.{Junction}
use Rattle.locations.specs.declared.relative.Location.{Location}
use Rattle.operands.specs.declared.weight.Weight.{Weight}
use Rattle.asset_lists.specs.declared.filters.Filter.{Filter}
use Rattle.asset_bundles.specs.Bundles.{Bundle}
use Rattle.asset_bundles.proofs.Lemmas.Bundles.{unit_keys}
use Rattle.asset_bundles.specs.Books.{AreListed}
use Rattle.asset_bundles.specs.Joins.{Joined, IsWithinMost}
use Rattle.asset_bundles.specs.Filters.{Taken, Left}
use Rattle.asset_bundles.proofs.Lemmas.{amount-Joined}
use Rattle.weight_trader.specs.Laws.{MovesAreKept}
use Rattle.xcm_program.specs.declared.instruction.Instruction.{Instruction, out-Instruction}
use Rattle.xcm_program.specs.declared.instruction.Instruction.TheOpen.{Instruction-F}
use Rattle.xcm_program.specs.Everywhere.{AllInside}
use Rattle.xcm_program.specs.Measure.{inner}
use Rattle.xcm_program.specs.Weights.{kept}
use Rattle.xcm_program.proofs.Lemmas.{everywhere_open}
use Rattle.exec_base.specs.declared.event.Event.{Event}
use Rattle.exec_base.specs.declared.registers.Registers.{Registers}
use Rattle.exec_base.specs.Part.{ChainPart}
use Rattle.exec_base.specs.Host.{told}
use Rattle.exec_rules.specs.Machine.{Machine, machine, IsOrderly}
use Rattle.exec_rules.specs.Run.{Stage, failed, without_handler, without_appendix, handler_dropped, steps, machine_of}
use Rattle.exec_rules.specs.Accounts.{IsBalanced}
use Rattle.exec_rules.specs.Outcome.{finished}
use Rattle.exec_rules.specs.Keeping.{IsKeptByRuns, IsAheadOf, GoesInside}
use Rattle.exec_rules.proofs.Lemmas.KeepingLaws.{steps_keep}
use Rattle.exec_rules.specs.Holdings.{payment_of}
use Rattle.exec_rules.specs.Origins.{descended}
use Rattle.exec_rules.specs.Instructions.{refusal_of, done, xcm}
use Rattle.exec_rules.specs.Readiness.{IsSteady}
use Rattle.exec_rules.specs.HostCalls.{MachineWithGoods, MachineCall, after, turned}
use Rattle.exec_rules.specs.Reasons.{Moment, HasReason, TurnsOrigin}
use Rattle.exec_rules.proofs.Lemmas.ReasonLaws.{each_keeps, turns}
use Rattle.law_coherence.specs.Networks.{Table, IsIn, Agrees}
use Rattle.law_runs.specs.Views.{table_of}
use Rattle.law_runs.specs.Sums.{none, HasRoom}
use Rattle.law_runs.proofs.Lemmas.Sums.{sum_of, nobody}
use Rattle.law_runs.specs.Calls.{Withdraws, Trapping}
use Rattle.law_runs.proofs.Lemmas.Calls.{call_with, call_by, telling}
use Rattle.law_runs.specs.Safety.{HasList, AreLists, IsSpared, hold, Safely, HasFee, AreFees}
use Rattle.law_runs.proofs.Lemmas.Safety.{Turn, moved_safely, turn_safely, safely_then, keeps_room, same_table}
use Rattle.law_runs.proofs.Lemmas.Turns.{same_turn, part_turn, by_nobody}
use Rattle.law_runs.proofs.Lemmas.Shipping.{HasList-IsOfLayer}
use Rattle.law_runs.proofs.Lemmas.Ending.{finished_call}
use Rattle.law_runs.specs.Accepted.{IsCaller, IsOwnOrigin}
use Rattle.law_runs.proofs.Lemmas.Accepted.{caller_spared, safely_done}
use Rattle.law_runs.specs.Runs.{Goes, StaysSteady}

-- ---- the origin
abbrev own_origin_in : Registers → Type 0
own_origin_in r = IsOwnOrigin r.origin

below_own_origin : (who : Location) (path : List Junction) → IsCaller who → IsCaller (descended who path)
below_own_origin who path c = record { account = c.account; rest = c.rest ++ path; is = ap (λ (l : Location). descended l path) c.is; own = c.own }

turned_own_origin : (old new : Option Location) → TurnsOrigin old new → IsOwnOrigin old → IsOwnOrigin new
turned_own_origin old new turns h =
    ⊎_elim (λ (e : new ≡ old). subst IsOwnOrigin (sym e) h)
    (λ (rest : (new ≡ None) ⊎ ((who : Location) × (path : List Junction) × (old ≡ Some who) × (new ≡ Some (descended who path)))).
    ⊎_elim (λ (e : new ≡ None). subst IsOwnOrigin (sym e) (λ l is. absurd cc))
    (λ (d : (who : Location) × (path : List Junction) × (old ≡ Some who) × (new ≡ Some (descended who path))).
    subst IsOwnOrigin (sym d.3) (λ l is. let there : descended d.0 d.1 ≡ l = cc in subst IsCaller there (below_own_origin d.0 d.1 (h d.0 d.2)))) rest) turns

called_own_origin : (c : MachineCall) (t : MachineWithGoods) → own_origin_in t.regs → own_origin_in (after c t).regs
called_own_origin (MachineCall.Take filter) t h = h
called_own_origin _ t h = h

pub own_origin_done : (l : Instruction-F Instruction) (m : Machine) → own_origin_in m.regs → own_origin_in (done l m).regs
own_origin_done l m h = each_keeps l m (λ (t : MachineWithGoods). own_origin_in t.regs) (λ c t asks from h. called_own_origin c t h) (λ t from h. turned_own_origin t.regs.origin (turned l m t.regs).origin (turns l m t from).origin h) h

-- ---- the holding
abbrev held_in : Registers → Type 0
held_in r = IsWithinMost r.holding

joined_held : (a b : Bundle) → IsWithinMost (Joined a b)
joined_held a b u = let e = amount-Joined a b u in omega (arith, e)

left_held : (filter : Filter) (b : Bundle) → IsWithinMost b → IsWithinMost (Left filter b)
unfolding Left
left_held filter b within u = let e = amount-difference unit_keys b (Taken filter b) u in let le = within u in omega (arith, e, le)

paid_held : (b c : Bundle) → IsWithinMost b → IsWithinMost (difference b c)
paid_held b c within u = let e = amount-difference unit_keys b c u in let le = within u in omega (arith, e, le)

called_held : (l : Instruction-F Instruction) (m : Machine) (c : MachineCall) (t : MachineWithGoods) → HasReason Moment.Inside l m t c → held_in t.regs → held_in (after c t).regs
called_held l m (MachineCall.Take filter) t asks h = left_held filter t.regs.holding h
called_held l m (MachineCall.Pay a) t asks h = paid_held t.regs.holding (payment_of a) h
called_held l m MachineCall.Join t asks h = joined_held t.regs.holding t.goods
called_held l m MachineCall.Empty t asks h = absurd (cc asks.0)
called_held l m _ t asks h = h

pub held_done : (l : Instruction-F Instruction) (m : Machine) → held_in m.regs → held_in (done l m).regs
held_done l m h = each_keeps l m (λ (t : MachineWithGoods). held_in t.regs) (λ c t asks from h. called_held l m c t asks h) (λ t from h. subst IsWithinMost (sym (turns l m t from).holding) h) h

-- ---- programs
lists_inside : (l : Instruction-F Instruction) (o : Option (List Instruction)) → kept l ≡ o → AllInside AreLists (inner l) → AllInside AreLists o
lists_inside (Instruction-F.SetErrorHandler program) o e h = subst (AllInside AreLists) e h
lists_inside (Instruction-F.SetAppendix program) o e h = subst (AllInside AreLists) e h
lists_inside _ o e h = subst (AllInside AreLists) e tt

pub lists_go_inside : GoesInside AreLists
lists_go_inside x q = lists_inside (out-Instruction x) (kept (out-Instruction x)) refl (everywhere_open HasList HasList-IsOfLayer x q).1

pub registers_go : (n : List Table) (m : Machine) (r : Registers) → r.holding ≡ m.regs.holding → r.origin ≡ m.regs.origin → Goes n m (record m { regs = r })
registers_go n m r holding origin safe = (
  record {
    fine = record {
      spared = subst (λ (o : Option Location). IsSpared (record m { regs = record m.regs { origin = o } })) (sym origin) safe.fine.spared;
      room = subst (λ (b : Bundle). HasRoom (sum_of b) m.part) (sym holding) safe.fine.room;
      listed = subst (AreListed _) (sym holding) safe.fine.listed;
      within = subst IsWithinMost (sym holding) safe.fine.within;
      there = safe.fine.there;
    };
    own_origin = subst IsOwnOrigin (sym origin) safe.own_origin;
    steady = record { rest = safe.steady.rest; holding = subst (AreListed _) (sym holding) safe.steady.holding };
    fees = safe.fees;
  },
  turn_safely m (record m { regs = r }) safe.fine.spared (same_turn m (record m { regs = r }) refl holding),
)

pub told_fees : (p : ChainPart) (e : Event) → AreFees p.channels → AreFees (told p e).channels
unfolding told
told_fees p e all = all

pub told_steady : (m : Machine) (e : Event) → IsSteady m → IsSteady (record m { part = told m.part e })
unfolding told
told_steady m e steady = record {
  rest = record { order = record { traps = steady.rest.order.traps; rates = steady.rest.order.rates; paid = steady.rest.order.paid; pools = steady.rest.order.pools; unparked = steady.rest.order.unparked }; slot = steady.rest.slot };
  holding = steady.holding;
}

pub told_table : (p : ChainPart) (e : Event) → table_of (told p e) ≡ table_of p
unfolding told
told_table p e = refl

told_turn : (m : Machine) (e : Event) → Turn m (record m { part = told m.part e })
told_turn m e = part_turn m (told m.part e) (call_by nobody _ none none m.part (told m.part e) (telling m.part e) (by_nobody m))

module _ (withdraws : Withdraws) (moves : MovesAreKept) (stays : StaysSteady) (n : List Table) (agrees : Agrees n) where
  pub done_goes : (x : Instruction) (m : Machine) → AreLists x → refusal_of x m ≡ None → Goes n m (xcm.done x m)
  done_goes x m lists ok safe =
      let k = xcm.done x m in
      let opened = everywhere_open HasList HasList-IsOfLayer x lists in
      let safely = safely_done withdraws moves n (out-Instruction x) m safe.fine safe.own_origin safe.steady safe.fees opened.0 opened.1 agrees ok in
      let steady = stays x m safe.steady ok in
      let own_origin = own_origin_done (out-Instruction x) m safe.own_origin in (
        record {
          fine = record {
            spared = caller_spared k own_origin;
            room = keeps_room m k safely safe.fine.room;
            listed = steady.holding;
            within = held_done (out-Instruction x) m safe.fine.within;
            there = subst (IsIn n) (sym (same_table m.part k.part safely.site safely.rows)) safe.fine.there;
          };
          own_origin = own_origin;
          steady = steady;
          fees = subst (AllByRecursion HasFee) (sym safely.links) safe.fees;
        },
        safely,
      )

  told_goes : (e : Event) (m : Machine) → Goes n m (record m { part = told m.part e })
  told_goes e m safe =
      let k : Machine = record m { part = told m.part e } in
      let safely = turn_safely m k safe.fine.spared (told_turn m e) in (
        record {
          fine = record {
            spared = caller_spared k safe.own_origin;
            room = keeps_room m k safely safe.fine.room;
            listed = (told_steady m e safe.steady).holding;
            within = safe.fine.within;
            there = subst (IsIn n) (sym (told_table m.part e)) safe.fine.there;
          };
          own_origin = safe.own_origin;
          steady = told_steady m e safe.steady;
          fees = subst (AllByRecursion HasFee) (sym safely.links) safe.fees;
        },
        safely,
      )

  goes_then : (a b c : Machine) → Goes n a b → Goes n b c → Goes n a c
  goes_then a b c x y safe =
      let one = x safe in
      let two = y one.0 in
      (two.0, safely_then a b c one.1 two.1)

  goes_nowhere : (m : Machine) → Goes n m m
  goes_nowhere m safe = (safe, turn_safely m m safe.fine.spared (same_turn m m refl refl))

  pub runs_go : IsKeptByRuns xcm AreLists (Goes n)
  runs_go = record {
    same = goes_nowhere;
    chained = goes_then;
    done = λ x m lists affordable ok. done_goes x m lists ok;
    told = told_goes;
    failed_at = λ place e behind m. registers_go n m (failed place e behind m.regs) refl refl;
    handler_taken = λ m. registers_go n m (without_handler m.regs) refl refl;
    handler_given_up = λ m. registers_go n m (handler_dropped m.regs) refl refl;
    appendix_taken = λ m. registers_go n m (without_appendix m.regs) refl refl;
  }

  -- however far a run comes
  pub steps_go : IsOrderly xcm → (w : Weight) (count : ℕ) (g : Stage) → IsBalanced w g → IsAheadOf AreLists g → Goes n (machine_of g) (machine_of (steps xcm count g))
  steps_go orderly w count g balanced ahead = steps_keep xcm orderly AreLists lists_go_inside (Goes n) runs_go w count g balanced ahead

  -- ---- the end
  -- nothing is held afterwards
  abbrev pub emptied : Machine → Machine
  emptied m = machine (record m.regs { holding = empty }) (finished xcm m)

  pub finished_safely : Trapping → (m : Machine) → IsSteady m → HasRoom (hold m) m.part → Safely m (emptied m)
  finished_safely law m steady room =
      moved_safely nobody m (emptied m) (λ chain number foreign h. h)
      (call_with nobody (hold m) none (hold m) (sum_of empty) m.part (finished xcm m) (finished_call moves law m room steady.rest.order.paid) (λ t. let z = total-empty unit_keys t in omega (arith, z)))
