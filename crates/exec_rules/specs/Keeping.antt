-- What every run keeps: a relation between machines that each of its steps keeps; and what a refused instruction leaves.
use Rattle.std.specs.Prelude.{◌≡◌, ℕ, List, [], ◌∷◌, None}
use Rattle.operands.specs.declared.error.XcmError.{XcmError}
use Rattle.std.specs.List.{AllByRecursion}
use Rattle.xcm_program.specs.declared.instruction.Instruction.{Instruction, out-Instruction}
use Rattle.xcm_program.specs.Everywhere.{AllInside}
use Rattle.xcm_program.specs.Weights.{kept}
use Rattle.exec_base.specs.declared.event.Event.{Event}
use Rattle.exec_base.specs.Host.{told}
use Rattle.exec_rules.specs.Machine.{Machine, Rules, Control, control_of}
use Rattle.exec_rules.specs.Run.{Stage, At, Ended, failed, without_handler, without_appendix, handler_dropped}
use Rattle.exec_rules.specs.Accounts.{IsAffordable}

-- a refused instruction changes no register but the error and the surplus, and the handler and the appendix with their weights, of which one
-- is next; and nothing of the chain but what is told
pub record LeavesAll (m n : Machine) : Type 0 where
  pub registers : n.regs ≡ record m.regs {
    error = n.regs.error;
    surplus = n.regs.surplus;
    handler = n.regs.handler;
    handler_weight = n.regs.handler_weight;
    appendix = n.regs.appendix;
    appendix_weight = n.regs.appendix_weight;
  }
  pub chain : n.part ≡ record m.part { events = n.part.events; pending_events = n.part.pending_events }

-- a fact of every instruction that may still run
pub record AllAhead (Q : Instruction → Type 0) (ahead : List Instruction) (c : Control) : Type 0 where
  pub ahead_hold : AllByRecursion Q ahead
  pub handler_holds : AllByRecursion Q c.handler
  pub appendix_holds : AllByRecursion Q c.appendix

abbrev pub IsAheadOf : (Instruction → Type 0) → Stage → Type 0
IsAheadOf Q (At part place x behind m) = AllAhead Q (x ∷ behind) (control_of m.regs)
IsAheadOf Q (Ended m) = AllAhead Q [] (control_of m.regs)

-- it carries over to what an instruction keeps
abbrev pub GoesInside : (Instruction → Type 0) → Type 0
GoesInside Q = (x : Instruction) → Q x → AllInside Q (kept (out-Instruction x))

-- a relation that each step of a run keeps, where its instructions are of one kind
pub record IsKeptByRuns (rules : Rules) (Q : Instruction → Type 0) (R : Machine → Machine → Type 0) : Type 0 where
  pub same : (m : Machine) → R m m
  pub chained : (a b c : Machine) → R a b → R b c → R a c
  pub done : (x : Instruction) (m : Machine) → Q x → IsAffordable x m.regs → rules.refusal_of x m ≡ None → R m (rules.done x m)
  pub told : (e : Event) (m : Machine) → R m (record m { part = told m.part e })
  pub failed_at : (place : ℕ) (e : XcmError) (behind : List Instruction) (m : Machine) → R m (record m { regs = failed place e behind m.regs })
  pub handler_taken : (m : Machine) → R m (record m { regs = without_handler m.regs })
  pub handler_given_up : (m : Machine) → R m (record m { regs = handler_dropped m.regs })
  pub appendix_taken : (m : Machine) → R m (record m { regs = without_appendix m.regs })
