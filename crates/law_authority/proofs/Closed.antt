-- On a chain where nothing may be locked.
use Rattle.std.proofs.Common.{◌≡◌, Bool, true, false, List, Option, Some, None, refl, sym, ◌∙◌}
use Rattle.locations.specs.declared.relative.Location.{Location}
use Rattle.operands.specs.declared.error.XcmError.{XcmError}
use Rattle.operands.specs.declared.error.XcmError.TheVariants as error
use Rattle.operands.specs.declared.weight.Weight.{Weight}
use Rattle.asset_lists.specs.declared.units.Asset.{Asset}
use Rattle.asset_locks.specs.LockMaps.{LocksAndNotes}
use Rattle.xcm_program.specs.declared.instruction.Instruction.{Instruction}
use Rattle.xcm_program.specs.declared.instruction.Instruction.TheOpen.{Instruction-F}
use Rattle.exec_base.specs.Part.{ChainPart}
use Rattle.exec_base.specs.Sending.{unless}
use Rattle.exec_base.specs.Host.{where_locks, lock_refusal, unlock_refusal, note_refusal, request_refusal}
use Rattle.exec_rules.specs.Machine.{Machine}
use Rattle.exec_rules.specs.Holdings.{with_origin}
use Rattle.exec_rules.specs.Instructions.{refused}
use Rattle.exec_rules.specs.declared.rules.ChainRules.{ChainRules}
use Rattle.exec_rules.specs.Execution.{executed, IsAbandoned}
use Rattle.exec_rules.specs.HostCalls.{MachineWithGoods, MachineCall, why_not, after}
use Rattle.exec_rules.specs.Kept.{IsKeptByCalls}
use Rattle.exec_rules.proofs.Lemmas.KeptLaws.{any_kind, keeps_executed, keeps_abandoned}

-- ---- the four instructions
closed : (b : Bool) (next : Option XcmError) → b ≡ false → unless b error.LockError next ≡ Some error.LockError
closed true next off = absurd (cc off)
closed false next off = refl

by_origin : (o : Option Location) (p : ChainPart) (rule : Location → Option XcmError) → p.locks ≡ false → with_origin o (λ who. where_locks p (rule who)) ≡ with_origin o (λ who. Some error.LockError)
by_origin None p rule off = refl
by_origin (Some who) p rule off = closed p.locks (rule who) off

module _ (m : Machine) (off : m.part.locks ≡ false) (a : Asset) (place : Location) where
  pub refused_lock : refused (Instruction-F.LockAsset a place) m ≡ with_origin m.regs.origin (λ who. Some error.LockError)
  refused_lock = by_origin m.regs.origin m.part _ off

  pub refused_unlock : refused (Instruction-F.UnlockAsset a place) m ≡ with_origin m.regs.origin (λ who. Some error.LockError)
  unfolding unlock_refusal
  refused_unlock = by_origin m.regs.origin m.part _ off

  pub refused_note : refused (Instruction-F.NoteUnlockable a place) m ≡ with_origin m.regs.origin (λ who. Some error.LockError)
  unfolding note_refusal
  refused_note = by_origin m.regs.origin m.part _ off

  pub refused_request : refused (Instruction-F.RequestUnlock a place) m ≡ with_origin m.regs.origin (λ who. Some error.LockError)
  refused_request = by_origin m.regs.origin m.part _ off

-- ---- executions
record Closed (start : LocksAndNotes) (t : MachineWithGoods) : Type 0 where
  off : t.part.locks ≡ false
  same : t.part.locked ≡ start

never : (p : ChainPart) (next : Option XcmError) → p.locks ≡ false → where_locks p next ≡ None → ⊥
never p next off ok = let no_way : Some error.LockError ≡ None = sym (closed p.locks next off) ∙ ok in cc no_way

closed_called : (start : LocksAndNotes) (c : MachineCall) (t : MachineWithGoods) → why_not c t ≡ None → Closed start t → Closed start (after c t)
unfolding lock_refusal unlock_refusal note_refusal request_refusal
closed_called start (MachineCall.Lock a owner unlocker) t ok h = absurd (never t.part _ h.off ok)
closed_called start (MachineCall.Unlock a target from) t ok h = absurd (never t.part _ h.off ok)
closed_called start (MachineCall.Note a owner from) t ok h = absurd (never t.part _ h.off ok)
closed_called start (MachineCall.Request a owner locker) t ok h = absurd (never t.part _ h.off ok)
closed_called start _ t ok h = record { off = h.off; same = h.same }

closed_is_kept : (start : LocksAndNotes) → IsKeptByCalls any_kind (Closed start)
closed_is_kept start = record { refunds = tt; called = λ x l is q moment m t c k asks from ok h. closed_called start c t ok h; turned = λ t r turns h. record { off = h.off; same = h.same } }

module _ (rules : ChainRules) (origin : Location) (credit : Weight) (program : List Instruction) (p : ChainPart) (off : p.locks ≡ false) where
  pub executed_closed : (executed rules origin credit program p).1.locked ≡ p.locked
  executed_closed = (keeps_executed (Closed p.locked) (closed_is_kept p.locked) rules origin credit program p (record { off = off; same = refl })).kept.same

  pub stopped_closed : (now : ChainPart) → IsAbandoned rules origin credit program p now → now.locked ≡ p.locked
  stopped_closed now h = (keeps_abandoned (Closed p.locked) (closed_is_kept p.locked) rules origin credit program p now h (record { off = off; same = refl })).kept.same
