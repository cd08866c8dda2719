-- Where a run tells no other chain of a lock: LockAsset and RequestUnlock without an origin are refused. This project's own rule.
use Rattle.std.specs.Prelude.{◌≡◌, ⊤, None}
use Rattle.xcm_program.specs.declared.instruction.Instruction.{Instruction, out-Instruction}
use Rattle.xcm_program.specs.declared.instruction.Instruction.TheOpen.{Instruction-F}
use Rattle.exec_rules.specs.Machine.{Machine}
use Rattle.exec_rules.specs.Run.{Stage, At, Ended}

abbrev pub IsMute : Instruction-F Instruction → Machine → Type 0
IsMute (Instruction-F.LockAsset asset unlocker) m = m.regs.origin ≡ None
IsMute (Instruction-F.RequestUnlock asset locker) m = m.regs.origin ≡ None
IsMute _ m = ⊤

abbrev pub MuteAt : Stage → Type 0
MuteAt (At part place x behind m) = IsMute (out-Instruction x) m
MuteAt (Ended m) = ⊤
