-- Without an origin.
use Rattle.std.proofs.Common.{◌≡◌, true, Option, Some, None, refl, subst, sym}
use Rattle.locations.specs.declared.relative.Location.{Location}
use Rattle.operands.specs.declared.error.XcmError.TheVariants as error
use Rattle.xcm_program.specs.declared.instruction.Instruction.{Instruction, out-Instruction}
use Rattle.xcm_program.specs.declared.instruction.Instruction.TheOpen.{Instruction-F}
use Rattle.exec_base.specs.declared.registers.Registers.{Registers}
use Rattle.exec_base.specs.Part.{ChainPart}
use Rattle.exec_rules.specs.Machine.{Machine, machine}
use Rattle.exec_rules.specs.Origins.{needs_origin}
use Rattle.exec_rules.specs.Instructions.{refused, refusal_of}

-- where the register is empty the rule computes
refused_there : (l : Instruction-F Instruction) (r : Registers) (p : ChainPart) → needs_origin l ≡ true → refused l (machine (record r { origin = None }) p) ≡ Some error.BadOrigin
refused_there (Instruction-F.WithdrawAsset list) r p h = refl
refused_there _ r p h = cc

refused_without : (l : Instruction-F Instruction) (m : Machine) → needs_origin l ≡ true → m.regs.origin ≡ None → refused l m ≡ Some error.BadOrigin
refused_without l m h e =
    subst (λ (o : Option Location). refused l (machine (record m.regs { origin = o }) m.part) ≡ Some error.BadOrigin) (sym e) (refused_there l m.regs m.part h)

pub without_origin : (x : Instruction) (m : Machine) → needs_origin (out-Instruction x) ≡ true → m.regs.origin ≡ None → refusal_of x m ≡ Some error.BadOrigin
without_origin x m h e = refused_without (out-Instruction x) m h e
