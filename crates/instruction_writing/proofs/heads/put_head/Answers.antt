use Rattle.std.proofs.Common.{rules}
use Rattle.xcm_program.specs.declared.instruction.Instruction.{out-Instruction}
use Rattle.instruction_writing.proofs.WriteLaws.{head_put}
use Rattle.instruction_writing.proofs.heads.put_head.Goals as goal

pub returns : goal.returns
returns c = head_put c.put_fields.result c.args.v (out-Instruction c.args.i.now) c.args.o.now c.put_u8.new.self c.put_fields.new.o (search rules) (search rules) c.put_fields.ensures
