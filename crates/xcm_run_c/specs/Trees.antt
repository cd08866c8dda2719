-- What a caller is told of a message. This project's own rule.
use Rattle.std.specs.Prelude.{ℕ, List, ◌++◌, Result, Ok, Err, codes}
use Rattle.xcm_program.specs.declared.instruction.Instruction.{Instruction}
use Rattle.versioned_xcm.specs.declared.faults.MessageFault.{MessageFault}
use Rattle.versioned_xcm.specs.Message.{message_fault_text}
use Rattle.versioned_xcm.specs.Reading.{message_of}
use Rattle.message_text.specs.Messages.{program_text}

-- a text, and the number that a call answers with it
pub record Told : Type 0 where
  pub text : List ℕ
  pub number : ℕ

-- the tree of a program and 0, or why the bytes are no message and 4
abbrev pub tree_answer : Result (List Instruction) MessageFault → Told
tree_answer (Ok program) = record { text = program_text 0 program; number = 0 }
tree_answer (Err fault) = record { text = message_fault_text fault ++ codes "\n"; number = 4 }

-- of these bytes
abbrev pub told_of_bytes : List ℕ → Told
told_of_bytes bytes = tree_answer (message_of bytes)
