use Rattle.std.proofs.Common.{◌≡◌, ◌++◌, string_bytes}
use Rattle.message_text.specs.Lines.{indent}
use Rattle.message_text.proofs.lines.push_indent.Given as goal

abbrev pub invariant-loop : goal.invariant-loop
invariant-loop l = string_bytes l.text ≡ string_bytes l.fn.text ++ indent l.counter
