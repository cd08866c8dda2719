-- What a line asks for. Source: this project's own rule; hex, comments and empty lines are those of the lines of steps.
use Rattle.std.specs.Prelude.{List, ℕ, Option, Some, None, if◌then◌else◌}
use Rattle.input_lines.specs.Step.{is_no_step, message_word}
use Rattle.xcm_explain.specs.declared.line.HexLine.{HexLine}
use Rattle.xcm_explain.specs.declared.line.HexLine.TheVariants.{Blank, Bytes, NotHex}

-- the bytes of a message, or no hex
abbrev pub bytes_line : Option (List ℕ) → HexLine
bytes_line (Some bytes) = Bytes bytes
bytes_line None = NotHex

-- what a line asks for, of the text without its line feed and the carriage return before it
unfoldable pub hex_line : List ℕ → HexLine
hex_line text = if is_no_step text then Blank else bytes_line (message_word text)
