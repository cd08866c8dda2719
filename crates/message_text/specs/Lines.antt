-- The lines of a tree: two spaces a level, then the words of the line. This project's own rule.
use Rattle.std.specs.Prelude.{ℕ, zero, suc, List, [], ◌++◌, codes}
use Rattle.message_text.specs.declared.names.FieldName.{FieldName}
use Rattle.message_text.specs.Names.{name_text}

-- two spaces for each level
abbrev pub indent : ℕ → List ℕ
indent zero = []
indent (suc level) = codes "  " ++ indent level

-- a line at a level
abbrev pub line : ℕ → List ℕ → List ℕ
line level words = indent level ++ (words ++ codes "\n")

-- a field with its value on one line
abbrev pub field : ℕ → FieldName → List ℕ → List ℕ
field level name value = line level (name_text name ++ (codes " " ++ value))
