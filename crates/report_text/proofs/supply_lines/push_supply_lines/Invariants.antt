use Rattle.std.proofs.Common.{◌≡◌, ◌++◌, flat_map, string_bytes, take}
use Rattle.report_text.specs.Sheets.{supply_written}
use Rattle.report_text.proofs.supply_lines.push_supply_lines.Given as goal

abbrev pub invariant-loop-line : goal.invariant-loop-line
invariant-loop-line l = string_bytes l.text ≡ string_bytes l.initial.text ++ flat_map supply_written (take l.line-index l.lines)
