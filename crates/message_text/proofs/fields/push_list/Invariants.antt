use Rattle.std.proofs.Common.{◌≡◌, ◌++◌, take, string_bytes}
use Rattle.message_text.specs.Fields.{asset_lines}
use Rattle.message_text.proofs.fields.push_list.Given as goal

abbrev pub invariant-loop-asset : goal.invariant-loop-asset
invariant-loop-asset l =
    string_bytes l.text ≡ string_bytes l.initial.text ++ asset_lines l.level (take l.asset-index l.assets)
