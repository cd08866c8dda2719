use Rattle.std.proofs.Common.{◌≡◌, ◌++◌, take, string_bytes}
use Rattle.message_text.specs.Fields.{pallet_lines}
use Rattle.message_text.proofs.queries.push_pallets.Given as goal

abbrev pub invariant-loop-pallet : goal.invariant-loop-pallet
invariant-loop-pallet l =
    string_bytes l.text ≡ string_bytes l.initial.text ++ pallet_lines l.level (take l.pallet-index l.pallets)
