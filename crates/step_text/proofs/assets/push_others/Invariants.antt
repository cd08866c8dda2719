use Rattle.std.proofs.Common.{◌≡◌, ◌++◌, take, flat_map, string_bytes}
use Rattle.step_text.specs.Texts.{next_text}
use Rattle.step_text.proofs.assets.push_others.Given as goal

abbrev pub invariant-loop-asset : goal.invariant-loop-asset
invariant-loop-asset l = string_bytes l.text ≡ string_bytes l.initial.text ++ flat_map next_text (take l.asset-index l.assets)
