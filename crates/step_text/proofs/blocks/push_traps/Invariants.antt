use Rattle.std.proofs.Common.{◌≡◌, ◌++◌, flat_map, string_bytes}
use Rattle.step_text.specs.Blocks.{trap_text}
use Rattle.step_text.proofs.blocks.push_traps.Given as goal

abbrev pub invariant-loop-trap : goal.invariant-loop-trap
invariant-loop-trap l = string_bytes l.text ++ flat_map (trap_text l.chain) l.trap-iterator ≡ string_bytes l.initial.text ++ flat_map (trap_text l.chain) l.store.traps
