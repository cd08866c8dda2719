use Rattle.std.proofs.Common.{◌≡◌, ◌++◌, drop, string_bytes}
use Rattle.step_text.specs.Blocks.{checking_text}
use Rattle.step_text.proofs.blocks.checking_text.Given as goal

abbrev pub invariant-loop-place : goal.invariant-loop-place
invariant-loop-place l = string_bytes l.text ++ checking_text l.chain (drop l.place l.listed) (drop l.place l.checking) ≡ checking_text l.chain l.listed l.checking
