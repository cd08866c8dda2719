use Rattle.std.proofs.Common.{◌≡◌, ◌++◌, drop}
use Rattle.network_steps.specs.Genesis.{channels_from}
use Rattle.chain_state.proofs.opening.copies.channels_from.Given as goal

abbrev pub invariant-loop-entry : goal.invariant-loop-entry
invariant-loop-entry l = l.channels.items ++ channels_from l.from (drop l.entry-index l.list) ≡ channels_from l.from l.list
