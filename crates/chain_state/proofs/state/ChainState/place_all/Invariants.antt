use Rattle.std.proofs.Common.{◌≡◌, take}
use Rattle.amounts.specs.Amounts.{empty}
use Rattle.network_steps.specs.Genesis.{with_balances}
use Rattle.chain_state.specs.PartOf.{part_of}
use Rattle.chain_state.proofs.state.ChainState.place_all.Given as goal

abbrev pub invariant-loop-balance : goal.invariant-loop-balance
invariant-loop-balance l = part_of l.self ≡ record (part_of l.fn.self) { held = with_balances empty (take l.balance-index l.balances) }
