use Rattle.std.specs.Prelude.{◌≡◌, ℕ, ◌+◌, ◌-◌, ◌^◌, ◌≤◌, min, false}
use Rattle.network_steps.specs.Genesis.{order_of}
use Rattle.network_steps.specs.Sends.{deliveries_left}
use Rattle.chain_net.specs.Nets.{world_of}
use Rattle.chain_net.proofs.Drains.{Made}
use Rattle.chain_net.proofs.net.Net.drain.Given as goal

abbrev pub invariant-deliveries : goal.invariant-deliveries
invariant-deliveries l =
    (l.self.stopped ≡ false) × (l.self.spec ≡ l.fn.self.spec)
    × ((k : ℕ) × (l.count ≡ min k (2 ^ 64 - 1)) × Made (order_of l.fn.self.spec) k (world_of l.fn.self) (world_of l.self) × (k + deliveries_left (world_of l.self) ≤ deliveries_left (world_of l.fn.self)))

abbrev pub decreases-deliveries : goal.decreases-deliveries
decreases-deliveries l = deliveries_left (world_of l.self)
