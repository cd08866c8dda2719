use Rattle.std.proofs.Common.{false, ◌≡◌}
use Rattle.chain_net.specs.declared.net.Net.{Net}
use Rattle.law_nets.specs.Runs.{HasPast}
use Rattle.chain_net.specs.Nets.{world_of, spec_of, is_stopped}
use Rattle.chain_net.proofs.laws.law_of_reached_nets.Goals as goal

pub returns : goal.returns
returns c =
    let reached : (n : Net) → is_stopped n ≡ false → HasPast (spec_of n) (world_of n) = λ n going. c.law_of_pasts_through_steps.ensures.known (spec_of n) (world_of n) (n.reached going) in
    record { reached = reached; shaped = λ n going. c.law_of_networks_with_pasts.ensures.shaped (spec_of n) (world_of n) (reached n going) }
