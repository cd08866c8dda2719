use Rattle.std.proofs.Common.{List, [], arith, refl}
use Rattle.network_spec.specs.declared.network.NetworkSpec.{NetworkSpec}
use Rattle.network_steps.specs.Steps.{Step}
use Rattle.network_steps.specs.Genesis.{first_world, order_of}
use Rattle.network_steps.specs.Openable.{IsOpenable}
use Rattle.law_steps.specs.Kept.{IsCoherent}
use Rattle.generator.specs.Network.{document, described_network}
use Rattle.xcm_cli.specs.Promise.{IsLawful, IsSecure, world_behind_steps}
use Rattle.law_nets.specs.Runs.{HasPast}
use Rattle.xcm_cli.proofs.FirstWorlds.{nothing_locked}
use Rattle.xcm_cli.proofs.Telling.{input_tells}
use Rattle.xcm_cli.proofs.laws.law_of_inputs.Goals as goal

pub returns : goal.returns
returns c =
    let opens = c.law_of_read_networks.ensures.opens in
    let behind : (spec : NetworkSpec) (steps : List Step) → HasPast spec (world_behind_steps spec steps) = λ spec steps. record { steps = steps; run = refl } in
    let lawful : (spec : NetworkSpec) (steps : List Step) → IsOpenable spec → IsLawful spec steps =
    λ spec steps openable.
    let shaped = (c.law_of_shaped_networks.ensures spec []).0 in
    let locks = c.law_of_kept_worlds.ensures.first (first_world spec) (nothing_locked spec spec.chains) (c.law_of_opened_networks.ensures.quiet spec) in
    record {
      authorized = c.law_of_authority.ensures.worlds (order_of spec) (first_world spec) steps shaped;
      products = c.law_of_pool_products.ensures.worlds (order_of spec) (first_world spec) steps shaped
          (λ place m at. let few = c.law_of_opened_networks.ensures.pools spec place m openable at in omega (arith, few));
      left_alone = c.law_of_accounts_left_alone.ensures (order_of spec) (first_world spec) steps shaped;
      burns = c.law_of_permanent_burns.ensures (order_of spec) (first_world spec) steps shaped;
      floors = c.law_of_kept_worlds.ensures.worlds (order_of spec) (first_world spec) steps locks.1 locks.0;
      shaped = c.law_of_shaped_networks.ensures spec steps;
      below_end = c.law_of_checking_accounts.ensures spec steps openable;
      drains = λ now stops. (
        c.law_of_stopped_messages.ensures.drained spec (world_behind_steps spec steps) now (behind spec steps) stops,
        c.law_of_stopped_messages.ensures.drain spec (world_behind_steps spec steps) now (behind spec steps) stops,
      );
    } in
    let secure : (spec : NetworkSpec) (steps : List Step) → IsCoherent spec → IsSecure spec steps =
    λ spec steps coherent. record {
      kept = c.law_of_conserved_networks.ensures.kept spec steps coherent;
      between = c.law_of_conserved_networks.ensures.between spec steps coherent;
      sound = c.law_of_conserved_networks.ensures.sound spec steps coherent;
      inside = c.law_of_kept_network_runs.ensures.kept spec steps coherent;
      drains = λ now stops. c.law_of_stopped_nets.ensures.drain spec (world_behind_steps spec steps) now coherent (behind spec steps) stops;
      paid = c.law_of_paid_messages.ensures.withdrawal spec steps coherent;
      received = c.law_of_paid_messages.ensures.teleport spec steps coherent;
      none_lost = c.law_of_paid_messages.ensures.lost spec steps coherent;
      no_excess = c.law_of_unsaturated_worlds.ensures.networks spec steps coherent;
      unbarred = c.law_of_unbarred_deposits.ensures.networks spec steps coherent;
      rising = c.law_of_kept_network_runs.ensures.rising spec steps coherent;
      covered = c.law_of_lowered_accounts.ensures.networks spec steps coherent;
      printed = c.law_of_printed_networks.ensures spec steps coherent;
    } in
    record {
      lawful = λ part spec steps read. lawful spec steps (opens part spec read);
      kept = λ part spec steps read none. secure spec steps (record { openable = opens part spec read; coherent = none });
      drawn_lawful = λ steps. lawful described_network steps (opens document described_network c.law_of_document.ensures.accepted);
      drawn_kept = λ steps. secure described_network steps (record { openable = opens document described_network c.law_of_document.ensures.accepted; coherent = c.law_of_document.ensures.coherent });
      told = input_tells;
    }
