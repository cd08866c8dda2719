use Rattle.std.specs.Prelude.{[]}
use Rattle.network_steps.specs.Genesis.{order_of, first_world}
use Rattle.network_spec.specs.declared.network.NetworkSpec.{NetworkSpec}
use Rattle.network_steps.specs.Worlds.{World}
use Rattle.law_steps.specs.Shapes.{AllShaped}
use Rattle.law_coherence.specs.Headline.{IsKept}
use Rattle.law_steps.specs.Views.{views}
use Rattle.law_nets.specs.Paid.{WithdrawalsPaid, TeleportsReceived, NoneLost}
use Rattle.law_nets.specs.Excess.{NoExcessIn}
use Rattle.law_nets.specs.Runs.{HasPast}
use Rattle.law_nets.proofs.Lasts.{all_last}
use Rattle.law_nets.proofs.Nexts.{next_paid, next_received, next_kept, behind_deliveries}
use Rattle.law_nets.proofs.laws.law_of_networks_with_pasts.Goals as goal

pub returns : goal.returns
returns c =
    let shaped : (spec : NetworkSpec) (w : World) → HasPast spec w → AllShaped w =
    λ spec w past. rw past.run (all_last AllShaped (order_of spec) (first_world spec) past.steps (c.law_of_shaped_networks.ensures spec past.steps)) in
    record {
      kept = λ spec w coherent past.
          let order = order_of spec in
          let first = first_world spec in
          record {
            kept = rw past.run (all_last (λ (v : World). IsKept (views first) (views v)) order first past.steps (c.law_of_conserved_networks.ensures.kept spec past.steps coherent));
            no_excess = rw past.run (all_last NoExcessIn order first past.steps (c.law_of_unsaturated_worlds.ensures.networks spec past.steps coherent));
          };
      paid = λ spec w coherent past.
          let order = order_of spec in
          let first = first_world spec in
          record {
            withdrawal = λ made.
                behind_deliveries (λ (v : World). WithdrawalsPaid order v []) order first w past.steps made past.run
                (λ more. next_paid order first more (c.law_of_paid_messages.ensures.withdrawal spec more coherent));
            teleport = λ made.
                behind_deliveries (λ (v : World). TeleportsReceived order v []) order first w past.steps made past.run
                (λ more. next_received order first more (c.law_of_paid_messages.ensures.teleport spec more coherent));
            none_lost = λ made.
                behind_deliveries (λ (v : World). NoneLost order v []) order first w past.steps made past.run
                (λ more. next_kept order first more (c.law_of_paid_messages.ensures.lost spec more coherent));
          };
      shaped = shaped;
      authorized = λ spec w step past. c.law_of_authority.ensures.after (order_of spec) w step (shaped spec w past);
    }
