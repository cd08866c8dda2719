use Rattle.std.proofs.Common.{ℕ, List, sym, subst}
use Rattle.network_spec.specs.declared.network.NetworkSpec.{NetworkSpec}
use Rattle.network_steps.specs.Worlds.{World}
use Rattle.network_steps.specs.Steps.{Step, last_world}
use Rattle.network_steps.specs.Genesis.{order_of, first_world}
use Rattle.law_steps.specs.Shapes.{AllShaped}
use Rattle.law_nets.specs.Runs.{HasPast}
use Rattle.law_nets.specs.Promises.{in_drain}
use Rattle.law_nets.proofs.Lasts.{all_last}
use Rattle.law_nets.proofs.Nexts.{behind_deliveries}
use Rattle.law_nets.proofs.StoppedShapes.{StopLaws, exec_shaped, exec_authorized, deliver_shaped, deliver_authorized, deliveries_authorized, unchanged_authorized}
use Rattle.law_nets.proofs.laws.law_of_stopped_messages.Goals as goal

pub returns : goal.returns
returns c =
    let laws : StopLaws = record {
      abandons_shaped = c.law_of_runs_that_send.ensures.stopped;
      executes_shaped = c.law_of_runs_that_send.ensures.executed;
      waits_shaped = c.law_of_delivered_messages.ensures;
      caller_lowers = c.law_of_executions_spending_one_account.ensures.caller_stopped;
      message_stopped = c.law_of_executions_spending_one_account.ensures.message_stopped;
      message_ended = c.law_of_executions_spending_one_account.ensures.message;
    } in
    let shaped : (spec : NetworkSpec) (steps : List Step) → AllShaped (last_world (order_of spec) (first_world spec) steps) =
    λ spec steps. all_last AllShaped (order_of spec) (first_world spec) steps (c.law_of_shaped_networks.ensures spec steps) in
    let now : (spec : NetworkSpec) (w : World) → HasPast spec w → AllShaped w = λ spec w past. subst AllShaped (sym past.run) (shaped spec past.steps) in
    let behind : (spec : NetworkSpec) (w : World) → HasPast spec w → (made : ℕ) → AllShaped (in_drain spec made w) =
    λ spec w past made. behind_deliveries AllShaped (order_of spec) (first_world spec) w past.steps made past.run (shaped spec) in
    record {
      exec = λ spec w next chain account bytes past stops. exec_shaped laws w chain account bytes next stops (now spec w past);
      deliver = λ spec w next from to past stops. deliver_shaped laws w from to next stops (now spec w past);
      drain = λ spec w next past stops. deliver_shaped laws (in_drain spec stops.made w) stops.link.0 stops.link.1 next stops.stopped (behind spec w past stops.made);
      caller = λ w next chain account bytes stops. exec_authorized laws w chain account bytes next stops;
      sender = λ spec w next from to past stops. deliver_authorized laws w from to next stops (now spec w past);
      same = λ w step. unchanged_authorized w step;
      drained = λ spec w next past stops. record {
        stop = stops;
        whole = deliveries_authorized c.law_of_authority.ensures.deliver c.law_of_seven_message_shapes.ensures.deliver stops.made (order_of spec) w (now spec w past);
        last = deliver_authorized laws (in_drain spec stops.made w) stops.link.0 stops.link.1 next stops.stopped (behind spec w past stops.made);
      };
    }
