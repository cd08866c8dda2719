-- What waits in the last of the worlds of some steps waits in one of them. A reader may skip this file.
use Rattle.std.proofs.Common.{◌≡◌, ◌∙◌, ℕ, zero, suc, List, [], ◌∷◌, ◌++◌, Some, length, sym, ap, subst}
use Rattle.std.specs.Prelude.{slice_get}
use Rattle.network_steps.specs.Worlds.{World}
use Rattle.network_steps.specs.Steps.{Link, Step, last_world, deliveries, world_behind}
use Rattle.law_steps.specs.Worlds.{IsDelivery}
use Rattle.law_nets.specs.Paid.{WithdrawalsPaid, TeleportsReceived, NoneLost}
use Rattle.law_steps.specs.Drained.{delivery_steps}
use Rattle.law_steps.proofs.Lemmas.DrainedLaws.{last_behind, same_deliveries}
use Rattle.law_nets.proofs.Stopped.{last_reached}

only_one : (k : ℕ) (w v : World) → slice_get (w ∷ []) k ≡ Some v → w ≡ v
only_one zero w v e = cc
only_one (suc k) w v e = absurd cc

module _ (order : List Link) (first : World) (steps : List Step) where
  -- a delivery from the last world, as one after the steps
  abbrev behind : IsDelivery order (last_world order first steps) [] → IsDelivery order first steps
  behind d = record {
    at = length steps;
    world = d.world;
    reached = last_reached order first steps ∙ ap Some (only_one d.at (last_world order first steps) d.world d.reached);
    from = d.from;
    sender = d.sender;
    sends = d.sends;
    to = d.to;
    receiver = d.receiver;
    receives = d.receives;
    channel = d.channel;
    leads = d.leads;
    message = d.message;
    oldest = d.oldest;
  }

  pub next_paid : WithdrawalsPaid order first steps → WithdrawalsPaid order (last_world order first steps) []
  next_paid all d a fits admits =
      let p = all (behind d) a fits admits in
      record { list = p.list; behind = p.behind; carried = p.carried; leads = p.leads; accepted = p.accepted }

  pub next_received : TeleportsReceived order first steps → TeleportsReceived order (last_world order first steps) []
  next_received all d a fits admits =
      let p = all (behind d) a fits admits in
      record { list = p.list; behind = p.behind; carried = p.carried; leads = p.leads; accepted = p.accepted }

  pub next_kept : NoneLost order first steps → NoneLost order (last_world order first steps) []
  next_kept all d a admits = all (behind d) a admits

-- after so many deliveries of a drain, from the world after some steps: what holds after any steps holds there
pub behind_deliveries : (P : World → Type 0) (order : List Link) (first w : World) (steps : List Step) (made : ℕ) → w ≡ last_world order first steps → ((more : List Step) → P (last_world order first more)) → P (world_behind w (deliveries made order w))
behind_deliveries P order first w steps made run all =
    let more = delivery_steps (deliveries made order w) in
    subst P (last_behind order first steps more ∙ ap (λ (v : World). last_world order v more) (sym run) ∙ same_deliveries made order w) (all (steps ++ more))
