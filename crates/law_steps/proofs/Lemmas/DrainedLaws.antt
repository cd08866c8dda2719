-- Lemmas that proofs cite, in this crate and above it: steps with drains as deliveries lead to the same world. A reader of the contracts may skip
-- this file.
use Rattle.std.proofs.Common.{◌≡◌, ◌∙◌, ℕ, zero, suc, List, [], ◌∷◌, ◌++◌, Option, Some, None, refl, ap}
use Rattle.std.specs.Option.{option_map_or}
use Rattle.network_steps.specs.Worlds.{World}
use Rattle.network_steps.specs.Steps.{Link, Step, Exec, Deliver, Claim, Drain, Balances, Traps, Queues, Supply, deliver, next_world, last_world, next_channel, deliveries, world_behind}
use Rattle.network_steps.specs.Sends.{deliveries_left}
use Rattle.law_steps.specs.Drained.{delivery_steps, single_steps, by_deliveries}

pub last_behind : (order : List Link) (w : World) (steps more : List Step) → last_world order w (steps ++ more) ≡ last_world order (last_world order w steps) more
last_behind order w [] more = refl
last_behind order w (s ∷ steps) more = last_behind order (next_world order w s) steps more

by_next : (n : ℕ) (order : List Link) (w : World) (o : Option Link) → ((v : World) → last_world order v (delivery_steps (deliveries n order v)) ≡ world_behind v (deliveries n order v))
    → last_world order w (delivery_steps (option_map_or (λ (link : Link). (link, deliver w link.0 link.1) ∷ deliveries n order (deliver w link.0 link.1).world) o []))
    ≡ world_behind w (option_map_or (λ (link : Link). (link, deliver w link.0 link.1) ∷ deliveries n order (deliver w link.0 link.1).world) o [])
unfolding deliver
by_next n order w None rest = refl
by_next n order w (Some link) rest = rest (deliver w link.0 link.1).world

pub same_deliveries : (n : ℕ) (order : List Link) (w : World) → last_world order w (delivery_steps (deliveries n order w)) ≡ world_behind w (deliveries n order w)
unfolding deliveries
same_deliveries zero order w = refl
same_deliveries (suc n) order w = by_next n order w (next_channel order w) (λ v. same_deliveries n order v)

same_step : (order : List Link) (w : World) (step : Step) → last_world order w (single_steps order w step) ≡ next_world order w step
same_step order w (Exec chain account bytes) = refl
same_step order w (Deliver from to) = refl
same_step order w (Claim from to bytes) = refl
same_step order w Drain = same_deliveries (deliveries_left w) order w
same_step order w Balances = refl
same_step order w Traps = refl
same_step order w Queues = refl
same_step order w Supply = refl

pub same_end : (order : List Link) (w : World) (steps : List Step) → last_world order w (by_deliveries order w steps) ≡ last_world order w steps
same_end order w [] = refl
same_end order w (step ∷ steps) =
    last_behind order w (single_steps order w step) (by_deliveries order (next_world order w step) steps)
    ∙ ap (λ (v : World). last_world order v (by_deliveries order (next_world order w step) steps)) (same_step order w step)
    ∙ same_end order (next_world order w step) steps
