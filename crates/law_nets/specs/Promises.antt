-- What is promised of a network of chains that steps led to. This project's own rule.
use Rattle.std.specs.Prelude.{ℕ, List, []}
use Rattle.network_spec.specs.declared.network.NetworkSpec.{NetworkSpec}
use Rattle.network_steps.specs.Worlds.{World}
use Rattle.network_steps.specs.Steps.{Link, Deliver, deliveries, world_behind}
use Rattle.network_steps.specs.Genesis.{order_of, first_world}
use Rattle.law_coherence.specs.Headline.{IsKept}
use Rattle.law_steps.specs.Views.{views}
use Rattle.law_nets.specs.Paid.{WithdrawalsPaid, TeleportsReceived, NoneLost}
use Rattle.law_nets.specs.Excess.{NoExcessIn}
use Rattle.law_authority.specs.Speakers.{HasAuthority, HaveAuthority}
use Rattle.law_nets.specs.Stops.{DrainStops}

-- since the network opened
pub record KeepsAssets (spec : NetworkSpec) (w : World) : Type 0 where
  -- each asset is conserved, and each derivative is backed
  pub kept : IsKept (views (first_world spec)) (views w)
  -- nothing was burned because an amount passed its maximum or an instance was there already
  pub no_excess : NoExcessIn w

-- the world after so many deliveries of the next drain; after none of them it is the world of now
abbrev pub in_drain : NetworkSpec → ℕ → World → World
in_drain spec made w = world_behind w (deliveries made (order_of spec) w)

-- what a delivery would take is paid, now and after any number of the deliveries of the next drain
pub record PaysInFull (spec : NetworkSpec) (w : World) : Type 0 where
  -- a withdrawal that its receiver admits comes out of its sender's account there
  pub withdrawal : (made : ℕ) → WithdrawalsPaid (order_of spec) (in_drain spec made w) []
  -- a teleport that its receiver admits is taken in
  pub teleport : (made : ℕ) → TeleportsReceived (order_of spec) (in_drain spec made w) []
  -- so of a message that its receiver admits no teleport is lost
  pub none_lost : (made : ℕ) → NoneLost (order_of spec) (in_drain spec made w) []

-- a drain to which memory was refused: its whole deliveries and the one at which it stopped lower no account but the
-- sending chain's, or a pool's
pub record StopsWithAuthority (order : List Link) (w now : World) : Type 0 where
  pub stop : DrainStops order w now
  pub whole : HaveAuthority w (deliveries stop.made order w)
  pub last : HasAuthority (world_behind w (deliveries stop.made order w))
      (Deliver stop.link.0 stop.link.1) now
