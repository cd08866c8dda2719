-- Lemmas: a machine in a world, and the receiver of a message as it begins. A reader may skip
-- this file.
use Rattle.std.proofs.Common.{◌≡◌, ℕ, zero, suc, [], ◌∷◌, Some, refl, sym, ap, ◌∙◌}
use Rattle.std.specs.Prelude.{slice_get, slice_set}
use Rattle.amounts.specs.Amounts.{empty}
use Rattle.locations.specs.declared.relative.Location.{Location}
use Rattle.channel_parts.specs.Channels.{Waiting}
use Rattle.exec_base.specs.Host.{told}
use Rattle.exec_rules.specs.Machine.{Machine}
use Rattle.exec_rules.specs.declared.rules.ChainRules.{ChainRules}
use Rattle.exec_rules.specs.Execution.{first_machine}
use Rattle.network_steps.specs.Worlds as networks
use Rattle.network_steps.specs.Worlds.{Member}
use Rattle.law_coherence.specs.Parts.{Part, WorldView}
use Rattle.law_coherence.proofs.Lemmas.Steps.{get_set_same}
use Rattle.law_coherence.specs.Headline.{IsKept}
use Rattle.law_runs.specs.Views.{seen, view}
use Rattle.law_steps.specs.Views.{views}
use Rattle.law_steps.specs.Worlds.{arrives, while_delivered}
use Rattle.law_steps.proofs.Lemmas.Stepping.{seen_at}
use Rattle.law_nets.proofs.Fitting.{FitsBundleListed, kept_fits}

-- ---- indices of a world
still_there : (w : WorldView) (j k : ℕ) (q p : Part) → slice_get w k ≡ Some p → (r : Part) × (slice_get (slice_set w j q) k ≡ Some r)
still_there [] j k q p at = absurd cc
still_there (x ∷ w) zero zero q p at = (q, refl)
still_there (x ∷ w) zero (suc k) q p at = (p, at)
still_there (x ∷ w) (suc j) zero q p at = (x, refl)
still_there (x ∷ w) (suc j) (suc k) q p at = still_there w j k q p at

-- ---- a machine in a world
pub view_delivered : (w : networks.World) (from : ℕ) (sender : Member) (to : ℕ) (receiver : Member) → slice_get w to ≡ Some receiver → (m : Machine) → slice_get (while_delivered w from sender to receiver m) to ≡ Some (view m)
view_delivered w from sender to receiver at m =
    let there = still_there (views w) from to _ (seen empty receiver.part) (seen_at w to receiver at) in
    get_set_same _ to there.0 (view m) there.1

seen_arriving : (sender receiver : Member) (x : Waiting) → seen empty (arrives sender receiver x) ≡ seen empty receiver.part
unfolding told
seen_arriving sender receiver x = refl

-- a message begins on its receiver as that is
pub arriving_fits : (first : WorldView) (w : networks.World) (to : ℕ) (sender receiver : Member) (x : Waiting) (rules : ChainRules) (origin : Location) → slice_get w to ≡ Some receiver → IsKept first (views w) → FitsBundleListed (first_machine rules origin (arrives sender receiver x))
arriving_fits first w to sender receiver x rules origin at kept =
    kept_fits first (views w) kept to (first_machine rules origin (arrives sender receiver x)) (seen_at w to receiver at ∙ ap Some (sym (seen_arriving sender receiver x)))
