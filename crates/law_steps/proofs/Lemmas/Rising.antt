-- Lemmas: where a run is in a world that is kept, its checking accounts may rise. A reader may skip this file.
use Rattle.std.specs.Prelude.{◌≡◌, ℕ, zero, suc, List, [], ◌∷◌, Some, slice_get, slice_set, refl}
use Rattle.std.proofs.Common.{sym, ap, ◌∙◌, subst}
use Rattle.amounts.specs.Amounts.{empty}
use Rattle.channel_parts.specs.Channels.{Waiting}
use Rattle.exec_base.specs.declared.event.Part.TheVariants as parts
use Rattle.exec_base.specs.Host.{told}
use Rattle.exec_rules.specs.Machine.{Machine}
use Rattle.exec_rules.specs.Run.{Stage, steps, machine_of, Reaches, GoesOnTo}
use Rattle.exec_rules.proofs.Lemmas.KeepingLaws.{begin_machine}
use Rattle.exec_rules.specs.Instructions.{xcm}
use Rattle.exec_rules.specs.declared.admission.Admitted.{Admitted}
use Rattle.exec_rules.specs.Execution.{first_machine, first_stage}
use Rattle.network_steps.specs.Worlds as networks
use Rattle.network_steps.specs.Worlds.{Member, chain_of}
use Rattle.network_steps.specs.Steps.{name_at, Link, Step}
use Rattle.law_coherence.specs.Parts.{Part, WorldView}
use Rattle.law_coherence.specs.Steps.{tables_of}
use Rattle.law_coherence.proofs.Lemmas.Steps.{table_at, get_set_same}
use Rattle.law_coherence.specs.Headline.{IsKept}
use Rattle.law_runs.specs.Views.{seen, view}
use Rattle.law_runs.proofs.Lemmas.Raising.{teleport_rises}
use Rattle.law_steps.specs.Views.{views}
use Rattle.law_steps.proofs.Lemmas.Stepping.{seen_at}
use Rattle.law_steps.specs.Worlds.{IsDelivery, arrives, while_delivered, AccountsMayRise}

still_there : (w : WorldView) (i k : ℕ) (x q : Part) → slice_get w k ≡ Some x → (y : Part) × (slice_get (slice_set w i q) k ≡ Some y)
still_there [] i k x q at = absurd (cc)
still_there (z ∷ w) zero zero x q at = (q, refl)
still_there (z ∷ w) zero (suc k) x q at = (x, at)
still_there (z ∷ w) (suc i) zero x q at = (z, refl)
still_there (z ∷ w) (suc i) (suc k) x q at = still_there w i k x q at

rises_at : (first w : WorldView) (k : ℕ) (m : Machine) → IsKept first w → slice_get w k ≡ Some (view m) → AccountsMayRise m
rises_at first w k m kept at filter dest xcm = teleport_rises (tables_of w) kept.agrees m (k, table_at w k (view m) at) (λ a amount is. kept.bounded k (view m) a amount at is) filter dest xcm

-- where one chain's part is that of the run
pub rises_in : (first w : WorldView) (k : ℕ) (x : Part) (m : Machine) → slice_get w k ≡ Some x → IsKept first (slice_set w k (view m)) → AccountsMayRise m
rises_in first w k x m at kept = rises_at first (slice_set w k (view m)) k m kept (get_set_same w k x (view m) at)

-- where another chain's part changed too
pub rises_behind : (first w : WorldView) (i k : ℕ) (x p : Part) (m : Machine) → slice_get w k ≡ Some x → IsKept first (slice_set (slice_set w i p) k (view m)) → AccountsMayRise m
rises_behind first w i k x p m at kept = let there = still_there w i k x p at in rises_in first (slice_set w i p) k there.0 m there.1 kept

-- ---- a delivery

-- a message that arrives changes nothing that its chain has
arrives_seen : (sender receiver : Member) (x : Waiting) → seen empty (arrives sender receiver x) ≡ seen empty receiver.part
unfolding told
arrives_seen sender receiver x = refl

module _ (order : List Link) (w : networks.World) (steps_of : List Step) (d : IsDelivery order w steps_of) (a : Admitted) where
  abbrev start : Stage
  start = first_stage d.receiver.rules (name_at (chain_of d.receiver) (chain_of d.sender)) a (arrives d.sender d.receiver d.message)

  -- before the first instruction
  rises_first : IsKept (views w) (views d.world) → AccountsMayRise (machine_of start)
  rises_first kept =
      let first = begin_machine parts.Program a.program (first_machine d.receiver.rules (name_at (chain_of d.receiver) (chain_of d.sender)) (arrives d.sender d.receiver d.message)) in
      rises_at (views w) (views d.world) d.to (machine_of start) kept (seen_at d.world d.to d.receiver d.receives ∙ ap Some (sym (ap view first ∙ arrives_seen d.sender d.receiver d.message)))

  -- wherever its run comes: before the first instruction or after it
  pub rises_delivered : IsKept (views w) (views d.world) → ((g : Stage) → GoesOnTo xcm start g → IsKept (views w) (while_delivered d.world d.from d.sender d.to d.receiver (machine_of g))) → (g : Stage) → Reaches xcm start g → AccountsMayRise (machine_of g)
  unfolding steps
  rises_delivered kept behind g (zero, on) = subst (λ (h : Stage). AccountsMayRise (machine_of h)) on (rises_first kept)
  rises_delivered kept behind g (suc n, on) = rises_behind (views w) (views d.world) d.from d.to (seen empty d.receiver.part) _ (machine_of g) (seen_at d.world d.to d.receiver d.receives) (behind g (n, on))
