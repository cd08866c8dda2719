-- What each step passes on from a world to the next, all steps of a list do, those of a drain too.
use Rattle.std.proofs.Common.{◌≡◌, ℕ, zero, suc, List, [], ◌∷◌, Some, None, refl, arith}
use Rattle.std.specs.Prelude.{slice_get}
use Rattle.std.specs.List.{AllByRecursion, AllPairs}
use Rattle.std.specs.Option.{option_map_or}
use Rattle.std.proofs.lemmas.List.Elements.{All-from_recursion}
use Rattle.std.proofs.lemmas.List.Kept.{AllPairs-cons}
use Rattle.chain_ids.specs.declared.chain.ChainId.{ChainId}
use Rattle.network_steps.specs.Worlds.{World, Stepped}
use Rattle.network_steps.specs.Sends.{deliveries_left}
use Rattle.network_steps.specs.Steps.{exec, deliver, claim, Link, next_channel, deliveries, world_behind, Step, Exec, Deliver, Claim, Drain, Balances, Traps, Queues, Supply, next_world, worlds}

-- `R` between two worlds, where `Q` holds of the earlier and executions are for accounts as `A` says
pub record PassesOn (R : World → World → Type 0) (Q : World → Type 0) (A : ChainId → List ℕ → Type 0) : Type 0 where
  pub same : (w : World) → R w w
  pub later : (u v w : World) → R u v → R v w → R u w
  pub executes : (w : World) (chain : ChainId) (account bytes : List ℕ) → A chain account → Q w → R w (exec w chain account bytes).world × Q (exec w chain account bytes).world
  pub delivers : (w : World) (from to : ChainId) → Q w → R w (deliver w from to).world × Q (deliver w from to).world
  pub claims : (w : World) (from to : ChainId) (bytes : List ℕ) → Q w → R w (claim w from to bytes).world × Q (claim w from to bytes).world

abbrev pub AreFor : (ChainId → List ℕ → Type 0) → List Step → Type 0
AreFor A steps = (n : ℕ) (chain : ChainId) (account bytes : List ℕ) → slice_get steps n ≡ Some (Exec chain account bytes) → A chain account

module _ (R : World → World → Type 0) (Q : World → Type 0) (A : ChainId → List ℕ → Type 0) (passes : PassesOn R Q A) (order : List Link) where
  abbrev Passed : World → List (Link × Stepped) → Type 0
  Passed w all = R w (world_behind w all) × Q (world_behind w all)

  deliveries_pass : (n : ℕ) (w : World) → Q w → Passed w (deliveries n order w)
  unfolding deliveries
  deliveries_pass zero w q = (passes.same w, q)
  deliveries_pass (suc n) w q =
      elim (next_channel order w) as (λ o. Passed w (option_map_or (λ (link : Link). (link, deliver w link.0 link.1) ∷ deliveries n order (deliver w link.0 link.1).world) o [])) [
        | None ↦ (passes.same w, q)
        | Some link ↦ (
            let next = (deliver w link.0 link.1).world in
            let one = passes.delivers w link.0 link.1 q in
            let rest = deliveries_pass n next one.1 in
            (passes.later w next (world_behind next (deliveries n order next)) one.0 rest.0, rest.1))
      ]

  after_passes : (w : World) (step : Step) (steps : List Step) → AreFor A (step ∷ steps) → Q w → R w (next_world order w step) × Q (next_world order w step)
  after_passes w (Exec chain account bytes) steps own q = passes.executes w chain account bytes (own zero chain account bytes refl) q
  after_passes w (Deliver from to) steps own q = passes.delivers w from to q
  after_passes w (Claim from to bytes) steps own q = passes.claims w from to bytes q
  after_passes w Drain steps own q = deliveries_pass (deliveries_left w) w q
  after_passes w Balances steps own q = (passes.same w, q)
  after_passes w Traps steps own q = (passes.same w, q)
  after_passes w Queues steps own q = (passes.same w, q)
  after_passes w Supply steps own q = (passes.same w, q)

  steps_pass : (start w : World) (steps : List Step) → AreFor A steps → Q w → R start w → AllByRecursion (R start) (worlds order w steps)
  steps_pass start w [] own q so_far = (so_far, tt)
  steps_pass start w (step ∷ steps) own q so_far =
      let here = after_passes w step steps own q in
      (so_far, steps_pass start (next_world order w step) steps (λ n. own (suc n)) here.1 (passes.later start w (next_world order w step) so_far here.0))

  -- from the first world to each
  pub worlds_pass : (w : World) (steps : List Step) → AreFor A steps → Q w → AllByRecursion (R w) (worlds order w steps)
  worlds_pass w steps own q = steps_pass w w steps own q (passes.same w)

  -- and from each to each later one
  pub pairs_pass : (w : World) (steps : List Step) → AreFor A steps → Q w → AllPairs R (worlds order w steps)
  pairs_pass w [] own q = AllPairs-cons R w [] (λ k d lt. absurd (omega (arith, lt))) (λ i j d less lt. absurd (omega (arith, lt)))
  pairs_pass w (step ∷ steps) own q =
      let next = next_world order w step in
      let here = after_passes w step steps own q in
      AllPairs-cons R w (worlds order next steps)
      (All-from_recursion (R w) (worlds order next steps) (steps_pass w next steps (λ n. own (suc n)) here.1 here.0))
      (pairs_pass next steps (λ n. own (suc n)) here.1)
