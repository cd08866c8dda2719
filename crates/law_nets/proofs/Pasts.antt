-- The steps of a network that is merely known to have a past are found, since steps can be enumerated. A reader may skip this file.
use Rattle.std.proofs.Common.{◌≡◌, ◌∙◌, ℕ, zero, suc, Bool, true, List, [], ◌∷◌, ◌++◌, refl, sym, ap}
use Rattle.std.proofs.Math.Logic.{∥∥₁_map}
use Rattle.chain_ids.specs.declared.chain.ChainId.{ChainId}
use Rattle.chain_ids.specs.declared.chain.ChainId.TheVariants.{Relay, Para}
use Rattle.network_spec.specs.declared.network.NetworkSpec.{NetworkSpec}
use Rattle.network_steps.specs.Worlds.{World}
use Rattle.network_steps.specs.Steps.{Step, Exec, Deliver, Claim, Drain, Balances, Traps, Queues, Supply, next_world, last_world}
use Rattle.network_steps.specs.Genesis.{order_of, first_world}
use Rattle.law_nets.specs.Runs.{HasPast}
use Rattle.law_nets.proofs.Lasts.{one_more}
use Rattle.law_nets.proofs.Searching.{Search, numbers, pairs, lists, standing_for, found}
use Rattle.law_nets.proofs.Codes.{same, same_is, is_same}
use Rattle.law_nets.proofs.Worlds.{world_code}

-- ---- steps, enumerated
chain_to : ChainId → ℕ
chain_to Relay = 0
chain_to (Para n) = suc n

chain_from : ℕ → ChainId
chain_from zero = Relay
chain_from (suc n) = Para n

chain_back : (c : ChainId) → chain_from (chain_to c) ≡ c
unfolding chain_to chain_from
chain_back Relay = refl
chain_back (Para n) = refl

chains : Search ChainId
chains = standing_for numbers chain_to chain_from chain_back

-- which step, two chains, and two lists of bytes
abbrev Parts : Type 0
Parts = ℕ × ((ChainId × ChainId) × (List ℕ × List ℕ))

step_to : Step → Parts
step_to (Exec chain account bytes) = (0, ((chain, chain), (account, bytes)))
step_to (Deliver from to) = (1, ((from, to), ([], [])))
step_to (Claim from to bytes) = (2, ((from, to), (bytes, bytes)))
step_to Drain = (3, ((Relay, Relay), ([], [])))
step_to Balances = (4, ((Relay, Relay), ([], [])))
step_to Traps = (5, ((Relay, Relay), ([], [])))
step_to Queues = (6, ((Relay, Relay), ([], [])))
step_to Supply = (7, ((Relay, Relay), ([], [])))

step_of : ℕ → ChainId → ChainId → List ℕ → List ℕ → Step
step_of zero c d a b = Exec c a b
step_of (suc zero) c d a b = Deliver c d
step_of (suc (suc zero)) c d a b = Claim c d a
step_of (suc (suc (suc zero))) c d a b = Drain
step_of (suc (suc (suc (suc zero)))) c d a b = Balances
step_of (suc (suc (suc (suc (suc zero))))) c d a b = Traps
step_of (suc (suc (suc (suc (suc (suc zero)))))) c d a b = Queues
step_of (suc (suc (suc (suc (suc (suc (suc n))))))) c d a b = Supply

step_from : Parts → Step
step_from p = step_of p.0 p.1.0.0 p.1.0.1 p.1.1.0 p.1.1.1

step_back : (s : Step) → step_from (step_to s) ≡ s
unfolding step_to step_of step_from
step_back (Exec chain account bytes) = refl
step_back (Deliver from to) = refl
step_back (Claim from to bytes) = refl
step_back Drain = refl
step_back Balances = refl
step_back Traps = refl
step_back Queues = refl
step_back Supply = refl

steps : Search (List Step)
steps = lists (standing_for (pairs numbers (pairs (pairs chains chains) (pairs (lists numbers) (lists numbers)))) step_to step_from step_back)

-- ---- pasts
leads : NetworkSpec → World → List Step → Bool
leads spec w some = same world_code w (last_world (order_of spec) (first_world spec) some)

leads_there : (spec : NetworkSpec) (w : World) (past : HasPast spec w) → (some : List Step) × (leads spec w some ≡ true)
unfolding leads
leads_there spec w past = (past.steps, is_same world_code w (last_world (order_of spec) (first_world spec) past.steps) past.run)

led_there : (spec : NetworkSpec) (w : World) → (some : List Step) × (leads spec w some ≡ true) → HasPast spec w
unfolding leads
led_there spec w x = record { steps = x.0; run = same_is world_code w (last_world (order_of spec) (first_world spec) x.0) x.1 }

-- a past that is there is known
pub known : (spec : NetworkSpec) (w : World) → ∥ HasPast spec w ∥₁ → HasPast spec w
known spec w some = led_there spec w (found steps (leads spec w) (∥∥₁_map some (leads_there spec w)))

pub opened : (spec : NetworkSpec) → HasPast spec (first_world spec)
opened spec = record { steps = []; run = refl }

-- a step after some steps
pub stepped : (spec : NetworkSpec) (w : World) (step : Step) → HasPast spec w → HasPast spec (next_world (order_of spec) w step)
stepped spec w step past = record {
  steps = past.steps ++ step ∷ [];
  run = ap (λ (v : World). next_world (order_of spec) v step) past.run ∙ sym (one_more (order_of spec) (first_world spec) past.steps step);
}
