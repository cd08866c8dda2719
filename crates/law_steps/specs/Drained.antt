-- Steps with each drain as the deliveries that it makes, one by one, so that what holds after any steps holds between these too. This
-- project's own rule.
use Rattle.std.specs.Prelude.{List, [], ◌∷◌, ◌++◌, map}
use Rattle.network_steps.specs.Worlds.{World, Stepped}
use Rattle.network_steps.specs.Steps.{Link, Step, Exec, Deliver, Claim, Drain, Balances, Traps, Queues, Supply, drain, next_world}

-- deliveries, as steps
abbrev pub delivery_steps : List (Link × Stepped) → List Step
delivery_steps deliveries = map (λ (d : Link × Stepped). Deliver d.0.0 d.0.1) deliveries

-- one step: a drain as its deliveries, all else as it is
abbrev pub single_steps : List Link → World → Step → List Step
single_steps order w (Exec chain account bytes) = Exec chain account bytes ∷ []
single_steps order w (Deliver from to) = Deliver from to ∷ []
single_steps order w (Claim from to bytes) = Claim from to bytes ∷ []
single_steps order w Drain = delivery_steps (drain order w)
single_steps order w Balances = Balances ∷ []
single_steps order w Traps = Traps ∷ []
single_steps order w Queues = Queues ∷ []
single_steps order w Supply = Supply ∷ []

-- all steps, from a world on
abbrev pub by_deliveries : List Link → World → List Step → List Step
by_deliveries order w [] = []
by_deliveries order w (step ∷ steps) = single_steps order w step ++ by_deliveries order (next_world order w step) steps
