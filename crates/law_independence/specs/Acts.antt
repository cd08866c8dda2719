-- The steps that act at one chain, and what each of them leaves: a local execution, a delivery, a claim. A drain is many deliveries, and what
-- only reports does nothing. This project's own rule.
use Rattle.std.specs.Prelude.{ℕ, List, Option, Some, None, slice_get}
use Rattle.std.specs.Option.{option_and_then}
use Rattle.chain_ids.specs.declared.chain.ChainId.{ChainId}
use Rattle.network_steps.specs.Worlds.{Member, World, place_of, Stepped}
use Rattle.network_steps.specs.Steps.{exec, deliver, claim, Link, Step}

pub data Act : Type 0 where
  Exec : ChainId → List ℕ → List ℕ → Act
  Deliver : ChainId → ChainId → Act
  Claim : ChainId → ChainId → List ℕ → Act

-- as a step of a network
abbrev pub step_of : Act → Step
step_of (Exec chain account bytes) = Step.Exec chain account bytes
step_of (Deliver from to) = Step.Deliver from to
step_of (Claim from to bytes) = Step.Claim from to bytes

-- the chain at which it acts
abbrev pub acts_at : Act → ChainId
acts_at (Exec chain account bytes) = chain
acts_at (Deliver from to) = to
acts_at (Claim from to bytes) = from

-- the channel, by its two chains, of which it takes the oldest message
abbrev pub takes_from : Act → Option Link
takes_from (Deliver from to) = Some (from, to)
takes_from _ = None

-- its answer, its trace, and the next world
abbrev pub stepped_by : World → Act → Stepped
stepped_by w (Exec chain account bytes) = exec w chain account bytes
stepped_by w (Deliver from to) = deliver w from to
stepped_by w (Claim from to bytes) = claim w from to bytes

-- the member that a chain is, if the network has it
abbrev pub member_named : World → ChainId → Option Member
member_named w chain = option_and_then (slice_get w) (place_of w chain)
