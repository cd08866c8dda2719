-- A network of chains, and how one chain changes in it. This project's own rule.
--
--   member     a chain of the network: how it runs programs, and its part of the world
--   world      the members, in the order of the network document
--   stepped    what a step leaves: its answer, its trace, and the next world
use Rattle.std.specs.Prelude.{ℕ, List, [], Option, map}
use Rattle.std.specs.List.{position}
use Rattle.chain_ids.specs.declared.chain.ChainId.{ChainId}
use Rattle.chain_ids.specs.Chains.{same_chain}
use Rattle.exec_base.specs.declared.event.Event.{Event}
use Rattle.exec_base.specs.Part.{ChainPart}
use Rattle.exec_rules.specs.declared.rules.ChainRules.{ChainRules}
use Rattle.network_steps.specs.declared.step_result.StepResult.{StepResult}

pub record Member : Type 0 where
  pub rules : ChainRules
  pub part : ChainPart

abbrev pub chain_of : Member → ChainId
chain_of m = m.part.site.chain

abbrev pub World : Type 0
World = List Member

-- the index of a chain in the list; None where the network has no such chain
abbrev pub place_of : World → ChainId → Option ℕ
place_of w chain = position (λ (m : Member). same_chain (chain_of m) chain) w

-- the parts of all chains, in order
abbrev pub parts_of : World → List ChainPart
parts_of w = map (λ (m : Member). m.part) w

-- one chain's part is changed
abbrev pub with_part : ChainPart → Member → Member
with_part p m = record m { part = p }

pub record Stepped : Type 0 where
  pub answer : StepResult
  pub trace : List Event
  pub world : World

-- a step that changes nothing
abbrev pub unchanged : StepResult → World → Stepped
unchanged answer w = record { answer = answer; trace = []; world = w }
