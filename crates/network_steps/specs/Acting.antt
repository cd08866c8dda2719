-- What a chain does with a program, and what a sender does with a cargo that didn't land. Source: xcm-executor's documentation; the cargo
-- and the burns of lost teleports are this project's own rule.
use Rattle.std.specs.Prelude.{ℕ, List, [], ◌∷◌, None}
use Rattle.amounts.specs.Amounts.{empty}
use Rattle.asset_bundles.specs.Bundles.{Bundle}
use Rattle.asset_bundles.specs.Books.{Booked, burned_for}
use Rattle.asset_bundles.specs.declared.book.Cause.{Cause}
use Rattle.asset_bundles.specs.declared.shipment.Way.{Way}
use Rattle.asset_lists.specs.Units.{Unit}
use Rattle.chain_ids.specs.declared.chain.ChainId.{ChainId}
use Rattle.locations.specs.declared.grammar.Junction.{Junction}
use Rattle.locations.specs.declared.relative.Location.{Location}
use Rattle.operands.specs.declared.weight.Weight.{Weight}
use Rattle.xcm_program.specs.declared.instruction.Instruction.{Instruction}
use Rattle.xcm_program.specs.declared.outcome.Outcome.{Outcome}
use Rattle.channel_parts.specs.declared.cargo.Cargo.{Cargo}
use Rattle.channel_parts.specs.declared.cargo.Cargo.TheVariants.{Nothing, Deposit, Away}
use Rattle.exec_base.specs.declared.event.Event.{Event}
use Rattle.exec_base.specs.Part.{ChainPart, book_of}
use Rattle.exec_base.specs.Host.{burned_lines}
use Rattle.exec_rules.specs.declared.rules.ChainRules.{ChainRules}
use Rattle.exec_rules.specs.Execution.{executed}

-- ---- a program at a chain

-- nothing is told yet, and this is what a delivered message carries
abbrev pub begun : ChainId → Cargo → ChainPart → ChainPart
begun sender cargo p = record p { cargo = record { sender = sender; cargo = cargo }; events = []; pending_events = [] }

-- no message is being delivered any more
abbrev pub ended : ChainPart → ChainPart
ended p = record p { cargo = record p.cargo { cargo = Nothing } }

pub record Acted : Type 0 where
  pub outcome : Outcome
  -- the cargo that no instruction took
  pub left : Cargo
  pub part : ChainPart

-- a program is executed for an origin
abbrev pub acted : ChainRules → Location → Weight → List Instruction → ChainPart → Acted
acted rules origin credit program p =
    let e = executed rules origin credit program p in
    record { outcome = e.0.0; left = e.1.cargo.cargo; part = ended e.1 }

-- the location of a local caller
abbrev pub caller : List ℕ → Location
caller account = record { parents = 0; interior = Junction.AccountId32 None account ∷ [] }

-- ---- a cargo that no instruction took

-- a teleport is lost with its message; anything else stays where it is
abbrev pub lost_by : Way → Bundle → Bundle
lost_by Way.Withdrawal goods = empty
lost_by Way.Teleport goods = goods

abbrev pub lost_of : Cargo → Bundle
lost_of Nothing = empty
lost_of (Deposit list) = empty
lost_of (Away shipment) = lost_by shipment.way shipment.units

-- its sender books what is lost
abbrev pub booking_lost : Bundle → ChainPart → ChainPart
booking_lost goods p = record p { burns = (Booked (book_of p) (burned_for Cause.LostTeleport goods)).burns }

-- the lines that tell of it, under the sender's names
abbrev pub lost_lines : Bundle → ChainPart → List Event
lost_lines goods p = burned_lines p (λ (unit : Unit). Cause.LostTeleport) goods
