-- What each message that waits looks like. This project's own rule, after what xcm-executor's instructions send.
--
--   here, there   the chain that sends, and the chain that receives
--   shape         a program and a cargo that fit together; there are seven
use Rattle.std.specs.Prelude.{◌≡◌, ◌⊎◌, Bool, true, false, IsTrue, List, [], ◌∷◌, Option, Some}
use Rattle.std.specs.List.{AllByRecursion}
use Rattle.chain_ids.specs.declared.chain.ChainId.{ChainId}
use Rattle.locations.specs.declared.relative.Location.{Location}
use Rattle.asset_lists.specs.declared.units.Asset.{Asset}
use Rattle.asset_bundles.specs.Bundles.{held_assets}
use Rattle.trust_tables.specs.declared.chains.Site.{Site}
use Rattle.xcm_program.specs.declared.instruction.Instruction.{Instruction, roll-Instruction}
use Rattle.xcm_program.specs.declared.instruction.Instruction.TheOpen.{Instruction-F}
use Rattle.channel_parts.specs.declared.cargo.Cargo.{Cargo}
use Rattle.channel_parts.specs.declared.cargo.Cargo.TheVariants.{Nothing, Deposit, Away}
use Rattle.channel_parts.specs.Channels.{Waiting, Outgoing}
use Rattle.exec_base.specs.Arrivals.{arrived_list}
use Rattle.exec_base.specs.Part.{ChainPart}
use Rattle.exec_base.specs.Sending.{led_by, deposit_program, away_program}
use Rattle.network_steps.specs.Worlds.{Member, World}

-- a list of assets as the receiver names it
abbrev pub named_there : Site → ChainId → List Asset → Option (List Asset)
named_there here there list = arrived_list (record { network = here.network; chain = there }) here.chain list

-- the program begins with the cargo's list, as the receiver names it, and ClearOrigin; then comes anything
pub record IsLedBy (here : Site) (there : ChainId) (carried : List Asset) (around : List Asset → List Instruction → List Instruction) (program : List Instruction) : Type 0 where
  pub list : List Asset
  pub behind : List Instruction
  pub named : named_there here there carried ≡ Some list
  pub is : program ≡ around list behind

-- an instruction that is alone in a message: a response, a note of a lock, or a request to let one fall
abbrev pub stands_alone : Instruction-F Instruction → Bool
stands_alone (Instruction-F.QueryResponse query answer weight querier) = true
stands_alone (Instruction-F.NoteUnlockable asset owner) = true
stands_alone (Instruction-F.UnlockAsset asset target) = true
stands_alone _ = false

-- one such instruction, and nothing else
pub record IsAlone (program : List Instruction) : Type 0 where
  pub what : Instruction-F Instruction
  pub kind : IsTrue (stands_alone what)
  pub is : program ≡ roll-Instruction what ∷ []

-- ClaimAsset and ClearOrigin; then comes anything
pub record IsLedByClaim (program : List Instruction) : Type 0 where
  pub list : List Asset
  pub ticket : Location
  pub behind : List Instruction
  pub is : program ≡ led_by (Instruction-F.ClaimAsset list ticket) behind

-- the seven shapes. A deposit's program begins with ReserveAssetDeposited, that of what is on its way begins with WithdrawAsset where it is a withdrawal
-- and with ReceiveTeleportedAsset where it is a teleport, and what carries nothing is one instruction alone, of three kinds, or a claim
abbrev pub IsShape : Site → ChainId → List Instruction → Cargo → Type 0
IsShape here there program (Deposit list) = IsLedBy here there list deposit_program program
IsShape here there program (Away shipment) = IsLedBy here there (held_assets shipment.units) (away_program shipment.way) program
IsShape here there program Nothing = IsAlone program ⊎ IsLedByClaim program

-- a message that waits
abbrev pub IsShaped : Site → ChainId → Waiting → Type 0
IsShaped here there x = IsShape here there x.program x.cargo

-- all that wait in a channel; all that wait at a chain
abbrev pub AreShapedIn : Site → Outgoing → Type 0
AreShapedIn here c = AllByRecursion (IsShaped here c.channel.to) c.queue

abbrev pub AreShapedAt : ChainPart → Type 0
AreShapedAt p = AllByRecursion (AreShapedIn p.site) p.channels

-- all that wait in the network
abbrev pub AllShaped : World → Type 0
AllShaped w = AllByRecursion (λ (m : Member). AreShapedAt m.part) w

-- nothing waits in the network
abbrev pub NothingWaits : World → Type 0
NothingWaits w = AllByRecursion (λ (m : Member). AllByRecursion (λ (c : Outgoing). c.queue ≡ []) m.part.channels) w
