-- What an instruction may do to a chain, and that it is a safe change as conservation sees it. This project's own vocabulary.
use Rattle.std.proofs.Common.{◌≡◌, ℕ, ◌+◌, ◌^◌, ◌<◌, ◌≤◌, Bool, List, [], ◌∷◌, Some, map}
use Rattle.std.specs.Prelude.{◌≢◌, IsTrue, ⊤}
use Rattle.std.specs.List.{AllByRecursion}
use Rattle.amounts.specs.Amounts.{total}
use Rattle.locations.specs.declared.relative.Location.{Location}
use Rattle.asset_lists.specs.declared.units.Asset.{Asset}
use Rattle.asset_lists.specs.Units.{Unit}
use Rattle.asset_lists.specs.Listed.{Listed}
use Rattle.asset_bundles.specs.declared.shipment.Way.{Way}
use Rattle.asset_bundles.specs.Bundles.{bundle_of, held_assets, IsGoods}
use Rattle.asset_bundles.specs.Books.{is_unit_where, AreListed}
use Rattle.asset_bundles.specs.Joins.{IsWithinMost}
use Rattle.chain_ids.specs.declared.chain.ChainId.{ChainId}
use Rattle.trust_tables.specs.declared.chains.Site.{Site}
use Rattle.trust_tables.specs.declared.rows.AssetRow.{AssetRow}
use Rattle.trust_tables.specs.Chains.{location_of}
use Rattle.trust_tables.specs.Accounts.{IsChain, account_of, sovereign_account}
use Rattle.trust_tables.specs.Trust.{listing, is_reserve, is_partner}
use Rattle.xcm_program.specs.declared.instruction.Instruction.{Instruction}
use Rattle.xcm_program.specs.declared.instruction.Instruction.TheOpen.{Instruction-F}
use Rattle.xcm_program.specs.Everywhere.{Everywhere}
use Rattle.xcm_program.specs.Measure.{deep_count}
use Rattle.channel_parts.specs.declared.cargo.Cargo as carried
use Rattle.channel_parts.specs.declared.cargo.Cargo.TheVariants as cargos
use Rattle.channel_parts.specs.declared.channel.Channel.{Channel}
use Rattle.channel_parts.specs.Channels.{Waiting, Outgoing}
use Rattle.asset_lists.specs.Lists.{IsAssetList}
use Rattle.exec_rules.specs.Machine.{Machine}
use Rattle.law_coherence.specs.Networks.{Table, IsIn}
use Rattle.law_coherence.specs.Parts.{Cargo, Nothing, Deposit, Withdrawal, Teleport}
use Rattle.law_coherence.specs.Steps.{IsSafe}
use Rattle.law_runs.specs.Views.{table_of, view}
use Rattle.law_runs.specs.Sums.{in_places, burned_where, Sum, HasRoom}

-- the lists that leave accounts, or are teleported in, are in their order, as the type of lists says
abbrev pub HasList : (X : Type 0) → Instruction-F X → Type 0
HasList X (Instruction-F.WithdrawAsset list) = IsAssetList list
HasList X (Instruction-F.ReceiveTeleportedAsset list) = IsAssetList list
HasList X (Instruction-F.TransferAsset list who) = IsAssetList list
HasList X (Instruction-F.TransferReserveAsset list dest xcm) = IsAssetList list
HasList X _ = ⊤

abbrev pub AreLists : Instruction → Type 0
AreLists = Everywhere HasList

-- ---- what an instruction did

-- the account of the origin
abbrev pub origins : Machine → List ℕ → Type 0
origins m who = (l : Location) × (m.regs.origin ≡ Some l) × (account_of l m.part.site ≡ Some who)

-- no account of another chain is among them
abbrev pub Spares : (List ℕ → Type 0) → Site → Type 0
Spares may site = (chain : ChainId) → IsChain chain → chain ≢ site.chain → may (sovereign_account site.chain chain) → ⊥

abbrev pub IsSpared : Machine → Type 0
IsSpared m = Spares (origins m) m.part.site

abbrev pub hold : Machine → Sum
hold m t = total t m.regs.holding

-- the chain and the holding
abbrev pub has : (Unit → Bool) → Machine → ℕ
has t m = in_places t m.part + hold m t

-- the sender trusts what is on its way, and lists what is deposited
abbrev pub AreTrusted : Site → List AssetRow → Location → Way → List Asset → Type 0
AreTrusted site rows name Way.Withdrawal list = AllByRecursion (λ (a : Asset). IsTrue (is_reserve rows site a name)) list
AreTrusted site rows name Way.Teleport list = AllByRecursion (λ (a : Asset). IsTrue (is_partner rows site a name)) list

abbrev pub IsTrustedCargo : Site → List AssetRow → Location → carried.Cargo → Type 0
IsTrustedCargo site rows name cargos.Nothing = ⊤
IsTrustedCargo site rows name (cargos.Deposit list) = AreListed (listing rows) (bundle_of list)
IsTrustedCargo site rows name (cargos.Away shipment) = IsGoods shipment.units × AreTrusted site rows name shipment.way (held_assets shipment.units)

-- a program that can be weighed, and whose lists are in order
pub record IsRunnable (program : List Instruction) : Type 0 where
  pub few : deep_count program < 2 ^ 32
  pub lists : AllByRecursion AreLists program

-- all that waits was trusted when it was sent
abbrev pub AreTrustedIn : Site → List AssetRow → Outgoing → Type 0
AreTrustedIn site rows c = (name : Location) → location_of site.chain c.channel.to ≡ Some name → AllByRecursion (λ (x : Waiting). IsTrustedCargo site rows name x.cargo × IsRunnable x.program) c.queue

abbrev pub AreTrustedAt : Site → List AssetRow → List Outgoing → Type 0
AreTrustedAt site rows channels = AllByRecursion (AreTrustedIn site rows) channels

-- the channels, as the network document says them
abbrev pub links_of : List Outgoing → List Channel
links_of channels = map (λ (c : Outgoing). c.channel) channels

-- a channel's fee, as a list, is in order: it isn't 0
abbrev pub HasFee : Channel → Type 0
HasFee channel = (fee : Asset) → channel.fee ≡ Some fee → IsAssetList (fee ∷ [])

abbrev pub AreFees : List Outgoing → Type 0
AreFees channels = AllByRecursion HasFee (links_of channels)

-- what every instruction does, in the end: a safe change, of units that were there
pub record Safely (m n : Machine) : Type 0 where
  pub site : n.part.site ≡ m.part.site
  pub rows : n.part.rows ≡ m.part.rows
  pub safe : IsSafe (view m) (view n)
  pub units : (t : Unit → Bool) → has t n ≤ has t m
  pub burns : (test : Listed → Bool) → burned_where test n.part + has (is_unit_where test) n ≤ burned_where test m.part + has (is_unit_where test) m
  pub trusted : AreTrustedAt m.part.site m.part.rows m.part.channels → AreTrustedAt n.part.site n.part.rows n.part.channels
  pub links : links_of n.part.channels ≡ links_of m.part.channels
  pub cargo : m.part.cargo.cargo ≡ cargos.Nothing → n.part.cargo.cargo ≡ cargos.Nothing

-- what an instruction relies on: no other chain's account is charged, no sum passes its maximum, what is held is listed, and the chain is one of
-- the network's
pub record MeetsPremises (n : List Table) (m : Machine) : Type 0 where
  pub spared : IsSpared m
  pub room : HasRoom (hold m) m.part
  pub listed : AreListed (listing m.part.rows) m.regs.holding
  pub within : IsWithinMost m.regs.holding
  pub there : IsIn n (table_of m.part)
