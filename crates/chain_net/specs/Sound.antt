-- What a network keeps between two steps. This project's own rule.
use Rattle.std.specs.Prelude.{◌≡◌, ℕ, ◌<◌, Bool, true, false, IsTrue, is_some, List, [], Some, ⊤, slice_get}
use Rattle.std.specs.Coded.{Coded, Coded-set, coded_ℕ, coded_bool, coded_list, coded×, coded_option, Π_prop, Unit-prop, le_prop}
use Rattle.std.specs.FinMap as map
use Rattle.amounts.specs.Amounts.{amount, empty}
use Rattle.std.specs.List.{AllByRecursion, AllByRecursion-prop}
use Rattle.std.proofs.Math.Logic.{∥∥₁_prop}
use Rattle.asset_lists.specs.contracts.units.AssetId.{the_row as asset_id}
use Rattle.asset_lists.specs.contracts.units.Instance.{the_row as instance}
use Rattle.asset_lists.specs.declared.units.AssetId.TheVariants.{Concrete}
use Rattle.asset_lists.specs.Units.{Unit}
use Rattle.asset_lists.specs.Listed.{Listed, listed_of, lists}
use Rattle.asset_bundles.specs.Bundles.{Bundle}
use Rattle.asset_bundles.specs.declared.trap.Trap.{Trap}
use Rattle.weight_trader.specs.Purchases.{Line}
use Rattle.channel_parts.specs.contracts.cargo.Cargo.{the_row as cargo_row}
use Rattle.exec_base.specs.contracts.event.Event.{the_row as event_row}
use Rattle.asset_bundles.specs.Books.{AreListed}
use Rattle.trust_tables.specs.Trust.{listing}
use Rattle.channel_parts.specs.declared.cargo.Cargo.{Cargo}
use Rattle.channel_parts.specs.declared.cargo.Cargo.TheVariants.{Nothing, Deposit, Away}
use Rattle.channel_parts.specs.Channels.{Waiting, Outgoing}
use Rattle.chain_queues.specs.Queues.{channel_to}
use Rattle.asset_pools.specs.declared.pool.Pool.{Pool}
use Rattle.asset_pools.specs.Exchanges.{coin}
use Rattle.exec_base.specs.Part.{ChainPart}
use Rattle.exec_rules.specs.Readiness.{IsInOrder, IsAtRest}
use Rattle.network_steps.specs.Worlds.{World}
use Rattle.network_spec.specs.declared.network.NetworkSpec.{NetworkSpec}
use Rattle.law_nets.specs.Runs.{HasSomePast}
use Rattle.chain_state.specs.declared.state.ChainState.{ChainState}
use Rattle.chain_state.specs.PartOf.{part_of}

-- what is shipped is listed
abbrev pub IsListedCargo : List Listed → Cargo → Type 0
IsListedCargo listed Nothing = ⊤
IsListedCargo listed (Deposit list) = ⊤
IsListedCargo listed (Away shipment) = AreListed listed shipment.units

-- of all messages that wait in these channels
abbrev pub AreListedIn : List Listed → List Outgoing → Type 0
AreListedIn listed channels = AllByRecursion (λ (c : Outgoing). AllByRecursion (λ (x : Waiting). IsListedCargo listed x.cargo) c.queue) channels

-- a chain between two steps: no run goes on, no message is being delivered, nothing is kept back, what it shipped it lists, and no channel
-- leads from it to itself
pub record IsBetweenSteps (p : ChainPart) : Type 0 where
  pub rest : IsAtRest p
  pub landed : p.cargo.cargo ≡ Nothing
  pub told : p.pending_events ≡ []
  pub shipped : AreListedIn (listing p.rows) p.channels
  pub apart : is_some (channel_to p.site.chain p.channels) ≡ false

-- so are all of these chains
abbrev pub AreBetweenSteps : List ChainState → Type 0
AreBetweenSteps states = (place : ℕ) (state : ChainState) → slice_get states place ≡ Some state → IsBetweenSteps (part_of state)

-- ---- each of these facts has one proof at most, so that a network can keep them: a reader may skip the rest
abbrev coded_bundle : Coded Bundle
coded_bundle = map.code (coded× asset_id.coded (coded_option instance.coded)) coded_ℕ

AreListed-prop : (listed : List Listed) (goods : Bundle) → IsProp (AreListed listed goods)
AreListed-prop listed goods = Π_prop (λ (u : Unit). Π_prop (λ (some : 0 < amount goods u). Coded-set coded_bool (lists listed (listed_of u)) true))

IsListedCargo-prop : (listed : List Listed) (cargo : Cargo) → IsProp (IsListedCargo listed cargo)
IsListedCargo-prop listed Nothing = Unit-prop
IsListedCargo-prop listed (Deposit list) = Unit-prop
IsListedCargo-prop listed (Away shipment) = AreListed-prop listed shipment.units

AreListedIn-prop : (listed : List Listed) (channels : List Outgoing) → IsProp (AreListedIn listed channels)
AreListedIn-prop listed channels = AllByRecursion-prop _ (λ (c : Outgoing). AllByRecursion-prop _ (λ (x : Waiting). IsListedCargo-prop listed x.cargo) c.queue) channels

pool_listed-prop : (listed : List Listed) (pool : Pool)
    → IsProp (IsTrue (lists listed (listed_of (coin (Concrete pool.first)))) × IsTrue (lists listed (listed_of (coin (Concrete pool.second)))))
pool_listed-prop listed pool a b = λ i. (
  Coded-set coded_bool (lists listed (listed_of (coin (Concrete pool.first)))) true a.0 b.0 i,
  Coded-set coded_bool (lists listed (listed_of (coin (Concrete pool.second)))) true a.1 b.1 i,
)

IsInOrder-prop : (p : ChainPart) → IsProp (IsInOrder p)
IsInOrder-prop p a b = λ i. record {
  traps = AllByRecursion-prop _ (λ (t : Trap). AreListed-prop (listing p.rows) t.goods) p.traps.traps a.traps b.traps i;
  rates = AllByRecursion-prop _ (λ (line : Line). Coded-set coded_bool _ _) p.lines a.rates b.rates i;
  paid = AllByRecursion-prop _ (λ (line : Line). le_prop) p.lines a.paid b.paid i;
  pools = AllByRecursion-prop _ (λ (pool : Pool). pool_listed-prop (listing p.rows) pool) p.pools a.pools b.pools i;
  unparked = Coded-set (coded_list coded_bundle) p.parked [] a.unparked b.unparked i;
}

IsAtRest-prop : (p : ChainPart) → IsProp (IsAtRest p)
IsAtRest-prop p a b = λ i. record { order = IsInOrder-prop p a.order b.order i; slot = Coded-set coded_bundle p.fee_slot empty a.slot b.slot i }

IsBetweenSteps-prop : (p : ChainPart) → IsProp (IsBetweenSteps p)
IsBetweenSteps-prop p a b = λ i. record {
  rest = IsAtRest-prop p a.rest b.rest i;
  landed = Coded-set cargo_row.coded p.cargo.cargo Nothing a.landed b.landed i;
  told = Coded-set (coded_list event_row.coded) p.pending_events [] a.told b.told i;
  shipped = AreListedIn-prop (listing p.rows) p.channels a.shipped b.shipped i;
  apart = Coded-set coded_bool (is_some (channel_to p.site.chain p.channels)) false a.apart b.apart i;
}

pub AreBetweenSteps-prop : (stopped : Bool) (states : List ChainState) → IsProp (stopped ≡ false → AreBetweenSteps states)
AreBetweenSteps-prop stopped states = Π_prop (λ (going : stopped ≡ false). Π_prop (λ (place : ℕ). Π_prop (λ (state : ChainState). Π_prop (λ (at : slice_get states place ≡ Some state). IsBetweenSteps-prop (part_of state)))))

pub HasSomePast-prop : (stopped : Bool) (spec : NetworkSpec) (w : World) → IsProp (stopped ≡ false → HasSomePast spec w)
HasSomePast-prop stopped spec w = Π_prop (λ (going : stopped ≡ false). ∥∥₁_prop)
