-- What an exchange that a chain's pools made leaves of it, and that one that they didn't make is refused.
use Rattle.std.proofs.Common.{◌≡◌, Bool, List, Option, Some, None, Result, Ok, Err, sym, ap, ◌∙◌, subst}
use Rattle.std.specs.Prelude.{is_some}
use Rattle.std.specs.Option.{option_map_or}
use Rattle.operands.specs.declared.error.XcmError.TheVariants as error
use Rattle.asset_lists.specs.declared.units.Asset.{Asset}
use Rattle.asset_bundles.specs.Bundles.{Bundle, held_assets}
use Rattle.asset_locks.specs.LockMaps.{LocksAndNotes}
use Rattle.ledgers.specs.Ledgers.{Held, Accounts}
use Rattle.asset_pools.specs.declared.pool.Pool.{Pool}
use Rattle.asset_pools.specs.declared.exchanges.Exchange.{Exchange}
use Rattle.asset_pools.specs.declared.faults.ExchangeFault.{ExchangeFault}
use Rattle.asset_pools.specs.declared.faults.ExchangeFault.TheVariants.{NoDeal, Memory}
use Rattle.asset_pools.specs.Exchanges.{exchange_of, held_after, goods_after}
use Rattle.asset_pools.specs.Making.{MakesExchange}
use Rattle.asset_pools.proofs.Lemmas.Keeping.{exchange_says}
use Rattle.law_hosts.specs.Floors.{HasFloors, NoPoolLocks}
use Rattle.law_hosts.proofs.Lemmas.{exchange_floors}
use Rattle.exec_base.specs.Part.{ChainPart}
use Rattle.exec_base.specs.Sending.{unless}
use Rattle.exec_base.specs.Pools.{exchange_at, exchange_refusal, exchanged, exchange_goods}

-- whether by the chain's own lists or by what they are
pub same_exchange : (p : ChainPart) (give : Bundle) (want list : List Asset) (pools : List Pool) (maximal : Bool) (o : Option Exchange) → pools ≡ p.pools → list ≡ want
    → exchange_of pools p.held (held_assets give) list maximal ≡ o → exchange_at p give want maximal ≡ o
same_exchange p give want list pools maximal o same_pools same_list is =
    sym (ap (λ (ps : List Pool). exchange_of ps p.held (held_assets give) list maximal) same_pools ∙ ap (λ (l : List Asset). exchange_of p.pools p.held (held_assets give) l maximal) same_list) ∙ is

pub exchange_done : (p : ChainPart) (give got : Bundle) (want : List Asset) (maximal : Bool) (e : Exchange) (held : Held) → exchange_at p give want maximal ≡ Some e → got ≡ goods_after e give → held ≡ held_after e p.held
    → (exchange_refusal p give want maximal ≡ None) × (got ≡ exchange_goods p give want maximal) × ((let q : ChainPart = record p { held = held } in q) ≡ exchanged p give want maximal)
unfolding exchange_refusal exchange_goods exchanged
exchange_done p give got want maximal e held made gots helds = (
  ap (λ (o : Option Exchange). unless (is_some o) error.NoDeal None) made,
  gots ∙ sym (ap (λ (o : Option Exchange). option_map_or (λ (e : Exchange). goods_after e give) o give) made),
  ap (λ (h : Held). let q : ChainPart = record p { held = h } in q) helds
      ∙ sym (ap (λ (o : Option Exchange). option_map_or (λ (e : Exchange). let q : ChainPart = record p { held = held_after e p.held } in q) o p) made),
)

pub exchange_refused : (p : ChainPart) (give : Bundle) (want : List Asset) (maximal : Bool) → exchange_at p give want maximal ≡ None → exchange_refusal p give want maximal ≡ Some error.NoDeal
unfolding exchange_refusal
exchange_refused p give want maximal none = ap (λ (o : Option Exchange). unless (is_some o) error.NoDeal None) none

-- what accounts must keep, they keep
pub floors_exchanged : (pools : List Pool) (locked : LocksAndNotes) (before now : Accounts) (give : Bundle) (want : List Asset) (maximal : Bool) (result : Result Bundle (Bundle × ExchangeFault)) → MakesExchange pools before give want maximal result now
    → NoPoolLocks pools locked → HasFloors locked before.held → HasFloors locked now.held
floors_exchanged pools locked before now give want maximal (Ok got) made free floors =
    subst (λ (l : Accounts). HasFloors locked l.held) (sym made.3) (exchange_floors pools locked before.held give made.0 (exchange_says pools before.held give want maximal made.0 made.1) free floors)
floors_exchanged pools locked before now give want maximal (Err (back, NoDeal)) none free floors = subst (λ (l : Accounts). HasFloors locked l.held) (sym none.2) floors
floors_exchanged pools locked before now give want maximal (Err (back, Memory)) none free floors = subst (λ (l : Accounts). HasFloors locked l.held) (sym none.1) floors
