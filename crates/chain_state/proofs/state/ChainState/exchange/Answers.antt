use Rattle.std.proofs.Common.{◌≡◌, List, length, arith, sym, Some, None, Result, Err, ap, ◌∙◌, subst}
use Rattle.asset_bundles.specs.Bundles.{Bundle}
use Rattle.law_hosts.specs.Floors.{NoPoolLocks}
use Rattle.asset_pools.specs.declared.pool.Pool.{Pool}
use Rattle.asset_pools.specs.declared.faults.ExchangeFault.{ExchangeFault}
use Rattle.asset_pools.specs.declared.faults.ExchangeFault.TheVariants.{NoDeal}
use Rattle.asset_pools.specs.Making.{MakesExchange}
use Rattle.ledgers.specs.Ledgers.{Accounts}
use Rattle.exec_base.specs.Part.{ChainPart}
use Rattle.chain_state.specs.PartOf.{part_of}
use Rattle.chain_state.proofs.Exchanged.{same_exchange, exchange_done, exchange_refused, floors_exchanged}
use Rattle.chain_state.proofs.Lemmas.Facts.{keeps_floors}
use Rattle.chain_state.specs.Known.{few_pools, floors_there, pools_free}
use Rattle.chain_state.proofs.state.ChainState.exchange.Goals as goal

pub returns-in-Ok : goal.returns-in-Ok
returns-in-Ok c =
    let p = part_of c.args.self.now in
    let made = c.in-Ok.ensures in
    let is = same_exchange p c.args.give c.args.want.now c.items.result.now c.items-pools.result.now c.args.maximal (Some made.0) c.items-pools.ensures c.items.ensures.value made.1 in
    record { step = exchange_done p c.args.give c.in-Ok.got c.args.want.now c.args.maximal made.0 c.exchange.new.ledger.held is made.2 (ap (λ (l : Accounts). l.held) made.3) }

pub returns-in-Err-default-NoDeal : goal.returns-in-Err-default-NoDeal
returns-in-Err-default-NoDeal c =
    let p = part_of c.args.self.now in
    let back = c.in-Err-default-NoDeal.give in
    let fault : c.exchange.result ≡ Err (back, NoDeal) = c.in-Err-default-NoDeal.is ∙ ap (λ (f : ExchangeFault). let r : Result Bundle (Bundle × ExchangeFault) = Err (back, f) in r) c.in-Err-default-NoDeal.field-0-1-is in
    let none : MakesExchange c.items-pools.result.now c.args.self.now.ledger c.args.give c.items.result.now c.args.maximal (Err (back, NoDeal)) c.exchange.new.ledger =
    subst (λ (r : Result Bundle (Bundle × ExchangeFault)). MakesExchange c.items-pools.result.now c.args.self.now.ledger c.args.give c.items.result.now c.args.maximal r c.exchange.new.ledger) fault c.exchange.ensures in
    let is = same_exchange p c.args.give c.args.want.now c.items.result.now c.items-pools.result.now c.args.maximal None c.items-pools.ensures c.items.ensures.value none.0 in
    record { step = (none.1, exchange_refused p c.args.give c.args.want.now c.args.maximal is, ap (λ (l : Accounts). let q : ChainPart = record p { held = l.held } in q) none.2) }

pub invariant_of-self-clause-floors : goal.invariant_of-self-clause-floors
invariant_of-self-clause-floors c =
    let f = c.args.self.now in
    let free = pools_free f in
    keeps_floors _ _ _
    (floors_exchanged c.items-pools.result.now f.locked f.ledger c.exchange.new.ledger c.args.give c.items.result.now c.args.maximal c.exchange.result c.exchange.ensures
    (subst (λ (pools : List Pool). NoPoolLocks pools f.locked) (sym c.items-pools.ensures) free) (floors_there f))
    free

pub exchange-requires : goal.exchange-requires
exchange-requires c =
    let most = few_pools c.args.self.now in
    let same = ap length c.items-pools.ensures in
    record { few = omega (arith, most, same) }
