use Rattle.std.proofs.Common.{◌≡◌, List, [], ◌∷◌, None, refl, sym, ap, ◌∙◌, subst}
use Rattle.std.specs.Prelude.{IfErr}
use Rattle.std.proofs.lemmas.Bool.{and_from}
use Rattle.std.proofs.lemmas.Result.{err_from_is_err_and}
use Rattle.asset_lists.specs.declared.units.Asset.{Asset}
use Rattle.asset_lists.proofs.Lemmas.{once_each}
use Rattle.asset_bundles.specs.Bundles.{bundle_of, held_assets}
use Rattle.asset_bundles.specs.Books.{AreListed}
use Rattle.asset_bundles.proofs.Lemmas.{listed_list}
use Rattle.trust_tables.specs.Trust.{listing}
use Rattle.ledgers.specs.Ledgers.{Accounts, Deposited, barred}
use Rattle.ledgers.specs.LedgerFaults.{IsFirstBarred, IsDepositFault}
use Rattle.chain_state.proofs.Balances.{alone_held, barred_so}
use Rattle.chain_state.proofs.Floored.{after_either, got_after}
use Rattle.chain_state.proofs.Locked.{some_amount}
use Rattle.chain_state.specs.Facts.{KeepsLockFloors}
use Rattle.chain_state.proofs.Lemmas.Facts.{keeps_floors}
use Rattle.chain_state.specs.Known.{floors_there, pools_free}
use Rattle.chain_state.proofs.state.ChainState.place.Goals as goal

pub returns-in-Some-clause-fault : goal.returns-in-Some-clause-fault
returns-in-Some-clause-fault c =
    let f = c.args.self.now in
    let who = c.args.who.now in
    let alone = alone_held c.args.asset (some_amount c.args.asset c.requires.some) in
    subst (λ (xs : List Asset). IsDepositFault f.ledger.held who xs c.in-Some.fault) (sym alone) (barred_so f.ledger.held who (c.args.asset ∷ []) c.in-Some.fault c.in-Some.ensures.barred)

pub mint-requires-clause-once : goal.mint-requires-clause-once
mint-requires-clause-once c = once_each (c.args.asset ∷ []) refl

pub deposit_checked-requires-clause-listed : goal.deposit_checked-requires-clause-listed
deposit_checked-requires-clause-listed c =
    let f = c.args.self.now in
    let all = listed_list (listing f.settings.rows) (c.args.asset ∷ []) (and_from _ _ c.requires.listed refl) in
    subst (λ listed. AreListed listed c.in_ok-goods.goods) (sym f.ledger_lists) (subst (AreListed (listing f.settings.rows)) (sym c.in_ok-goods.ensures) all)

pub deposit_checked-requires-clause-free : goal.deposit_checked-requires-clause-free
deposit_checked-requires-clause-free c =
    let f = c.args.self.now in
    let who = c.args.who.now in
    let alone = alone_held c.args.asset (some_amount c.args.asset c.requires.some) in
    ap (λ goods. barred f.ledger.held who (held_assets goods)) c.in_ok-goods.ensures ∙ ap (barred f.ledger.held who) alone ∙ c.in_default.ensures.barred

pub invariant_of-self-clause-floors : goal.invariant_of-self-clause-floors
invariant_of-self-clause-floors c =
    let f = c.args.self.now in
    let who = c.args.who.now in
    after_either (λ (l : Accounts). KeepsLockFloors f.settings.pools f.locked l.held) f.ledger (Deposited who c.in_ok-goods.goods f.ledger) c.deposit_checked.new.self c.deposit_checked.result c.deposit_checked.ensures.deposited c.deposit_checked.ensures.kept
    f.floors (keeps_floors _ _ _ (got_after f.locked f.ledger who c.in_ok-goods.goods (floors_there f)) (pools_free f))

pub returns-in_err-goods-clause-fault : goal.returns-in_err-goods-clause-fault
returns-in_err-goods-clause-fault c =
    let f = c.args.self.now in
    let who = c.args.who.now in
    let list = held_assets (bundle_of (c.args.asset ∷ [])) in
    let alone = alone_held c.args.asset (some_amount c.args.asset c.requires.some) in
    let free : barred f.ledger.held who list ≡ None = ap (barred f.ledger.held who) alone ∙ c.in_default.ensures.barred in
    let p = err_from_is_err_and c.from_residual.result c.from_residual.ensures.1 in
    subst (λ r. IfErr r (λ fault. IsDepositFault f.ledger.held who list fault)) (sym p.1)
    (subst (λ fault. IsDepositFault f.ledger.held who list fault) (sym p.2) free)

pub returns-in-Ok-clause-free : goal.returns-in-Ok-clause-free
returns-in-Ok-clause-free c =
    let alone = alone_held c.args.asset (some_amount c.args.asset c.requires.some) in
    ap (barred c.args.self.now.ledger.held c.args.who.now) alone ∙ c.in_default.ensures.barred

pub returns-in-Err-clause-fault : goal.returns-in-Err-clause-fault
returns-in-Err-clause-fault c =
    let alone = alone_held c.args.asset (some_amount c.args.asset c.requires.some) in
    ap (barred c.args.self.now.ledger.held c.args.who.now) alone ∙ c.in_default.ensures.barred
