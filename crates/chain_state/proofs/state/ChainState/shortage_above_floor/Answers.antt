use Rattle.std.proofs.Common.{◌≡◌, List, None, Some, true, false, ap, ◌∙◌, subst}
use Rattle.std.specs.Prelude.{slice_get}
use Rattle.std.proofs.lemmas.Bool.{le-leb, lt-leb}
use Rattle.amounts.specs.Amounts.{amount}
use Rattle.locations.specs.declared.relative.Location.{Location}
use Rattle.asset_lists.specs.declared.units.AssetId.TheVariants.{Concrete}
use Rattle.trust_tables.specs.declared.rows.AssetRow.{AssetRow}
use Rattle.row_ledger.proofs.Lemmas.{stands}
use Rattle.chain_state.specs.PartOf.{part_of}
use Rattle.chain_state.proofs.Floored.{may_give_is, shortage_is}
use Rattle.chain_state.specs.Known.{apart_there}
use Rattle.chain_state.proofs.state.ChainState.shortage_above_floor.Goals as goal

pub returns-then-amount-may_give : goal.returns-then-amount-may_give
returns-then-amount-may_give c =
    let f = c.args.self.now in
    let found = c.in_ok-found.found.now in
    let at : slice_get f.settings.rows c.args.row ≡ Some found =
    subst (λ (rows : List AssetRow). slice_get rows c.args.row ≡ Some found) c.items.ensures (stands c.items.result.now c.args.row found c.in_ok-found.ensures.lookup.0 c.in_ok-found.ensures.lookup.1) in
    let had = c.amount-has.ensures.amount ∙ ap (λ (l : Location). amount f.ledger.held (c.args.who.now, (Concrete l, None))) c.copy.ensures.same in
    let is = may_give_is (part_of f) (apart_there f) c.args.row c.args.who.now found at c.in-Fungible.is c.amount-has.result c.floor.result c.saturating_sub-may_give.result had c.floor.ensures c.saturating_sub-may_give.ensures in
    shortage_is (part_of f) (apart_there f) c.args.row c.args.who.now found at c.in-Fungible.is c.args.amount c.saturating_sub-may_give.result true is (le-leb _ _ c.if-amount-may_give.true)

pub returns : goal.returns
returns c =
    let f = c.args.self.now in
    let found = c.in_ok-found.found.now in
    let at : slice_get f.settings.rows c.args.row ≡ Some found =
    subst (λ (rows : List AssetRow). slice_get rows c.args.row ≡ Some found) c.items.ensures (stands c.items.result.now c.args.row found c.in_ok-found.ensures.lookup.0 c.in_ok-found.ensures.lookup.1) in
    let had = c.amount-has.ensures.amount ∙ ap (λ (l : Location). amount f.ledger.held (c.args.who.now, (Concrete l, None))) c.copy.ensures.same in
    let is = may_give_is (part_of f) (apart_there f) c.args.row c.args.who.now found at c.in-Fungible.is c.amount-has.result c.floor.result c.saturating_sub-may_give.result had c.floor.ensures c.saturating_sub-may_give.ensures in
    shortage_is (part_of f) (apart_there f) c.args.row c.args.who.now found at c.in-Fungible.is c.args.amount c.saturating_sub-may_give.result false is (lt-leb _ _ c.if-amount-may_give.false)
