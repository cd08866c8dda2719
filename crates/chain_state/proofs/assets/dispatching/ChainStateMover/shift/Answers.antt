use Rattle.trust_tables.specs.declared.rows.AssetRow.{AssetRow}
use Rattle.std.proofs.Common.{◌≡◌, List, Option, refl, sym, ◌∙◌, subst}
use Rattle.call_dispatch.specs.declared.faults.ShiftFault.{ShiftFault}
use Rattle.call_dispatch.specs.Shifts.{shifted, Shifts}
use Rattle.row_ledger.specs.RowAccounts.{row_amounts, held_aside}
use Rattle.std.specs.List.{IsDistinct}
use Rattle.std.specs.Ordering.{eq_by_cmp}
use Rattle.asset_lists.specs.Listed.{listed_cmp}
use Rattle.trust_tables.specs.Trust.{listing}
use Rattle.chain_state.specs.PartOf.{part_of}
use Rattle.chain_state.proofs.Floored.{ShiftsFreely, short_fault, same_fault, floors_moved}
use Rattle.chain_state.proofs.Lemmas.Facts.{keeps_floors}
use Rattle.chain_state.specs.Known.{apart_there, floors_there, pools_free}
use Rattle.chain_state.proofs.assets.dispatching.ChainStateMover.shift.Goals as goal
use Rattle.plain_lists.proofs.Lemmas.Facts.{none_if}

pub returns-in-Some-clause-step : goal.returns-in-Some-clause-step
returns-in-Some-clause-step c =
    (short_fault (part_of c.args.self.now) c.args.row c.args.from.now c.args.to.now c.args.amount c.in-Some.have (sym c.shortage_above_floor.ensures ∙ c.in-Some.is), refl)

pub invariant_of-self-clause-floors : goal.invariant_of-self-clause-floors
invariant_of-self-clause-floors c =
    let f = c.args.self.now in
    let now = c.shift_row.new.ledger.held in
    let rows : c.items-rows.result.now ≡ f.settings.rows = c.items-rows.ensures in
    let none = sym c.shortage_above_floor.ensures ∙ none_if c.shortage_above_floor.result c.in_default.not-Some in
    let aside = subst (λ (rows : List AssetRow). held_aside rows now ≡ held_aside rows f.ledger.held) rows c.shift_row.ensures.aside in
    let step = subst (λ (rows : List AssetRow). ShiftsFreely rows f.ledger.held c.args.row c.args.from.now c.args.to.now c.args.amount c.shift_row.result now) rows c.shift_row.ensures.step in
    keeps_floors _ _ _ (floors_moved (part_of f) c.args.row c.args.from.now c.args.to.now c.args.amount (apart_there f) now aside (floors_there f) none c.shift_row.result step) (pools_free f)

pub returns-clause-step : goal.returns-clause-step
returns-clause-step c =
    let f = c.args.self.now in
    let p = part_of f in
    let m = row_amounts p.rows p.held in
    let now = c.shift_row.new.ledger.held in
    let rows : c.items-rows.result.now ≡ f.settings.rows = c.items-rows.ensures in
    let none = sym c.shortage_above_floor.ensures ∙ none_if c.shortage_above_floor.result c.in_default.not-Some in
    let step = subst (λ (rows : List AssetRow). ShiftsFreely rows f.ledger.held c.args.row c.args.from.now c.args.to.now c.args.amount c.shift_row.result now) rows c.shift_row.ensures.step in
    subst (λ (fault : Option ShiftFault). Shifts fault (shifted m c.args.row c.args.from.now c.args.to.now c.args.amount) m c.shift_row.result (row_amounts p.rows now))
    (sym (same_fault p c.args.row c.args.from.now c.args.to.now c.args.amount none)) step

pub shift_row-requires : goal.shift_row-requires
shift_row-requires c =
    record { apart = subst (λ (rows : List AssetRow). IsDistinct (eq_by_cmp listed_cmp) (listing rows)) (sym c.items-rows.ensures) (apart_there c.args.self.now) }
