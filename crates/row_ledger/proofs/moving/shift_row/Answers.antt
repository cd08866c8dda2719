use Rattle.std.proofs.Common.{◌≡◌, ◌^◌, ◌<◌, ℕ, Some, None, refl, sym, ap, subst}
use Rattle.std.specs.Prelude.{OnOk, slice_get}
use Rattle.asset_lists.specs.declared.units.AssetId.TheVariants.{Concrete}
use Rattle.asset_lists.specs.declared.units.Kind.TheVariants.{Fungible, Class}
use Rattle.row_ledger.specs.RowAccounts.{is_fungible_row, row_amounts}
use Rattle.row_ledger.proofs.Lemmas.AccountLaws.{amount_of_row}
use Rattle.row_ledger.proofs.Lemmas.{past, stands, is_fungible_at, number_is, no_row, shifts, aside_stays}
use Rattle.row_ledger.proofs.moving.shift_row.Goals as goal

pub returns-in_default-clause-step : goal.returns-in_default-clause-step
returns-in_default-clause-step c =
    let rows = c.args.rows.now in
    let none : slice_get rows c.args.row ≡ None = past rows c.args.row (sym c.in_default.ensures.lookup.0) in
    (no_row rows (row_amounts rows c.args.ledger.now.held) c.args.row c.args.from.now c.args.to.now c.args.amount (ap is_fungible_row none), refl)

pub returns-in_default-kind-clause-step : goal.returns-in_default-kind-clause-step
returns-in_default-kind-clause-step c =
    let rows = c.args.rows.now in
    let at : slice_get rows c.args.row ≡ Some c.in-Some.found.now = stands rows c.args.row c.in-Some.found.now c.in-Some.ensures.lookup.0 c.in-Some.ensures.lookup.1 in
    (no_row rows (row_amounts rows c.args.ledger.now.held) c.args.row c.args.from.now c.args.to.now c.args.amount (is_fungible_at rows c.args.row c.in-Some.found.now Class at c.in_default-kind.is), refl)

pub returns-clause-step : goal.returns-clause-step
returns-clause-step c =
    let rows = c.args.rows.now in
    let at : slice_get rows c.args.row ≡ Some c.in-Some.found.now = stands rows c.args.row c.in-Some.found.now c.in-Some.ensures.lookup.0 c.in-Some.ensures.lookup.1 in
    let there = is_fungible_at rows c.args.row c.in-Some.found.now Fungible at c.in-Fungible.is in
    shifts rows (Concrete c.in-Some.found.now.id, None) c.args.row there (number_is rows c.args.row c.in-Some.found.now c.requires.apart at there) c.args.ledger.now c.args.from.now c.args.to.now c.args.amount
    c.move_amount.result c.move_amount.new.ledger c.move_amount.ensures.step

pub returns-clause-had : goal.returns-clause-had
returns-clause-had c =
    let rows = c.args.rows.now in
    let at : slice_get rows c.args.row ≡ Some c.in-Some.found.now = stands rows c.args.row c.in-Some.found.now c.in-Some.ensures.lookup.0 c.in-Some.ensures.lookup.1 in
    let there = is_fungible_at rows c.args.row c.in-Some.found.now Fungible at c.in-Fungible.is in
    subst (λ (n : ℕ). OnOk c.move_amount.result (n < 2 ^ 128))
    (sym (amount_of_row rows (Concrete c.in-Some.found.now.id, None) c.args.row (number_is rows c.args.row c.in-Some.found.now c.requires.apart at there) c.args.ledger.now.held c.args.from.now))
    c.move_amount.ensures.had

pub returns-clause-listed : goal.returns-clause-listed
returns-clause-listed c =
    let rows = c.args.rows.now in
    let at : slice_get rows c.args.row ≡ Some c.in-Some.found.now = stands rows c.args.row c.in-Some.found.now c.in-Some.ensures.lookup.0 c.in-Some.ensures.lookup.1 in
    let there = is_fungible_at rows c.args.row c.in-Some.found.now Fungible at c.in-Fungible.is in
    (aside_stays rows (Concrete c.in-Some.found.now.id, None) c.args.row there (number_is rows c.args.row c.in-Some.found.now c.requires.apart at there) c.args.ledger.now c.args.from.now c.args.to.now c.args.amount
    c.move_amount.result c.move_amount.new.ledger c.move_amount.ensures.step).0

pub returns-clause-aside : goal.returns-clause-aside
returns-clause-aside c =
    let rows = c.args.rows.now in
    let at : slice_get rows c.args.row ≡ Some c.in-Some.found.now = stands rows c.args.row c.in-Some.found.now c.in-Some.ensures.lookup.0 c.in-Some.ensures.lookup.1 in
    let there = is_fungible_at rows c.args.row c.in-Some.found.now Fungible at c.in-Fungible.is in
    (aside_stays rows (Concrete c.in-Some.found.now.id, None) c.args.row there (number_is rows c.args.row c.in-Some.found.now c.requires.apart at there) c.args.ledger.now c.args.from.now c.args.to.now c.args.amount
    c.move_amount.result c.move_amount.new.ledger c.move_amount.ensures.step).1
