use Rattle.std.proofs.Common.{◌-◌, refl, sym, ap, ◌∙◌, arith}
use Rattle.asset_lists.specs.Units.{instance_in}
use Rattle.asset_lists.specs.Listed.{listed_of}
use Rattle.asset_bundles.specs.Totals.{wide_value}
use Rattle.ledgers.specs.LedgerRows.{amount_in_row}
use Rattle.ledgers.proofs.Numbers.{number_at}
use Rattle.ledgers.proofs.RowChanges.{row_at_least, sum_at_least, taken, wrote_as, amount_row_there, instance_row_there}
use Rattle.ledgers.proofs.rows.Rows.take_at.Goals as goal

pub lower_amount-left-requires-clause-enough : goal.lower_amount-left-requires-clause-enough
lower_amount-left-requires-clause-enough c =
    let r = c.args.self.now in
    let at = number_at r.assets (listed_of (c.args.asset.now.id, instance_in c.args.asset.now.fun)) c.args.number (sym c.requires.number) in
    let row = row_at_least r.assets r.amounts.entries r.owners.entries r.sums.items c.requires.sound c.args.number c.args.who.now c.args.asset.now.id (instance_in c.args.asset.now.fun) at in
    omega (arith, row, c.requires.enough, c.amount_of-amount.ensures)

pub lower_amount-left-requires-clause-there : goal.lower_amount-left-requires-clause-there
lower_amount-left-requires-clause-there c =
    let r = c.args.self.now in
    let at = number_at r.assets (listed_of (c.args.asset.now.id, instance_in c.args.asset.now.fun)) c.args.number (sym c.requires.number) in
    let row = row_at_least r.assets r.amounts.entries r.owners.entries r.sums.items c.requires.sound c.args.number c.args.who.now c.args.asset.now.id (instance_in c.args.asset.now.fun) at in
    amount_row_there r.amounts.entries (c.args.who.now, c.args.number) (omega (arith, row, c.requires.some, c.requires.enough))

pub set_owner-requires : goal.set_owner-requires
set_owner-requires c =
    let r = c.args.self.now in
    instance_row_there r.assets r.amounts.entries r.owners.entries r.sums.items c.requires.sound c.args.number c.args.who.now c.args.asset.now.id (instance_in c.args.asset.now.fun) (sym c.requires.number) (omega (arith, c.requires.some, c.requires.enough))

pub lower_sum-requires-clause-enough : goal.lower_sum-requires-clause-enough
lower_sum-requires-clause-enough c = λ s was. (
    let r = c.args.self.now in
    let at = number_at r.assets (listed_of (c.args.asset.now.id, instance_in c.args.asset.now.fun)) c.args.number (sym c.requires.number) in
    let most = sum_at_least r.assets r.amounts.entries r.owners.entries r.sums.items c.requires.sound c.args.number c.args.who.now (c.args.asset.now.id, instance_in c.args.asset.now.fun) s at was in
    omega (arith, most, c.requires.enough, c.amount_of-amount.ensures))

pub returns : goal.returns
returns c =
    let r = c.args.self.now in
    let a = c.args.asset.now in
    let sum = c.lower_sum.ensures in
    let whole = taken r.assets r.amounts.entries r.owners.entries r.sums.items c.requires.sound c.lower_amount-left.new.rows.entries c.set_owner.new.rows.entries
    (c.set_owner.ensures.sorted c.requires.sound.sorted) c.args.number c.args.who.now a.id a.fun (sym c.requires.number) c.requires.enough
    (wrote_as r.amounts.entries c.lower_amount-left.new.rows.entries (c.args.who.now, c.args.number) _ _ (ap (λ n. amount_in_row r.amounts.entries (c.args.who.now, c.args.number) - n) c.amount_of-amount.ensures) c.lower_amount-left.ensures.wrote)
    c.set_owner.ensures.wrote (c.lower_amount-left.ensures.small c.requires.sound.small)
    c.lower_sum.new.sums.items (sum.0, sum.1, sum.2, sum.3 ∙ ap (λ n. wide_value sum.0 - n) c.amount_of-amount.ensures) in
    record { sound = whole.1; stay = record { assets = refl; amounts = c.lower_amount-left.ensures.stay; owners = c.set_owner.ensures.stay }; held = whole.0 }
