use Rattle.std.proofs.Common.{◌+◌, ◌^◌, ◌<◌, refl, sym, ap, ◌∙◌, subst, arith}
use Rattle.asset_lists.specs.Units.{instance_in}
use Rattle.asset_bundles.specs.Totals.{wide_value}
use Rattle.ledgers.specs.LedgerRows.{amount_in_row}
use Rattle.ledgers.proofs.RowChanges.{row_room, sum_room, given, wrote_as}
use Rattle.ledgers.proofs.rows.Rows.give.Goals as goal

pub raise_amount-requires-clause-room : goal.raise_amount-requires-clause-room
raise_amount-requires-clause-room c =
    let r = c.args.self.now in
    let a = c.args.asset.now in
    let room = row_room r.assets r.amounts.entries r.owners.entries r.sums.items c.requires.sound r.amounts.entries r.owners.entries c.requires.sound.sorted c.in-Some.number c.args.who.now a.id a.fun
    (sym c.in-Some.ensures) c.requires.may (subst (λ n. n < 2 ^ 63) c.len-2.ensures.len c.len-2.ensures.small) in
    omega (arith, room, c.amount_of-amount.ensures)

pub raise_sum-requires-clause-room : goal.raise_sum-requires-clause-room
raise_sum-requires-clause-room c =
    let r = c.args.self.now in
    let a = c.args.asset.now in
    sum_room r.assets r.amounts.entries r.owners.entries r.sums.items c.requires.sound r.amounts.entries r.owners.entries c.requires.sound.sorted c.in-Some.number c.args.who.now a.id (a.id, instance_in a.fun)
    c.amount_of-amount.result c.amount_of-amount.type_inv (sym c.in-Some.ensures) (subst (λ n. n < 2 ^ 63) c.len.ensures.len c.len.ensures.small) (subst (λ n. n < 2 ^ 63) c.len-2.ensures.len c.len-2.ensures.small)

pub returns : goal.returns
returns c =
    let r = c.args.self.now in
    let a = c.args.asset.now in
    let sum = c.raise_sum.ensures in
    let whole = given r.assets r.amounts.entries r.owners.entries r.sums.items c.requires.sound c.raise_amount.new.rows.entries c.set_owner.new.rows.entries
    (c.set_owner.ensures.sorted c.requires.sound.sorted) c.in-Some.number c.args.who.now a.id a.fun (sym c.in-Some.ensures) c.requires.may
    (wrote_as r.amounts.entries c.raise_amount.new.rows.entries (c.args.who.now, c.in-Some.number) _ _ (ap (λ n. amount_in_row r.amounts.entries (c.args.who.now, c.in-Some.number) + n) c.amount_of-amount.ensures) c.raise_amount.ensures.wrote)
    c.set_owner.ensures.wrote (c.raise_amount.ensures.small c.requires.sound.small)
    c.raise_sum.new.sums.items (sum.0, sum.1, sum.2, sum.3 ∙ ap (λ n. wide_value sum.0 + n) c.amount_of-amount.ensures) in
    record { sound = whole.1; stay = record { assets = refl; amounts = c.raise_amount.ensures.stay; owners = c.set_owner.ensures.stay }; held = whole.0 }
