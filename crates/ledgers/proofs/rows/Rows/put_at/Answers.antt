use Rattle.std.proofs.Common.{◌+◌, ◌^◌, ◌<◌, refl, sym, ap, ◌∙◌, subst, arith}
use Rattle.asset_lists.specs.Units.{instance_in, amount_of}
use Rattle.asset_bundles.specs.Totals.{wide_value}
use Rattle.amounts.specs.Amounts.{plus}
use Rattle.ledgers.specs.LedgerRows.{amount_in_row}
use Rattle.ledgers.specs.RowState.{may_take}
use Rattle.ledgers.proofs.RowChanges.{row_room, sum_room, given, wrote_as, alike_sound}
use Rattle.ledgers.proofs.RowWriting.{on_err}
use Rattle.ledgers.proofs.rows.Rows.put_at.Goals as goal

pub add_amount-requires : goal.add_amount-requires
add_amount-requires c =
    let r = c.args.self.now in
    let a = c.args.asset.now in
    let owners = c.make_instance_row.new.rows.entries in
    let made = alike_sound r.assets r.amounts.entries r.owners.entries r.sums.items c.requires.sound r.amounts.entries owners (λ q. refl) c.make_instance_row.ensures.same c.requires.sound.small (c.make_instance_row.ensures.sorted c.requires.sound.sorted) in
    let room = row_room r.assets r.amounts.entries owners r.sums.items made.1 r.amounts.entries owners made.1.sorted c.args.number c.args.who.now a.id a.fun
    (sym c.requires.number) (subst (may_take a.fun c.args.who.now (a.id, instance_in a.fun)) (sym made.0) c.requires.may) (subst (λ n. n < 2 ^ 63) c.len-2.ensures.len c.len-2.ensures.small) in
    omega (arith, room, c.amount_of-amount.ensures)

pub raise_sum-requires-clause-room : goal.raise_sum-requires-clause-room
raise_sum-requires-clause-room c =
    let r = c.args.self.now in
    let a = c.args.asset.now in
    let owners = c.make_instance_row.new.rows.entries in
    let made = alike_sound r.assets r.amounts.entries r.owners.entries r.sums.items c.requires.sound r.amounts.entries owners (λ q. refl) c.make_instance_row.ensures.same c.requires.sound.small (c.make_instance_row.ensures.sorted c.requires.sound.sorted) in
    sum_room r.assets r.amounts.entries owners r.sums.items made.1 r.amounts.entries owners made.1.sorted c.args.number c.args.who.now a.id (a.id, instance_in a.fun)
    c.amount_of-amount.result c.amount_of-amount.type_inv (sym c.requires.number) (subst (λ n. n < 2 ^ 63) c.len.ensures.len c.len.ensures.small) (subst (λ n. n < 2 ^ 63) c.len-2.ensures.len c.len-2.ensures.small)

pub returns : goal.returns
returns c =
    let r = c.args.self.now in
    let a = c.args.asset.now in
    let owners = c.make_instance_row.new.rows.entries in
    let made = alike_sound r.assets r.amounts.entries r.owners.entries r.sums.items c.requires.sound r.amounts.entries owners (λ q. refl) c.make_instance_row.ensures.same c.requires.sound.small (c.make_instance_row.ensures.sorted c.requires.sound.sorted) in
    let sum = c.raise_sum.ensures in
    let whole = given r.assets r.amounts.entries owners r.sums.items made.1 c.add_amount.new.rows.entries c.set_owner.new.rows.entries
    (c.set_owner.ensures.sorted made.1.sorted) c.args.number c.args.who.now a.id a.fun (sym c.requires.number) (subst (may_take a.fun c.args.who.now (a.id, instance_in a.fun)) (sym made.0) c.requires.may)
    (wrote_as r.amounts.entries c.add_amount.new.rows.entries (c.args.who.now, c.args.number) _ _ (ap (λ n. amount_in_row r.amounts.entries (c.args.who.now, c.args.number) + n) c.amount_of-amount.ensures) c.in_ok-add_amount.ensures.wrote)
    c.set_owner.ensures.wrote (c.add_amount.ensures.small c.requires.sound.small)
    c.raise_sum.new.sums.items (sum.0, sum.1, sum.2, sum.3 ∙ ap (λ n. wide_value sum.0 + n) c.amount_of-amount.ensures) in
    record { sound = whole.1; assets = refl; held = whole.0 ∙ ap (λ h. plus h (c.args.who.now, (a.id, instance_in a.fun)) (amount_of a)) made.0; kept = tt }

pub returns-in_err-make_instance_row-clause-sound : goal.returns-in_err-make_instance_row-clause-sound
returns-in_err-make_instance_row-clause-sound c =
    let r = c.args.self.now in
    let made = alike_sound r.assets r.amounts.entries r.owners.entries r.sums.items c.requires.sound r.amounts.entries c.make_instance_row.new.rows.entries (λ q. refl) c.make_instance_row.ensures.same c.requires.sound.small (c.make_instance_row.ensures.sorted c.requires.sound.sorted) in
    made.1

pub returns-in_err-make_instance_row-clause-kept : goal.returns-in_err-make_instance_row-clause-kept
returns-in_err-make_instance_row-clause-kept c =
    let r = c.args.self.now in
    let made = alike_sound r.assets r.amounts.entries r.owners.entries r.sums.items c.requires.sound r.amounts.entries c.make_instance_row.new.rows.entries (λ q. refl) c.make_instance_row.ensures.same c.requires.sound.small (c.make_instance_row.ensures.sorted c.requires.sound.sorted) in
    on_err _ _ made.0

pub returns-in_err-add_amount-clause-sound : goal.returns-in_err-add_amount-clause-sound
returns-in_err-add_amount-clause-sound c =
    let r = c.args.self.now in
    let made = alike_sound r.assets r.amounts.entries r.owners.entries r.sums.items c.requires.sound c.add_amount.new.rows.entries c.make_instance_row.new.rows.entries c.in_err-add_amount.ensures.same c.make_instance_row.ensures.same (c.add_amount.ensures.small c.requires.sound.small) (c.make_instance_row.ensures.sorted c.requires.sound.sorted) in
    made.1

pub returns-in_err-add_amount-clause-kept : goal.returns-in_err-add_amount-clause-kept
returns-in_err-add_amount-clause-kept c =
    let r = c.args.self.now in
    let made = alike_sound r.assets r.amounts.entries r.owners.entries r.sums.items c.requires.sound c.add_amount.new.rows.entries c.make_instance_row.new.rows.entries c.in_err-add_amount.ensures.same c.make_instance_row.ensures.same (c.add_amount.ensures.small c.requires.sound.small) (c.make_instance_row.ensures.sorted c.requires.sound.sorted) in
    on_err _ _ made.0
