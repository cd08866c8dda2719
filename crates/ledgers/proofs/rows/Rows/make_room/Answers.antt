use Rattle.std.proofs.Common.{refl}
use Rattle.ledgers.proofs.RowChanges.{alike_sound}
use Rattle.ledgers.proofs.rows.Rows.make_room.Goals as goal

pub returns-in_err-make_amount_row-clause-sound : goal.returns-in_err-make_amount_row-clause-sound
returns-in_err-make_amount_row-clause-sound c =
    let r = c.args.self.now in
    (alike_sound r.assets r.amounts.entries r.owners.entries r.sums.items c.requires c.make_amount_row.new.rows.entries r.owners.entries c.make_amount_row.ensures.same (λ q. refl) (c.make_amount_row.ensures.small c.requires.small) c.requires.sorted).1

pub returns-in_err-make_amount_row-clause-held : goal.returns-in_err-make_amount_row-clause-held
returns-in_err-make_amount_row-clause-held c =
    let r = c.args.self.now in
    (alike_sound r.assets r.amounts.entries r.owners.entries r.sums.items c.requires c.make_amount_row.new.rows.entries r.owners.entries c.make_amount_row.ensures.same (λ q. refl) (c.make_amount_row.ensures.small c.requires.small) c.requires.sorted).0

pub returns-in_err-make_instance_row-clause-sound : goal.returns-in_err-make_instance_row-clause-sound
returns-in_err-make_instance_row-clause-sound c =
    let r = c.args.self.now in
    (alike_sound r.assets r.amounts.entries r.owners.entries r.sums.items c.requires c.make_amount_row.new.rows.entries c.make_instance_row.new.rows.entries c.make_amount_row.ensures.same c.make_instance_row.ensures.same (c.make_amount_row.ensures.small c.requires.small) (c.make_instance_row.ensures.sorted c.requires.sorted)).1

pub returns-in_err-make_instance_row-clause-held : goal.returns-in_err-make_instance_row-clause-held
returns-in_err-make_instance_row-clause-held c =
    let r = c.args.self.now in
    (alike_sound r.assets r.amounts.entries r.owners.entries r.sums.items c.requires c.make_amount_row.new.rows.entries c.make_instance_row.new.rows.entries c.make_amount_row.ensures.same c.make_instance_row.ensures.same (c.make_amount_row.ensures.small c.requires.small) (c.make_instance_row.ensures.sorted c.requires.sorted)).0

pub returns-clause-sound : goal.returns-clause-sound
returns-clause-sound c =
    let r = c.args.self.now in
    (alike_sound r.assets r.amounts.entries r.owners.entries r.sums.items c.requires c.make_amount_row.new.rows.entries c.make_instance_row.new.rows.entries c.make_amount_row.ensures.same c.make_instance_row.ensures.same (c.make_amount_row.ensures.small c.requires.small) (c.make_instance_row.ensures.sorted c.requires.sorted)).1

pub returns-clause-held : goal.returns-clause-held
returns-clause-held c =
    let r = c.args.self.now in
    (alike_sound r.assets r.amounts.entries r.owners.entries r.sums.items c.requires c.make_amount_row.new.rows.entries c.make_instance_row.new.rows.entries c.make_amount_row.ensures.same c.make_instance_row.ensures.same (c.make_amount_row.ensures.small c.requires.small) (c.make_instance_row.ensures.sorted c.requires.sorted)).0
