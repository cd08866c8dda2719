use Rattle.std.proofs.Common.{refl}
use Rattle.ledgers.proofs.RowChanges.{alike_sound}
use Rattle.ledgers.proofs.rows.Rows.sweep_at.Goals as goal

pub returns : goal.returns
returns c =
    let r = c.args.self.now in
    let whole = alike_sound r.assets r.amounts.entries r.owners.entries r.sums.items c.requires c.sweep_amount.new.rows.entries c.sweep_instance.new.rows.entries c.sweep_amount.ensures.same c.sweep_instance.ensures.same (c.sweep_amount.ensures.small c.requires.small) (c.sweep_instance.ensures.sorted c.requires.sorted) in
    record { sound = whole.1; assets = refl; held = whole.0 }
