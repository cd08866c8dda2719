use Rattle.std.proofs.Common.{sym, ap, ◌∙◌}
use Rattle.ledgers.specs.LedgerRows.{owned}
use Rattle.ledgers.proofs.RowChanges.{held_listed, held_of_amount, held_of_instance}
use Rattle.ledgers.proofs.rows.Rows.held_at.Goals as goal

pub returns-in-Fungible : goal.returns-in-Fungible
returns-in-Fungible c =
    let r = c.args.self.now in
    c.amount_in.ensures ∙ held_of_amount r.assets r.amounts.entries r.owners.entries r.sums.items c.requires.sound c.in-Some.number c.args.who.now c.args.asset.now.id c.args.asset.now.fun c.in-Fungible.field-0 (sym c.in-Some.is ∙ c.requires.number) c.in-Fungible.is

pub returns-in-NonFungible : goal.returns-in-NonFungible
returns-in-NonFungible c =
    let r = c.args.self.now in
    c.owned.ensures ∙ ap (owned c.args.who.now) c.owner_in-owner.ensures
    ∙ held_of_instance r.assets r.amounts.entries r.owners.entries r.sums.items c.requires.sound c.in-Some.number c.args.who.now c.args.asset.now.id c.args.asset.now.fun c.in-NonFungible.instance (sym c.in-Some.is ∙ c.requires.number) c.in-NonFungible.is

pub returns-in-None : goal.returns-in-None
returns-in-None c = let r = c.args.self.now in sym (held_listed r.assets r.amounts.entries r.owners.entries r.sums.items c.requires.sound c.args.who.now c.args.asset.now.id _ (sym c.requires.number ∙ c.in-None.is))
