use Rattle.std.proofs.Common.{◌≡◌, true, sym, subst}
use Rattle.std.specs.List.{list_all}
use Rattle.asset_lists.specs.Units.{unit_of}
use Rattle.asset_lists.specs.Listed.{listed_of, lists}
use Rattle.ledgers.specs.AccountRows.{MayTakeAll}
use Rattle.ledgers.proofs.list_moves.put_all.Goals as goal

pub give_all-requires-clause-listed : goal.give_all-requires-clause-listed
give_all-requires-clause-listed c = subst (λ l. list_all (λ a. lists l (listed_of (unit_of a))) c.args.list.now ≡ true) (sym c.make_all_room.ensures.stay.assets) c.requires.listed

pub give_all-requires-clause-may : goal.give_all-requires-clause-may
give_all-requires-clause-may c = subst (λ h. MayTakeAll h c.args.who.now c.args.list.now) (sym c.make_all_room.ensures.held) c.requires.may
